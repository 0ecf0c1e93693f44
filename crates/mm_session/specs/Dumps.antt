-- A block that is made record by record, and given up where it is past its limit.
use Rattle.std.specs.Prelude.{◌≡◌, ℕ, ◌<◌, ◌≤◌, List, ◌∷◌, ◌++◌, length, Option, IsSomeAnd}
use Rattle.std.specs.Io.KnownBytes.{Appends}
use Rattle.std.specs.List.{flat_map}
use Rattle.plain_tables.specs.Csv.{row_record}
use Rattle.plain_tables.specs.Tables.{Row}

-- the bytes so far are within the limit
abbrev pub IsWithin : ℕ → Option (List ℕ) → Type 0
IsWithin limit bytes = IsSomeAnd bytes (λ front. length front ≤ limit)

-- the bytes so far are past the limit
abbrev pub IsPast : ℕ → Option (List ℕ) → Type 0
IsPast limit bytes = IsSomeAnd bytes (λ front. limit < length front)

-- these bytes come behind those so far, and all are within the limit
abbrev pub GoesOnWithin : ℕ → Option (List ℕ) → Option (List ℕ) → List ℕ → Type 0
GoesOnWithin limit before after bytes = Appends before after bytes × IsWithin limit after

-- these bytes come behind those so far, and all are past the limit
abbrev pub GoesPast : ℕ → Option (List ℕ) → Option (List ℕ) → List ℕ → Type 0
GoesPast limit before after bytes = Appends before after bytes × IsPast limit after

-- Of the rows a front was written, which is within the limit, and the row behind it, which takes the block past the limit. Of
-- the rest nothing was.
pub record IsGivenUp (limit : ℕ) (before after : Option (List ℕ)) (rows : List Row) : Type 0 where
  pub front : List Row
  pub last : Row
  pub rest : List Row
  pub split : rows ≡ front ++ last ∷ rest
  pub kept : Option (List ℕ)
  pub within : GoesOnWithin limit before kept (flat_map row_record front)
  pub past : GoesPast limit kept after (row_record last)
