-- Where the rows go that a select shows: what a sink has received since a state.
use Rattle.std.specs.Prelude.{◌≡◌, ℕ, ◌+◌, ◌<◌, List, [], ◌∷◌, ◌++◌, Option, length}
use Rattle.std.specs.List.{flat_map}
use Rattle.std.specs.Io.KnownBytes.{Appends}
use Rattle.plain_tables.specs.Csv.{row_record}
use Rattle.plain_tables.specs.Tables.{Row}
use Rattle.mm_cells.specs.declared.fault.CellFault.{CellFault}
use Rattle.mm_cells.specs.declared.fault.CellFault.TheVariants as cells
use Rattle.mm_session.specs.declared.fault.SelectFault.{SelectFault}
use Rattle.mm_session.specs.declared.fault.SelectFault.TheVariants as fault

-- Values come behind those of the row that has not ended. What a sink has received since a state are rows, and such values.
abbrev pub PutsValues : {S : Type 0} → (S → List Row → Row → S → Type 0) → S → S → Row → Type 0
PutsValues {S} received old new values =
    (start : S) (rows : List Row) (part : Row) → received start rows part old → received start rows (part ++ values) new

-- the row ends, if it has a value
abbrev pub EndsRow : {S : Type 0} → (S → List Row → Row → S → Type 0) → S → S → Type 0
EndsRow {S} received old new =
    (start : S) (rows : List Row) (part : Row) → received start rows part old → 0 < length part → received start (rows ++ part ∷ []) [] new

-- whole rows come behind others
abbrev pub PutsRows : {S : Type 0} → (S → List Row → Row → S → Type 0) → S → S → List Row → Type 0
PutsRows {S} received old new more = (start : S) (rows : List Row) → received start rows [] old → received start (rows ++ more) [] new

-- What is seen of a writer of rows: every byte so far, where that is known, the values of the row that has not ended, and how many
-- rows have.
pub record Written : Type 0 where
  pub bytes : Option (List ℕ)
  pub part : Row
  pub count : ℕ

-- The records of these rows come behind what was written, they are counted, and these values wait.
pub record IsBehind (start : Written) (rows : List Row) (values : Row) (now : Written) : Type 0 where
  pub written : Appends start.bytes now.bytes (flat_map row_record rows)
  pub waits : now.part ≡ values
  pub counted : now.count ≡ start.count + length rows

-- why a select is not shown whose values are not put into cells
abbrev pub select_fault_of : CellFault → SelectFault
select_fault_of (cells.NoMemory refused) = fault.NoMemory refused
select_fault_of cells.TooLong = fault.TooLong
