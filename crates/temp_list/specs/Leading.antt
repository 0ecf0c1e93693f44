-- Rows of a list by the keys of their first source, where these are integers.
use Rattle.std.specs.Prelude.{◌≡◌, ℕ, ℤ, ◌+◌, ◌<◌, List, ◌∷◌, Some, length}
use Rattle.std.proofs.Common.{◌<ℤ◌, get_or}
use Rattle.part_raw.specs.declared.tuple_ref.TupleRef.{TupleRef}
use Rattle.plain_tables.specs.declared.value.Value.TheVariants.{Int}
use Rattle.smallvec.specs.SmallVec.{SmallVec}
use Rattle.mm_relation.specs.Reading.{key_at}
use Rattle.mm_relation.specs.State.{RelationState}

-- The first reference of a row leads to this integer key.
pub record LeadsWith (s : RelationState) (row : List TupleRef) (key : ℤ) : Type 0 where
  pub first : TupleRef
  pub rest : List TupleRef
  pub split : row ≡ first ∷ rest
  pub leads : key_at s.rows first ≡ Some (Int key)

-- Each element but the last has a lesser key than the one behind it.
abbrev pub RiseBy : {A : Type 0} → (A → ℤ → Type 0) → List A → Type 0
RiseBy HasKey xs =
    (k : ℕ) (d : _) → k + 1 < length xs
    → (a : ℤ) × (b : ℤ) × HasKey (get_or xs k d) a × HasKey (get_or xs (k + 1) d) b × (a <ℤ b)

-- Each row but the last leads with a lesser key than the one behind it.
abbrev pub AreLedByRising : RelationState → List (SmallVec TupleRef) → Type 0
AreLedByRising s = RiseBy (λ row. LeadsWith s row.items)

-- the key of the row under a reference is this integer
abbrev pub HasIntegerKey : RelationState → TupleRef → ℤ → Type 0
HasIntegerKey s r key = key_at s.rows r ≡ Some (Int key)
