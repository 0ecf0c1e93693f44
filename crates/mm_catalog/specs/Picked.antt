-- The references of the rows that a command is about.
use Rattle.std.specs.Prelude.{◌≡◌, ℕ, List, Some, IsTrue, IsSome, Bool, All, length, slice_get, Contains}
use Rattle.std.specs.FinMap as finite
use Rattle.part_raw.specs.declared.tuple_ref.TupleRef.{TupleRef}
use Rattle.plain_tables.specs.Tables.{Row}
use Rattle.mm_relation.specs.State.{RelationState, linked_keys}
use Rattle.mm_catalog.specs.State.{CatalogState}
use Rattle.mm_catalog.specs.Seen.{values_of}

-- the values that a row of a relation has, read through its links
abbrev pub seen_values : CatalogState → RelationState → TupleRef → Row
seen_values c s r = values_of (linked_keys s.targets c.relations) (length s.schema.columns) s.rows r

-- a reference of a row of the table of this number is among these exactly where the row's values are picked
abbrev pub ArePicked : CatalogState → ℕ → List TupleRef → (Row → Bool) → Type 0
ArePicked c n refs picks =
    (s : RelationState) (r : TupleRef) → slice_get c.relations n ≡ Some s → IsSome (finite.get s.rows r)
    → (Contains refs r → IsTrue (picks (seen_values c s r))) × (IsTrue (picks (seen_values c s r)) → Contains refs r)

-- each of these references is of a row of the table of this number
abbrev pub HoldsRows : CatalogState → ℕ → List TupleRef → Type 0
HoldsRows c n refs = (s : RelationState) → slice_get c.relations n ≡ Some s → All (λ r. IsSome (finite.get s.rows r)) refs
