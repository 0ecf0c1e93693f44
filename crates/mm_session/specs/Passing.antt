-- The rows of a table of a catalog that pass tests.
use Rattle.std.specs.Prelude.{◌≡◌, ◌≢◌, ℕ, List, Some, IsSome, slice_get}
use Rattle.std.specs.List.{All, AllPairs}
use Rattle.std.specs.FinMap as finite
use Rattle.part_raw.specs.declared.tuple_ref.TupleRef.{TupleRef}
use Rattle.plain_tables.specs.declared.resolved.Test.{Test}
use Rattle.plain_tables.specs.Doing.{passes_all}
use Rattle.mm_relation.specs.State.{RelationState}
use Rattle.mm_catalog.specs.State.{CatalogState}
use Rattle.mm_catalog.specs.Picked.{ArePicked}

-- These are the rows of a table that pass, in any order. They are held, each comes once, and they are the rows that the tests
-- pick.
pub record ArePassing (c : CatalogState) (n : ℕ) (tests : List Test) (refs : List TupleRef) : Type 0 where
  pub held : (s : RelationState) → slice_get c.relations n ≡ Some s → All (λ r. IsSome (finite.get s.rows r)) refs
  pub once : AllPairs (λ q r. q ≢ r) refs
  pub picks : ArePicked c n refs (passes_all tests)
