-- Rows of a table of which no two are shown alike.
use Rattle.std.specs.Prelude.{ℕ, List, All, Contains, IsSome, map}
use Rattle.std.specs.List.{IsDistinct}
use Rattle.std.specs.List.Sorted.{IsPermutation, IsSorted}
use Rattle.std.specs.FinMap as finite
use Rattle.part_raw.specs.declared.tuple_ref.TupleRef.{TupleRef}
use Rattle.mm_index.specs.Bag.{IsSameBag}
use Rattle.project_hash.specs.Hashes.{hash_of_values}
use Rattle.project_hash.specs.Shown.{ShownState, IsShown, alike, rows_cmp, values_of}
use Rattle.project_hash.specs.Table.{TableState, list_of_table, row_state}

-- rows of the table, with the values that are shown of each
abbrev pub row_states : TableState → List TupleRef → List ShownState
row_states t rows = map (row_state t) rows

-- a row beside the hash of what is shown of it
abbrev pub hashed : TableState → TupleRef → ℕ × TupleRef
hashed t r = (hash_of_values (row_state t r).values, r)

-- The rows are held, no two are shown alike, and each is under the hash of what is shown of it.
pub record AreKnown (t : TableState) (rows : List TupleRef) (by_hash : List (ℕ × TupleRef)) : Type 0 where
  pub held : All (λ r. IsSome (finite.get t.relation.rows r)) rows
  pub apart : IsDistinct alike (row_states t rows)
  pub found : IsSameBag by_hash (map (hashed t) rows)

-- These are some of the rows that were found, no two are shown alike, and they show what each that was found shows.
pub record AreEnough (t : TableState) (found rows : List TupleRef) : Type 0 where
  pub held : All (λ r. IsSome (finite.get t.relation.rows r)) rows
  pub some : All (IsShown t.relations (list_of_table t.table found t.places)) (row_states t rows)
  pub apart : IsDistinct alike (row_states t rows)
  pub all : All (λ r. Contains (values_of (row_states t rows)) (row_state t r).values) found

-- the rows under these references, in the order of what is shown of them
pub record AreInOrder (t : TableState) (rows : List TupleRef) (ordered : List ShownState) : Type 0 where
  pub moved : IsPermutation (row_states t rows) ordered
  pub sorted : IsSorted rows_cmp ordered
