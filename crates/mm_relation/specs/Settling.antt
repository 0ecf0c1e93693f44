-- What it does to a store of rows to have the hidden ones dropped, slot after slot.
use Rattle.std.specs.Prelude.{◌≡◌, ℕ, ◌≤◌, IsSome}
use Rattle.std.specs.FinMap.{get}
use Rattle.part_raw.specs.declared.tuple_ref.TupleRef.{TupleRef}
use Rattle.part_raw.specs.Store.{Tuples}
use Rattle.mm_relation.specs.Rows.{Row, RowStore}

-- no hidden row is in a slot before this
abbrev pub HasNoneBefore : ℕ → Tuples Row → Type 0
HasNoneBefore slot hidden = (r : TupleRef) → IsSome (get hidden r) → slot ≤ r.number

-- hidden rows alone were dropped
pub record DropsHidden (old new : RowStore) : Type 0 where
  pub tuples : new.tuples ≡ old.tuples
  pub width : new.width ≡ old.width
  pub aside : new.aside ≡ record old.aside { hidden = new.aside.hidden }
  pub hidden : (r : TupleRef) → IsSome (get new.aside.hidden r) → IsSome (get old.aside.hidden r)
