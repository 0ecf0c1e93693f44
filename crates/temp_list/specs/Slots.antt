-- Which slots of a table have a row.
use Rattle.std.specs.Prelude.{ℕ, ◌<◌, ◌≤◌, IsSome}
use Rattle.std.specs.FinMap as finite
use Rattle.part_raw.specs.Store.{Tuples}
use Rattle.part_raw.specs.declared.tuple_ref.TupleRef.{TupleRef}
use Rattle.mm_relation.specs.Rows.{Row}

-- each slot from this number on, up to that, has a row
abbrev pub AreHeldFrom : Tuples Row → ℕ → ℕ → Type 0
AreHeldFrom rows from to = (r : TupleRef) → from ≤ r.number → r.number < to → IsSome (finite.get rows r)
