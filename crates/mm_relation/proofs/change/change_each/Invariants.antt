use Rattle.std.proofs.Common.{◌≡◌, ◌-◌, List, length, take, map}
use Rattle.part_raw.specs.declared.tuple_ref.TupleRef.{TupleRef}
use Rattle.mm_relation.specs.State.{IsKeyed}
use Rattle.mm_relation.specs.Settings.{CellsSet, pile}
use Rattle.mm_relation.specs.Indexes.{declaration_of, KeepRoom, Serve}
use Rattle.mm_relation.proofs.change.change_each.Given as goal

abbrev pub invariant-loop-r : goal.invariant-loop-r
invariant-loop-r g l = record {
  set : CellsSet l.fn.rows.tuples l.rows.tuples (take l.r-index l.rs) l.sets;
  served : (list : List TupleRef) → IsKeyed l.fn.rows.tuples list → Serve (g.R.LinkedKeys.keys l.links) l.fn.rows.tuples list l.fn.indexes → IsKeyed l.rows.tuples list × Serve (g.R.LinkedKeys.keys l.links) l.rows.tuples list l.indexes;
  declared : map declaration_of l.indexes ≡ map declaration_of l.fn.indexes;
  keeps : KeepRoom l.r-index 0 l.fn.indexes l.indexes;
  width : l.rows.width ≡ l.fn.rows.width;
  aside : l.rows.aside ≡ l.fn.rows.aside;
  copies : l.copies.items ≡ pile (length l.rs - l.r-index) l.sets;
}
