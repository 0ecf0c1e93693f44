-- What a `Walk` has yet to visit.
use Rattle.std.specs.Prelude.{ℕ, List}
use Rattle.part_raw.specs.declared.tuple_ref.TupleRef.{TupleRef}
use Rattle.ttree_node.specs.Tree.{list_from}
use Rattle.ttree_node.specs.Look.{position}
use Rattle.ttree_node.specs.declared.walk.Walk.{Walk}

-- the items in list order, from the walk's item on
abbrev pub rest_of : {MAX : ℕ} → Walk MAX → List TupleRef
rest_of w = list_from w.index (position w.look)
