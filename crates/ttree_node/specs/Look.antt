-- Where a `Look` stands.
use Rattle.std.specs.Prelude.{ℕ}
use Rattle.part_raw.specs.declared.tuple_ref.TupleRef.{TupleRef}
use Rattle.ttree_node.specs.Tree.{Zipper, Label}
use Rattle.ttree_node.specs.Seen.{position_at}
use Rattle.ttree_node.specs.declared.look.Look.{Look}

abbrev pub position : {MAX : ℕ} → Look MAX → Zipper (Label TupleRef)
position l = position_at l.nodes.now l.at
