-- Where an `Editor` stands, and how many spare nodes it has.
use Rattle.std.specs.Prelude.{ℕ}
use Rattle.part_raw.specs.declared.tuple_ref.TupleRef.{TupleRef}
use Rattle.ttree_node.specs.Tree.{Tree, Zipper, Label}
use Rattle.ttree_node.specs.Seen.{tree_of, position_at, spares_of}
use Rattle.ttree_node.specs.declared.editor.Editor.{Editor}

abbrev pub position : {MAX : ℕ} → Editor MAX → Zipper (Label TupleRef)
position e = position_at e.nodes.now e.at

abbrev pub spares_at : {MAX : ℕ} → Editor MAX → ℕ
spares_at e = spares_of e.nodes.now

-- the tree that the `LinkedTree` has, should the editor end here
abbrev pub tree_at : {MAX : ℕ} → Editor MAX → Tree (Label TupleRef)
tree_at e = tree_of e.nodes.now
