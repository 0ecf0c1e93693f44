-- What a T-tree is seen as, its tree and its spare nodes: the list of the tree, and what each T-tree keeps to.
use Rattle.std.specs.Prelude.{◌≡◌, ℕ, ◌+◌, ◌^◌, ◌≤◌, List, length}
use Rattle.part_raw.specs.declared.tuple_ref.TupleRef.{TupleRef}
use Rattle.ttree_node.specs.TreeWithSpares.{TreeWithSpares}
use Rattle.ttree.specs.Shape.{IsTTree}
pub use Rattle.ttree_node.specs.Walk.{rest_of}
pub use Rattle.ttree_node.specs.Tree.{Tree, Label, empty, list, height, size}
pub use Rattle.ttree_node.specs.TreeCode.{tree_code, label_code}

-- the references in order
abbrev pub items_of_tree : TreeWithSpares → List TupleRef
items_of_tree t = list t.tree

-- the bounds of a T-tree's nodes, what each T-tree keeps to, and what it counts: its references, and its nodes with the spare ones
pub record IsSound (least most : ℕ) (seen : TreeWithSpares) (len nodes : ℕ) : Type 0 where
  pub some : 1 ≤ least
  pub ordered : least ≤ most
  pub two : 2 ≤ most
  pub fit : IsTTree least most seen.tree
  pub counted : len ≡ length (items_of_tree seen)
  pub short : length (items_of_tree seen) ≤ 2 ^ 32
  pub all_nodes : nodes ≡ size seen.tree + seen.spares
