-- What a `LinkedTree` is seen as: a tree and spare nodes, wherever they lie.
use Rattle.std.specs.Prelude.{ℕ, refl}
use Rattle.std.specs.Coded.{Coded, code_by, coded×, coded_ℕ}
use Rattle.part_raw.specs.TupleRefs.{ref_code}
use Rattle.part_raw.specs.declared.tuple_ref.TupleRef.{TupleRef}
use Rattle.ttree_node.specs.Tree.{Tree, Label}
use Rattle.ttree_node.specs.TreeCode.{tree_code, label_code}

-- a tree of lists of references, with a stated height at each node, and the number of spare nodes
pub record TreeWithSpares : Type 0 where
  pub tree : Tree (Label TupleRef)
  pub spares : ℕ

abbrev pub tree_with_spares_code : Coded TreeWithSpares
tree_with_spares_code =
    code_by (Tree (Label TupleRef) × ℕ) (coded× (tree_code (label_code ref_code)) coded_ℕ) (λ t. (t.tree, t.spares)) (λ p. record { tree = p.0; spares = p.1 }) (λ _. refl)
