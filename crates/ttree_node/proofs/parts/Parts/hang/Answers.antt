use Rattle.std.proofs.Common.{lit<, sym, subst}
use Rattle.ttree_node.specs.Linked.{Present}
use Rattle.ttree_node.proofs.Rehang.{down_present}
use Rattle.ttree_node.proofs.parts.Parts.hang.Goals as goal

pub set_parent-requires : goal.set_parent-requires
set_parent-requires g c =
    (lit< tt, subst (λ h. Present h c.args.child) (sym c.set_child.ensures.held) (down_present c.args.self.now.nodes.held c.args.parent c.args.side c.args.child c.args.child c.requires.child))
