use Rattle.std.proofs.Common.{◌∙◌, sym, subst}
use Rattle.ttree_node.specs.Tree.{whole}
use Rattle.ttree_node.specs.Editor.{position}
use Rattle.ttree.specs.Shape.{IsTTree}
use Rattle.ttree.proofs.Replacing.{kept-internal}
use Rattle.ttree.proofs.settle.merge_half.Goals as goal

pub returns-else-not-has_left-clause-fit : goal.returns-else-not-has_left-clause-fit
returns-else-not-has_left-clause-fit g c =
    let z = position c.args.editor.now in
    let fit : IsTTree g.row.MIN g.row.MAX (whole z) = kept-internal g.row.MIN g.row.MAX z c.requires.some c.requires.lost (sym c.has_left.ensures ∙ c.if-not-has_left.false) (sym c.has_right.ensures ∙ c.if-not-has_right.false) in
    subst (λ t. IsTTree g.row.MIN g.row.MAX t) (sym c.requires.tree) fit
