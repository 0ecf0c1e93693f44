use Rattle.std.proofs.Common.{◌≡◌, ◌≤◌, ◌∙◌, length, true, sym, ap, subst, arith}
use Rattle.ttree_node.specs.Tree.{has_left, has_right, items_of}
use Rattle.ttree_node.specs.Editor.{position}
use Rattle.ttree.specs.Shape.{IsTTree}
use Rattle.ttree.proofs.Losing.{lost-internal}
use Rattle.ttree.proofs.removal.recover.Goals as goal

pub returns-else-items-clause-fit : goal.returns-else-items-clause-fit
returns-else-items-clause-fit g c =
    let z = position c.args.editor.now in
    let left : has_left z.here ≡ true = sym c.has_left.ensures ∙ c.if-has_left.true in
    let right : has_right z.here ≡ true = sym c.has_right.ensures ∙ c.if-has_right.true in
    let enough : g.row.MIN ≤ length (items_of z.here) = omega (arith, ap length c.items.ensures) in
    subst (λ t. IsTTree g.row.MIN g.row.MAX t) (sym c.requires.tree) (lost-internal g.row.MIN g.row.MAX z c.requires.some c.requires.lost left right enough)
