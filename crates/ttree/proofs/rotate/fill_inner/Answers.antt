use Rattle.std.proofs.Common.{◌≡◌, ◌<◌, length, sym, subst, ◌∙◌, ap, arith}
use Rattle.ttree_node.specs.Tree.{height, items_of, with_tree}
use Rattle.ttree_node.specs.Editor.{position}
use Rattle.ttree_node.specs.Seen.{child}
use Rattle.ttree_node.specs.declared.node.Way.TheVariants.{Down}
use Rattle.ttree.specs.Rising.{IsFilled, IsInnerFilled, with_child, filled as filled_by}
use Rattle.ttree.proofs.Fitness.{high_node}
use Rattle.ttree.proofs.Filling.{inner-filled, inner-filled_below}
use Rattle.ttree.proofs.Places.{not_leaf-high, leaf-height}
use Rattle.ttree.proofs.rotate.fill_inner.Goals as goal

pub returns-then-not-has_leaf-clause-filled : goal.returns-then-not-has_leaf-clause-filled
returns-then-not-has_leaf-clause-filled g c =
    let least = g.row.MIN in let most = g.row.MAX in let side = c.args.side in
    let t = (position c.args.editor.now).here in let u = (position c.fill_below.new.editor).here in
    let same = c.has_leaf.ensures.same_place in
    let rest : u ≡ with_child side (child side u) t = c.fill_below.ensures.rest ∙ (λ i. with_child side (child side u) (same i).here) in
    let filled : IsFilled least most (child side t) (child side u) = subst (λ z. IsFilled least most (child side z.here) (child side u)) same c.fill_below.ensures.filled in
    let high : 1 < height (child side t) = not_leaf-high (child side t) (high_node (child side t) (omega (arith, c.requires.high))) (λ none. cc (c.has_leaf.ensures.leaf.1 none, c.if-not-has_leaf.true)) in
    subst (λ v. IsInnerFilled side least most t v) (sym rest) (inner-filled_below least most side t (child side u) c.requires.fit high c.requires.high filled)

pub returns-then-child_len-clause-filled : goal.returns-then-child_len-clause-filled
returns-then-child_len-clause-filled g c =
    let least = g.row.MIN in let most = g.row.MAX in let side = c.args.side in
    let t = (position c.args.editor.now).here in
    let same = c.child_len.ensures.same_place ∙ c.has_leaf.ensures.same_place in
    let none = c.has_leaf.ensures.leaf.0 c.if-not-has_leaf.false in
    let leaf : height (child side t) ≡ 1 = leaf-height (child side t) (high_node (child side t) (omega (arith, c.requires.high))) none.0 none.1 in
    let few : length (items_of (child side t)) < least = omega (arith, ap (λ z. length (items_of (child side z.here))) c.has_leaf.ensures.same_place) in
    subst (λ z. IsInnerFilled side least most t z.here) (sym (c.fill.ensures.filled ∙ ap (with_tree (filled_by most side Down)) same)) (inner-filled least most side t c.requires.ordered c.requires.fit leaf c.requires.high few)
