use Rattle.std.proofs.Common.{◌≡◌, ◌<◌, sym, subst, ◌∙◌}
use Rattle.ttree_node.specs.Tree.{height}
use Rattle.ttree_node.specs.Editor.{position}
use Rattle.ttree_node.specs.Seen.{child, opposite}
use Rattle.ttree.specs.Rising.{IsFilled, IsInnerFilled, IsMendedTo, with_child}
use Rattle.ttree.specs.Fullness.{IsGrown}
use Rattle.ttree.proofs.FullTurns.{outer-rotated_full, inner-rotated_full}
use Rattle.ttree.proofs.Rotating.{outer-rotated, inner-rotated, inner_high}
use Rattle.ttree.proofs.rotate.rotate.Goals as goal

pub returns-then-leans_out-clause-mended : goal.returns-then-leans_out-clause-mended
returns-then-leans_out-clause-mended g c =
    let least = g.row.MIN in let most = g.row.MAX in let side = c.args.side in
    let t = (position c.args.editor.now).here in let u = (position c.fill_below.new.editor).here in
    let same = c.leans_out.ensures.same_place in
    let rest : u ≡ with_child side (child side u) t = c.fill_below.ensures.rest ∙ (λ i. with_child side (child side u) (same i).here) in
    let filled : IsFilled least most (child side t) (child side u) = subst (λ z. IsFilled least most (child side z.here) (child side u)) same c.fill_below.ensures.filled in
    subst (λ z. IsMendedTo least most t z.here) (sym c.turn_outer.ensures.turned) (outer-rotated least most side t u c.requires.leans rest filled (c.leans_out.ensures.leans.0 c.if-leans_out.true) c.requires.low)

pub returns-else-leans_out-clause-mended : goal.returns-else-leans_out-clause-mended
returns-else-leans_out-clause-mended g c =
    let least = g.row.MIN in let most = g.row.MAX in let side = c.args.side in
    let t = (position c.args.editor.now).here in let u = (position c.fill_inner_below.new.editor).here in
    let same = c.leans_out.ensures.same_place in
    let rest : u ≡ with_child side (child side u) t = c.fill_inner_below.ensures.rest ∙ (λ i. with_child side (child side u) (same i).here) in
    let filled : IsInnerFilled (opposite side) least most (child side t) (child side u) = subst (λ z. IsInnerFilled (opposite side) least most (child side z.here) (child side u)) same c.fill_inner_below.ensures.filled in
    let high : height (child side (child side t)) < height (child (opposite side) (child side t)) = inner_high least most side t c.requires.leans (λ order. cc (c.leans_out.ensures.leans.1 order, c.if-leans_out.false)) in
    subst (λ z. IsMendedTo least most t z.here) (sym c.turn_inner.ensures.turned) (inner-rotated least most side t u c.requires.leans rest filled high c.requires.low)

pub returns-then-leans_out-clause-full : goal.returns-then-leans_out-clause-full
returns-then-leans_out-clause-full g c = λ two k.
    let least = g.row.MIN in let most = g.row.MAX in let side = c.args.side in
    let t = (position c.args.editor.now).here in let u = (position c.fill_below.new.editor).here in
    let same = c.leans_out.ensures.same_place in
    let rest : u ≡ with_child side (child side u) t = c.fill_below.ensures.rest ∙ (λ i. with_child side (child side u) (same i).here) in
    let filled : IsFilled least most (child side t) (child side u) = subst (λ z. IsFilled least most (child side z.here) (child side u)) same c.fill_below.ensures.filled in
    subst (λ z. IsGrown most z.here) (sym c.turn_outer.ensures.turned) (outer-rotated_full most least c.requires.ordered side t u c.requires.leans rest filled (c.leans_out.ensures.leans.0 c.if-leans_out.true) k)

pub returns-else-leans_out-clause-full : goal.returns-else-leans_out-clause-full
returns-else-leans_out-clause-full g c = λ two k.
    let least = g.row.MIN in let most = g.row.MAX in let side = c.args.side in
    let t = (position c.args.editor.now).here in let u = (position c.fill_inner_below.new.editor).here in
    let same = c.leans_out.ensures.same_place in
    let rest : u ≡ with_child side (child side u) t = c.fill_inner_below.ensures.rest ∙ (λ i. with_child side (child side u) (same i).here) in
    let filled : IsInnerFilled (opposite side) least most (child side t) (child side u) = subst (λ z. IsInnerFilled (opposite side) least most (child side z.here) (child side u)) same c.fill_inner_below.ensures.filled in
    let high : height (child side (child side t)) < height (child (opposite side) (child side t)) = inner_high least most side t c.requires.leans (λ order. cc (c.leans_out.ensures.leans.1 order, c.if-leans_out.false)) in
    subst (λ z. IsGrown most z.here) (sym c.turn_inner.ensures.turned) (inner-rotated_full most least c.requires.ordered side t u two c.requires.leans rest filled high k)
