use Rattle.std.proofs.Common.{◌≤◌, ◌^◌, ◌∙◌, length, sym, ap, subst, lit<}
use Rattle.ttree_node.specs.Tree.{at, list, size, whole}
use Rattle.ttree_node.specs.Editor.{position}
use Rattle.ttree.specs.Shape.{IsTTree, ParentsAreFull}
use Rattle.ttree.specs.Mending.{CanRise}
use Rattle.ttree.specs.Rising.{HasRisen}
use Rattle.ttree.specs.Fullness.{CanRiseFull}
use Rattle.ttree.proofs.Fullness.{can-rise_full, has-risen_full}
use Rattle.ttree.proofs.Climbing.{can-rise, has-risen, mendable_here, risen-fit, risen-same}
use Rattle.ttree.proofs.Places.{whole-up}
use Rattle.ttree.proofs.balance.rebalance.Given.{Over}
use Rattle.ttree.proofs.balance.rebalance.Goals as goal
use Rattle.ttree.proofs.balance.rebalance.Goals.{After-mend}

pub mend-requires : goal.mend-requires
mend-requires g c =
    let inv = c.loop-before.invariant in (
      lit< tt,
      (
        c.requires.ordered,
        (
          mendable_here g.row.MIN g.row.MAX inv.rises.was (position c.loop-before.editor).here inv.rises.here,
          (inv.tree, subst (λ xs. length xs ≤ 2 ^ 32) (sym inv.list) c.requires.short),
        ),
      ),
    )

risen : (g : Over) (c : After-mend g) → HasRisen g.row.MIN g.row.MAX c.height-before.result (position c.mend.new.editor)
risen g c =
    let w = position c.mend.new.editor in
    subst (λ y. HasRisen g.row.MIN g.row.MAX c.height-before.result y) (λ i. at (sym c.mend.ensures.above i) w.here)
    (has-risen g.row.MIN g.row.MAX c.height-before.result (position c.loop-before.editor) w.here c.loop-before.invariant.rises c.height-before.ensures c.mend.ensures.mended)

pub loop-before-preserved : goal.loop-before-preserved
loop-before-preserved g c =
    let z = position c.loop-before.editor in let w = position c.mend.new.editor in
    let inv = c.loop-before.invariant in let m = c.mend in
    let below = sym c.at_root.ensures ∙ c.if-at_root.false in
    record {
      same_reference = c.up.ensures.same_reference ∙ m.ensures.same_reference ∙ inv.same_reference;
      rises = subst (λ y. CanRise g.row.MIN g.row.MAX y) (sym c.up.ensures.moved) (can-rise g.row.MIN g.row.MAX c.height-before.result w below (risen g (goal.at.loop-before-preserved g c).After-mend));
      full = λ two start.
          let from = inv.full two start in
          subst (λ y. CanRiseFull g.row.MIN g.row.MAX y) (sym c.up.ensures.moved)
          (can-rise_full g.row.MAX g.row.MIN w below (has-risen_full g.row.MAX g.row.MIN z w m.ensures.above from m.ensures.mended (m.ensures.full two from.here)));
      tree = c.up.ensures.tree ∙ m.ensures.tree ∙ sym (whole-up w) ∙ (λ i. whole (sym c.up.ensures.moved i));
      list = ap (λ t. list t) c.up.ensures.tree ∙ m.ensures.list ∙ inv.list;
      size = ap (λ t. size t) c.up.ensures.tree ∙ m.ensures.size ∙ inv.size;
      spares = c.up.ensures.spares ∙ m.ensures.spares ∙ inv.spares;
    }

pub returns-then-height-before-clause-fit : goal.returns-then-height-before-clause-fit
returns-then-height-before-clause-fit g c =
    subst (λ t. IsTTree g.row.MIN g.row.MAX t) (sym c.mend.ensures.tree)
    (risen-same g.row.MIN g.row.MAX c.height-before.result (position c.mend.new.editor) (sym c.height.ensures ∙ c.if-height-before.true) (risen g (goal.at.returns-then-height-before-clause-fit g c).After-mend))

pub returns-then-height-before-clause-full : goal.returns-then-height-before-clause-full
returns-then-height-before-clause-full g c = λ two start.
    let inv = c.loop-before.invariant in let m = c.mend in let from = inv.full two start in
    subst (λ t. ParentsAreFull g.row.MAX t) (sym m.ensures.tree)
    (has-risen_full g.row.MAX g.row.MIN (position c.loop-before.editor) (position m.new.editor) m.ensures.above from m.ensures.mended (m.ensures.full two from.here)).parents

pub returns-then-at_root-clause-fit : goal.returns-then-at_root-clause-fit
returns-then-at_root-clause-fit g c =
    subst (λ t. IsTTree g.row.MIN g.row.MAX t) (sym c.mend.ensures.tree)
    (risen-fit g.row.MIN g.row.MAX c.height-before.result (position c.mend.new.editor) (sym c.at_root.ensures ∙ c.if-at_root.true) (risen g (goal.at.returns-then-at_root-clause-fit g c).After-mend))

pub returns-then-at_root-clause-full : goal.returns-then-at_root-clause-full
returns-then-at_root-clause-full g c = λ two start.
    let inv = c.loop-before.invariant in let m = c.mend in let from = inv.full two start in
    subst (λ t. ParentsAreFull g.row.MAX t) (sym m.ensures.tree)
    (has-risen_full g.row.MAX g.row.MIN (position c.loop-before.editor) (position m.new.editor) m.ensures.above from m.ensures.mended (m.ensures.full two from.here)).parents
