use Rattle.std.proofs.Common.{◌<◌, ◌≤◌, ◌^◌, length, sym, subst, arith, lit<}
use Rattle.ttree_node.specs.Tree.{height, list}
use Rattle.ttree_node.specs.Editor.{position}
use Rattle.ttree.specs.Rising.{IsMendedTo}
use Rattle.ttree.specs.Fullness.{IsGrown}
use Rattle.ttree.proofs.Fullness.{restated-grown}
use Rattle.ttree.proofs.HeightBound.{mendable-low}
use Rattle.ttree.proofs.Leaning.{leans-left, leans-right, mends-near, mendable_stated, size-mended, size_restated}
use Rattle.ttree.proofs.balance.mend.Goals as goal

pub rotate-requires : goal.rotate-requires
rotate-requires g c =
    let z = position c.args.editor.now in let s = mendable_stated g.row.MIN g.row.MAX z.here c.requires.mendable in (
      lit< tt,
      (
        c.requires.ordered,
        (
          leans-left g.row.MIN g.row.MAX z.here c.requires.mendable (omega (arith, s.0, s.1)),
          (mendable-low g.row.MIN g.row.MAX z c.requires.mendable (subst (λ t. length (list t) ≤ 2 ^ 32) c.requires.tree c.requires.short), c.requires.tree),
        ),
      ),
    )

pub rotate-requires-then-saturating_sub-gt1-2 : goal.rotate-requires-then-saturating_sub-gt1-2
rotate-requires-then-saturating_sub-gt1-2 g c =
    let z = position c.args.editor.now in let s = mendable_stated g.row.MIN g.row.MAX z.here c.requires.mendable in (
      lit< tt,
      (
        c.requires.ordered,
        (
          leans-right g.row.MIN g.row.MAX z.here c.requires.mendable (omega (arith, s.0, s.1)),
          (mendable-low g.row.MIN g.row.MAX z c.requires.mendable (subst (λ t. length (list t) ≤ 2 ^ 32) c.requires.tree c.requires.short), c.requires.tree),
        ),
      ),
    )

pub returns-then-saturating_sub-gt1-clause-size : goal.returns-then-saturating_sub-gt1-clause-size
returns-then-saturating_sub-gt1-clause-size g c =
    size-mended g.row.MIN g.row.MAX (position c.args.editor.now) (position c.rotate.new.editor) c.rotate.ensures.above c.rotate.ensures.mended c.requires.tree c.rotate.ensures.tree

pub returns-then-saturating_sub-gt1-2-clause-size :
    goal.returns-then-saturating_sub-gt1-2-clause-size
returns-then-saturating_sub-gt1-2-clause-size g c =
    size-mended g.row.MIN g.row.MAX (position c.args.editor.now) (position c.rotate-then-saturating_sub-gt1-2.new.editor) c.rotate-then-saturating_sub-gt1-2.ensures.above c.rotate-then-saturating_sub-gt1-2.ensures.mended c.requires.tree c.rotate-then-saturating_sub-gt1-2.ensures.tree

pub returns-else-saturating_sub-gt1-2-clause-mended :
    goal.returns-else-saturating_sub-gt1-2-clause-mended
returns-else-saturating_sub-gt1-2-clause-mended g c =
    let t = (position c.args.editor.now).here in let s = mendable_stated g.row.MIN g.row.MAX t c.requires.mendable in
    let low : height t < 4294967295 = mendable-low g.row.MIN g.row.MAX (position c.args.editor.now) c.requires.mendable (subst (λ t. length (list t) ≤ 2 ^ 32) c.requires.tree c.requires.short) in
    subst (λ z. IsMendedTo g.row.MIN g.row.MAX t z.here) (sym c.restate.ensures.height) (mends-near g.row.MIN g.row.MAX t c.requires.mendable (omega (arith, s.0, s.1)) (omega (arith, s.0, s.1)) low)

pub returns-else-saturating_sub-gt1-2-clause-size :
    goal.returns-else-saturating_sub-gt1-2-clause-size
returns-else-saturating_sub-gt1-2-clause-size g c =
    size_restated (position c.args.editor.now) (position c.restate.new.editor) c.restate.ensures.height c.requires.tree c.restate.ensures.tree

pub returns-else-saturating_sub-gt1-2-clause-full :
    goal.returns-else-saturating_sub-gt1-2-clause-full
returns-else-saturating_sub-gt1-2-clause-full g c = λ two k.
    subst (λ z. IsGrown g.row.MAX z.here) (sym c.restate.ensures.height) (restated-grown g.row.MAX (position c.args.editor.now).here k.grown)
