use Rattle.std.proofs.Common.{sym, subst}
use Rattle.ttree_node.specs.Editor.{position}
use Rattle.ttree_node.specs.Seen.{child, opposite}
use Rattle.ttree.specs.Rising.{IsInnerFilled}
use Rattle.ttree.proofs.Places.{came_back}
use Rattle.ttree.proofs.rotate.fill_inner_below.Goals as goal

pub returns-clause-above : goal.returns-clause-above
returns-clause-above g c =
    (came_back c.args.side (position c.args.editor.now) (position c.enter.new.editor) (position c.fill_inner.new.editor) (position c.up.new.self) c.requires.child c.enter.ensures.moved c.fill_inner.ensures.above c.up.ensures.moved).0

pub returns-clause-rest : goal.returns-clause-rest
returns-clause-rest g c =
    (came_back c.args.side (position c.args.editor.now) (position c.enter.new.editor) (position c.fill_inner.new.editor) (position c.up.new.self) c.requires.child c.enter.ensures.moved c.fill_inner.ensures.above c.up.ensures.moved).1

pub returns-clause-filled : goal.returns-clause-filled
returns-clause-filled g c =
    let b = came_back c.args.side (position c.args.editor.now) (position c.enter.new.editor) (position c.fill_inner.new.editor) (position c.up.new.self) c.requires.child c.enter.ensures.moved c.fill_inner.ensures.above c.up.ensures.moved in
    subst (λ t. IsInnerFilled (opposite c.args.side) g.row.MIN g.row.MAX t (child c.args.side (position c.up.new.self).here)) b.3
    (subst (λ u. IsInnerFilled (opposite c.args.side) g.row.MIN g.row.MAX (position c.enter.new.editor).here u) (sym b.2) (subst (λ s. IsInnerFilled s g.row.MIN g.row.MAX (position c.enter.new.editor).here (position c.fill_inner.new.editor).here) c.opposite.ensures c.fill_inner.ensures.filled))
