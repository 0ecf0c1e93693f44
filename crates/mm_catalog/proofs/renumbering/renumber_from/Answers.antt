use Rattle.std.proofs.Common.{◌≡◌, set, sym, ap, ◌∙◌, arith}
use Rattle.std.proofs.lemmas.List.Edits.{map_over_more}
use Rattle.mm_relation.specs.State.{RelationState}
use Rattle.mm_catalog.specs.Dropped.{moved_by, renumbered}
use Rattle.mm_catalog.proofs.renumbering.renumber_from.Goals as goal

pub loop-relation-preserved : goal.loop-relation-preserved
loop-relation-preserved c =
    let l = c.loop-relation in
    let s : RelationState = c.relation-item.result in
    let told : c.renumber.new.relation ≡ renumbered (moved_by c.args.renumbering) s = c.renumber.ensures ∙ ap (renumbered (moved_by c.args.renumbering)) (sym c.relation-item.is) in
    ap (set l.behind l.relation-index) told
    ∙ map_over_more (renumbered (moved_by c.args.renumbering)) c.split_at_mut-behind.result.1.now l.behind l.relation-index s (omega arith) l.invariant c.relation-item.is
