use Rattle.std.proofs.Common.{◌≡◌, set, sym, ap, ◌∙◌, arith}
use Rattle.std.proofs.lemmas.List.Edits.{map_over_more}
use Rattle.mm_relation.specs.State.{RelationState}
use Rattle.mm_catalog.specs.Settled.{settled_relation}
use Rattle.mm_catalog.proofs.settling.settle_each.Goals as goal

pub loop-relation-preserved : goal.loop-relation-preserved
loop-relation-preserved c =
    let l = c.loop-relation in
    let s : RelationState = c.relation-item.result in
    let now : c.settle_all.new.self ≡ settled_relation s = c.settle_all.ensures ∙ ap settled_relation (sym c.relation-item.is) in
    record {
      settled = ap (set l.relations l.relation-index) now
          ∙ map_over_more settled_relation c.args.relations.now l.relations l.relation-index s (omega arith) l.invariant.settled c.relation-item.is;
    }
