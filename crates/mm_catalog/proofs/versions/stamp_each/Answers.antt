use Rattle.std.proofs.Common.{set, ap, ◌∙◌}
use Rattle.std.proofs.lemmas.List.{set-get_or}
use Rattle.mm_catalog.proofs.versions.stamp_each.Goals as goal

pub loop-relation-preserved : goal.loop-relation-preserved
loop-relation-preserved c =
    let l = c.loop-relation in
    record {
      unchanged = ap (set l.relations l.relation-index) c.set_version.ensures ∙ set-get_or l.relations l.relation-index c.relation-item.result ∙ l.invariant.unchanged;
    }
