use Rattle.std.proofs.Common.{◌∷◌, List, ap, sym, refl}
use Rattle.plain_tables.specs.declared.resolved.Joined.{Joined}
use Rattle.mm_catalog.proofs.Among.{there_at}
use Rattle.mm_session.specs.Members.{joined_numbers}
use Rattle.mm_session.proofs.execute.ReadExecutor.push_few_or_walked.Goals as goal

pub at-relation-requires : goal.at-relation-requires
at-relation-requires g c = there_at c.args.catalog.now c.a_catalog_is_consistent.ensures c.args.query.now.source.table.0 c.requires.meant.0.0 c.requires.meant.0.1

pub push_batches-requires : goal.push_batches-requires
push_batches-requires g c =
    λ κs. ((refl, tt), (c.requires.meant, (c.requires.ordered.0, ap (λ (js : List Joined). c.args.query.now.source.table.0 ∷ joined_numbers js) (sym c.requires.ordered.1))))
