use Rattle.mm_catalog.proofs.Among.{there_at}
use Rattle.mm_session.proofs.execute.ReadExecutor.find_unwalked.Goals as goal

pub at-relation-requires : goal.at-relation-requires
at-relation-requires c = there_at c.args.catalog.now c.a_catalog_is_consistent.ensures c.args.query.now.source.table.0 c.requires.meant.0.0 c.requires.meant.0.1
