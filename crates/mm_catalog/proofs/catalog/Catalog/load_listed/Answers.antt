use Rattle.mm_catalog.proofs.Among.{there_at}
use Rattle.mm_catalog.proofs.catalog.Catalog.load_listed.Goals as goal

pub reserve_rows-requires : goal.reserve_rows-requires
reserve_rows-requires c = there_at c.args.self.now c.a_catalog_is_consistent.ensures c.args.table.0 c.requires.0 c.requires.1
