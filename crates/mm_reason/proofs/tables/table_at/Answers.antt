use Rattle.std.proofs.Common.{arith}
use Rattle.mm_catalog.proofs.Tables.{database-length}
use Rattle.mm_reason.proofs.tables.table_at.Goals as goal

pub at-requires : goal.at-requires
at-requires c = omega (arith, c.table_count.ensures, database-length c.args.catalog.now c.a_catalog_is_consistent.ensures.named)
