use Rattle.std.proofs.Common.{arith, rules}
use Rattle.mm_catalog.proofs.Tables.{database-length}
use Rattle.session_tests.proofs.linked.side.Goals as goal

pub at-relation-requires : goal.at-relation-requires
at-relation-requires g c =
    let tables = database-length c.args.catalog.now c.a_catalog_is_consistent.ensures.named in
    omega (arith, tables, c.table_count.ensures)

pub returns-clause-there : goal.returns-clause-there
returns-clause-there g c = record { lent = c.at-relation.ensures; column = search rules; tests = λ k d l. absurd (omega arith) }
