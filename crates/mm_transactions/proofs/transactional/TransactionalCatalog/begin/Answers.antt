use Rattle.mm_transactions.proofs.Undoing.{begun_so}
use Rattle.mm_transactions.proofs.transactional.TransactionalCatalog.begin.Goals as goal

pub returns-clause-begun : goal.returns-clause-begun
returns-clause-begun c =
    rw (← c.self.view_is)
    (begun_so c.self.inside.catalog c.self.inside.log c.open.new.self c.open.result c.a_catalog_is_consistent.ensures c.open.ensures.changes c.open.ensures.opened)
