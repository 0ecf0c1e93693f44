use Rattle.std.proofs.Common.{◌≡◌, ◌<◌, length, arith}
use Rattle.plain_tables.specs.Doing.{done}
use Rattle.plain_tables.specs.declared.resolved.Resolved.TheVariants as resolved
use Rattle.mm_catalog.specs.Seen.{database_of}
use Rattle.mm_catalog.specs.State.{CatalogState}
use Rattle.mm_transactions.specs.State.{IsUndoable, saved_of}
use Rattle.mm_transactions.proofs.Undoing.{changed_so, refused_outline}
use Rattle.mm_transactions.proofs.transactional.TransactionalCatalog.insert.Goals as goal
use Rattle.mm_transactions.proofs.transactional.TransactionalCatalog.insert.Goals.{After-insert-2}

both : (c : After-insert-2) → IsUndoable c.insert-2.new.catalog c.insert-2.new.self.changes c.insert-2.new.self.marks
    × (saved_of (record { catalog = c.insert-2.new.catalog; changes = c.insert-2.new.self.changes; marks = c.insert-2.new.self.marks })
    ≡ saved_of (record { catalog = c.self.inside.catalog; changes = c.self.inside.log.changes; marks = c.self.inside.log.marks }))
both c =
    let old : CatalogState = c.self.inside.catalog in
    let some : 0 < length c.self.inside.log.marks = omega (arith, c.depth.ensures, c.if-depth-eq0.false) in
    changed_so c.self.inside.catalog c.insert-2.new.catalog c.self.inside.log c.insert-2.new.self c.self.invariant c.insert-2.result c.a_catalog_is_consistent.ensures some c.insert-2.ensures.noted
    (refused_outline c.self.inside.catalog c.insert-2.new.catalog (done old.limits (database_of old) (resolved.Insert c.args.table c.args.values.now)) c.insert-2.result c.insert-2.ensures.refused) c.insert-2.ensures.unchanged

pub invariant_of-self-2 : goal.invariant_of-self-2
invariant_of-self-2 c = (both (goal.at.invariant_of-self-2 c).After-insert-2).0

pub returns-clause-saved : goal.returns-clause-saved
returns-clause-saved c = rw (← c.self.view_is) (both (goal.at.returns-clause-saved c).After-insert-2).1
