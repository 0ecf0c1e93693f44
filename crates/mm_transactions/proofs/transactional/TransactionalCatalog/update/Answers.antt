use Rattle.std.proofs.Common.{◌≡◌, ◌<◌, length, arith}
use Rattle.mm_transactions.specs.State.{IsUndoable, saved_of}
use Rattle.mm_transactions.proofs.Undoing.{changed_so, kept_outline}
use Rattle.mm_transactions.proofs.transactional.TransactionalCatalog.update.Goals as goal
use Rattle.mm_transactions.proofs.transactional.TransactionalCatalog.update.Goals.{After-update-2}

both : (c : After-update-2) → IsUndoable c.update-2.new.catalog c.update-2.new.self.changes c.update-2.new.self.marks
    × (saved_of (record { catalog = c.update-2.new.catalog; changes = c.update-2.new.self.changes; marks = c.update-2.new.self.marks })
    ≡ saved_of (record { catalog = c.self.inside.catalog; changes = c.self.inside.log.changes; marks = c.self.inside.log.marks }))
both c =
    let some : 0 < length c.self.inside.log.marks = omega (arith, c.depth.ensures, c.if-depth-eq0.false) in
    changed_so c.self.inside.catalog c.update-2.new.catalog c.self.inside.log c.update-2.new.self c.self.invariant c.update-2.result c.a_catalog_is_consistent.ensures some c.update-2.ensures.noted
    (kept_outline c.self.inside.catalog c.update-2.new.catalog c.update-2.result c.update-2.ensures.kept) c.update-2.ensures.unchanged

pub invariant_of-self-2 : goal.invariant_of-self-2
invariant_of-self-2 c = (both (goal.at.invariant_of-self-2 c).After-update-2).0

pub returns-clause-saved : goal.returns-clause-saved
returns-clause-saved c = rw (← c.self.view_is) (both (goal.at.returns-clause-saved c).After-update-2).1

pub returns-then-depth-eq0-clause-updated : goal.returns-then-depth-eq0-clause-updated
returns-then-depth-eq0-clause-updated c = rw (← c.self.view_is) c.update.ensures.updated

pub returns-then-depth-eq0-clause-refused : goal.returns-then-depth-eq0-clause-refused
returns-then-depth-eq0-clause-refused c = rw (← c.self.view_is) c.update.ensures.refused

pub returns-clause-updated : goal.returns-clause-updated
returns-clause-updated c = rw (← c.self.view_is) c.update-2.ensures.updated

pub returns-clause-refused : goal.returns-clause-refused
returns-clause-refused c = rw (← c.self.view_is) c.update-2.ensures.refused
