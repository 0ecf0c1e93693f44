use Rattle.std.proofs.Common.{◌≡◌, ◌<◌, length, arith}
use Rattle.mm_transactions.specs.State.{IsUndoable, saved_of}
use Rattle.mm_transactions.proofs.Undoing.{changed_so, kept_outline}
use Rattle.mm_transactions.proofs.transactional.TransactionalCatalog.create.Goals as goal
use Rattle.mm_transactions.proofs.transactional.TransactionalCatalog.create.Goals.{After-create-2}

both : (c : After-create-2) → IsUndoable c.create-2.new.catalog c.create-2.new.self.changes c.create-2.new.self.marks
    × (saved_of (record { catalog = c.create-2.new.catalog; changes = c.create-2.new.self.changes; marks = c.create-2.new.self.marks })
    ≡ saved_of (record { catalog = c.self.inside.catalog; changes = c.self.inside.log.changes; marks = c.self.inside.log.marks }))
both c =
    let some : 0 < length c.self.inside.log.marks = omega (arith, c.depth.ensures, c.if-depth-eq0.false) in
    changed_so c.self.inside.catalog c.create-2.new.catalog c.self.inside.log c.create-2.new.self c.self.invariant c.create-2.result c.a_catalog_is_consistent.ensures some c.create-2.ensures.noted
    (kept_outline c.self.inside.catalog c.create-2.new.catalog c.create-2.result c.create-2.ensures.kept) c.create-2.ensures.unchanged

pub invariant_of-self-2 : goal.invariant_of-self-2
invariant_of-self-2 c = (both (goal.at.invariant_of-self-2 c).After-create-2).0

pub returns-clause-saved : goal.returns-clause-saved
returns-clause-saved c = rw (← c.self.view_is) (both (goal.at.returns-clause-saved c).After-create-2).1
