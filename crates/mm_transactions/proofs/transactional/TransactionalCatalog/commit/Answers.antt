use Rattle.std.proofs.Common.{◌≡◌, ◌∙◌, refl, sym}
use Rattle.plain_tables.specs.Transactions.{committed}
use Rattle.mm_transactions.specs.State.{IsUndoable, TransactionalState, database_at, transactional_of}
use Rattle.mm_transactions.proofs.Undoing.{committed_so, no_marks}
use Rattle.mm_transactions.proofs.transactional.TransactionalCatalog.commit.Goals as goal
use Rattle.mm_transactions.proofs.transactional.TransactionalCatalog.commit.Goals.{After-settle}

both : (c : After-settle) → IsUndoable c.settle.new.catalog c.settle.new.self.changes c.settle.new.self.marks
    × (transactional_of (record { catalog = c.settle.new.catalog; changes = c.settle.new.self.changes; marks = c.settle.new.self.marks })
    ≡ committed (transactional_of (record { catalog = c.self.inside.catalog; changes = c.self.inside.log.changes; marks = c.self.inside.log.marks })))
both c =
    committed_so c.self.inside.catalog c.settle.new.catalog c.close.new.self c.settle.new.self c.settle.ensures.catalog.database.database
    c.settle.ensures.marks c.settle.ensures.inside (λ none. (c.settle.ensures.outside none).0)
    c.self.inside.log c.in-Some.field-0 c.self.invariant c.in-Some.ensures.changes c.in-Some.ensures.closed c.close.new.self.marks refl

pub invariant_of-self-2 : goal.invariant_of-self-2
invariant_of-self-2 c = (both (goal.at.invariant_of-self-2 c).After-settle).0

pub returns-clause-committed : goal.returns-clause-committed
returns-clause-committed c = rw (← c.self.view_is) (both (goal.at.returns-clause-committed c).After-settle).1

pub returns-clause-dropped : goal.returns-clause-dropped
returns-clause-dropped c none =
    let now : TransactionalState = record { catalog = c.settle.new.catalog; changes = c.settle.new.self.changes; marks = c.settle.new.self.marks } in
    rw (← c.self.view_is) (c.settle.ensures.outside (sym c.settle.ensures.marks ∙ no_marks (database_at now) c.settle.new.self.marks none)).1
