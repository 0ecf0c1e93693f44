use Rattle.std.proofs.Common.{◌≡◌, ◌<◌, length, arith}
use Rattle.mm_transactions.specs.State.{IsUndoable, saved_of}
use Rattle.mm_transactions.proofs.Undoing.{all_changed_so, kept_outline}
use Rattle.mm_transactions.proofs.transactional.TransactionalCatalog.drop_table.Goals as goal
use Rattle.mm_transactions.proofs.transactional.TransactionalCatalog.drop_table.Goals.{After-drop_table-2}

both : (c : After-drop_table-2) → IsUndoable c.drop_table-2.new.catalog c.drop_table-2.new.self.changes c.drop_table-2.new.self.marks
    × (saved_of (record { catalog = c.drop_table-2.new.catalog; changes = c.drop_table-2.new.self.changes; marks = c.drop_table-2.new.self.marks })
    ≡ saved_of (record { catalog = c.self.inside.catalog; changes = c.self.inside.log.changes; marks = c.self.inside.log.marks }))
both c =
    let some : 0 < length c.self.inside.log.marks = omega (arith, c.depth.ensures, c.if-depth-eq0.false) in
    all_changed_so c.self.inside.catalog c.drop_table-2.new.catalog c.self.inside.log c.drop_table-2.new.self c.self.invariant c.drop_table-2.result some c.drop_table-2.ensures.noted
    (kept_outline c.self.inside.catalog c.drop_table-2.new.catalog c.drop_table-2.result c.drop_table-2.ensures.kept) c.drop_table-2.ensures.unchanged

pub invariant_of-self-2 : goal.invariant_of-self-2
invariant_of-self-2 c = (both (goal.at.invariant_of-self-2 c).After-drop_table-2).0

pub returns-clause-saved : goal.returns-clause-saved
returns-clause-saved c = rw (← c.self.view_is) (both (goal.at.returns-clause-saved c).After-drop_table-2).1
