use Rattle.std.proofs.Common.{◌≡◌, ◌≤◌, ℕ, true, length}
use Rattle.mm_catalog.specs.Outline.{outline_of}
use Rattle.mm_transactions.specs.Undoing.{CanUndo, HaveSameTables, undone}
use Rattle.mm_transactions.proofs.log.UndoLog.undo_to.Given as goal

abbrev pub invariant-loop-self : goal.invariant-loop-self
invariant-loop-self l = record {
  within : l.mark ≤ length l.self.changes;
  ready : CanUndo l.self.changes (outline_of l.catalog);
  marks : l.self.marks ≡ l.initial.self.marks;
  earlier : (m : ℕ) → m ≤ l.mark → undone m l.self.changes (outline_of l.catalog) ≡ undone m l.initial.self.changes (outline_of l.initial.catalog);
  tables : l.kept ≡ true → HaveSameTables (outline_of l.initial.catalog) (outline_of l.catalog);
}

abbrev pub decreases-loop-self : goal.decreases-loop-self
decreases-loop-self l = length l.self.changes
