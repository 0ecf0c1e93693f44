use Rattle.std.proofs.Common.{sym, ◌∙◌, subst}
use Rattle.mm_catalog.specs.Outline.{outline_of}
use Rattle.mm_transactions.specs.Undoing.{HaveSameTables}
use Rattle.mm_transactions.proofs.SameTables.{before_keeps}
use Rattle.mm_transactions.proofs.log.UndoLog.undo_newest.Goals as goal

pub returns-clause-tables : goal.returns-clause-tables
returns-clause-tables c keeps =
    subst (HaveSameTables (outline_of c.args.catalog.now)) (sym c.undo_step.ensures) (before_keeps _ (outline_of c.args.catalog.now) (sym (c.keeps_tables-keeps.ensures _ _ _) ∙ keeps))
