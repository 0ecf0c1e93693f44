use Rattle.mm_lang.proofs.Fronts.{passed-error}
use Rattle.mm_lang.proofs.Productions.{update-only, update-completed}
use Rattle.mm_lang.proofs.parser.update.Goals as goal

pub returns-in_err-table-clause-syntax : goal.returns-in_err-table-clause-syntax
returns-in_err-table-clause-syntax c = λ syntax of.
    update-only c.args.line.now (c.in_err-table.ensures.syntax (passed-error c.from_residual.ensures.1 syntax) of)

pub returns-clause-command : goal.returns-clause-command
returns-clause-command c =
    rw (c.from_vec.ensures, c.from_vec-2.ensures) (update-completed c.args.line.now _ _ _ c.in_ok-table.ensures.parts)
