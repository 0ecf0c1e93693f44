use Rattle.mm_lang.proofs.Fronts.{passed-error}
use Rattle.mm_lang.proofs.Productions.{table-only, table-completed}
use Rattle.mm_lang.proofs.parser.table.Goals as goal

pub returns-in_err-name-clause-syntax : goal.returns-in_err-name-clause-syntax
returns-in_err-name-clause-syntax c = λ syntax of.
    table-only c.args.line.now (c.in_err-name.ensures.syntax (passed-error c.from_residual.ensures.1 syntax) of)

pub returns-clause-command : goal.returns-clause-command
returns-clause-command c = rw c.from_vec.ensures (table-completed c.args.line.now _ _ c.in_ok-name.ensures.both)
