use Rattle.mm_lang.proofs.Fronts.{passed-error}
use Rattle.mm_lang.proofs.Productions.{insert-only, insert-completed}
use Rattle.mm_lang.proofs.parser.insert.Goals as goal

pub returns-in_err-table-clause-syntax : goal.returns-in_err-table-clause-syntax
returns-in_err-table-clause-syntax c = λ syntax of.
    insert-only c.args.line.now (c.in_err-table.ensures.syntax (passed-error c.from_residual.ensures.1 syntax) of)

pub returns-clause-command : goal.returns-clause-command
returns-clause-command c = rw c.from_vec.ensures (insert-completed c.args.line.now _ _ c.in_ok-table.ensures.both)
