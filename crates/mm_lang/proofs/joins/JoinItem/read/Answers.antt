use Rattle.mm_lang.proofs.Fronts.{passed-error}
use Rattle.mm_lang.proofs.Joining.{begins-no_left, begins-no_right}
use Rattle.mm_lang.proofs.joins.JoinItem.read.Goals as goal

pub returns-in_err-left-clause-syntax : goal.returns-in_err-left-clause-syntax
returns-in_err-left-clause-syntax c = λ syntax.
    begins-no_left c.args.line.now
    (rw (c.in_ok-line.ensures.1, c.in_ok-table.ensures.name.2) at (c.in_err-left.ensures.syntax (passed-error c.from_residual-in_err-left.ensures.1 syntax)))

pub returns-in_err-right-clause-syntax : goal.returns-in_err-right-clause-syntax
returns-in_err-right-clause-syntax c = λ syntax.
    begins-no_right c.args.line.now c.in_ok-left.left c.in_ok-left.line.now
    (rw (c.in_ok-line.ensures.1, c.in_ok-table.ensures.name.2) at c.in_ok-left.ensures.item)
    (rw c.in_ok-line-2.ensures.1 at (c.in_err-right.ensures.syntax (passed-error c.from_residual-in_err-right.ensures.1 syntax)))
