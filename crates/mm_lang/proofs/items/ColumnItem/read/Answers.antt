use Rattle.mm_lang.proofs.Fronts.{passed-error, begins-no_column_kind}
use Rattle.mm_lang.proofs.items.ColumnItem.read.Goals as goal

pub returns-in_err-kind-clause-syntax : goal.returns-in_err-kind-clause-syntax
returns-in_err-kind-clause-syntax c = λ syntax.
    begins-no_column_kind c.args.line.now
    (rw c.in_ok-name.ensures.name.2 at (c.in_err-kind.ensures.syntax (passed-error c.from_residual-in_err-kind.ensures.1 syntax)))
