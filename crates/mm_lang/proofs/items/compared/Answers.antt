use Rattle.mm_lang.proofs.Fronts.{passed-error, begins-compared, begins-none_compared, begins-no_operator, begins-nothing_compared}
use Rattle.mm_lang.proofs.items.compared.Goals as goal

pub returns-in_err-column-clause-syntax : goal.returns-in_err-column-clause-syntax
returns-in_err-column-clause-syntax g c = λ syntax.
    begins-none_compared g.V.Item.symbols c.args.line.now
    (c.in_err-column.ensures.syntax (passed-error c.from_residual.ensures.1 syntax))

pub returns-in_err-op-clause-syntax : goal.returns-in_err-op-clause-syntax
returns-in_err-op-clause-syntax g c = λ _.
    begins-no_operator g.V.Item.symbols c.args.line.now _ _ c.in_ok-column.ensures.item c.in_err-op.ensures

pub returns-in_err-value-clause-syntax : goal.returns-in_err-value-clause-syntax
returns-in_err-value-clause-syntax g c = λ syntax.
    begins-nothing_compared g.V.Item.symbols c.args.line.now _ _ c.in_ok-column.ensures.item
    (rw c.in_ok-op.ensures.1 at (c.in_err-value.ensures.syntax (passed-error c.from_residual-in_err-value.ensures.1 syntax)))

pub returns-clause-item : goal.returns-clause-item
returns-clause-item g c =
    begins-compared g.V.Item.symbols c.args.line.now _ _ _ _ _ c.in_ok-column.ensures.item c.in_ok-op.ensures.0
    (rw c.in_ok-op.ensures.1 at c.in_ok-value.ensures.item)
