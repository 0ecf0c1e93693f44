use Rattle.mm_lang.proofs.Fronts.{passed-error, begins-none_assigned}
use Rattle.mm_lang.proofs.items.assigned.Goals as goal

pub returns-in_err-value-clause-syntax : goal.returns-in_err-value-clause-syntax
returns-in_err-value-clause-syntax g c = λ syntax.
    begins-none_assigned g.V.Item.symbols c.args.line.now
    (rw (c.in_ok-line.ensures.1, c.in_ok-column.ensures.name.2) at (c.in_err-value.ensures.syntax (passed-error c.from_residual-in_err-value.ensures.1 syntax)))
