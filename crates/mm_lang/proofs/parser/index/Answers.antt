use Rattle.mm_lang.proofs.Fronts.{passed-error}
use Rattle.mm_lang.proofs.Productions.{index-only}
use Rattle.mm_lang.proofs.parser.index.Goals as goal

pub returns-in_err-table-clause-syntax : goal.returns-in_err-table-clause-syntax
returns-in_err-table-clause-syntax c = λ syntax.
    index-only c.args.line.now (c.in_err-table.ensures.syntax (passed-error c.from_residual.ensures.1 syntax))
