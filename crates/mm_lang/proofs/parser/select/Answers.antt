use Rattle.mm_lang.proofs.Fronts.{passed-error}
use Rattle.mm_lang.proofs.Selects.{select-only, select-completed}
use Rattle.mm_lang.proofs.parser.select.Goals as goal

pub returns-in_err-parts-clause-syntax : goal.returns-in_err-parts-clause-syntax
returns-in_err-parts-clause-syntax c = λ syntax of.
    select-only c.args.line.now (c.in_err-parts.ensures.syntax (passed-error c.from_residual.ensures.1 syntax) of)

pub returns-clause-command : goal.returns-clause-command
returns-clause-command c =
    rw (c.from_vec.ensures, c.from_vec-2.ensures) (select-completed c.args.line.now _ _ _ _ _ c.in_ok-parts.ensures.parts)
