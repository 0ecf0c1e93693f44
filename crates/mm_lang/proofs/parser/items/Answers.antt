use Rattle.mm_lang.proofs.Fronts.{passed-error}
use Rattle.mm_lang.proofs.Selects.{all-items, named-items, neither-items}
use Rattle.mm_lang.proofs.parser.items.Goals as goal

pub returns-in_err-names-in-None-clause-syntax : goal.returns-in_err-names-in-None-clause-syntax
returns-in_err-names-in-None-clause-syntax c = λ syntax.
    neither-items c.args.line.now c.in-None.ensures
    (c.in_err-names-in-None.ensures.syntax (passed-error c.from_residual.ensures.1 syntax))

pub returns-in-Some-clause-items : goal.returns-in-Some-clause-items
returns-in-Some-clause-items c = all-items c.args.line.now c.in-Some.rest.now c.in-Some.ensures.0 c.in-Some.ensures.1

pub returns-in_ok-names-in-None-clause-items : goal.returns-in_ok-names-in-None-clause-items
returns-in_ok-names-in-None-clause-items c =
    named-items c.args.line.now _ _ _ c.in-None.ensures c.from_vec.ensures c.in_ok-names-in-None.ensures.items
