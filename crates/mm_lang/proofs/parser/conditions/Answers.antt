use Rattle.mm_lang.proofs.Fronts.{passed-error}
use Rattle.mm_lang.proofs.Productions.{where-some, no-conditions, more-behind_conditions}
use Rattle.mm_lang.proofs.parser.conditions.Goals as goal

pub returns-in_err-conditions-clause-syntax : goal.returns-in_err-conditions-clause-syntax
returns-in_err-conditions-clause-syntax g c = λ syntax.
    no-conditions g.C.Item.symbols c.args.line.now _ c.in-Some.ensures.0 c.in-Some.ensures.1
    (c.in_err-conditions.ensures.syntax (passed-error c.from_residual-in_err-conditions.ensures.1 syntax))

pub returns-in_err-end-2-clause-syntax : goal.returns-in_err-end-2-clause-syntax
returns-in_err-end-2-clause-syntax g c = λ _ of.
    more-behind_conditions g.C.Item.symbols c.args.line.now _ _ _ c.in-Some.ensures.0 c.in-Some.ensures.1 c.in_ok-conditions.ensures.items
    c.in_err-end-2.ensures

pub returns-clause-conditions : goal.returns-clause-conditions
returns-clause-conditions g c =
    where-some g.C.Item.symbols c.args.line.now _ _ _ c.in-Some.ensures.0 c.in-Some.ensures.1 c.in_ok-conditions.ensures.items.found c.in_ok-end-2.ensures
