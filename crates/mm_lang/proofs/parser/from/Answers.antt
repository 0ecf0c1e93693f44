use Rattle.std.proofs.Common.{ap, ◌∙◌}
use Rattle.plain_tables.specs.Reading.{after_lexeme}
use Rattle.mm_lang.proofs.Fronts.{passed-error}
use Rattle.mm_lang.proofs.Selects.{from-whole, no-joins_behind, no-conditions_behind}
use Rattle.mm_lang.proofs.parser.from.Goals as goal

pub returns-in_err-joins-clause-syntax : goal.returns-in_err-joins-clause-syntax
returns-in_err-joins-clause-syntax g c = λ syntax.
    no-joins_behind g.C.Item.symbols c.args.line.now _ (c.in_ok-table.ensures.name.2 ∙ ap after_lexeme c.in_ok-front.ensures.1)
    (c.in_err-joins.ensures.syntax (passed-error c.from_residual-in_err-joins.ensures.1 syntax))

pub returns-in_err-conditions-clause-syntax : goal.returns-in_err-conditions-clause-syntax
returns-in_err-conditions-clause-syntax g c = λ syntax of.
    no-conditions_behind g.C.Item.symbols c.args.line.now _ _ _ (c.in_ok-table.ensures.name.2 ∙ ap after_lexeme c.in_ok-front.ensures.1)
    c.in_ok-joins.ensures.joins of (c.in_err-conditions.ensures.syntax (passed-error c.from_residual-in_err-conditions.ensures.1 syntax))

pub returns-clause-parts : goal.returns-clause-parts
returns-clause-parts g c =
    from-whole g.C.Item.symbols c.args.line.now _ _ _ _ _ _ c.in_ok-front.ensures.0 c.in_ok-front.ensures.1 c.in_ok-table.ensures.name.0
    c.in_ok-table.ensures.name.1 c.in_ok-table.ensures.name.2 c.in_ok-joins.ensures.joins c.in_ok-conditions.ensures.conditions
