use Rattle.std.proofs.Common.{ap, sym, ◌∙◌}
use Rattle.plain_tables.specs.Reading.{after_lexeme}
use Rattle.mm_lang.proofs.Fronts.{passed-error}
use Rattle.mm_lang.proofs.Productions.{no-settings, no-tail_of_update}
use Rattle.mm_lang.proofs.parser.update_parts.Goals as goal

pub returns-in_err-settings-clause-syntax : goal.returns-in_err-settings-clause-syntax
returns-in_err-settings-clause-syntax g c = λ syntax.
    no-settings g.S.Item.symbols g.C.Item.symbols c.args.line.now _ (c.in_ok-front.ensures.1 ∙ ap after_lexeme c.in_ok-table.ensures.name.2)
    (c.in_err-settings.ensures.syntax (passed-error c.from_residual-in_err-settings.ensures.1 syntax))

pub returns-in_err-conditions-clause-syntax : goal.returns-in_err-conditions-clause-syntax
returns-in_err-conditions-clause-syntax g c = λ syntax of.
    no-tail_of_update g.S.Item.symbols g.C.Item.symbols c.args.line.now _ _ _ (c.in_ok-front.ensures.1 ∙ ap after_lexeme c.in_ok-table.ensures.name.2)
    c.in_ok-settings.ensures.items of (c.in_err-conditions.ensures.syntax (passed-error c.from_residual-in_err-conditions.ensures.1 syntax))

pub returns-clause-parts : goal.returns-clause-parts
returns-clause-parts g c = record {
  is = rw c.in_ok-table.ensures.name.1 c.in_ok-table.ensures.name.0;
  first = sym c.in_ok-table.ensures.name.1;
  sets = rw c.in_ok-table.ensures.name.2 at c.in_ok-front.ensures.0;
  rest = c.in_ok-settings.rest.now;
  listed = rw (c.in_ok-front.ensures.1, c.in_ok-table.ensures.name.2) at c.in_ok-settings.ensures.items.found;
  tail = c.in_ok-conditions.ensures.conditions;
}
