use Rattle.std.proofs.Common.{ap, ◌∙◌}
use Rattle.plain_tables.specs.Reading.{after_lexeme}
use Rattle.mm_lang.proofs.Fronts.{passed-error}
use Rattle.mm_lang.proofs.Productions.{no-list}
use Rattle.mm_lang.proofs.parser.name_and_list.Goals as goal

pub returns-in_err-items-clause-syntax : goal.returns-in_err-items-clause-syntax
returns-in_err-items-clause-syntax g c = λ syntax.
    no-list g.T.Item.symbols c.args.line.now _ (c.in_ok-front.ensures.1 ∙ ap after_lexeme c.in_ok-name.ensures.name.2)
    (c.in_err-items.ensures.syntax (passed-error c.from_residual-in_err-items.ensures.1 syntax))
