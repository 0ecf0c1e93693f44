-- The first word tells which command the line can spell.
use Rattle.std.proofs.Common.{◌≡◌, ◌∙◌, sym}
use Rattle.std.proofs.lemmas.Result.{IfOk-weaker}
use Rattle.plain_tables.specs.Spelling.{Spells}
use Rattle.plain_tables.specs.Reading.{lexeme}
use Rattle.mm_lang.specs.Parsing.{Completes}
use Rattle.mm_lang.specs.Words.{letters}
use Rattle.mm_lang.proofs.Spelled.{spelled, not-spelled, unknown-word}
use Rattle.mm_lang.proofs.parser.parse_or_stop.Goals as goal

pub returns-in_default-clause-syntax : goal.returns-in_default-clause-syntax
returns-in_default-clause-syntax c = λ _. unknown-word c.args.line.now (λ w is. c.in_default.ensures w (c.word.ensures ∙ is))

pub returns-clause-command : goal.returns-clause-command
returns-clause-command c =
    let word : lexeme c.args.line.now ≡ letters c.in-Some.word = sym c.word.ensures ∙ c.in-Some.ensures in
    IfOk-weaker c.command.result (Completes (letters c.in-Some.word) c.rest.result.now) (Spells c.args.line.now)
    (λ command. spelled c.args.line.now (letters c.in-Some.word) c.rest.result.now command c.rest.ensures.unbroken word c.rest.ensures.rest)
    c.command.ensures.command

pub returns-clause-syntax : goal.returns-clause-syntax
returns-clause-syntax c = λ syntax.
    let word : lexeme c.args.line.now ≡ letters c.in-Some.word = sym c.word.ensures ∙ c.in-Some.ensures in
    not-spelled c.args.line.now (letters c.in-Some.word) c.rest.result.now word c.rest.ensures.rest (c.command.ensures.syntax syntax c.rest.ensures.of_text)
