-- The first word tells which statement the line can spell.
use Rattle.std.proofs.Common.{◌≡◌, ◌∙◌, sym}
use Rattle.std.proofs.lemmas.Result.{IfOk-weaker}
use Rattle.plain_tables.specs.Reading.{lexeme}
use Rattle.plain_statements.specs.StatementSpelling.{SpellsStatement}
use Rattle.mm_lang.specs.Words.{letters}
use Rattle.mm_lang.specs.Statements.{CompletesStatement}
use Rattle.mm_lang.proofs.Complete.{not-statement, unknown-statement}
use Rattle.mm_lang.proofs.Sound.{statement-spelled}
use Rattle.mm_lang.proofs.statements.parse_statement_or_stop.Goals as goal

pub returns-in_default-clause-syntax : goal.returns-in_default-clause-syntax
returns-in_default-clause-syntax c = λ _. unknown-statement c.args.line.now (λ w is. c.in_default.ensures w (c.word.ensures ∙ is))

pub returns-clause-statement : goal.returns-clause-statement
returns-clause-statement c =
    let word : lexeme c.args.line.now ≡ letters c.in-Some.word = sym c.word.ensures ∙ c.in-Some.ensures in
    IfOk-weaker c.statement.result (CompletesStatement (letters c.in-Some.word) c.rest.result.now) (SpellsStatement c.args.line.now)
    (λ s. statement-spelled c.args.line.now (letters c.in-Some.word) c.rest.result.now s c.rest.ensures.unbroken word c.rest.ensures.rest)
    c.statement.ensures.statement

pub returns-clause-syntax : goal.returns-clause-syntax
returns-clause-syntax c = λ syntax.
    let word : lexeme c.args.line.now ≡ letters c.in-Some.word = sym c.word.ensures ∙ c.in-Some.ensures in
    not-statement c.args.line.now (letters c.in-Some.word) c.rest.result.now word c.rest.ensures.rest (c.statement.ensures.syntax syntax c.rest.ensures.of_text)
