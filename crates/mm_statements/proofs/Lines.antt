-- Requests whose lines spell statements with values.
use Rattle.std.proofs.Common.{◌≡◌, ℕ, List, refl, sym, ap, ◌∙◌, subst, arith}
use Rattle.std.proofs.lemmas.Bool.{false≢true}
use Rattle.plain_tables.specs.AnswerText.{answer_text}
use Rattle.plain_tables.specs.CsvReading.{Record}
use Rattle.plain_tables.specs.Commands.{effect_of}
use Rattle.plain_tables.specs.Databases.{Database}
use Rattle.plain_tables.specs.Effects.{Effect}
use Rattle.plain_tables.specs.Spelling.{Spells}
use Rattle.plain_tables.specs.declared.command.Command.TheVariants.{Load}
use Rattle.plain_tables.specs.declared.command.Limits.{Limits}
use Rattle.plain_tables.specs.declared.value.Value.{Value}
use Rattle.plain_tables.proofs.Uniqueness.{spells-one}
use Rattle.plain_statements.specs.Executing.{executed}
use Rattle.plain_statements.specs.Filling.{filled}
use Rattle.plain_statements.specs.declared.statement.Statement.{Statement}
use Rattle.plain_statements.specs.declared.statement.Statement.TheVariants as statement
use Rattle.mm_csv.specs.BlockReading.{block_records}
use Rattle.plain_streams.specs.Requests.{Request, IsReadable, Asks}
use Rattle.plain_streams.specs.Runs.{Answers, IsEffect, line_of}
use Rattle.plain_streams.specs.Runs.{too_long, not_utf8, not_a_command, block_too_long, block_cut_short, command, silent, effect, no_memory}
use Rattle.mm_session.specs.StreamLaws.{FoundMemory}
use Rattle.mm_statements.specs.LineLaws.{IsAnswerOf, StatementsAnswerAsTheirLines}
use Rattle.mm_statements.proofs.Marks.{statement-heard}

-- a statement with values is no load
no_load : (s : Statement) (values : List Value) (table : List ℕ) (n : ℕ) → ¬ (filled values s ≡ Load table n)
no_load (statement.Insert name slots) values table n same = cc
no_load (statement.Update name settings conditions) values table n same = cc
no_load (statement.Delete name conditions) values table n same = cc
no_load (statement.Select distinct items name joins conditions) values table n same = cc

-- it reads no block
blockless : (records : List Record) (limits : Limits) (tables : Database) (s : Statement) (values : List Value)
    → effect_of records limits tables (filled values s) ≡ executed limits tables s values
blockless records limits tables (statement.Insert name slots) values = refl
blockless records limits tables (statement.Update name settings conditions) values = refl
blockless records limits tables (statement.Delete name conditions) values = refl
blockless records limits tables (statement.Select distinct items name joins conditions) values = refl

module _ (limits : Limits) (tables : Database) (request : Request) (s : Statement) (values : List Value)
    (spells : Spells (line_of request) (filled values s)) (readable : IsReadable (line_of request)) where
  asks_none : (n : ℕ) → ¬ (Asks request.line n)
  asks_none n asks = no_load s values asks.1.0 n (spells-one (line_of request) (filled values s) (Load asks.1.0 n) spells asks.1.1)

  effect_is : (e : Effect) → IsEffect limits tables request e → e ≡ executed limits tables s values
  effect_is e (too_long long) = let short = readable.short in absurd (omega arith)
  effect_is e (not_utf8 short broken) = absurd (broken readable.utf8)
  effect_is e (not_a_command also heard none) = absurd (none (filled values s) spells)
  effect_is e (block_too_long n asks long) = absurd (asks_none n asks)
  effect_is e (block_cut_short n asks within cut) = absurd (asks_none n asks)
  effect_is e (command c also heard spelled has) =
      let records : List Record = block_records request.block in
      ap (effect_of records limits tables) (spells-one (line_of request) c (filled values s) spelled spells) ∙ blockless records limits tables s values

  answer_is : (answer : List ℕ) (after : Database) → Answers limits tables request answer after → FoundMemory answer
      → IsAnswerOf (executed limits tables s values) answer after
  answer_is answer after (silent also quiet) found = absurd (false≢true (sym (statement-heard (line_of request) values s spells) ∙ quiet))
  answer_is answer after (effect e is) found =
      let same = effect_is e is in
      (ap (λ (x : Effect). answer_text x.outcome) same, ap (λ (x : Effect). x.database) same)
  answer_is answer after (no_memory also heard has) found = absurd (found refl)

pub statements_answer_as_their_lines : StatementsAnswerAsTheirLines
statements_answer_as_their_lines limits tables line s values request spells count spellable is readable =
    let spelled : Spells (line_of request) (filled values s) = subst (λ l. Spells l (filled values s)) (sym is) (spells.1 values count spellable) in
    answer_is limits tables request s values spelled readable
