-- The law of statements beside the lines of a stream.
use Rattle.std.specs.Prelude.{◌≡◌, ℕ, List, length}
use Rattle.std.specs.List.{AllByRecursion}
use Rattle.plain_tables.specs.AnswerText.{answer_text}
use Rattle.plain_tables.specs.Databases.{Database}
use Rattle.plain_tables.specs.Effects.{Effect}
use Rattle.plain_tables.specs.Spelling.{IsSpellableValue}
use Rattle.plain_tables.specs.declared.command.Limits.{Limits}
use Rattle.plain_tables.specs.declared.value.Value.{Value}
use Rattle.plain_statements.specs.Executing.{executed}
use Rattle.plain_statements.specs.StatementSpelling.{SpellsStatement, marks, written}
use Rattle.plain_statements.specs.declared.statement.Statement.{Statement}
use Rattle.plain_streams.specs.Requests.{Request, IsReadable}
use Rattle.plain_streams.specs.Runs.{Answers, line_of}
use Rattle.mm_session.specs.StreamLaws.{FoundMemory}

-- the answer is that of the effect, and so are the tables after it
abbrev pub IsAnswerOf : Effect → List ℕ → Database → Type 0
IsAnswerOf effect answer after = (answer ≡ answer_text effect.outcome) × (after ≡ effect.database)

-- A line spells a statement, and a request has this line with a value for each question mark written into it. Where the request can be
-- read, and memory was found, its answer and the tables after it are those of the statement with these values.
abbrev pub StatementsAnswerAsTheirLines : Type 0
StatementsAnswerAsTheirLines =
    (limits : Limits) (tables : Database) (line : List ℕ) (s : Statement) (values : List Value) (request : Request)
    → SpellsStatement line s → length values ≡ marks line → AllByRecursion IsSpellableValue values
    → line_of request ≡ written values line → IsReadable (line_of request)
    → (answer : List ℕ) (after : Database) → Answers limits tables request answer after → FoundMemory answer
    → IsAnswerOf (executed limits tables s values) answer after
