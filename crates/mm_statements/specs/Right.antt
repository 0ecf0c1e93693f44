-- Right: what is true of each statement that is kept.
use Rattle.std.specs.Prelude.{◌≡◌, ℕ, Some, IfSome, length, map, true}
use Rattle.plain_tables.specs.Databases.{Database}
use Rattle.plain_tables.specs.ResolvedLaws.{emptied}
use Rattle.plain_statements.specs.declared.statement.Statement.{Statement}
use Rattle.plain_statements.specs.Laws.{Resolves}
use Rattle.plain_statements.specs.StatementSpelling.{SpellsStatement, holes_of}
use Rattle.mm_prepared.specs.declared.kept.Prepared.{Prepared}
use Rattle.mm_prepared.specs.declared.kept.Statements.{Statements}
use Rattle.mm_prepared.specs.Kept.{named}
use Rattle.mm_shared.specs.Noted.{noted_tables}
use Rattle.mm_shared.specs.declared.noted.NotedTables.{NotedTables}

-- The line spells a statement, each of whose holes has a value; and what is known of its meaning is what it means of these tables.
pub record IsRight (tables : Database) (p : Prepared) : Type 0 where
  pub statement : Statement
  pub spelled : SpellsStatement p.line statement
  pub counted : length p.bound ≡ length (holes_of statement)
  pub resolved : IfSome p.resolution (Resolves tables statement)

-- each statement that is kept is right by these tables
abbrev pub AreRight : Database → Statements → Type 0
AreRight tables statements = (number : ℕ) (p : Prepared) → named statements number ≡ Some p → IsRight tables p

-- Each statement that is kept is right by the names and columns that are noted. Where these are current, they are those of the tables.
pub record AreNoted (tables : Database) (noted : NotedTables) (statements : Statements) : Type 0 where
  pub right : AreRight (noted_tables noted) statements
  pub current : noted.current ≡ true → noted_tables noted ≡ map emptied tables
