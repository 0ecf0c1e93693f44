-- Resolving: what a line and the statement of a number mean of tables.
use Rattle.std.specs.Prelude.{◌≡◌, ◌≢◌, ℕ, List, [], Some, None, Result, Err}
use Rattle.plain_tables.specs.Databases.{Database}
use Rattle.plain_tables.specs.Resolving.{resolved_of}
use Rattle.plain_tables.specs.declared.refusal.Refusal.{Refusal}
use Rattle.plain_tables.specs.declared.refusal.Refusal.TheVariants.{NoMemory, NotACommand}
use Rattle.plain_tables.specs.declared.resolved.Resolved.{Resolved}
use Rattle.plain_tables.specs.declared.resolved.Resolved.TheVariants as resolved
use Rattle.plain_statements.specs.declared.statement.Statement.{Statement}
use Rattle.plain_statements.specs.declared.resolution.Resolution.{Resolution}
use Rattle.plain_statements.specs.Filling.{filled}
use Rattle.plain_statements.specs.Laws.{Resolves, Refuses}
use Rattle.plain_statements.specs.StatementSpelling.{SpellsStatement}
use Rattle.mm_session.specs.Changing.{IsChange}
use Rattle.mm_statements.specs.declared.faults.ExecuteFault.{ExecuteFault}
use Rattle.mm_statements.specs.declared.faults.ExecuteFault.TheVariants as fault
use Rattle.mm_prepared.specs.declared.kept.Prepared.{Prepared}
use Rattle.mm_prepared.specs.declared.kept.Statements.{Statements}
use Rattle.mm_prepared.specs.Kept.{named}
use Rattle.mm_statements.specs.Preparing.{SpellsNone}

-- the line spells a statement with this resolution
abbrev pub LineMeans : Database → List ℕ → Resolution → Type 0
LineMeans tables line r = (s : Statement) × SpellsStatement line s × Resolves tables s r

-- The line spells no statement, or one that is refused so.
pub data IsUnmeant (tables : Database) (line : List ℕ) : Refusal → Type 0 where
  no_statement : SpellsNone line → IsUnmeant tables line NotACommand
  refuses : (s : Statement) (why : Refusal) → SpellsStatement line s → Refuses tables s why → IsUnmeant tables line why

-- The statement of a number, with the values that are bound, is the resolved command, or is refused.
pub record IsFinished (tables : Database) (statements : Statements) (number : ℕ) (command : Result Resolved Refusal) : Type 0 where
  pub prepared : Prepared
  pub there : named statements number ≡ Some prepared
  pub statement : Statement
  pub spelled : SpellsStatement prepared.line statement
  pub means : resolved_of [] tables (filled prepared.bound statement) ≡ command

-- The number names a statement, which is refused so, whatever is bound.
pub record IsRefusing (tables : Database) (statements : Statements) (number : ℕ) (why : Refusal) : Type 0 where
  pub prepared : Prepared
  pub there : named statements number ≡ Some prepared
  pub statement : Statement
  pub spelled : SpellsStatement prepared.line statement
  pub refuses : Refuses tables statement why

-- The number names no statement; or the statement is refused so, whatever is bound, unless there was no memory.
abbrev pub IsUnresolved : Database → Statements → ℕ → ExecuteFault → Type 0
IsUnresolved tables statements number fault.NoSuchStatement = named statements number ≡ None
IsUnresolved tables statements number (fault.Refused why) = why ≢ NoMemory → IsRefusing tables statements number why
IsUnresolved tables statements number fault.TooLong = ⊥
IsUnresolved tables statements number fault.Shared = ⊥
IsUnresolved tables statements number fault.Interrupted = ⊥

-- an insert, an update, a delete or a select
abbrev pub IsOfRows : Resolved → Type 0
IsOfRows (resolved.Select query) = Unit {0}
IsOfRows command = IsChange command

-- The number names no statement; or the statement is refused so, unless there was no memory.
abbrev pub IsUnfinished : Database → Statements → ℕ → ExecuteFault → Type 0
IsUnfinished tables statements number fault.NoSuchStatement = named statements number ≡ None
IsUnfinished tables statements number (fault.Refused why) = why ≢ NoMemory → IsFinished tables statements number (Err why)
IsUnfinished tables statements number fault.TooLong = ⊥
IsUnfinished tables statements number fault.Shared = ⊥
IsUnfinished tables statements number fault.Interrupted = ⊥
