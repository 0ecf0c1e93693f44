-- Executing: what comes of the statement of a number.
use Rattle.std.specs.Prelude.{◌≡◌, ◌≢◌, ℕ, ◌<◌, List, [], Some, None, Ok}
use Rattle.plain_tables.specs.Databases.{Database}
use Rattle.plain_tables.specs.Effects.{Effect, refused}
use Rattle.plain_tables.specs.Resolving.{resolved_of}
use Rattle.plain_tables.specs.declared.resolved.Resolved.{Resolved}
use Rattle.plain_tables.specs.declared.resolved.Resolved.TheVariants as resolved
use Rattle.plain_tables.specs.declared.refusal.Refusal.{Refusal}
use Rattle.plain_statements.specs.Filling.{filled}
use Rattle.mm_session.specs.Columns.{columns_told}
use Rattle.plain_tables.specs.declared.value.Value.{Value}
use Rattle.plain_tables.specs.declared.refusal.Refusal.TheVariants.{NoMemory}
use Rattle.plain_statements.specs.declared.statement.Statement.{Statement}
use Rattle.plain_statements.specs.Executing.{executed}
use Rattle.plain_statements.specs.Laws.{Refuses}
use Rattle.plain_statements.specs.StatementSpelling.{SpellsStatement}
use Rattle.mm_session.specs.Changing.{HasChanged, IsChange, ShowsValues}
use Rattle.mm_session.specs.Counting.{HasRows}
use Rattle.mm_session.specs.Sessions.{State}
use Rattle.mm_prepared.specs.Kept.{KeptStatement}
use Rattle.mm_statements.specs.Databases.{DatabaseState, statement_at}
use Rattle.mm_statements.specs.declared.faults.ExecuteFault.{ExecuteFault}
use Rattle.mm_statements.specs.declared.faults.ExecuteFault.TheVariants as fault
use Rattle.mm_statements.specs.declared.database.Executed.{Executed}
use Rattle.mm_statements.specs.declared.database.Executed.TheVariants as gives

-- The number names a statement, and this is the effect of the statement that its line spells, with the values that are bound.
pub record IsEffectOf (database : DatabaseState) (number : ℕ) (effect : Effect) : Type 0 where
  pub kept : KeptStatement
  pub there : statement_at database number ≡ Some kept
  pub statement : Statement
  pub spelled : SpellsStatement kept.line statement
  pub is : effect ≡ executed database.session.limits database.session.database statement kept.values

-- The effect came about. It changed so many rows, or it shows rows of so many columns, whose values the cells are.
abbrev pub HasGiven : State → Effect → Executed → List Value → Type 0
HasGiven new effect (gives.Changed count) cells = HasChanged new effect count × (cells ≡ [])
HasGiven new effect (gives.Rows columns) cells =
    (new.database ≡ effect.database) × ShowsValues effect.outcome columns cells × (0 < columns)

-- The number names a statement that, with the values that are bound, is an insert, an update or a delete of these tables.
pub record IsChangeOf (database : DatabaseState) (number : ℕ) : Type 0 where
  pub kept : KeptStatement
  pub there : statement_at database number ≡ Some kept
  pub statement : Statement
  pub spelled : SpellsStatement kept.line statement
  pub command : Resolved
  pub means : resolved_of [] database.session.database (filled kept.values statement) ≡ Ok command
  pub change : IsChange command

-- The number names a statement, whose effect with the values that are bound is rows.
abbrev pub IsSelectOf : DatabaseState → ℕ → Type 0
IsSelectOf database number = (effect : Effect) × IsEffectOf database number effect × HasRows effect.outcome (λ n. Unit {0})

-- The number names no statement; or the refusal is the effect, unless there was no memory. What it shows may be too long for cells. A
-- change is declined while another database shares the tables. What is asked to end is a select.
abbrev pub IsDeclined : DatabaseState → ℕ → ExecuteFault → Type 0
IsDeclined database number fault.NoSuchStatement = statement_at database number ≡ None
IsDeclined database number (fault.Refused why) =
    why ≢ NoMemory → IsEffectOf database number (refused database.session.database why)
IsDeclined database number fault.TooLong = Unit {0}
IsDeclined database number fault.Shared = IsChangeOf database number
IsDeclined database number fault.Interrupted = IsSelectOf database number

-- the columns of what a resolved command shows of these tables
abbrev pub columns_of : Database → Resolved → List Value
columns_of tables (resolved.Select query) = columns_told tables query
columns_of tables command = []

-- The number names a statement, and these are the columns of what it shows, whatever is bound: those of each command that values make of
-- it.
pub record TellsColumns (database : DatabaseState) (number : ℕ) (columns : List Value) : Type 0 where
  pub kept : KeptStatement
  pub there : statement_at database number ≡ Some kept
  pub statement : Statement
  pub spelled : SpellsStatement kept.line statement
  pub shown : (values : List Value) (command : Resolved) → resolved_of [] database.session.database (filled values statement) ≡ Ok command
      → columns ≡ columns_of database.session.database command

-- The number names a statement, which is refused so, whatever is bound.
pub record IsRefusedEver (database : DatabaseState) (number : ℕ) (why : Refusal) : Type 0 where
  pub kept : KeptStatement
  pub there : statement_at database number ≡ Some kept
  pub statement : Statement
  pub spelled : SpellsStatement kept.line statement
  pub refuses : Refuses database.session.database statement why

-- The number names no statement; or the statement is refused so, whatever is bound, unless there was no memory.
abbrev pub IsUntold : DatabaseState → ℕ → ExecuteFault → Type 0
IsUntold database number fault.NoSuchStatement = statement_at database number ≡ None
IsUntold database number (fault.Refused why) = why ≢ NoMemory → IsRefusedEver database number why
IsUntold database number fault.TooLong = ⊥
IsUntold database number fault.Shared = ⊥
IsUntold database number fault.Interrupted = ⊥
