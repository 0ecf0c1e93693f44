-- Many: what comes of the statement of a number with many rows of values.
use Rattle.std.specs.Prelude.{◌≡◌, ◌≢◌, ℕ, List, Some, None}
use Rattle.plain_tables.specs.Databases.{Database}
use Rattle.plain_tables.specs.Doing.{in_record}
use Rattle.plain_tables.specs.Effects.{Effect, Outcome, Refused, refused}
use Rattle.plain_tables.specs.declared.refusal.Refusal.TheVariants.{NoMemory}
use Rattle.plain_tables.specs.declared.value.Value.{Value}
use Rattle.plain_statements.specs.declared.resolution.Resolution.{Resolution}
use Rattle.plain_statements.specs.declared.statement.Statement.{Statement}
use Rattle.mm_prepared.specs.Many.{executed_many}
use Rattle.plain_statements.specs.StatementSpelling.{SpellsStatement}
use Rattle.mm_prepared.specs.Kept.{KeptStatement}
use Rattle.mm_statements.specs.Databases.{DatabaseState, statement_at}
use Rattle.mm_statements.specs.Resolving.{LineMeans}
use Rattle.mm_statements.specs.declared.faults.ExecuteFault.{ExecuteFault}
use Rattle.mm_statements.specs.declared.faults.ExecuteFault.TheVariants as fault

-- The number names a statement, and this is what comes of the statement that its line spells with each of these rows of values, all of them
-- or none.
pub record IsEffectOfMany (database : DatabaseState) (number : ℕ) (rows : List (List Value)) (effect : Effect) : Type 0 where
  pub kept : KeptStatement
  pub there : statement_at database number ≡ Some kept
  pub statement : Statement
  pub spelled : SpellsStatement kept.line statement
  pub is : effect ≡ executed_many database.session.limits database.session.database statement rows

-- The number names no statement; or the refusal is what comes of it, unless there was no memory. The rows that are changed may be too many
-- for their number. All is declined while another database shares the tables.
abbrev pub IsDeclinedWithMany : DatabaseState → ℕ → List (List Value) → ExecuteFault → Type 0
IsDeclinedWithMany database number rows fault.NoSuchStatement = statement_at database number ≡ None
IsDeclinedWithMany database number rows (fault.Refused why) =
    why ≢ NoMemory → IsEffectOfMany database number rows (refused database.session.database why)
IsDeclinedWithMany database number rows fault.TooLong = Unit {0}
IsDeclinedWithMany database number rows fault.Shared = Unit {0}
IsDeclinedWithMany database number rows fault.Interrupted = ⊥

-- the resolution is what a line means of these tables
abbrev pub IsMeaning : Database → Resolution → Type 0
IsMeaning tables r = (line : List ℕ) × LineMeans tables line r

-- Nothing has come of the effect: it is refused so, unless there was no memory.
abbrev pub HasFailed : Database → Effect → ExecuteFault → Type 0
HasFailed tables e fault.NoSuchStatement = ⊥
HasFailed tables e (fault.Refused why) = why ≢ NoMemory → e ≡ refused tables why
HasFailed tables e fault.TooLong = Unit {0}
HasFailed tables e fault.Shared = Unit {0}
HasFailed tables e fault.Interrupted = ⊥

-- the outcome is this refusal, unless there was no memory
abbrev pub EndsBy : Outcome → ExecuteFault → Type 0
EndsBy outcome fault.NoSuchStatement = ⊥
EndsBy outcome (fault.Refused why) = why ≢ NoMemory → outcome ≡ Refused why
EndsBy outcome fault.TooLong = Unit {0}
EndsBy outcome fault.Shared = Unit {0}
EndsBy outcome fault.Interrupted = ⊥

-- the outcome with the number of the record that it is of
abbrev pub outcome_in_record : ℕ → Outcome → Outcome
outcome_in_record k (Refused why) = Refused (in_record k why)
outcome_in_record k outcome = outcome
