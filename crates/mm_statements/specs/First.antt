-- The first rows that the statement of a number shows.
use Rattle.std.specs.Prelude.{◌≡◌, ◌≢◌, ◌⊎◌, ℕ, List, None}
use Rattle.plain_tables.specs.Effects.{Effect, refused}
use Rattle.plain_tables.specs.declared.refusal.Refusal.TheVariants.{NoMemory, NotACommand}
use Rattle.plain_tables.specs.declared.value.Value.{Value}
use Rattle.mm_session.specs.First.{ShowsFirst}
use Rattle.mm_statements.specs.Databases.{DatabaseState, statement_at}
use Rattle.mm_statements.specs.Executing.{IsChangeOf, IsEffectOf, IsSelectOf}
use Rattle.mm_statements.specs.declared.faults.ExecuteFault.{ExecuteFault}
use Rattle.mm_statements.specs.declared.faults.ExecuteFault.TheVariants as fault

-- The effect of the statement is rows, and these are the values of the first of them, so many at most, each of so many columns.
abbrev pub ShowsFirstOf : DatabaseState → ℕ → ℕ → ℕ → List Value → Type 0
ShowsFirstOf database number most columns values = (effect : Effect) × IsEffectOf database number effect × ShowsFirst effect.outcome most columns values

-- The number names no statement; or the refusal is the effect, unless there was no memory; or the statement is no select, and is refused
-- by that. What it shows may be too long for cells. A select may be asked to end.
abbrev pub IsUnshown : DatabaseState → ℕ → ExecuteFault → Type 0
IsUnshown database number fault.NoSuchStatement = statement_at database number ≡ None
IsUnshown database number (fault.Refused why) =
    why ≢ NoMemory → IsEffectOf database number (refused database.session.database why) ⊎ ((why ≡ NotACommand) × IsChangeOf database number)
IsUnshown database number fault.TooLong = Unit {0}
IsUnshown database number fault.Shared = ⊥
IsUnshown database number fault.Interrupted = IsSelectOf database number
