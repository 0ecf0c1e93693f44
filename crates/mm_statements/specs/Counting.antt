-- Counting: how many rows the statement of a number shows.
use Rattle.std.specs.Prelude.{◌≡◌, ◌≢◌, ◌≤◌, ◌⊎◌, ◌^◌, ℕ, None}
use Rattle.plain_tables.specs.Effects.{Effect, refused}
use Rattle.plain_tables.specs.declared.refusal.Refusal.TheVariants.{NoMemory, NotACommand}
use Rattle.mm_session.specs.Counting.{HasRows}
use Rattle.mm_session.specs.declared.fault.CountFault.{CountFault}
use Rattle.mm_session.specs.declared.fault.CountFault.TheVariants as counting
use Rattle.mm_statements.specs.Databases.{DatabaseState, statement_at}
use Rattle.mm_statements.specs.Executing.{IsChangeOf, IsEffectOf, IsSelectOf}
use Rattle.mm_statements.specs.declared.faults.ExecuteFault.{ExecuteFault}
use Rattle.mm_statements.specs.declared.faults.ExecuteFault.TheVariants as fault

-- the effect of the statement is rows, and this holds of how many they are
abbrev pub HasRowsOf : DatabaseState → ℕ → (ℕ → Type 0) → Type 0
HasRowsOf database number says = (effect : Effect) × IsEffectOf database number effect × HasRows effect.outcome says

-- The number names no statement; or the refusal is the effect, unless there was no memory; or the statement is no select, and is refused
-- by that; or its rows are too many for a count. A select may be asked to end.
abbrev pub IsUncounted : DatabaseState → ℕ → ExecuteFault → Type 0
IsUncounted database number fault.NoSuchStatement = statement_at database number ≡ None
IsUncounted database number (fault.Refused why) =
    why ≢ NoMemory → IsEffectOf database number (refused database.session.database why) ⊎ ((why ≡ NotACommand) × IsChangeOf database number)
IsUncounted database number fault.TooLong = HasRowsOf database number (λ n. 2 ^ 64 ≤ n)
IsUncounted database number fault.Shared = ⊥
IsUncounted database number fault.Interrupted = IsSelectOf database number

-- out of memory is a refusal here
abbrev pub execute_fault_of_count : CountFault → ExecuteFault
execute_fault_of_count (counting.NoMemory refused) = fault.Refused NoMemory
execute_fault_of_count counting.TooMany = fault.TooLong
execute_fault_of_count counting.Interrupted = fault.Interrupted
