-- Cursors: the rows of a select that are still to be read.
use Rattle.std.specs.Prelude.{◌≡◌, ◌≢◌, ℕ, List, [], IsTrue, length, refl, true}
use Rattle.std.specs.Coded.{Coded, code_by, coded×, coded_list, coded_ℕ}
use Rattle.plain_tables.specs.Effects.{Effect, Outcome, Rows}
use Rattle.plain_tables.specs.Tables.{Row}
use Rattle.plain_tables.specs.declared.value.Value.{Value}
use Rattle.mm_statements.specs.Databases.{DatabaseState, SameStatements}
use Rattle.mm_statements.specs.Executing.{IsEffectOf}
use Rattle.mm_statements.specs.First.{IsUnshown}
use Rattle.mm_statements.specs.declared.faults.CursorFault.{CursorFault}
use Rattle.mm_statements.specs.declared.faults.CursorFault.TheVariants as cursor
use Rattle.mm_statements.specs.declared.faults.ExecuteFault.TheVariants as fault

-- A cursor is seen as the rows that are still to be read, and how many columns they have.
pub record CursorState : Type 0 where
  pub columns : ℕ
  pub rows : List Row

abbrev pub cursor_code : Coded Value → Coded CursorState
cursor_code value =
    code_by (ℕ × List Row) (coded× coded_ℕ (coded_list (coded_list value))) (λ c. (c.columns, c.rows))
    (λ p. record { columns = p.0; rows = p.1 }) (λ _. refl)

-- the outcome is rows, which are all still to be read
abbrev pub StandsBefore : Outcome → CursorState → Type 0
StandsBefore (Rows names rows) cursor = (cursor.columns ≡ length names) × (cursor.rows ≡ rows)
StandsBefore outcome cursor = ⊥

-- The effect of the statement is rows, which are all still to be read.
abbrev pub IsCursorOf : DatabaseState → ℕ → CursorState → Type 0
IsCursorOf database number cursor = (effect : Effect) × IsEffectOf database number effect × StandsBefore effect.outcome cursor

-- A transaction is open; or the statement shows no rows, as where its first ones are asked for.
abbrev pub IsUnopened : DatabaseState → ℕ → CursorFault → Type 0
IsUnopened database number cursor.InTransaction = database.session.saved ≢ []
IsUnopened database number (cursor.Declined why) = IsUnshown database number why × (why ≢ fault.TooLong)

-- Nothing has changed, but that the session may be shared now.
pub record MayShare (old new : DatabaseState) : Type 0 where
  pub session : new.session ≡ old.session
  pub stays : IsTrue old.shared → new.shared ≡ true
  pub statements : SameStatements old new
