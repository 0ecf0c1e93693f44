-- Many: what a call does that executes a statement with many rows of values.
use Rattle.std.specs.Prelude.{◌≡◌, ◌≢◌, ℕ, List, [], Some, length, map}
use Rattle.plain_tables.specs.AnswerText.{refusal_text}
use Rattle.plain_tables.specs.Effects.{Effect}
use Rattle.plain_tables.specs.declared.refusal.Refusal.{Refusal}
use Rattle.plain_tables.specs.declared.refusal.Refusal.TheVariants.{NoMemory}
use Rattle.plain_tables.specs.declared.value.Value.{Value}
use Rattle.mm_cells.specs.Reading.{cell_value}
use Rattle.mm_cells.specs.declared.cells.ResultCell.{ResultCell}
use Rattle.mm_prepared.specs.Kept.{KeptStatement}
use Rattle.mm_session.specs.Changing.{HasChanged}
use Rattle.mm_session.specs.OneRequest.{StaysInStream}
use Rattle.mm_statements.specs.Databases.{KeepsTables, SameStatements, statement_at}
use Rattle.mm_statements.specs.Many.{IsDeclinedWithMany, IsEffectOfMany}
use Rattle.mm_statements.specs.declared.faults.ExecuteFault.TheVariants as fault
use Rattle.mm_database.specs.Calls.{KeepsRows}
use Rattle.mm_database.specs.Given.{AreNoRows, AreRows}
use Rattle.mm_database.specs.declared.database.OpenDatabase.{OpenDatabase}

-- The number names a statement, of whose values in turn the cells are these rows.
pub record AreRowsFor (number : ℕ) (texts : List ℕ) (cells : List ResultCell) (d : OpenDatabase) (rows : List (List Value)) : Type 0 where
  pub kept : KeptStatement
  pub there : statement_at d.inner number ≡ Some kept
  pub are : AreRows (length kept.values) (map (cell_value texts) cells) rows

-- The effect of the statement with these rows of values came about beside the stream, it changed so many rows of tables, and the answer is
-- empty.
pub record ExecutesMany (number : ℕ) (texts : List ℕ) (cells : List ResultCell) (old new : OpenDatabase) (changed : ℕ) : Type 0 where
  pub rows : List (List Value)
  pub are : AreRowsFor number texts cells old rows
  pub effect : Effect
  pub is : IsEffectOfMany old.inner number rows effect
  pub gave : HasChanged new.inner.session effect changed
  pub answer : new.answer ≡ []

-- The statement is refused with these rows of values, or there was no memory; that is the answer.
pub record IsRefusedMany (number : ℕ) (texts : List ℕ) (cells : List ResultCell) (old new : OpenDatabase) : Type 0 where
  pub why : Refusal
  pub declined : why ≢ NoMemory → (rows : List (List Value)) × AreRowsFor number texts cells old rows × IsDeclinedWithMany old.inner number rows (fault.Refused why)
  pub answer : new.answer ≡ refusal_text why

-- The cells are no rows of the values of the statement of a number.
abbrev pub AreNoRowsFor : ℕ → List ℕ → List ResultCell → OpenDatabase → Type 0
AreNoRowsFor number texts cells d = (kept : KeptStatement) → statement_at d.inner number ≡ Some kept → AreNoRows (length kept.values) texts cells

-- The tables are as before, and all that is shown. The answer may be another.
pub record KeepsAllTables (old new : OpenDatabase) : Type 0 where
  pub inner : KeepsTables old.inner new.inner
  pub rows : KeepsRows old new

-- The session is where it was in its stream, and statements and all that is shown are as they were.
pub record StaysBeside (old new : OpenDatabase) : Type 0 where
  pub stream : StaysInStream old.inner.session new.inner.session
  pub statements : SameStatements old.inner new.inner
  pub rows : KeepsRows old new
