-- Cursors: what calls do that read the rows of a select page by page.
use Rattle.std.specs.Prelude.{◌≡◌, ℕ, [], drop, take, true}
use Rattle.std.specs.List.{flat_map}
use Rattle.mm_cells.specs.Values.{values_of}
use Rattle.plain_tables.specs.AnswerText.{refusal_text}
use Rattle.plain_tables.specs.declared.refusal.Refusal.{Refusal}
use Rattle.mm_statements.specs.Cursors as cursors
use Rattle.mm_statements.specs.Cursors.{IsCursorOf}
use Rattle.mm_statements.specs.First as first
use Rattle.mm_statements.specs.declared.database.Executed.TheVariants as gives
use Rattle.mm_statements.specs.declared.faults.ExecuteFault.TheVariants as fault
use Rattle.mm_database.specs.Calls.{KeepsRows}
use Rattle.mm_database.specs.StatementCalls.{Tells}
use Rattle.mm_database.specs.declared.cursors.OpenCursor.{OpenCursor}
use Rattle.mm_database.specs.declared.database.OpenDatabase.{OpenDatabase}
use Rattle.mm_database.specs.declared.rows.Rows.{Rows}

-- Nothing has changed, but that the session may be shared now, and the answer.
pub record MayShare (old new : OpenDatabase) : Type 0 where
  pub inner : cursors.MayShare old.inner new.inner
  pub reason : new.reason ≡ old.reason
  pub rows : KeepsRows old new

-- The rows that the statement shows are all still to be read. They hold the tables, and the answer is empty.
pub record OpensCursor (number : ℕ) (cursor : OpenCursor) (old new : OpenDatabase) : Type 0 where
  pub rows : IsCursorOf old.inner number cursor.inner
  pub shared : new.inner.shared ≡ true
  pub answer : new.answer ≡ []

-- The statement is refused, or is no select, or there was no memory; that is the answer.
pub record IsUnopened (number : ℕ) (old new : OpenDatabase) : Type 0 where
  pub why : Refusal
  pub declined : first.IsUnshown old.inner number (fault.Refused why)
  pub answer : new.answer ≡ refusal_text why

-- The next rows, so many at most, are read. Their values are the cursor's cells, and C is told where these lie.
pub record ReadsRows (most : ℕ) (told : Rows) (old new : OpenCursor) : Type 0 where
  pub shown : values_of new.shown ≡ flat_map (λ row. row) (take most old.inner.rows)
  pub read : new.inner ≡ record old.inner { rows = drop most old.inner.rows }
  pub tells : Tells new.shown (gives.Rows old.inner.columns) told
