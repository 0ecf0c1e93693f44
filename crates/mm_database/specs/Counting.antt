-- Counting: what a call does that counts the rows of a select.
use Rattle.std.specs.Prelude.{◌≡◌, ◌≤◌, ◌^◌, ℕ, []}
use Rattle.plain_tables.specs.AnswerText.{refusal_text}
use Rattle.plain_tables.specs.declared.refusal.Refusal.{Refusal}
use Rattle.mm_statements.specs.Counting as counting
use Rattle.mm_statements.specs.Counting.{HasRowsOf}
use Rattle.mm_statements.specs.declared.faults.ExecuteFault.TheVariants as fault
use Rattle.mm_database.specs.Calls.{KeepsRows}
use Rattle.mm_database.specs.StatementCalls.{KeepsAll}
use Rattle.mm_database.specs.declared.database.OpenDatabase.{OpenDatabase}

-- Session, statements and all rows are as they were.
pub record OnlyCounts (old new : OpenDatabase) : Type 0 where
  pub all : KeepsAll old new
  pub rows : KeepsRows old new

-- the statement is a select, which shows so many rows, and the answer is empty
pub record CountsRows (number : ℕ) (old new : OpenDatabase) (count : ℕ) : Type 0 where
  pub shown : HasRowsOf old.inner number (λ n. count ≡ n)
  pub answer : new.answer ≡ []

-- the statement shows more rows than 64 bits can count
abbrev pub ShowsTooMany : ℕ → OpenDatabase → Type 0
ShowsTooMany number d = HasRowsOf d.inner number (λ n. 2 ^ 64 ≤ n)

-- The statement is refused, or is no select, or there was no memory; that is the answer.
pub record IsUncounted (number : ℕ) (old new : OpenDatabase) : Type 0 where
  pub why : Refusal
  pub declined : counting.IsUncounted old.inner number (fault.Refused why)
  pub answer : new.answer ≡ refusal_text why
