-- The first rows: what a call does that tells the first rows of a select.
use Rattle.std.specs.Prelude.{◌≡◌, ℕ, [], IsSomeAnd, slice_get}
use Rattle.plain_tables.specs.AnswerText.{refusal_text}
use Rattle.plain_tables.specs.declared.refusal.Refusal.{Refusal}
use Rattle.mm_statements.specs.First as first
use Rattle.mm_statements.specs.First.{ShowsFirstOf}
use Rattle.mm_statements.specs.declared.database.Executed.TheVariants as gives
use Rattle.mm_statements.specs.declared.faults.ExecuteFault.TheVariants as fault
use Rattle.mm_database.specs.StatementCalls.{Tells, shown_by}
use Rattle.mm_database.specs.declared.database.OpenDatabase.{OpenDatabase}
use Rattle.mm_database.specs.declared.rows.Rows.{Rows}

-- The statement is a select. The first rows that it shows, so many at most, are its cells, and C is told where these lie.
pub record HasFirst (number most : ℕ) (old new : OpenDatabase) (told : Rows) : Type 0 where
  pub columns : ℕ
  pub shown : ShowsFirstOf old.inner number most columns (shown_by new number)
  pub tells : IsSomeAnd (slice_get new.shown.items number) (λ cells. Tells cells (gives.Rows columns) told)

-- So it is, and the answer is empty.
pub record ShowsFirst (number most : ℕ) (old new : OpenDatabase) (told : Rows) : Type 0 where
  pub done : HasFirst number most old new told
  pub answer : new.answer ≡ []

-- The statement is refused, or is no select, or there was no memory; that is the answer.
pub record IsUnshown (number : ℕ) (old new : OpenDatabase) : Type 0 where
  pub why : Refusal
  pub declined : first.IsUnshown old.inner number (fault.Refused why)
  pub answer : new.answer ≡ refusal_text why
