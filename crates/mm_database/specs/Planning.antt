-- Planning: what a call does that tells the plan of the select that a line spells.
use Rattle.std.specs.Prelude.{◌≡◌, ℕ, List}
use Rattle.plain_tables.specs.AnswerText.{refusal_text}
use Rattle.plain_tables.specs.declared.refusal.Refusal.{Refusal}
use Rattle.plain_streams.specs.Requests.{without_return}
use Rattle.mm_statements.specs.Planning.{IsPlanOfLine}
use Rattle.mm_statements.specs.Planning as planning
use Rattle.mm_statements.specs.declared.planning.PlannedSelect.{PlannedSelect}
use Rattle.mm_database.specs.Calls.{KeepsRows}
use Rattle.mm_database.specs.declared.database.OpenDatabase.{OpenDatabase}

-- the line spells a select, which has a plan
abbrev pub IsPlanned : List ℕ → OpenDatabase → Type 0
IsPlanned line d = (told : PlannedSelect) × IsPlanOfLine d.inner.session (without_return line) told

-- The session, its statements, all rows and the reason are as they were.
pub record OnlyAnswers (old new : OpenDatabase) : Type 0 where
  pub inner : new.inner ≡ old.inner
  pub rows : KeepsRows old new
  pub reason : new.reason ≡ old.reason

-- The line spells a select, whose plan is kept as the answer, in words, and nothing else changed.
pub record TellsPlan (line : List ℕ) (old new : OpenDatabase) : Type 0 where
  pub planned : IsPlanned line old
  pub kept : OnlyAnswers old new

-- No plan is told of the line, the answer is the refusal, and nothing else changed.
pub record IsUnplanned (line : List ℕ) (old new : OpenDatabase) : Type 0 where
  pub why : Refusal
  pub unplanned : planning.IsUnplanned old.inner.session (without_return line) why
  pub answer : new.answer ≡ refusal_text why
  pub kept : OnlyAnswers old new
