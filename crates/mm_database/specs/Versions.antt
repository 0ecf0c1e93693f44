-- Versions: what a call does that tells the number of the newest change.
use Rattle.std.specs.Prelude.{◌≡◌, ◌≢◌, ℕ, List, [], IsSome, position}
use Rattle.plain_tables.specs.AnswerText.{refusal_text}
use Rattle.plain_tables.specs.Databases.{is_named}
use Rattle.plain_tables.specs.declared.refusal.Refusal.{Refusal}
use Rattle.mm_session.specs.IndexAnswers.{TellsNothing}
use Rattle.mm_database.specs.declared.database.OpenDatabase.{OpenDatabase}

-- There is a table of that name, or the name is empty, and so is the answer.
pub record HasVersion (name : List ℕ) (old new : OpenDatabase) : Type 0 where
  pub there : name ≢ [] → IsSome (position (is_named name) old.inner.session.database)
  pub answer : new.answer ≡ []

-- There is no table of that name, or there was no memory; that is the answer.
pub record HasNoVersion (name : List ℕ) (old new : OpenDatabase) : Type 0 where
  pub named : name ≢ []
  pub why : Refusal
  pub none : TellsNothing old.inner.session.catalog name why
  pub answer : new.answer ≡ refusal_text why
