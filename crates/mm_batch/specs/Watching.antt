-- What a stream is answered that is watched.
use Rattle.std.specs.Prelude.{◌≡◌, ◌==◌, ℕ, List, [], ◌∷◌, ◌++◌, Bool, true, false, IsTrue, if◌then◌else◌}
use Rattle.plain_tables.specs.AnswerText.{refusal_text}
use Rattle.plain_tables.specs.Databases.{Database}
use Rattle.plain_tables.specs.Refusals.{number_of}
use Rattle.plain_tables.specs.declared.command.TheConstants.Limits.{STANDARD}
use Rattle.plain_tables.specs.declared.refusal.Refusal.{Refusal}
use Rattle.plain_streams.specs.Requests.{Request}
use Rattle.plain_streams.specs.Division.{Divides}
use Rattle.plain_streams.specs.Runs.{Answers}
use Rattle.mm_session.specs.Each.{AnswersEach, RunWhere}
use Rattle.mm_session.specs.Kept.{Keeps}
use Rattle.mm_session.specs.Refused.{TellsRefusal}
use Rattle.mm_session.specs.Sessions.{State, IsRequests}
use Rattle.mm_session.specs.WholeRuns.{IsFrontOfRun}
use Rattle.mm_batch.specs.declared.watched.Ending.{Ending}
use Rattle.mm_batch.specs.declared.watched.Ending.TheVariants.{Whole, Stopped}
use Rattle.mm_batch.specs.declared.watched.Refused.{Refused}

-- the number of a refusal that is told
abbrev pub told_number : Refused → ℕ
told_number told = told.number

-- The answer is a refusal at whose number the stream is to stop.
abbrev pub IsStop : (ℕ → Bool) → List ℕ → Type 0
IsStop stops answer = (refusal : Refusal) × (answer ≡ refusal_text refusal) × IsTrue (stops (number_of refusal))

-- The answer is none at which the stream is to stop.
abbrev pub GoesOn : (ℕ → Bool) → List ℕ → Type 0
GoesOn stops answer = ¬ (IsStop stops answer)

-- From no tables, these are the answers of the stream, which is finished or not, and at none of them it was to stop.
abbrev pub IsPassed : (ℕ → Bool) → Bool → List ℕ → List ℕ → Type 0
IsPassed stops finished stream answers = (after : Database) × RunWhere (GoesOn stops) STANDARD [] stream finished answers after

-- From no tables, these are the answers of the stream's requests up to and with the first at whose answer it was to stop.
pub record IsStopped (stops : ℕ → Bool) (stream answers : List ℕ) : Type 0 where
  pub finished : Bool
  pub first : List Request
  pub last : Request
  pub others : List Request
  pub requests : IsRequests stream finished (first ++ last ∷ others)
  pub before : List ℕ
  pub between : Database
  pub passed : AnswersEach (GoesOn stops) STANDARD [] first before between
  pub answer : List ℕ
  pub after : Database
  pub answered : Answers STANDARD between last answer after
  pub stop : IsStop stops answer
  pub all : answers ≡ before ++ answer

-- These are the answers of a finished stream that ended so.
abbrev pub IsAnswered : (ℕ → Bool) → Ending → List ℕ → List ℕ → Type 0
IsAnswered stops Whole stream answers = IsPassed stops true stream answers
IsAnswered stops Stopped stream answers = IsStopped stops stream answers

-- ---- inside

-- how a stream goes on at an answer of that number, which is 0 of one that is no refusal
abbrev pub ending_at : (ℕ → Bool) → ℕ → Ending
ending_at stops number = if number == 0 then Whole else (if stops number then Stopped else Whole)

-- The stream goes on so at this answer.
abbrev pub EndsAt : (ℕ → Bool) → List ℕ → Ending → Type 0
EndsAt stops answer ending = (number : ℕ) × TellsRefusal answer number × (ending ≡ ending_at stops number)

-- The session stands behind the stream so far, which had these answers, and at none of them it was to stop.
pub record Stands (stops : ℕ → Bool) (session : State) (stream answers : List ℕ) : Type 0 where
  pub going_on : session.ended ≡ false
  pub limits : session.limits ≡ STANDARD
  pub requests : List Request
  pub rest : List ℕ
  pub divides : Divides stream requests rest
  pub keeps : Keeps STANDARD rest session.kept
  pub passed : AnswersEach (GoesOn stops) STANDARD [] requests answers session.database

-- The stream so far had these answers, and goes on so.
abbrev pub ComesTo : (ℕ → Bool) → Ending → State → List ℕ → List ℕ → Type 0
ComesTo stops Whole session stream answers = Stands stops session stream answers
ComesTo stops Stopped session stream answers = IsStopped stops stream answers

-- Wherever the session stood in a stream, with the piece it comes to that.
abbrev pub TakesPiece : (ℕ → Bool) → Ending → State → State → List ℕ → List ℕ → Type 0
TakesPiece stops ending old new piece gained =
    (stream answers : List ℕ) → Stands stops old stream answers → ComesTo stops ending new (stream ++ piece) (answers ++ gained)

-- Wherever the session stood in a stream, the finished stream has the answers so far and what was gained.
abbrev pub EndsStream : (ℕ → Bool) → Ending → State → List ℕ → Type 0
EndsStream stops ending old gained =
    (stream answers : List ℕ) → Stands stops old stream answers → IsAnswered stops ending stream (answers ++ gained)

-- Wherever the session stood in a stream, the answers so far and what was gained are the front of those of the stream with the piece.
abbrev pub LosesStream : (ℕ → Bool) → State → List ℕ → Bool → List ℕ → Type 0
LosesStream stops old piece finished gained =
    (stream answers : List ℕ) → Stands stops old stream answers → IsFrontOfRun STANDARD [] (stream ++ piece) finished (answers ++ gained)
