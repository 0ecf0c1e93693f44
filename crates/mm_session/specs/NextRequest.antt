-- The next request of a stream, which a session answers without writing.
use Rattle.std.specs.Prelude.{◌≡◌, ℕ, List, ◌++◌, true, false}
use Rattle.plain_streams.specs.Requests.{Request}
use Rattle.plain_streams.specs.Division.{IsWhole, last_request, request_bytes}
use Rattle.plain_streams.specs.Runs.{Answers, AnswersAll}
use Rattle.mm_session.specs.Kept.{Keeps, nothing}
use Rattle.mm_session.specs.Sessions.{State}

-- With what was kept the bytes are one whole request, and that is its answer. Nothing is kept then.
pub record AnswersNext (old new : State) (bytes answer : List ℕ) : Type 0 where
  pub going_on : new.ended ≡ false
  pub limits : new.limits ≡ old.limits
  pub saved : new.saved ≡ old.saved
  pub kept : new.kept ≡ nothing
  pub answers : (rest : List ℕ) → Keeps old.limits rest old.kept
      → (request : Request) × IsWhole request × (rest ++ bytes ≡ request_bytes request) × Answers old.limits old.database request answer new.database

-- The bytes complete no request, and are kept behind what was kept. Nothing was done.
pub record KeepsMore (old new : State) (bytes : List ℕ) : Type 0 where
  pub going_on : new.ended ≡ false
  pub limits : new.limits ≡ old.limits
  pub saved : new.saved ≡ old.saved
  pub database : new.database ≡ old.database
  pub keeps : (rest : List ℕ) → Keeps old.limits rest old.kept → Keeps old.limits (rest ++ bytes) new.kept

-- The stream has ended. What was kept is its last request, which has that answer; or nothing was kept, and the answer is empty.
abbrev pub AnswersLast : State → State → List ℕ → Type 0
AnswersLast old new answer =
    (rest : List ℕ) → Keeps old.limits rest old.kept → AnswersAll old.limits old.database (last_request true rest) answer new.database
