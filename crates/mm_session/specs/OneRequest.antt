-- One request that a session is asked beside its stream.
use Rattle.std.specs.Prelude.{◌≡◌, ℕ, List, [], ◌∷◌, ◌++◌}
use Rattle.std.specs.List.{flat_map}
use Rattle.plain_tables.specs.Databases.{Database}
use Rattle.plain_tables.specs.declared.command.Limits.{Limits}
use Rattle.plain_streams.specs.Requests.{Request}
use Rattle.plain_streams.specs.Division.{IsWhole, Divides, request_bytes}
use Rattle.plain_streams.specs.Runs.{Answers}
use Rattle.mm_session.specs.Sessions.{State, StandsIn}

-- The request is one: a line, and behind it as many bytes as that takes. Asked of the tables before it has this answer, and those
-- are the tables after it.
pub record AnswersOne (limits : Limits) (before : Database) (request : Request) (answer : List ℕ) (after : Database) : Type 0 where
  pub whole : IsWhole request
  pub answers : Answers limits before request answer after

-- Whatever became of its tables and transactions, the session is where it was in its stream: its limits are as before, whether it has
-- ended, and what it keeps of the request that has not.
pub record IsAtSamePlace (old new : State) : Type 0 where
  pub limits : new.limits ≡ old.limits
  pub ended : new.ended ≡ old.ended
  pub kept : new.kept ≡ old.kept

-- Whatever became of its tables, the session is where it was in its stream, and the same transactions are open.
pub record StaysInStream (old new : State) : Type 0 where
  pub limits : new.limits ≡ old.limits
  pub saved : new.saved ≡ old.saved
  pub ended : new.ended ≡ old.ended
  pub kept : new.kept ≡ old.kept

-- In whichever run the session stood, it stands in that run still, with the request behind the whole requests of the stream,
-- before what has not come to its end, and its answer behind the answers.
abbrev pub GoesBetween : State → State → Request → List ℕ → Type 0
GoesBetween old new request answer =
    (from : Database) (stream answers : List ℕ) (requests : List Request) (rest : List ℕ)
    → StandsIn old from stream answers → Divides stream requests rest
    → StandsIn new from (flat_map request_bytes (requests ++ request ∷ []) ++ rest) (answers ++ answer)
