-- Restoring: a dump that is taken in, of which no request is refused.
use Rattle.std.specs.Prelude.{◌≡◌, ◌≢◌, ◌||◌, ℕ, Bool, List, [], ◌∷◌, ◌++◌, IsTrue, drop, false, nat_eq}
use Rattle.std.specs.List.{flat_map, starts_with}
use Rattle.plain_tables.specs.Databases.{Database}
use Rattle.plain_tables.specs.Effects.{Effect}
use Rattle.plain_tables.specs.declared.command.Limits.{Limits}
use Rattle.plain_streams.specs.Requests.{IsReadable, Request, is_silent}
use Rattle.plain_streams.specs.Division.{Divides, request_bytes}
use Rattle.plain_streams.specs.Runs.{IsEffect, line_of}
use Rattle.mm_session.specs.Kept.{Keeps}
use Rattle.mm_session.specs.Refused.{TellsRefusal, refusal_number}
use Rattle.mm_session.specs.Saving.{first_line}
use Rattle.mm_session.specs.Sessions.{State}

-- The request is silent, or it is done and not refused. It leads to that database.
pub data IsDone (limits : Limits) (tables : Database) (request : Request) : Database → Type 0 where
  silent : IsReadable (line_of request) → IsTrue (is_silent (line_of request)) → IsDone limits tables request tables
  effect : (e : Effect) → IsEffect limits tables request e → refusal_number e.outcome ≡ 0 → IsDone limits tables request e.database

-- Each request is done by the tables that the one before left, and they lead to that database.
abbrev pub AreDone : Limits → Database → List Request → Database → Type 0
AreDone limits tables [] after = after ≡ tables
AreDone limits tables (request ∷ requests) after = (next : Database) × IsDone limits tables request next × AreDone limits next requests after

-- All requests of a stream were done, from a database on, and led to the session's tables. What has not come to its end is kept.
pub record StandsBehind (session : State) (from : Database) (stream : List ℕ) : Type 0 where
  pub requests : List Request
  pub rest : List ℕ
  pub divides : Divides stream requests rest
  pub keeps : Keeps session.limits rest session.kept
  pub done : AreDone session.limits from requests session.database

-- Behind whatever stream the session stood, it stands behind that and the piece.
pub record TakesIn (old new : State) (piece : List ℕ) : Type 0 where
  pub going_on : new.ended ≡ false
  pub limits : new.limits ≡ old.limits
  pub saved : new.saved ≡ old.saved
  pub stands : (from : Database) (stream : List ℕ) → StandsBehind old from stream → StandsBehind new from (stream ++ piece)

-- Whatever stream the session stands behind, from no tables on, that is requests, which are all done and lead to these tables.
abbrev pub IsRestored : State → Database → Type 0
IsRestored session after =
    (stream : List ℕ) → StandsBehind session [] stream
    → (requests : List Request) × (stream ≡ flat_map request_bytes requests) × AreDone session.limits [] requests after

-- Whether a piece behind so many bytes goes on with the first line of a dump, as far as both reach.
abbrev pub goes_on_first : ℕ → List ℕ → Bool
goes_on_first begun piece = starts_with nat_eq (drop begun first_line) piece || starts_with nat_eq piece (drop begun first_line)

-- The answer tells a refusal.
pub record TellsSome (answer : List ℕ) : Type 0 where
  pub number : ℕ
  pub tells : TellsRefusal answer number
  pub refused : number ≢ 0
