-- What a session is seen as, and what its calls do to the run that it is in.
use Rattle.std.specs.Prelude.{◌≡◌, ℕ, ◌≤◌, List, [], ◌++◌, length, Bool, true, false, Option, refl}
use Rattle.std.specs.Coded.{Coded, code_by, coded×, coded_bool, coded_list, coded_ℕ}
use Rattle.std.specs.Io.KnownBytes.{Appends}
use Rattle.mm_session.specs.Kept.{Keeps, nothing}
use Rattle.mm_session.specs.declared.stream.kept.KeptInput.{KeptInput}
use Rattle.mm_catalog.specs.State.{CatalogState}
use Rattle.plain_tables.specs.Databases.{Database}
use Rattle.plain_tables.specs.Tables.{Table}
use Rattle.plain_tables.specs.Transactions.{Transactional}
use Rattle.plain_tables.specs.declared.command.Limits.{Limits}
use Rattle.plain_tables.specs.declared.schema.Column.{Column}
use Rattle.plain_tables.specs.declared.schema.IndexKind.{IndexKind}
use Rattle.plain_tables.specs.declared.value.Value.{Value}
use Rattle.plain_streams.specs.Requests.{Request}
use Rattle.plain_streams.specs.Division.{Divides, last_request}
use Rattle.plain_streams.specs.Runs.{AnswersAll, RunOf}

-- A session is seen as its limits, its tables, the databases that its open transactions began with, that of the innermost first, the
-- catalog that has the tables, whether it has ended, and what it keeps of the request that has not.
pub record State : Type 0 where
  pub limits : Limits
  pub database : Database
  pub saved : List Database
  pub catalog : CatalogState
  pub ended : Bool
  pub kept : KeptInput

abbrev pub table_code : Coded Column → Coded IndexKind → Coded Value → Coded Table
table_code column kind value =
    code_by (List ℕ × (List Column × (List (ℕ × IndexKind) × List (List Value))))
    (coded× (coded_list coded_ℕ) (coded× (coded_list column) (coded× (coded_list (coded× coded_ℕ kind)) (coded_list (coded_list value)))))
    (λ t. (t.name, (t.columns, (t.indexes, t.rows))))
    (λ p. record { name = p.0; columns = p.1.0; indexes = p.1.1.0; rows = p.1.1.1 }) (λ _. refl)

abbrev pub state_code : Coded Limits → Coded Table → Coded CatalogState → Coded KeptInput → Coded State
state_code limits table catalog kept =
    code_by (Limits × (Database × (List Database × (CatalogState × (Bool × KeptInput)))))
    (coded× limits (coded× (coded_list table) (coded× (coded_list (coded_list table)) (coded× catalog (coded× coded_bool kept)))))
    (λ s. (s.limits, (s.database, (s.saved, (s.catalog, (s.ended, s.kept))))))
    (λ p. record { limits = p.0; database = p.1.0; saved = p.1.1.0; catalog = p.1.1.1.0; ended = p.1.1.1.1.0; kept = p.1.1.1.1.1 }) (λ _. refl)

-- a session's tables, with those that its open transactions began with
abbrev pub tables_of : State → Transactional
tables_of s = record { database = s.database; saved = s.saved }

-- This is kept of the stream: what is kept of the rest that it leaves behind its requests.
abbrev pub KeepsOf : Limits → KeptInput → List ℕ → Type 0
KeepsOf limits kept stream = (requests : List Request) × (rest : List ℕ) × Divides stream requests rest × Keeps limits rest kept

-- The session stands in a run: from that database the stream had these answers so far.
pub record StandsIn (session : State) (from : Database) (stream answers : List ℕ) : Type 0 where
  pub keeps : KeepsOf session.limits session.kept stream
  pub run : RunOf session.limits from stream false answers session.database

-- the writer, whose bytes are known or not, gained some bytes of which that holds
abbrev pub Gains : Option (List ℕ) → Option (List ℕ) → (List ℕ → Type 0) → Type 0
Gains before after says = (gained : List ℕ) × Appends before after gained × says gained

-- In whichever run the session stood, it stands in that run still, with the piece behind the stream and what was
-- gained behind the answers. The open transactions are as before.
pub record Feeds (old new : State) (piece gained : List ℕ) : Type 0 where
  pub going_on : new.ended ≡ false
  pub limits : new.limits ≡ old.limits
  pub saved : new.saved ≡ old.saved
  pub run : (from : Database) (stream answers : List ℕ) → StandsIn old from stream answers
      → StandsIn new from (stream ++ piece) (answers ++ gained)

-- in whichever run the session stood, the finished stream has the answers so far and what was gained, and leaves the session's
-- tables
abbrev pub Finishes : State → State → List ℕ → Type 0
Finishes old new gained =
    (from : Database) (stream answers : List ℕ) → StandsIn old from stream answers
    → RunOf old.limits from stream true (answers ++ gained) new.database

-- the stream, which is finished or not, is these requests
abbrev pub IsRequests : List ℕ → Bool → List Request → Type 0
IsRequests stream finished all =
    (requests : List Request) × (rest : List ℕ) × Divides stream requests rest × (all ≡ requests ++ last_request finished rest)

-- Of the stream some first requests were answered, and one more at most, of whose answer a front is there. The bytes are that,
-- and the tables are those that these requests leave.
pub record IsBrokenOff (limits : Limits) (from : Database) (stream : List ℕ) (finished : Bool) (bytes : List ℕ) (after : Database) : Type 0 where
  pub first : List Request
  pub cut : List Request
  pub others : List Request
  pub requests : IsRequests stream finished (first ++ (cut ++ others))
  pub one : length cut ≤ 1
  pub whole : List ℕ
  pub sent : List ℕ
  pub unsent : List ℕ
  pub between : Database
  pub answered : AnswersAll limits from first whole between
  pub begun : AnswersAll limits between cut (sent ++ unsent) after
  pub gained : bytes ≡ whole ++ sent

-- in whichever run the session stood, the stream with the piece behind it broke off at the answers so far and what was gained, and
-- at the session's tables
abbrev pub BreaksOff : State → State → List ℕ → Bool → List ℕ → Type 0
BreaksOff old new piece finished gained =
    (from : Database) (stream answers : List ℕ) → StandsIn old from stream answers
    → IsBrokenOff old.limits from (stream ++ piece) finished (answers ++ gained) new.database

-- a session over these tables, which a catalog has, that has been fed nothing, and in which no transaction is open
abbrev pub new_session : Limits → Database → CatalogState → State
new_session limits tables catalog = record { limits = limits; database = tables; saved = []; catalog = catalog; ended = false; kept = nothing }
