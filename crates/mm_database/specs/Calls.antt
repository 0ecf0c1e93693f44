-- What calls do with a database, in the words of the session's calls.
use Rattle.std.specs.Prelude.{◌≡◌, ℕ, List, [], false, IsTrue, None}
use Rattle.plain_streams.specs.Requests.{Request}
use Rattle.mm_session.specs.IndexAnswers.{AnswersIndexes}
use Rattle.mm_session.specs.OneRequest.{AnswersOne, StaysInStream, GoesBetween}
use Rattle.mm_session.specs.Sessions.{Feeds, BreaksOff, new_session}
use Rattle.plain_tables.specs.declared.command.Limits.{Limits}
use Rattle.mm_statements.specs.Databases.{SameStatements, statement_at}
use Rattle.mm_database.specs.declared.database.OpenDatabase.{OpenDatabase}

-- a database with no tables and no statements, under these limits, that shares nothing and to which no call has answered
pub record IsNew (limits : Limits) (d : OpenDatabase) : Type 0 where
  pub session : d.inner.session ≡ new_session limits [] d.inner.session.catalog
  pub none : (number : ℕ) → statement_at d.inner number ≡ None
  pub alone : d.inner.shared ≡ false
  pub answer : d.answer ≡ []
  pub reason : d.reason ≡ []

-- the request of a line and a block
abbrev pub request : List ℕ → List ℕ → Request
request line block = record { line = line; block = block }

-- The answer is empty.
abbrev pub IsSilent : OpenDatabase → Type 0
IsSilent d = d.answer ≡ []

-- What each statement and the line last queried have shown, and the columns last asked for, lie where they lay, and are what they were.
pub record KeepsRows (old new : OpenDatabase) : Type 0 where
  pub shown : new.shown ≡ old.shown
  pub queried : new.queried ≡ old.queried
  pub columns : new.columns ≡ old.columns

-- The session answered the request beside its stream, and the answer is kept.
pub record AnswersRequest (asked : Request) (old new : OpenDatabase) : Type 0 where
  pub answers : AnswersOne old.inner.session.limits old.inner.session.database asked new.answer new.inner.session.database
  pub stays : StaysInStream old.inner.session new.inner.session
  pub between : GoesBetween old.inner.session new.inner.session asked new.answer
  pub shared : new.inner.shared ≡ old.inner.shared
  pub statements : SameStatements old.inner new.inner
  pub rows : KeepsRows old new

-- How the indexes of the table of that name stand is kept as the answer, and nothing else changed.
pub record TellsIndexes (name : List ℕ) (old new : OpenDatabase) : Type 0 where
  pub inner : new.inner ≡ old.inner
  pub answer : AnswersIndexes old.inner.session.catalog name new.answer
  pub rows : KeepsRows old new
  pub reason : new.reason ≡ old.reason

-- The session took the piece, and the answers that it gained are kept.
pub record TakesPiece (piece : List ℕ) (old new : OpenDatabase) : Type 0 where
  pub feeds : Feeds old.inner.session new.inner.session piece new.answer
  pub shared : new.inner.shared ≡ old.inner.shared
  pub statements : SameStatements old.inner new.inner
  pub rows : KeepsRows old new

-- The answers to the piece broke off, what was gained of them is kept, the tables are those of the requests that they answer, and
-- the stream is over.
pub record LosesStream (piece : List ℕ) (old new : OpenDatabase) : Type 0 where
  pub breaks_off : BreaksOff old.inner.session new.inner.session piece false new.answer
  pub over : IsTrue new.inner.session.ended
  pub limits : new.inner.session.limits ≡ old.inner.session.limits
  pub saved : new.inner.session.saved ≡ old.inner.session.saved
  pub shared : new.inner.shared ≡ old.inner.shared
  pub statements : SameStatements old.inner new.inner
  pub rows : KeepsRows old new

-- The session, its statements, all rows and the answers are as they were.
pub record IsAsBefore (old new : OpenDatabase) : Type 0 where
  pub inner : new.inner ≡ old.inner
  pub rows : KeepsRows old new
  pub answer : new.answer ≡ old.answer
