-- Sharing: what a database has once it shares the tables of another, once it has left them, and why it changes none meanwhile.
use Rattle.std.specs.Prelude.{◌≡◌, ℕ, Bool, List, [], None, IsTrue, false, true}
use Rattle.plain_streams.specs.Requests.{Request, without_return}
use Rattle.mm_session.specs.Reads.{WouldChange}
use Rattle.mm_session.specs.Sessions.{State, new_session}
use Rattle.mm_statements.specs.Databases.{IsUnchanged, SameStatements, statement_at}
use Rattle.mm_statements.specs.Databases as databases
use Rattle.mm_statements.specs.Executing.{IsChangeOf}
use Rattle.mm_statements.specs.Querying.{IsChangeOfLine}
use Rattle.mm_database.specs.Calls.{KeepsRows}
use Rattle.mm_database.specs.declared.database.OpenDatabase.{OpenDatabase}

-- Other databases may have its session too.
abbrev pub IsShared : OpenDatabase → Type 0
IsShared d = IsTrue d.inner.shared

-- Nothing has changed, but that its session may be shared now.
pub record SharesMore (old new : OpenDatabase) : Type 0 where
  pub inner : databases.SharesMore old.inner new.inner
  pub others : new ≡ record old { inner = new.inner }

-- Its session is this one, which it shares or not. Its statements, the values that are bound to them, the answer, the reason and all rows are as they were.
pub record ChangesSession (it : State) (is_shared : Bool) (old new : OpenDatabase) : Type 0 where
  pub session : new.inner.session ≡ it
  pub shared : new.inner.shared ≡ is_shared
  pub statements : SameStatements old.inner new.inner
  pub answer : new.answer ≡ old.answer
  pub reason : new.reason ≡ old.reason
  pub rows : KeepsRows old new

-- It shares the session of the other, and with it the tables.
abbrev pub Shares : OpenDatabase → OpenDatabase → OpenDatabase → Type 0
Shares other old new = ChangesSession other.inner.session true old new

-- It has a session of its own, without tables.
abbrev pub Leaves : OpenDatabase → OpenDatabase → Type 0
Leaves old new = ChangesSession (new_session old.inner.session.limits [] new.inner.session.catalog) false old new

-- It shares the session of the other, and has no statements; no call has answered.
pub record OpensOn (other d : OpenDatabase) : Type 0 where
  pub session : d.inner.session ≡ other.inner.session
  pub shared : d.inner.shared ≡ true
  pub none : (number : ℕ) → statement_at d.inner number ≡ None
  pub answer : d.answer ≡ []
  pub reason : d.reason ≡ []

-- Nothing has changed, but that the answer is empty.
pub record LosesAnswer (old new : OpenDatabase) : Type 0 where
  pub inner : IsUnchanged old.inner new.inner
  pub rows : KeepsRows old new
  pub answer : new.answer ≡ []

-- The session is shared, the statement is an insert, an update or a delete with the values that are bound, and the answer is empty.
pub record IsKeptOff (number : ℕ) (old new : OpenDatabase) : Type 0 where
  pub shared : IsShared old
  pub change : IsChangeOf old.inner number
  pub answer : new.answer ≡ []

-- The session is shared, the line is an insert, an update or a delete, and the answer is empty.
pub record IsLineKeptOff (line : List ℕ) (old new : OpenDatabase) : Type 0 where
  pub shared : IsShared old
  pub change : IsChangeOfLine old.inner.session.database (without_return line)
  pub answer : new.answer ≡ []

-- The session is shared, and the request would change tables.
pub record IsRequestKeptOff (asked : Request) (d : OpenDatabase) : Type 0 where
  pub shared : IsShared d
  pub change : WouldChange d.inner.session.database asked
