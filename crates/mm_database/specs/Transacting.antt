-- Transacting: what a database has once a transaction began or ended.
use Rattle.std.specs.Prelude.{◌≡◌, ◌≢◌, [], false}
use Rattle.plain_tables.specs.Transactions.{Transactional}
use Rattle.mm_session.specs.OneRequest.{IsAtSamePlace}
use Rattle.mm_session.specs.Sessions.{tables_of}
use Rattle.mm_statements.specs.Databases.{SameStatements}
use Rattle.mm_database.specs.Calls.{KeepsRows}
use Rattle.mm_database.specs.declared.database.OpenDatabase.{OpenDatabase}

-- a transaction of the database is open
abbrev pub IsInTransaction : OpenDatabase → Type 0
IsInTransaction d = d.inner.session.saved ≢ []

-- none is
abbrev pub IsOutside : OpenDatabase → Type 0
IsOutside d = d.inner.session.saved ≡ []

-- That became of the tables, which no other database shares, and of what its transactions began with. The stream is where it was, and the statements, the values that
-- are bound to them, the answer, the reason and all rows are as they were.
pub record Steps (step : Transactional → Transactional) (old new : OpenDatabase) : Type 0 where
  pub tables : tables_of new.inner.session ≡ step (tables_of old.inner.session)
  pub alone : new.inner.shared ≡ false
  pub stream : IsAtSamePlace old.inner.session new.inner.session
  pub statements : SameStatements old.inner new.inner
  pub answer : new.answer ≡ old.answer
  pub reason : new.reason ≡ old.reason
  pub rows : KeepsRows old new
