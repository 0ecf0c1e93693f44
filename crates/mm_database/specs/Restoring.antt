-- Restoring: what a restore has at its start, and what the database has that it makes.
use Rattle.std.specs.Prelude.{◌≡◌, ◌+◌, ◌-◌, ◌^◌, ℕ, List, [], None, false, length, min}
use Rattle.mm_session.specs.Restoring.{IsRestored, StandsBehind, TakesIn}
use Rattle.mm_statements.specs.Databases.{statement_at}
use Rattle.plain_tables.specs.declared.command.Limits.{Limits}
use Rattle.mm_database.specs.declared.database.OpenDatabase.{OpenDatabase}
use Rattle.mm_database.specs.declared.restoring.OpenRestore.{OpenRestore}

-- Nothing of a dump has come, which is to be restored under these limits.
pub record IsAtStart (limits : Limits) (restore : OpenRestore) : Type 0 where
  pub behind : StandsBehind restore.inner.session [] []
  pub under : restore.inner.session.limits ≡ limits
  pub outside : restore.inner.session.saved ≡ []
  pub begun : restore.inner.begun ≡ 0
  pub good : restore.inner.failed ≡ false

-- It took in a piece, of whose bytes it keeps count up to the greatest number of 64 bits, and takes in more.
pub record TakesPiece (piece : List ℕ) (old new : OpenRestore) : Type 0 where
  pub taken : TakesIn old.inner.session new.inner.session piece
  pub counted : new.inner.begun ≡ min (old.inner.begun + length piece) (2 ^ 64 - 1)
  pub good : new.inner.failed ≡ false

-- The database has the tables that the requests of the dump made, none of which was refused. It has no statements and shares nothing, and
-- no call has answered.
pub record IsRestoredOf (restore : OpenRestore) (d : OpenDatabase) : Type 0 where
  pub session : d.inner.session ≡ restore.inner.session
  pub restored : IsRestored restore.inner.session d.inner.session.database
  pub none : (number : ℕ) → statement_at d.inner number ≡ None
  pub alone : d.inner.shared ≡ false
  pub answer : d.answer ≡ []
  pub reason : d.reason ≡ []
