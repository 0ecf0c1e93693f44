-- Cloning: what a copy of a database has.
use Rattle.std.specs.Prelude.{◌≡◌, ℕ, [], None, false}
use Rattle.mm_session.specs.Sessions.{new_session}
use Rattle.mm_statements.specs.Databases.{statement_at}
use Rattle.mm_database.specs.declared.database.OpenDatabase.{OpenDatabase}

-- It has the tables of the other in a session of its own, and no statements; no call has answered.
pub record IsCopyOf (other d : OpenDatabase) : Type 0 where
  pub session : d.inner.session ≡ new_session other.inner.session.limits other.inner.session.database d.inner.session.catalog
  pub catalog : d.inner.session.catalog ≡ other.inner.session.catalog
  pub alone : d.inner.shared ≡ false
  pub none : (number : ℕ) → statement_at d.inner number ≡ None
  pub answer : d.answer ≡ []
  pub reason : d.reason ≡ []
