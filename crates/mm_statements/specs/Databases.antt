-- What a database with statements is seen as.
use Rattle.std.specs.Prelude.{◌≡◌, ◌≢◌, ℕ, Bool, List, Option, None, IsTrue, refl, slice_index_or, true}
use Rattle.std.specs.Coded.{Coded, code_by, coded×, coded_bool, coded_list, coded_option, coded_ℕ}
use Rattle.plain_tables.specs.declared.value.Value.{Value}
use Rattle.mm_prepared.specs.Kept.{KeptStatement}
use Rattle.mm_session.specs.OneRequest.{StaysInStream}
use Rattle.mm_session.specs.Sessions.{State}

-- A database is seen as its session, whether other databases may share that, and the statements by their numbers.
pub record DatabaseState : Type 0 where
  pub session : State
  pub shared : Bool
  pub statements : List (Option KeptStatement)

abbrev pub kept_code : Coded Value → Coded KeptStatement
kept_code value =
    code_by (List ℕ × List Value) (coded× (coded_list coded_ℕ) (coded_list value)) (λ k. (k.line, k.values))
    (λ p. record { line = p.0; values = p.1 }) (λ _. refl)

abbrev pub database_code : Coded State → Coded Value → Coded DatabaseState
database_code session value =
    code_by (State × (Bool × List (Option KeptStatement))) (coded× session (coded× coded_bool (coded_list (coded_option (kept_code value)))))
    (λ d. (d.session, (d.shared, d.statements))) (λ p. record { session = p.0; shared = p.1.0; statements = p.1.1 }) (λ _. refl)

-- the statement that a number names
abbrev pub statement_at : DatabaseState → ℕ → Option KeptStatement
statement_at database number = slice_index_or database.statements number None

-- every number names what it named
abbrev pub SameStatements : DatabaseState → DatabaseState → Type 0
SameStatements old new = (number : ℕ) → statement_at new number ≡ statement_at old number

-- the number names this, and every other what it named
pub record NowNames (old new : DatabaseState) (number : ℕ) (what : Option KeptStatement) : Type 0 where
  pub own : statement_at new number ≡ what
  pub others : (other : ℕ) → other ≢ number → statement_at new other ≡ statement_at old other

-- nothing has changed
pub record IsUnchanged (old new : DatabaseState) : Type 0 where
  pub session : new.session ≡ old.session
  pub shared : new.shared ≡ old.shared
  pub statements : SameStatements old new

-- Nothing has changed, but that the session may be shared now.
pub record SharesMore (old new : DatabaseState) : Type 0 where
  pub same : new ≡ record old { shared = new.shared }
  pub stays : IsTrue old.shared → new.shared ≡ true

-- The tables are as before, and the session is where it was, though what it keeps of them may stand elsewhere. The statements stay. It
-- shares its session with no more databases than before.
pub record KeepsTables (old new : DatabaseState) : Type 0 where
  pub database : new.session.database ≡ old.session.database
  pub stream : StaysInStream old.session new.session
  pub shared : IsTrue new.shared → IsTrue old.shared
  pub statements : SameStatements old new
