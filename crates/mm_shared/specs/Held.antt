-- Held: what a database holds of a session.
use Rattle.std.specs.Prelude.{◌≡◌, Bool, [], refl}
use Rattle.std.specs.Coded.{Coded, code_by, coded×, coded_bool}
use Rattle.mm_session.specs.Sessions.{State, new_session}

-- The session, and whether other databases may hold it too.
pub record Held : Type 0 where
  pub session : State
  pub shared : Bool

abbrev pub held_code : Coded State → Coded Held
held_code session =
    code_by (State × Bool) (coded× session coded_bool) (λ h. (h.session, h.shared)) (λ p. record { session = p.0; shared = p.1 }) (λ _. refl)

-- No transaction is open in the session that is shared, and the one beside it has no tables.
pub record IsBeside (own shared : State) : Type 0 where
  pub closed : shared.saved ≡ []
  pub empty : own ≡ new_session shared.limits [] own.catalog
