-- Restoring: how a dump is taken in, request by request and piece by piece.
use Rattle.std.proofs.Common.{◌≡◌, ℕ, false, List, [], ◌∷◌, ◌++◌, refl, sym, subst, ◌∙◌, append_assoc, append-nil}
use Rattle.std.specs.List.{flat_map}
use Rattle.plain_tables.specs.Databases.{Database}
use Rattle.plain_tables.specs.Effects.{Refused}
use Rattle.plain_tables.specs.declared.command.Limits.{Limits}
use Rattle.plain_tables.specs.declared.refusal.Refusal.TheVariants.{NoMemory}
use Rattle.plain_streams.specs.Requests.{Request}
use Rattle.plain_streams.specs.Division.{request_bytes}
use Rattle.plain_streams.specs.Runs.{Answers}
use Rattle.plain_streams.specs.Runs as runs
use Rattle.plain_streams.proofs.Division.{Divides-nil, Divides-unfinished, Divides-whole}
use Rattle.mm_catalog.specs.State.{CatalogState}
use Rattle.mm_session.specs.Kept.{Keeps}
use Rattle.mm_session.specs.NextRequest.{AnswersNext, KeepsMore}
use Rattle.mm_session.specs.Refused.{TellsRefusal}
use Rattle.mm_session.specs.Restoring.{AreDone, IsDone, IsRestored, StandsBehind, TakesIn}
use Rattle.mm_session.specs.Restoring as restoring
use Rattle.mm_session.specs.Sessions.{State, new_session}
use Rattle.mm_session.proofs.Kept.{keeps-nothing, keeps-unfinished}

-- a request whose answer tells no refusal was done
pub done_unrefused : (limits : Limits) (tables : Database) (request : Request) (answer : List ℕ) (after : Database) → Answers limits tables request answer after
    → TellsRefusal answer 0 → IsDone limits tables request after
done_unrefused limits tables request answer after (runs.silent readable silent) tells = restoring.silent readable silent
done_unrefused limits tables request answer after (runs.effect e is) tells = restoring.effect e is (sym (tells.outcome e.outcome refl))
done_unrefused limits tables request answer after (runs.no_memory readable heard has) tells = absurd (let told : 0 ≡ 90 = tells.outcome (Refused NoMemory) refl in cc)

-- one more is done
pub done_more : (limits : Limits) (from : Database) (requests : List Request) (request : Request) (between after : Database)
    → AreDone limits from requests between → IsDone limits between request after → AreDone limits from (requests ++ request ∷ []) after
done_more limits from [] request between after same is = (after, subst (λ (d : Database). IsDone limits d request after) same is, refl)
done_more limits from (first ∷ requests) request between after (next, here, rest) is = (next, here, done_more limits next requests request between after rest is)

-- a new session stands behind no bytes
pub stands_new : (limits : Limits) (catalog : CatalogState) → StandsBehind (new_session limits [] catalog) [] []
stands_new limits catalog = record {
  requests = [];
  rest = [];
  divides = Divides-nil;
  keeps = keeps-nothing limits;
  done = refl;
}

pub takes_nothing : (session : State) → session.ended ≡ false → TakesIn session session []
takes_nothing session going_on = record {
  going_on = going_on;
  limits = refl;
  saved = refl;
  stands = λ from stream st. rw append-nil st;
}

pub TakesIn-append : (a b c : State) (x y : List ℕ) → TakesIn a b x → TakesIn b c y → TakesIn a c (x ++ y)
TakesIn-append a b c x y first second = record {
  going_on = second.going_on;
  limits = second.limits ∙ first.limits;
  saved = second.saved ∙ first.saved;
  stands = λ from stream st. rw (← append_assoc stream x y) (second.stands from (stream ++ x) (first.stands from stream st));
}

-- bytes that complete a request, which is not refused
pub takes_request : (old new : State) (bytes answer : List ℕ) → AnswersNext old new bytes answer → TellsRefusal answer 0 → TakesIn old new bytes
takes_request old new bytes answer next tells = record {
  going_on = next.going_on;
  limits = next.limits;
  saved = next.saved;
  stands = λ from stream st.
      let (request, whole, is, answered) = next.answers st.rest st.keeps in
      record {
        requests = st.requests ++ request ∷ [];
        rest = [];
        divides = Divides-whole stream bytes st.requests st.rest request whole is st.divides;
        keeps = rw next.kept (keeps-nothing new.limits);
        done = rw next.limits
            (done_more old.limits from st.requests request old.database new.database st.done
            (done_unrefused old.limits old.database request answer new.database answered tells));
      };
}

-- bytes that complete no request
pub takes_rest : (old new : State) (bytes : List ℕ) → KeepsMore old new bytes → TakesIn old new bytes
takes_rest old new bytes more = record {
  going_on = more.going_on;
  limits = more.limits;
  saved = more.saved;
  stands = λ from stream st.
      let kept = more.keeps st.rest st.keeps in
      record {
        requests = st.requests;
        rest = st.rest ++ bytes;
        divides = Divides-unfinished stream bytes st.requests st.rest (keeps-unfinished old.limits (st.rest ++ bytes) new.kept kept) st.divides;
        keeps = rw more.limits kept;
        done = rw (more.limits, more.database) st.done;
      };
}

-- what stands behind whole requests is restored
pub is_restored : (session : State) → ((rest : List ℕ) → Keeps session.limits rest session.kept → rest ≡ []) → IsRestored session session.database
is_restored session empty stream st =
    (st.requests, rw append-nil at (subst (λ (rest : List ℕ). stream ≡ flat_map request_bytes st.requests ++ rest) (empty st.rest st.keeps) st.divides.whole), st.done)
