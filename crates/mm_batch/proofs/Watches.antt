-- How a stream that is watched goes on, request by request.
use Rattle.std.proofs.Common.{◌≡◌, ℕ, List, [], ◌∷◌, ◌++◌, Bool, true, false, refl, sym, ap, ◌∙◌, subst, append_assoc, append-nil, arith, length, ◌≤◌, Result, Ok, Err, OnErr, IfOk}
use lib.Chars.{codes}
use Rattle.std.specs.Prelude.{◌==◌}
use Rattle.plain_tables.specs.AnswerText.{answer_text, refusal_text}
use Rattle.plain_tables.specs.Databases.{Database}
use Rattle.plain_tables.specs.Effects.{Outcome, Refused}
use Rattle.plain_tables.specs.Refusals.{number_of}
use Rattle.plain_tables.specs.declared.command.Limits.{Limits}
use Rattle.plain_tables.specs.declared.command.TheConstants.Limits.{STANDARD}
use Rattle.plain_tables.specs.declared.refusal.Refusal.{Refusal}
use Rattle.plain_tables.specs.declared.refusal.Refusal.TheVariants.{LineTooLong, NoMemory}
use Rattle.plain_streams.specs.Requests.{Request}
use Rattle.plain_streams.specs.Division.{Divides, last_request}
use Rattle.plain_streams.specs.Runs.{Answers, AnswersAll}
use Rattle.plain_streams.specs.Runs as runs
use Rattle.plain_streams.proofs.Division.{Divides-append, Divides-nil, Divides-unfinished, Divides-whole, every_stream_divides}
use Rattle.mm_session.specs.Each.{AnswersEach}
use Rattle.mm_catalog.specs.State.{CatalogState}
use Rattle.mm_session.specs.Kept.{Keeps}
use Rattle.mm_session.specs.NextRequest.{AnswersLast, AnswersNext, KeepsMore}
use Rattle.mm_session.specs.Refused.{TellsRefusal, refusal_number}
use Rattle.mm_session.specs.Sessions.{State, IsBrokenOff, IsRequests, new_session}
use Rattle.mm_session.specs.WholeRuns.{IsAnsweredSoFar, IsFrontOfRun}
use Rattle.mm_session.proofs.Each.{AnswersEach-all, AnswersEach-append, AnswersEach-one, RunWhere-run}
use Rattle.mm_session.proofs.Kept.{keeps-nothing, keeps-unfinished}
use Rattle.mm_session.proofs.Runs.{broken_goes_on, broken-longer, all-answered, cut_off}
use Rattle.mm_batch.specs.Watching.{EndsAt, GoesOn, IsAnswered, IsPassed, IsStop, IsStopped, LosesStream, Stands, TakesPiece, ending_at}
use Rattle.mm_batch.specs.declared.watched.Ending.{Ending}
use Rattle.mm_batch.specs.declared.watched.Ending.TheVariants.{Whole, Stopped}

pub OnErr-of : {T E : Type 0} (r : Result T E) (P : Type 0) → P → OnErr r P
OnErr-of (Ok x) P p = tt
OnErr-of (Err e) P p = p

pub IfOk-map : {T E : Type 0} (r : Result T E) (P Q : T → Type 0) → ((x : T) → P x → Q x) → IfOk r P → IfOk r Q
IfOk-map (Ok x) P Q f p = f x p
IfOk-map (Err e) P Q f p = tt

module _ (stops : ℕ → Bool) where
  -- ---- what an answer's number says

  number-some : (r : Refusal) → (number_of r == 0) ≡ false
  number-some LineTooLong = refl
  number-some other = refl

  -- An answer at which the stream goes on is none at which it was to stop.
  goes_on : (answer : List ℕ) → EndsAt stops answer Whole → GoesOn stops answer
  goes_on answer (number, tells, is) (r, text, halts) =
      let same : number ≡ number_of r = tells.refused r [] (text ∙ sym (append-nil (refusal_text r))) in
      let ends : ending_at stops (number_of r) ≡ Stopped = rw (number-some r, halts) refl in
      let no : Whole ≡ Stopped = is ∙ ap (ending_at stops) same ∙ ends in
      cc

  ends-some : (number : ℕ) (none halts : Bool) → (number == 0) ≡ none → stops number ≡ halts → Stopped ≡ ending_at stops number
      → (none ≡ false) × (halts ≡ true)
  ends-some number true halts z y is = let no : Stopped ≡ Whole = rw z at is in cc
  ends-some number false true z y is = (refl, refl)
  ends-some number false false z y is = let no : Stopped ≡ Whole = rw (z, y) at is in cc

  outcome-stops : (answer : List ℕ) (number : ℕ) (o : Outcome) → answer ≡ answer_text o → number ≡ refusal_number o → (number == 0) ≡ false
      → stops number ≡ true → IsStop stops answer
  outcome-stops answer number (Refused r) is same some halts = (r, is, subst (λ n. stops n ≡ true) same halts)
  outcome-stops answer number other is same some halts = let no : true ≡ false = rw same at some in cc

  answer-stops : (limits : Limits) (tables : Database) (request : Request) (answer : List ℕ) (after : Database) (number : ℕ)
      → Answers limits tables request answer after → TellsRefusal answer number → (number == 0) ≡ false → stops number ≡ true → IsStop stops answer
  answer-stops limits tables request answer after number (runs.silent readable quiet) tells some halts =
      let none : number ≡ 0 = tells.unrefused (λ words e. cc) in
      let no : true ≡ false = rw none at some in cc
  answer-stops limits tables request answer after number (runs.effect e h) tells some halts =
      outcome-stops (answer_text e.outcome) number e.outcome refl (tells.outcome e.outcome refl) some halts
  answer-stops limits tables request answer after number (runs.no_memory readable heard has) tells some halts =
      outcome-stops (answer_text (Refused NoMemory)) number (Refused NoMemory) refl (tells.outcome (Refused NoMemory) refl) some halts

  -- An answer at which the stream stops is one at which it was to stop.
  stops_at : (limits : Limits) (tables : Database) (request : Request) (answer : List ℕ) (after : Database)
      → Answers limits tables request answer after → EndsAt stops answer Stopped → IsStop stops answer
  stops_at limits tables request answer after answered (number, tells, is) =
      let (some, halts) = ends-some number (number == 0) (stops number) refl refl is in
      answer-stops limits tables request answer after number answered tells some halts

  -- ---- a session in a stream

  pub stands_new : (catalog : CatalogState) → Stands stops (new_session STANDARD [] catalog) [] []
  stands_new catalog = record {
    going_on = refl;
    limits = refl;
    requests = [];
    rest = [];
    divides = Divides-nil;
    keeps = keeps-nothing STANDARD;
    passed = (refl, refl);
  }

  pub passes : (session : State) (stream answers : List ℕ) → Stands stops session stream answers → IsPassed stops false stream answers
  passes session stream answers st = (session.database, (st.requests, st.rest, st.divides, rw append-nil st.passed))

  pub answered_so_far : (session : State) (stream answers : List ℕ) → Stands stops session stream answers → IsAnsweredSoFar stream answers
  answered_so_far session stream answers st =
      let (after, run) = passes session stream answers st in (after, RunWhere-run (GoesOn stops) STANDARD [] stream false answers after run)

  -- bytes that complete no request
  stands_more : (old new : State) (stream answers bytes : List ℕ) → Stands stops old stream answers → KeepsMore old new bytes
      → Stands stops new (stream ++ bytes) answers
  stands_more old new stream answers bytes st more =
      let kept : Keeps STANDARD (st.rest ++ bytes) new.kept = rw st.limits at (more.keeps st.rest (rw st.limits st.keeps)) in
      record {
        going_on = more.going_on;
        limits = more.limits ∙ st.limits;
        requests = st.requests;
        rest = st.rest ++ bytes;
        divides = Divides-unfinished stream bytes st.requests st.rest (keeps-unfinished STANDARD (st.rest ++ bytes) new.kept kept) st.divides;
        keeps = kept;
        passed = rw more.database st.passed;
      }

  -- the request that bytes complete, and its answer
  record Next (old new : State) (stream bytes answer : List ℕ) (requests : List Request) : Type 0 where
    pub request : Request
    pub divides : Divides (stream ++ bytes) (requests ++ request ∷ []) []
    pub answered : Answers STANDARD old.database request answer new.database

  next_of : (old new : State) (stream answers bytes answer : List ℕ) (st : Stands stops old stream answers) → AnswersNext old new bytes answer
      → Next old new stream bytes answer st.requests
  next_of old new stream answers bytes answer st next =
      let (request, whole, joined, answered) = next.answers st.rest (rw st.limits st.keeps) in
      record {
        request = request;
        divides = Divides-whole stream bytes st.requests st.rest request whole joined st.divides;
        answered = rw st.limits at answered;
      }

  -- bytes that complete a request, at whose answer the stream goes on
  stands_next : (old new : State) (stream answers bytes answer : List ℕ) → Stands stops old stream answers
      → AnswersNext old new bytes answer → EndsAt stops answer Whole → Stands stops new (stream ++ bytes) (answers ++ answer)
  stands_next old new stream answers bytes answer st next ends =
      let n = next_of old new stream answers bytes answer st next in
      let passed : GoesOn stops answer = goes_on answer ends in
      record {
        going_on = next.going_on;
        limits = next.limits ∙ st.limits;
        requests = st.requests ++ n.request ∷ [];
        rest = [];
        divides = n.divides;
        keeps = rw next.kept (keeps-nothing STANDARD);
        passed = AnswersEach-append (GoesOn stops) STANDARD [] st.requests (n.request ∷ []) answers answer old.database new.database st.passed
            (AnswersEach-one (GoesOn stops) STANDARD old.database n.request answer new.database n.answered passed);
      }

  -- the requests of a stream that goes on behind one
  goes_behind : (stream bytes behind : List ℕ) (requests : List Request) (request : Request) → Divides (stream ++ bytes) (requests ++ request ∷ []) []
      → (others : List Request) × IsRequests ((stream ++ bytes) ++ behind) false (requests ++ request ∷ others)
  goes_behind stream bytes behind requests request divides =
      let (others, last, further) = every_stream_divides behind in
      let all : List Request = (requests ++ request ∷ []) ++ others in (
        others,
        (
          all,
          last,
          Divides-append (stream ++ bytes) behind (requests ++ request ∷ []) [] others last divides further,
          sym (append-nil all ∙ append_assoc requests (request ∷ []) others),
        ),
      )

  -- and one at whose answer it stops
  stops_behind : (old new : State) (stream answers bytes behind answer : List ℕ) → Stands stops old stream answers
      → AnswersNext old new bytes answer → EndsAt stops answer Stopped → IsStopped stops ((stream ++ bytes) ++ behind) (answers ++ answer)
  stops_behind old new stream answers bytes behind answer st next ends =
      let n = next_of old new stream answers bytes answer st next in
      let (others, are) = goes_behind stream bytes behind st.requests n.request n.divides in
      record {
        finished = false;
        first = st.requests;
        last = n.request;
        others = others;
        requests = are;
        before = answers;
        between = old.database;
        passed = st.passed;
        answer = answer;
        after = new.database;
        answered = n.answered;
        stop = stops_at STANDARD old.database n.request answer new.database n.answered ends;
        all = refl;
      }

  -- ---- writes that failed

  all_before : (session : State) (stream answers : List ℕ) (st : Stands stops session stream answers)
      → AnswersAll STANDARD [] st.requests answers session.database
  all_before session stream answers st = AnswersEach-all (GoesOn stops) STANDARD [] st.requests answers session.database st.passed

  -- the answer to a request was not written whole
  breaks_behind : (old new : State) (stream answers bytes behind answer sent unsent : List ℕ) → Stands stops old stream answers
      → AnswersNext old new bytes answer → answer ≡ sent ++ unsent → IsFrontOfRun STANDARD [] ((stream ++ bytes) ++ behind) false (answers ++ sent)
  breaks_behind old new stream answers bytes behind answer sent unsent st next is =
      let n = next_of old new stream answers bytes answer st next in
      let all : List Request = st.requests ++ n.request ∷ [] in
      broken_goes_on STANDARD [] ((stream ++ bytes) ++ behind) false (answers ++ sent) new.database
      (broken-longer STANDARD [] (stream ++ bytes) behind (answers ++ sent) new.database
      (cut_off STANDARD [] (stream ++ bytes) false st.requests n.request answers sent unsent old.database new.database
      (all, [], n.divides, sym (append-nil all)) (all_before old stream answers st)
      (subst (λ a. Answers STANDARD old.database n.request a new.database) is n.answered)))

  -- all was written, and then it failed
  breaks_whole : (session : State) (stream answers : List ℕ) → Stands stops session stream answers → IsFrontOfRun STANDARD [] stream false answers
  breaks_whole session stream answers st =
      broken_goes_on STANDARD [] stream false answers session.database
      (all-answered STANDARD [] stream false answers session.database (st.requests, st.rest, st.divides, rw append-nil (all_before session stream answers st)))

  -- ---- a piece

  -- What was done of a piece stands behind the stream, with what was gained, and that is left of it.
  pub record Begun (old now : State) (piece rest gained : List ℕ) : Type 0 where
    pub done : List ℕ
    pub is : piece ≡ done ++ rest
    pub stands : (stream answers : List ℕ) → Stands stops old stream answers → Stands stops now (stream ++ done) (answers ++ gained)

  pub begun_new : (session : State) (piece : List ℕ) → Begun session session piece piece []
  begun_new session piece = record { done = []; is = refl; stands = λ stream answers st. rw (append-nil, append-nil) st }

  module _ (old mid new : State) (piece rest gained : List ℕ) (begun : Begun old mid piece rest gained) where
    -- no request ends in what is left
    pub begun_whole : KeepsMore mid new rest → TakesPiece stops Whole old new piece gained
    begun_whole more stream answers st =
        rw (begun.is, ← append_assoc stream begun.done rest)
        (stands_more mid new (stream ++ begun.done) (answers ++ gained) rest (begun.stands stream answers st) more)

    pub begun_failed : KeepsMore mid new rest → LosesStream stops old piece false gained
    begun_failed more stream answers st = breaks_whole new (stream ++ piece) (answers ++ gained) (begun_whole more stream answers st)

    module _ (front others answer : List ℕ) (parts : rest ≡ front ++ others) (next : AnswersNext mid new front answer) where
      whole : (stream : List ℕ) → ((stream ++ begun.done) ++ front) ++ others ≡ stream ++ piece
      whole stream =
          append_assoc (stream ++ begun.done) front others ∙ ap (λ r. (stream ++ begun.done) ++ r) (sym parts)
          ∙ append_assoc stream begun.done rest ∙ ap (λ p. stream ++ p) (sym begun.is)

      pub begun_on : EndsAt stops answer Whole → Begun old new piece others (gained ++ answer)
      begun_on ends = record {
        done = begun.done ++ front;
        is = begun.is ∙ ap (λ r. begun.done ++ r) parts ∙ sym (append_assoc begun.done front others);
        stands = λ stream answers st.
            rw (← append_assoc stream begun.done front, ← append_assoc answers gained answer)
            (stands_next mid new (stream ++ begun.done) (answers ++ gained) front answer (begun.stands stream answers st) next ends);
      }

      pub begun_stopped : EndsAt stops answer Stopped → TakesPiece stops Stopped old new piece (gained ++ answer)
      begun_stopped ends stream answers st =
          rw (← whole stream, ← append_assoc answers gained answer)
          (stops_behind mid new (stream ++ begun.done) (answers ++ gained) front others answer (begun.stands stream answers st) next ends)

      pub begun_breaks : (sent unsent : List ℕ) → answer ≡ sent ++ unsent → LosesStream stops old piece false (gained ++ sent)
      begun_breaks sent unsent is stream answers st =
          rw (← whole stream, ← append_assoc answers gained sent)
          (breaks_behind mid new (stream ++ begun.done) (answers ++ gained) front others answer sent unsent (begun.stands stream answers st) next is)

  -- ---- the end of the stream

  last_all : (old new : State) (stream answers answer : List ℕ) (st : Stands stops old stream answers) → AnswersLast old new answer
      → AnswersAll STANDARD old.database (last_request true st.rest) answer new.database
  last_all old new stream answers answer st last = rw st.limits at (last st.rest (rw st.limits st.keeps))

  last-each : (from : Database) (rest answer : List ℕ) (after : Database) → AnswersAll STANDARD from (last_request true rest) answer after
      → GoesOn stops answer → AnswersEach (GoesOn stops) STANDARD from (last_request true rest) answer after
  last-each from [] answer after all goes = all
  last-each from (b ∷ rest) answer after (first, others, next, here, (none, same), joined) goes =
      let whole : answer ≡ first = joined ∙ ap (λ o. first ++ o) none ∙ append-nil first in
      (first, others, next, here, subst (GoesOn stops) whole goes, (none, same), joined)

  last-stops : (from : Database) (rest answer : List ℕ) (after : Database) → AnswersAll STANDARD from (last_request true rest) answer after
      → EndsAt stops answer Stopped → (request : Request) × (last_request true rest ≡ request ∷ []) × Answers STANDARD from request answer after
  last-stops from [] answer after (empty, same) ends =
      let (number, tells, is) = ends in
      let (some, halts) = ends-some number (number == 0) (stops number) refl refl is in
      let none : number ≡ 0 = tells.unrefused (λ words e. let no : [] ≡ codes "error " ++ words = sym empty ∙ e in cc) in
      let no : true ≡ false = rw none at some in cc
  last-stops from (b ∷ rest) answer after (first, others, next, here, (none, same), joined) ends =
      let whole : answer ≡ first = joined ∙ ap (λ o. first ++ o) none ∙ append-nil first in
      (_, refl, rw (whole, same) here)

  ends_passed : (old new : State) (stream answers answer : List ℕ) → Stands stops old stream answers → AnswersLast old new answer
      → EndsAt stops answer Whole → IsPassed stops true stream (answers ++ answer)
  ends_passed old new stream answers answer st last ends = (
    new.database,
    (
      st.requests,
      st.rest,
      st.divides,
      AnswersEach-append (GoesOn stops) STANDARD [] st.requests (last_request true st.rest) answers answer old.database new.database st.passed
          (last-each old.database st.rest answer new.database (last_all old new stream answers answer st last) (goes_on answer ends)),
    ),
  )

  ends_stopped : (old new : State) (stream answers answer : List ℕ) → Stands stops old stream answers → AnswersLast old new answer
      → EndsAt stops answer Stopped → IsStopped stops stream (answers ++ answer)
  ends_stopped old new stream answers answer st last ends =
      let (request, is, answered) = last-stops old.database st.rest answer new.database (last_all old new stream answers answer st last) ends in
      record {
        finished = true;
        first = st.requests;
        last = request;
        others = [];
        requests = (st.requests, st.rest, st.divides, ap (λ rs. st.requests ++ rs) (sym is));
        before = answers;
        between = old.database;
        passed = st.passed;
        answer = answer;
        after = new.database;
        answered = answered;
        stop = stops_at STANDARD old.database request answer new.database answered ends;
        all = refl;
      }

  pub ends_stream : (ending : Ending) (old new : State) (stream answers answer : List ℕ) → Stands stops old stream answers → AnswersLast old new answer
      → EndsAt stops answer ending → IsAnswered stops ending stream (answers ++ answer)
  ends_stream Whole old new stream answers answer st last ends = ends_passed old new stream answers answer st last ends
  ends_stream Stopped old new stream answers answer st last ends = ends_stopped old new stream answers answer st last ends

  few : (rest : List ℕ) → length (last_request true rest) ≤ 1
  few [] = omega arith
  few (b ∷ rest) = omega arith

  -- the answer to the last request was not written whole
  pub breaks_last : (old new : State) (stream answers answer sent unsent : List ℕ) → Stands stops old stream answers → AnswersLast old new answer
      → answer ≡ sent ++ unsent → IsFrontOfRun STANDARD [] (stream ++ []) true (answers ++ sent)
  breaks_last old new stream answers answer sent unsent st last is =
      let broken : IsBrokenOff STANDARD [] stream true (answers ++ sent) new.database = record {
        first = st.requests;
        cut = last_request true st.rest;
        others = [];
        requests = (st.requests, st.rest, st.divides, ap (λ rs. st.requests ++ rs) (append-nil (last_request true st.rest)));
        one = few st.rest;
        whole = answers;
        sent = sent;
        unsent = unsent;
        between = old.database;
        answered = all_before old stream answers st;
        begun = subst (λ a. AnswersAll STANDARD old.database (last_request true st.rest) a new.database) is (last_all old new stream answers answer st last);
        gained = refl;
      } in
      rw append-nil (broken_goes_on STANDARD [] stream true (answers ++ sent) new.database broken)
