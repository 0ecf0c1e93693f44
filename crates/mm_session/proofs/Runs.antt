-- How runs go on: request by request, piece by piece, and past a write that failed.
use Rattle.std.proofs.Common.{◌≡◌, ◌≢◌, ℕ, ◌≤◌, Bool, true, false, List, [], ◌∷◌, ◌++◌, length, refl, ap, sym, subst, ◌∙◌, append_assoc, append-nil, inl, inr, arith}
use mathlib.Core.Bool.{false≢true}
use Rattle.std.specs.List.{AllByRecursion}
use Rattle.std.specs.Str.{IsUtf8, is_utf8}
use Rattle.std.proofs.lemmas.Str.{IsUtf8-from_is_utf8, is_utf8-from_IsUtf8}
use Rattle.std.proofs.lemmas.Bool.{cases_lt}
use Rattle.plain_tables.specs.Databases.{Database}
use Rattle.plain_tables.specs.Effects.{refused}
use Rattle.plain_tables.specs.declared.command.Limits.{Limits}
use Rattle.plain_tables.specs.declared.refusal.Refusal.TheVariants.{LineTooLong, NotUtf8, BlockTooLong, BlockCutShort}
use Rattle.plain_streams.specs.Requests.{Request, Asks, is_silent}
use Rattle.plain_streams.specs.Requests as requests
use Rattle.plain_streams.specs.Division.{IsWhole, IsUnfinished, in_line, in_block, Divides, request_bytes, request_of, last_request}
use Rattle.plain_streams.specs.Runs.{Answers, AnswersAll, RunOf, HasBlock, line_of}
use Rattle.plain_streams.specs.Runs as runs
use Rattle.plain_streams.proofs.Asking.{asks_or_not, asks_one, takes_one}
use Rattle.plain_streams.proofs.Division.{Divides-append, Divides-unfinished, Divides-whole, Divides-nil, divides_in_one_way, every_stream_divides, request_of-line, request_of-bytes}
use Rattle.plain_streams.proofs.RunSteps.{AnswersAll-append}
use Rattle.mm_catalog.specs.State.{CatalogState}
use Rattle.mm_session.specs.Kept.{Keeps, nothing, is_nothing}
use Rattle.mm_session.specs.Sessions.{State, StandsIn, Feeds, Finishes, IsRequests, IsBrokenOff, BreaksOff, new_session}
use Rattle.mm_session.specs.WholeRuns.{IsFrontOfRun}
use Rattle.mm_session.proofs.Asks.{has_block-asked, has_block-unasked}
use Rattle.mm_session.proofs.Kept.{keeps-unfinished, keeps-nothing, nothing-kept, something-kept}

-- ---- answers to requests

pub AnswersAll-one : (limits : Limits) (from : Database) (request : Request) (answer : List ℕ) (to : Database)
    → Answers limits from request answer to → AnswersAll limits from (request ∷ []) answer to
AnswersAll-one limits from request answer to here = (answer, [], to, here, (refl, refl), sym (append-nil answer))

-- a request whose block is no longer than its line asks for
abbrev Fits : Request → Type 0
Fits request = (n : ℕ) → Asks request.line n → length request.block ≤ n

abbrev HasAnswer : Limits → Database → Request → Type 0
HasAnswer limits tables request = (a : List ℕ) × (d : Database) × Answers limits tables request a d

-- such a request may be answered
answer_of : (limits : Limits) (tables : Database) (request : Request) → Fits request → HasAnswer limits tables request
answer_of limits tables request fits = elim (cases_lt 8192 (length (line_of request))) [
  | inl long ↦ (_, _, runs.effect (refused tables LineTooLong) (runs.too_long long))
  | inr short ↦ by_utf8 short (is_utf8 (line_of request)) refl
] where
  with_block : (short : length (line_of request) ≤ 8192) → IsUtf8 (line_of request) → is_silent (line_of request) ≡ false → HasBlock limits request → HasAnswer limits tables request
  with_block short utf8 heard has = (_, tables, runs.no_memory (record { short = short; utf8 = utf8 }) heard has)

  asked : (short : length (line_of request) ≤ 8192) → IsUtf8 (line_of request) → is_silent (line_of request) ≡ false → (n : ℕ) → Asks request.line n → HasAnswer limits tables request
  asked short utf8 heard n asks = elim (cases_lt limits.block n) [
    | inl long ↦ (_, _, runs.effect (refused tables BlockTooLong) (runs.block_too_long n asks long))
    | inr within ↦ elim (cases_lt (length request.block) n) [
      | inl cut ↦ (_, _, runs.effect (refused tables BlockCutShort) (runs.block_cut_short n asks within cut))
      | inr all ↦ let most = fits n asks in with_block short utf8 heard (has_block-asked limits request n asks within (omega arith))
    ]
  ]

  heard_or_not : (short : length (line_of request) ≤ 8192) → IsUtf8 (line_of request) → (b : Bool) → is_silent (line_of request) ≡ b → HasAnswer limits tables request
  heard_or_not short utf8 true says = ([], tables, runs.silent (record { short = short; utf8 = utf8 }) says)
  heard_or_not short utf8 false says = elim (asks_or_not request.line) [
    | inl (n, asks) ↦ asked short utf8 says n asks
    | inr none ↦ with_block short utf8 says (has_block-unasked limits request none)
  ]

  by_utf8 : (short : length (line_of request) ≤ 8192) → (b : Bool) → is_utf8 (line_of request) ≡ b → HasAnswer limits tables request
  by_utf8 short true says = heard_or_not short (IsUtf8-from_is_utf8 (line_of request) says) (is_silent (line_of request)) refl
  by_utf8 short false says =
      (_, _, runs.effect (refused tables NotUtf8) (runs.not_utf8 short (λ u. false≢true (sym says ∙ is_utf8-from_IsUtf8 (line_of request) u))))

answers_of : (limits : Limits) (tables : Database) (requests : List Request) → AllByRecursion Fits requests
    → (a : List ℕ) × (d : Database) × AnswersAll limits tables requests a d
answers_of limits tables [] fit = ([], tables, (refl, refl))
answers_of limits tables (request ∷ requests) fit =
    let (first, next, here) = answer_of limits tables request fit.0 in
    let (others, to, rest) = answers_of limits next requests fit.1 in
    (first ++ others, to, (first, others, next, here, rest, refl))

-- the requests of a stream fit, and its last one does

whole-fits : (request : Request) → IsWhole request → Fits request
whole-fits request whole n asks =
    let same : length request.block ≡ n = takes_one request.line (length request.block) n whole.block (requests.asked n asks) in omega arith

last-fits : (rest : List ℕ) → IsUnfinished rest → Fits (request_of rest)
last-fits rest (in_line unbroken) = subst Fits (sym (request_of-line rest unbroken)) (λ n asks. omega arith)
last-fits rest (in_block request n unbroken asks cut is) =
    let same : request_of rest ≡ request = ap request_of is ∙ request_of-bytes request unbroken in
    subst Fits (sym same) (λ m also. let one : n ≡ m = asks_one request.line n m asks also in omega arith)

all-fit : (requests : List Request) (finished : Bool) (rest : List ℕ) → AllByRecursion IsWhole requests → IsUnfinished rest
    → AllByRecursion Fits (requests ++ last_request finished rest)
all-fit [] false rest each unfinished = tt
all-fit [] true [] each unfinished = tt
all-fit [] true (b ∷ rest) each unfinished = (last-fits (b ∷ rest) unfinished, tt)
all-fit (request ∷ requests) finished rest each unfinished = (whole-fits request each.0, all-fit requests finished rest each.1 unfinished)

-- ---- runs

-- what fits behind some requests
fit-behind : (first others : List Request) → AllByRecursion Fits (first ++ others) → AllByRecursion Fits others
fit-behind [] others fit = fit
fit-behind (request ∷ first) others fit = fit-behind first others fit.1

-- A run that broke off may go on to the end of the stream.
pub broken_goes_on : (limits : Limits) (from : Database) (stream : List ℕ) (finished : Bool) (bytes : List ℕ) (after : Database)
    → IsBrokenOff limits from stream finished bytes after → IsFrontOfRun limits from stream finished bytes
broken_goes_on limits from stream finished bytes after broken =
    let (requests, rest, divides, are) = broken.requests in
    let fit : AllByRecursion Fits (broken.first ++ (broken.cut ++ broken.others)) =
    subst (AllByRecursion Fits) (sym are) (all-fit requests finished rest divides.each divides.unfinished) in
    let (b, to, then) = answers_of limits after broken.others (fit-behind broken.cut broken.others (fit-behind broken.first (broken.cut ++ broken.others) fit)) in
    let last = AnswersAll-append limits broken.between broken.cut broken.others (broken.sent ++ broken.unsent) b after to broken.begun then in
    let all = AnswersAll-append limits from broken.first (broken.cut ++ broken.others) broken.whole ((broken.sent ++ broken.unsent) ++ b) broken.between to broken.answered last in
    let behind : List ℕ = broken.unsent ++ b in (
      broken.whole ++ ((broken.sent ++ broken.unsent) ++ b),
      to,
      (requests, rest, divides, subst (λ rs. AnswersAll limits from rs (broken.whole ++ ((broken.sent ++ broken.unsent) ++ b)) to) are all),
      (
        behind,
        ap (λ t. broken.whole ++ t) (append_assoc broken.sent broken.unsent b) ∙ sym (append_assoc broken.whole broken.sent behind)
            ∙ ap (λ t. t ++ behind) (sym broken.gained),
      ),
    )

-- However the stream goes on, it broke off there.
pub broken-longer : (limits : Limits) (from : Database) (stream more bytes : List ℕ) (after : Database)
    → IsBrokenOff limits from stream false bytes after → IsBrokenOff limits from (stream ++ more) false bytes after
broken-longer limits from stream more bytes after broken =
    let (requests, rest, divides, are) = broken.requests in
    let (further, last, divided) = every_stream_divides (rest ++ more) in
    record {
      first = broken.first;
      cut = broken.cut;
      others = broken.others ++ further;
      requests = (
        requests ++ further,
        last,
        Divides-append stream more requests rest further last divides divided,
        longer requests further are,
      );
      one = broken.one;
      whole = broken.whole;
      sent = broken.sent;
      unsent = broken.unsent;
      between = broken.between;
      answered = broken.answered;
      begun = broken.begun;
      gained = broken.gained;
    }
  where
    longer : (requests further : List Request) → broken.first ++ (broken.cut ++ broken.others) ≡ requests ++ []
        → broken.first ++ (broken.cut ++ (broken.others ++ further)) ≡ (requests ++ further) ++ []
    longer requests further are =
        ap (λ rs. broken.first ++ rs) (sym (append_assoc broken.cut broken.others further))
        ∙ sym (append_assoc broken.first (broken.cut ++ broken.others) further)
        ∙ ap (λ rs. rs ++ further) (are ∙ append-nil requests)
        ∙ sym (append-nil (requests ++ further))

-- ---- a session in a run

-- the requests and the rest of the stream, with what the session has of both
pub record Standing (session : State) (from : Database) (stream answers : List ℕ) : Type 0 where
  pub requests : List Request
  pub rest : List ℕ
  pub divides : Divides stream requests rest
  pub keeps : Keeps session.limits rest session.kept
  pub answered : AnswersAll session.limits from requests answers session.database

pub standing : (session : State) (from : Database) (stream answers : List ℕ) → StandsIn session from stream answers → Standing session from stream answers
standing session from stream answers stands =
    let (requests, rest, divides, keeps) = stands.keeps in
    let (others, last, divided, all) = stands.run in
    let same : others ≡ requests = (divides_in_one_way stream others last requests rest divided divides).0 in
    record {
      requests = requests;
      rest = rest;
      divides = divides;
      keeps = keeps;
      answered = subst (λ rs. AnswersAll session.limits from rs answers session.database) same (rw append-nil at all);
    }

pub stands : (session : State) (from : Database) (stream answers : List ℕ) (requests : List Request) (rest : List ℕ) → Divides stream requests rest
    → Keeps session.limits rest session.kept → AnswersAll session.limits from requests answers session.database → StandsIn session from stream answers
stands session from stream answers requests rest divides keeps all = record {
  keeps = (requests, rest, divides, keeps);
  run = (requests, rest, divides, rw append-nil all);
}

-- ---- pieces

pub feeds_nothing : (session : State) → session.ended ≡ false → Feeds session session [] []
feeds_nothing session going_on = record {
  going_on = going_on;
  limits = refl;
  saved = refl;
  run = λ from stream answers st. rw (append-nil, append-nil) st;
}

pub Feeds-append : (a b c : State) (x y g h : List ℕ) → Feeds a b x g → Feeds b c y h → Feeds a c (x ++ y) (g ++ h)
Feeds-append a b c x y g h first second = record {
  going_on = second.going_on;
  limits = second.limits ∙ first.limits;
  saved = second.saved ∙ first.saved;
  run = λ from stream answers st.
      rw (← append_assoc stream x y, ← append_assoc answers g h) (second.run from (stream ++ x) (answers ++ g) (first.run from stream answers st));
}

-- bytes that complete a request, with its answer
pub feeds_request : (old new : State) (bytes answer : List ℕ)
    → ((rest : List ℕ) → Keeps old.limits rest old.kept → (request : Request) × IsWhole request × (rest ++ bytes ≡ request_bytes request) × Answers old.limits old.database request answer new.database)
    → new.kept ≡ nothing → new.ended ≡ false → new.limits ≡ old.limits → new.saved ≡ old.saved → Feeds old new bytes answer
feeds_request old new bytes answer completes kept going_on limits saved = record {
  going_on = going_on;
  limits = limits;
  saved = saved;
  run = λ from stream answers st.
      let s = standing old from stream answers st in
      let (request, whole, is, answered) = completes s.rest s.keeps in
      stands new from (stream ++ bytes) (answers ++ answer) (s.requests ++ request ∷ []) []
      (Divides-whole stream bytes s.requests s.rest request whole is s.divides) (rw kept (keeps-nothing new.limits))
      (rw limits (AnswersAll-append old.limits from s.requests (request ∷ []) answers answer old.database new.database s.answered
      (AnswersAll-one old.limits old.database request answer new.database answered)));
}

-- bytes that complete no request
pub feeds_rest : (old new : State) (bytes : List ℕ) → ((rest : List ℕ) → Keeps old.limits rest old.kept → Keeps old.limits (rest ++ bytes) new.kept)
    → new.database ≡ old.database → new.ended ≡ false → new.limits ≡ old.limits → new.saved ≡ old.saved → Feeds old new bytes []
feeds_rest old new bytes keeps database going_on limits saved = record {
  going_on = going_on;
  limits = limits;
  saved = saved;
  run = λ from stream answers st.
      let s = standing old from stream answers st in
      let kept = keeps s.rest s.keeps in
      stands new from (stream ++ bytes) (answers ++ []) s.requests (s.rest ++ bytes)
      (Divides-unfinished stream bytes s.requests s.rest (keeps-unfinished old.limits (s.rest ++ bytes) new.kept kept) s.divides)
      (rw limits kept) (rw (limits, database, append-nil) s.answered);
}

-- ---- writes that failed

-- all requests of a stream were answered, and no other
pub all-answered : (limits : Limits) (from : Database) (stream : List ℕ) (finished : Bool) (bytes : List ℕ) (after : Database)
    → RunOf limits from stream finished bytes after → IsBrokenOff limits from stream finished bytes after
all-answered limits from stream finished bytes after (requests, rest, divides, all) = record {
  first = requests ++ last_request finished rest;
  cut = [];
  others = [];
  requests = (requests, rest, divides, append-nil (requests ++ last_request finished rest));
  one = omega arith;
  whole = bytes;
  sent = [];
  unsent = [];
  between = after;
  answered = all;
  begun = (refl, refl);
  gained = sym (append-nil bytes);
}

-- the last request of a stream was cut off
pub cut_off : (limits : Limits) (from : Database) (stream : List ℕ) (finished : Bool) (requests : List Request) (request : Request)
    (answers sent unsent : List ℕ) (between after : Database) → IsRequests stream finished (requests ++ request ∷ [])
    → AnswersAll limits from requests answers between → Answers limits between request (sent ++ unsent) after
    → IsBrokenOff limits from stream finished (answers ++ sent) after
cut_off limits from stream finished requests request answers sent unsent between after are all answered = record {
  first = requests;
  cut = request ∷ [];
  others = [];
  requests = are;
  one = omega arith;
  whole = answers;
  sent = sent;
  unsent = unsent;
  between = between;
  answered = all;
  begun = AnswersAll-one limits between request (sent ++ unsent) after answered;
  gained = refl;
}

-- all was written, and then it failed
pub breaks_off : (old new : State) (piece gained : List ℕ) → Feeds old new piece gained → BreaksOff old new piece false gained
breaks_off old new piece gained feeds from stream answers st =
    all-answered old.limits from (stream ++ piece) false (answers ++ gained) new.database (rw feeds.limits at (feeds.run from stream answers st).run)

-- bytes that complete a request, whose answer was not written whole
pub breaks_off_request : (old new : State) (bytes answer sent unsent : List ℕ)
    → ((rest : List ℕ) → Keeps old.limits rest old.kept → (request : Request) × IsWhole request × (rest ++ bytes ≡ request_bytes request) × Answers old.limits old.database request answer new.database)
    → answer ≡ sent ++ unsent → BreaksOff old new bytes false sent
breaks_off_request old new bytes answer sent unsent completes is from stream answers st =
    let s = standing old from stream answers st in
    let (request, whole, joined, answered) = completes s.rest s.keeps in
    let all : List Request = s.requests ++ request ∷ [] in
    cut_off old.limits from (stream ++ bytes) false s.requests request answers sent unsent old.database new.database
    (all, [], Divides-whole stream bytes s.requests s.rest request whole joined s.divides, sym (append-nil all))
    s.answered (subst (λ a. Answers old.limits old.database request a new.database) is answered)

pub breaks_off_later : (a b c : State) (x y more g h : List ℕ) → Feeds a b x g → BreaksOff b c y false h → BreaksOff a c (x ++ (y ++ more)) false (g ++ h)
breaks_off_later a b c x y more g h feeds breaks from stream answers st =
    let front = breaks from (stream ++ x) (answers ++ g) (feeds.run from stream answers st) in
    rw (← append_assoc stream x (y ++ more), ← append_assoc (stream ++ x) y more, ← append_assoc answers g h)
    (broken-longer a.limits from ((stream ++ x) ++ y) more ((answers ++ g) ++ h) c.database (rw feeds.limits at front))

-- ---- the end of the stream

pub finishes_nothing : (old new : State) → is_nothing old.kept ≡ true → new.database ≡ old.database → Finishes old new []
finishes_nothing old new h same from stream answers st =
    let t = standing old from stream answers st in
    let none : [] ≡ t.rest = nothing-kept old.limits t.rest old.kept h t.keeps in (
      t.requests,
      t.rest,
      t.divides,
      rw same (subst (λ r. AnswersAll old.limits from (t.requests ++ last_request true r) (answers ++ []) old.database) none (rw (append-nil, append-nil) t.answered)),
    )

last-some : (rest : List ℕ) → rest ≢ [] → last_request true rest ≡ request_of rest ∷ []
last-some [] some = absurd (some refl)
last-some (b ∷ rest) some = refl

-- Whatever the rest is, if it isn't empty, that answers the request that begins with it.
abbrev AnswersRest : State → State → List ℕ → Type 0
AnswersRest old new answer = (rest : List ℕ) → Keeps old.limits rest old.kept → rest ≢ [] → Answers old.limits old.database (request_of rest) answer new.database

pub finishes_last : (old new : State) (answer : List ℕ) → is_nothing old.kept ≡ false → AnswersRest old new answer → Finishes old new answer
finishes_last old new answer h answered from stream answers st =
    let t = standing old from stream answers st in
    let some = something-kept old.limits t.rest old.kept h t.keeps in (
      t.requests,
      t.rest,
      t.divides,
      rw (last-some t.rest some) (AnswersAll-append old.limits from t.requests (request_of t.rest ∷ []) answers answer old.database new.database t.answered
          (AnswersAll-one old.limits old.database (request_of t.rest) answer new.database (answered t.rest t.keeps some))),
    )

-- The answer to the last request was not written whole.
pub breaks_off_last : (old new : State) (answer sent unsent : List ℕ) → is_nothing old.kept ≡ false → AnswersRest old new answer
    → answer ≡ sent ++ unsent → BreaksOff old new [] true sent
breaks_off_last old new answer sent unsent h answered is from stream answers st =
    let t = standing old from stream answers st in
    let some = something-kept old.limits t.rest old.kept h t.keeps in
    rw append-nil (cut_off old.limits from stream true t.requests (request_of t.rest) answers sent unsent old.database new.database
    (t.requests, t.rest, t.divides, ap (λ rs. t.requests ++ rs) (sym (last-some t.rest some)))
    t.answered (subst (λ a. Answers old.limits old.database (request_of t.rest) a new.database) is (answered t.rest t.keeps some)))

-- all was written, and then it failed
pub breaks_off_at_end : (old new : State) (gained : List ℕ) → Finishes old new gained → BreaksOff old new [] true gained
breaks_off_at_end old new gained finishes from stream answers st =
    rw append-nil (all-answered old.limits from stream true (answers ++ gained) new.database (finishes from stream answers st))

pub stands_new : (limits : Limits) (catalog : CatalogState) → StandsIn (new_session limits [] catalog) [] [] []
stands_new limits catalog = record { keeps = ([], [], Divides-nil, keeps-nothing limits); run = ([], [], Divides-nil, (refl, refl)) }

-- ---- a run that broke off

pub front_in_stream : (old new : State) (limits : Limits) (from : Database) (stream piece answers sent : List ℕ) → old.limits ≡ limits
    → BreaksOff old new piece false sent → StandsIn old from stream answers → IsFrontOfRun limits from (stream ++ piece) false (answers ++ sent)
front_in_stream old new limits from stream piece answers sent same breaks st =
    broken_goes_on limits from (stream ++ piece) false (answers ++ sent) new.database (rw same at (breaks from stream answers st))

pub front_at_end : (old new : State) (limits : Limits) (from : Database) (stream answers sent : List ℕ) → old.limits ≡ limits
    → BreaksOff old new [] true sent → StandsIn old from stream answers → IsFrontOfRun limits from stream true (answers ++ sent)
front_at_end old new limits from stream answers sent same breaks st =
    broken_goes_on limits from stream true (answers ++ sent) new.database (rw (same, append-nil) at (breaks from stream answers st))
