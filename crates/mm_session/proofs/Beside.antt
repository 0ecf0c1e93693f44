-- One request beside the stream, and the run that the session then stands in.
use Rattle.std.proofs.Common.{◌≡◌, ℕ, ◌<◌, ◌≤◌, List, [], ◌∷◌, ◌++◌, length, refl, subst, arith, Result, Ok, Err, OnOk}
use Rattle.std.specs.List.{AllByRecursion}
use lib.Chars.{codes}
use Rattle.plain_tables.specs.Databases.{Database}
use Rattle.plain_tables.specs.declared.command.Limits.{Limits}
use Rattle.plain_streams.specs.Requests.{Request, asked}
use Rattle.plain_streams.specs.Division.{IsWhole}
use Rattle.plain_streams.specs.Runs.{Answers, AnswersAll, HasBlock}
use Rattle.plain_streams.proofs.Asking.{takes_one, takes_asks}
use Rattle.plain_streams.proofs.Division.{divides_in_one_way}
use Rattle.plain_streams.proofs.RunSteps.{AnswersAll-append}
use Rattle.mm_session.specs.Kept.{Keeps}
use Rattle.mm_session.specs.Sessions.{State}
use Rattle.mm_session.specs.OneRequest.{AnswersOne, StaysInStream, GoesBetween}
use Rattle.mm_session.proofs.Requests.{answers-block_too_long}
use Rattle.mm_session.proofs.Runs.{AnswersAll-one, standing, stands}

-- a whole request has its block, where that is within the limit
pub has_block-whole : (limits : Limits) (request : Request) → IsWhole request → length request.block ≤ limits.block → HasBlock limits request
has_block-whole limits request whole within n asks =
    let same : length request.block ≡ n = takes_one request.line (length request.block) n whole.block (asked n asks) in
    (rw (← same) within, same)

-- and where that passes the limit, it is refused by that
pub answers-whole_too_long : (limits : Limits) (tables : Database) (request : Request) (answer : List ℕ) → IsWhole request
    → limits.block < length request.block → answer ≡ codes "error 12 block too long\n" → Answers limits tables request answer tables
answers-whole_too_long limits tables request answer whole long is =
    answers-block_too_long limits tables request answer (length request.block)
    (takes_asks request.line (length request.block) (omega arith) whole.block) long is

-- one more that is whole
each_whole-more : (requests : List Request) (request : Request) → AllByRecursion IsWhole requests → IsWhole request
    → AllByRecursion IsWhole (requests ++ request ∷ [])
each_whole-more [] request each whole = (whole, tt)
each_whole-more (first ∷ requests) request each whole = (each.0, each_whole-more requests request each.1 whole)

-- A request that is answered beside the stream goes before what has not come to its end.
pub goes_between : (old new : State) (request : Request) (answer : List ℕ) → StaysInStream old new
    → AnswersOne old.limits old.database request answer new.database → GoesBetween old new request answer
goes_between old new request answer stays one from stream answers requests rest st divides =
    let s = standing old from stream answers st in
    let same = divides_in_one_way stream s.requests s.rest requests rest s.divides divides in
    let keeps : Keeps new.limits rest new.kept = rw (stays.limits, stays.kept) (subst (λ r. Keeps old.limits r old.kept) same.1 s.keeps) in
    let before : AnswersAll old.limits from requests answers old.database =
    subst (λ rs. AnswersAll old.limits from rs answers old.database) same.0 s.answered in
    stands new from _ (answers ++ answer) (requests ++ request ∷ []) rest
    (record { whole = refl; each = each_whole-more requests request divides.each one.whole; unfinished = divides.unfinished }) keeps
    (rw stays.limits (AnswersAll-append old.limits from requests (request ∷ []) answers answer old.database new.database before
    (AnswersAll-one old.limits old.database request answer new.database one.answers)))

-- so, wherever it was answered
pub goes_between-if_ok : {E : Type 0} (result : Result (Unit {0}) E) (old new : State) (request : Request) (answer : List ℕ) → StaysInStream old new
    → OnOk result (AnswersOne old.limits old.database request answer new.database) → OnOk result (GoesBetween old new request answer)
goes_between-if_ok (Ok x) old new request answer stays one = goes_between old new request answer stays one
goes_between-if_ok (Err e) old new request answer stays one = tt
