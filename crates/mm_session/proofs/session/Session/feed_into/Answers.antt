use Rattle.std.proofs.Common.{◌≡◌, ◌++◌, [], List, ℕ, Bool, ◌∙◌, ap, sym, subst, refl, true, false, append_assoc, append-nil}
use Rattle.mm_session.specs.Sessions.{State, Feeds}
use Rattle.mm_session.specs.declared.stream.responder.Responder.{Responder}
use Rattle.mm_catalog.specs.Seen.{database_of}
use Rattle.mm_transactions.specs.State.{saved_of}
use Rattle.mm_session.proofs.Results.{on_ok, on_error}
use Rattle.mm_session.proofs.Runs.{feeds_nothing, Feeds-append, feeds_request, feeds_rest, breaks_off_request, breaks_off_later}
use Rattle.mm_session.proofs.Writing.{Appends-append, Appends-nothing}
use Rattle.mm_session.proofs.session.Session.feed_into.Goals as goal

-- what a session is seen as
abbrev seen : Responder → Bool → State
seen r ended = record { limits = r.executor.tables.catalog.limits; database = database_of r.executor.tables.catalog; saved = saved_of r.executor.tables; catalog = r.executor.tables.catalog; ended = ended; kept = r.kept }

-- a piece of which something was done, and then a request and what follows it
split : (piece done rest front others : List ℕ) → piece ≡ done ++ rest → rest ≡ front ++ others → piece ≡ done ++ (front ++ others)
split piece done rest front others is parts = is ∙ ap (λ r. done ++ r) parts

pub loop-others-init : goal.loop-others-init
loop-others-init g c =
    let going_on : c.args.self.now.ended ≡ false = ap (λ (s : State). s.ended) (sym c.self.view_is) ∙ c.if-self.false in (
      [],
      [],
      Appends-nothing (g.O.Outlet.contents c.args.outlet.now),
      subst (λ s. Feeds c.args.self.now s [] []) (sym c.self.view_is) (feeds_nothing c.args.self.now going_on),
      refl,
      refl,
    )

pub returns-then-is_err-clause-write : goal.returns-then-is_err-clause-write
returns-then-is_err-clause-write g c = λ _.
    let (done, gained, grows, feeds, is, name) = c.loop-others.invariant in
    let before = seen c.loop-others.self-inside.responder c.loop-others.self-inside.ended in
    let stopped = seen c.take.new.self true in
    let (front, parts, completes) = c.in-Some.ensures.takes in
    let answer = c.take.new.self.answer in
    let (sent, unsent, went, whole) = on_error c.put.result _ c.if-is_err.ensures.value c.put.ensures.fault in
    let breaks = breaks_off_request before stopped front answer sent unsent completes.1 (sym c.as_slice.ensures ∙ whole) in (
      gained ++ sent,
      Appends-append _ _ _ gained sent grows went,
      rw (split c.args.piece.now done c.loop-others.rest.now front c.in-Some.others.now is parts)
          (breaks_off_later c.args.self.now before stopped done front c.in-Some.others.now gained sent feeds breaks),
    )

pub loop-others-preserved : goal.loop-others-preserved
loop-others-preserved g c =
    let (done, gained, grows, feeds, is, name) = c.loop-others.invariant in
    let before = seen c.loop-others.self-inside.responder c.loop-others.self-inside.ended in
    let after = seen c.take.new.self c.loop-others.self-inside.ended in
    let (front, parts, completes) = c.in-Some.ensures.takes in
    let answer = c.take.new.self.answer in
    let went = on_ok c.put.result _ c.if-is_err.ensures.value c.put.ensures.ok in (
      done ++ front,
      gained ++ answer,
      Appends-append _ _ _ gained answer grows (rw c.as_slice.ensures at went),
      Feeds-append c.args.self.now before after done front gained answer feeds
          (feeds_request before after front answer completes.1 completes.0 feeds.going_on c.take.ensures.limits c.take.ensures.saved),
      split c.args.piece.now done c.loop-others.rest.now front c.in-Some.others.now is parts ∙ sym (append_assoc done front c.in-Some.others.now),
      c.put.ensures.name ∙ name,
    )

pub returns-clause-ok : goal.returns-clause-ok
returns-clause-ok g c =
    let (done, gained, grows, feeds, is, name) = c.loop-others.invariant in
    let before = seen c.loop-others.self-inside.responder c.loop-others.self-inside.ended in
    let after = seen c.take.new.self c.loop-others.self-inside.ended in
    let rest = c.loop-others.rest.now in
    let further = feeds_rest before after rest c.in_default.ensures.takes.1 c.in_default.ensures.takes.0 feeds.going_on c.take.ensures.limits c.take.ensures.saved in
    (gained, grows, rw is (rw append-nil at (Feeds-append c.args.self.now before after done rest gained [] feeds further)))

pub returns-clause-name : goal.returns-clause-name
returns-clause-name g c = let (done, gained, grows, feeds, is, name) = c.loop-others.invariant in name

pub returns-then-is_err-clause-name : goal.returns-then-is_err-clause-name
returns-then-is_err-clause-name g c = let (done, gained, grows, feeds, is, name) = c.loop-others.invariant in c.put.ensures.name ∙ name
