use Rattle.std.proofs.Common.{◌++◌, [], refl, subst, ◌∙◌}
use Rattle.mm_session.proofs.Writing.{Appends-append, Appends-keeps, Appends-nothing}
use Rattle.mm_batch.specs.Watching.{EndsAt}
use Rattle.mm_batch.specs.declared.watched.Ending.TheVariants.{Stopped, Whole}
use Rattle.mm_batch.proofs.Watches.{OnErr-of, begun_breaks, begun_failed, begun_new, begun_on, begun_stopped, begun_whole}
use Rattle.mm_batch.proofs.watched.Watched.take_piece.Goals as goal

pub loop-others-init : goal.loop-others-init
loop-others-init g c = (
  [],
  Appends-nothing (g.O.Outlet.contents c.args.outlet.now),
  begun_new (g.T.Watch.stops c.args.watch.now) c.args.self.now.session c.args.piece.now,
  c.requires,
  refl,
)

pub returns-in_err-tell-clause-fault : goal.returns-in_err-tell-clause-fault
returns-in_err-tell-clause-fault g c =
    let (gained, grows, begun, going_on, same) = c.loop-others.invariant in
    let (front, parts, next) = c.in-Some.ensures.some in
    let (sent, unsent, went, is) = c.in_err-tell.ensures.fault in
    OnErr-of c.from_residual.result _ (
      gained ++ sent,
      Appends-append _ _ _ gained sent grows went,
      begun_breaks (g.T.Watch.stops c.args.watch.now) c.args.self.now.session c.loop-others.self.session c.answer_next.new.self c.args.piece.now c.loop-others.rest.now gained begun
          front c.in-Some.others.now c.answer_next.new.answer parts next sent unsent is,
    )

pub returns-in-Stopped-clause-ok : goal.returns-in-Stopped-clause-ok
returns-in-Stopped-clause-ok g c =
    let (gained, grows, begun, going_on, same) = c.loop-others.invariant in
    let (front, parts, next) = c.in-Some.ensures.some in
    let answer = c.answer_next.new.answer in
    let ends : EndsAt (g.T.Watch.stops c.args.watch.now) answer Stopped =
    subst (EndsAt (g.T.Watch.stops c.args.watch.now) answer) c.in-Stopped.is (subst (λ s. EndsAt s answer c.in_ok-tell.field-0) same c.in_ok-tell.ensures.ending) in (
      gained ++ answer,
      Appends-append _ _ _ gained answer grows c.in_ok-tell.ensures.ok,
      begun_stopped (g.T.Watch.stops c.args.watch.now) c.args.self.now.session c.loop-others.self.session c.answer_next.new.self c.args.piece.now c.loop-others.rest.now gained begun
          front c.in-Some.others.now answer parts next ends,
    )

pub loop-others-preserved : goal.loop-others-preserved
loop-others-preserved g c =
    let (gained, grows, begun, going_on, same) = c.loop-others.invariant in
    let (front, parts, next) = c.in-Some.ensures.some in
    let answer = c.answer_next.new.answer in
    let ends : EndsAt (g.T.Watch.stops c.args.watch.now) answer Whole =
    subst (EndsAt (g.T.Watch.stops c.args.watch.now) answer) c.in-Whole.is (subst (λ s. EndsAt s answer c.in_ok-tell.field-0) same c.in_ok-tell.ensures.ending) in (
      gained ++ answer,
      Appends-append _ _ _ gained answer grows c.in_ok-tell.ensures.ok,
      begun_on (g.T.Watch.stops c.args.watch.now) c.args.self.now.session c.loop-others.self.session c.answer_next.new.self c.args.piece.now c.loop-others.rest.now gained begun
          front c.in-Some.others.now answer parts next ends,
      next.going_on,
      c.in_ok-tell.ensures.same ∙ same,
    )

pub returns-in_err-flush-clause-fault : goal.returns-in_err-flush-clause-fault
returns-in_err-flush-clause-fault g c =
    let (gained, grows, begun, going_on, same) = c.loop-others.invariant in
    OnErr-of c.from_residual-in_err-flush.result _ (
      gained,
      Appends-keeps _ _ _ gained grows c.flush.ensures.bytes,
      begun_failed (g.T.Watch.stops c.args.watch.now) c.args.self.now.session c.loop-others.self.session c.answer_next.new.self c.args.piece.now c.loop-others.rest.now gained begun
          c.in_default.ensures.none,
    )

pub returns-clause-ok : goal.returns-clause-ok
returns-clause-ok g c =
    let (gained, grows, begun, going_on, same) = c.loop-others.invariant in (
      gained,
      Appends-keeps _ _ _ gained grows c.flush.ensures.bytes,
      begun_whole (g.T.Watch.stops c.args.watch.now) c.args.self.now.session c.loop-others.self.session c.answer_next.new.self c.args.piece.now c.loop-others.rest.now gained begun
          c.in_default.ensures.none,
    )
