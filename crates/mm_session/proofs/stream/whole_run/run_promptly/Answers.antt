use Rattle.std.proofs.Common.{◌++◌, ◌<◌, [], true, false, refl, sym, ap, ◌∙◌, append-nil, length, arith, subst}
use Rattle.std.specs.Io.KnownBytes.{Consumes}
use Rattle.plain_tables.specs.declared.command.TheConstants.Limits.{STANDARD}
use Rattle.mm_session.specs.Sessions.{State, StandsIn}
use Rattle.mm_session.proofs.Results.{on_err, OnOk-map}
use Rattle.mm_session.proofs.Runs.{stands_new, front_in_stream, front_at_end}
use Rattle.mm_session.proofs.Turns.{come_more, come_none, prompt_kept, prompt_more, prompt_none}
use Rattle.mm_session.proofs.Writing.{Appends-append, Appends-nothing, Consumes-append, Consumes-nothing, Consumes-keeps}
use Rattle.mm_session.proofs.stream.whole_run.run_promptly.Goals as goal

pub loop-init : goal.loop-init
loop-init g c = (
  [],
  [],
  Consumes-nothing (g.R.PromptRead.to_come c.args.r.now),
  Appends-nothing (g.O.Outlet.contents c.args.outlet.now),
  ap (λ (s : State). s.ended) c.in-Ok.ensures,
  ap (λ (s : State). s.limits) c.in-Ok.ensures,
  subst (λ s. StandsIn s [] [] []) (sym c.in-Ok.ensures) (stands_new STANDARD c.in-Ok.session.catalog),
  refl,
  c.requires,
  come_none (g.R.PromptRead.turns c.args.r.now),
  prompt_none (g.R.PromptRead.turns c.args.r.now) (g.O.Outlet.contents c.args.outlet.now),
)

pub returns-in-Err-clause-read : goal.returns-in-Err-clause-read
returns-in-Err-clause-read g c = λ _.
    let (stream, gained, consumed, grows, going_on, limits, st, name, flushed, come, prompt) = c.loop.invariant in
    (stream, Consumes-keeps _ _ _ stream consumed c.in-Err.ensures.bytes, (gained, grows, (c.loop.session.database, rw limits at st.run)))

pub finish_and_flush-requires : goal.finish_and_flush-requires
finish_and_flush-requires g c = let (stream, gained, consumed, grows, going_on, limits, st, name, flushed, come, prompt) = c.loop.invariant in going_on

pub returns-in-Ok-eq0-clause-ok : goal.returns-in-Ok-eq0-clause-ok
returns-in-Ok-eq0-clause-ok g c =
    let (stream, gained, consumed, grows, going_on, limits, st, name, flushed, come, prompt) = c.loop.invariant in
    let none : Consumes (g.R.PromptRead.to_come c.loop.r) (g.R.PromptRead.to_come c.read_when_flushed.new.self) [] = rw c.in-Ok-eq0.field-0-test at c.in-Ok-eq0.ensures.bytes.0 in
    let some : 0 < length c.read_when_flushed.new.buf = omega arith in
    OnOk-map c.finish_and_flush.result _ _ (λ (answer, went, finishes). (
      stream,
      rw append-nil at (Consumes-append _ _ _ stream [] consumed none),
      (
        c.in-Ok-eq0.ensures.bytes.1 c.in-Ok-eq0.field-0-test some,
        (gained ++ answer, Appends-append _ _ _ gained answer grows went, (c.finish_and_flush.new.session.database, rw limits at (finishes [] stream gained st))),
      ),
    )) c.finish_and_flush.ensures.ok

pub returns-in-Ok-eq0-clause-write : goal.returns-in-Ok-eq0-clause-write
returns-in-Ok-eq0-clause-write g c = λ fault.
    let (stream, gained, consumed, grows, going_on, limits, st, name, flushed, come, prompt) = c.loop.invariant in
    let none : Consumes (g.R.PromptRead.to_come c.loop.r) (g.R.PromptRead.to_come c.read_when_flushed.new.self) [] = rw c.in-Ok-eq0.field-0-test at c.in-Ok-eq0.ensures.bytes.0 in
    let (sent, went, breaks) = on_err c.finish_and_flush.result _ _ fault c.finish_and_flush.ensures.fault in (
      stream,
      rw append-nil at (Consumes-append _ _ _ stream [] consumed none),
      (gained ++ sent, Appends-append _ _ _ gained sent grows went, (true, front_at_end c.loop.session c.finish_and_flush.new.session STANDARD [] stream gained sent limits breaks st)),
    )

pub feed_and_flush-requires : goal.feed_and_flush-requires
feed_and_flush-requires g c = let (stream, gained, consumed, grows, going_on, limits, st, name, flushed, come, prompt) = c.loop.invariant in going_on

pub returns-in_err-feed_and_flush-in-Ok-read_when_flushed-clause-write : goal.returns-in_err-feed_and_flush-in-Ok-read_when_flushed-clause-write
returns-in_err-feed_and_flush-in-Ok-read_when_flushed-clause-write g c = λ _.
    let (stream, gained, consumed, grows, going_on, limits, st, name, flushed, come, prompt) = c.loop.invariant in
    let (sent, went, breaks) = c.in_err-feed_and_flush-in-Ok-read_when_flushed.ensures.fault in (
      _,
      Consumes-append _ _ _ stream _ consumed c.in-Ok-read_when_flushed.ensures.bytes.0,
      (gained ++ sent, Appends-append _ _ _ gained sent grows went, (false, front_in_stream c.loop.session c.feed_and_flush.new.session STANDARD [] stream _ gained sent limits breaks st)),
    )

pub loop-preserved : goal.loop-preserved
loop-preserved g c =
    let (stream, gained, consumed, grows, going_on, limits, st, name, flushed, come, prompt) = c.loop.invariant in
    let (answer, went, feeds) = c.in_ok-feed_and_flush-in-Ok-read_when_flushed.ensures.ok in (
      _,
      gained ++ answer,
      Consumes-append _ _ _ stream _ consumed c.in-Ok-read_when_flushed.ensures.bytes.0,
      Appends-append _ _ _ gained answer grows went,
      feeds.going_on,
      feeds.limits ∙ limits,
      feeds.run [] stream gained st,
      c.in_ok-feed_and_flush-in-Ok-read_when_flushed.ensures.name ∙ name,
      c.in_ok-feed_and_flush-in-Ok-read_when_flushed.ensures.flushed,
      come_more _ _ _ stream (g.O.Outlet.contents c.loop.outlet) _ come c.in-Ok-read_when_flushed.ensures.turn,
      prompt_more _ _ _ _ (g.O.Outlet.contents c.loop.outlet) stream _ prompt come (gained, grows, (c.loop.session.database, rw limits at st.run)) c.in-Ok-read_when_flushed.ensures.turn,
    )

pub returns-clause-read : goal.returns-clause-read
returns-clause-read g c = λ _.
    let (stream, gained, consumed, grows, going_on, limits, st, name, flushed, come, prompt) = c.loop.invariant in
    (stream, consumed, (gained, grows, (c.loop.session.database, rw limits at st.run)))

pub read_when_flushed-requires : goal.read_when_flushed-requires
read_when_flushed-requires g c = let (stream, gained, consumed, grows, going_on, limits, st, name, flushed, come, prompt) = c.loop.invariant in record { prompt = flushed }

pub returns-in-Err-clause-name : goal.returns-in-Err-clause-name
returns-in-Err-clause-name g c = let (stream, gained, consumed, grows, going_on, limits, st, name, flushed, come, prompt) = c.loop.invariant in name

pub returns-in-Ok-eq0-clause-name : goal.returns-in-Ok-eq0-clause-name
returns-in-Ok-eq0-clause-name g c = let (stream, gained, consumed, grows, going_on, limits, st, name, flushed, come, prompt) = c.loop.invariant in c.finish_and_flush.ensures.name ∙ name

pub returns-in_err-feed_and_flush-in-Ok-read_when_flushed-clause-name : goal.returns-in_err-feed_and_flush-in-Ok-read_when_flushed-clause-name
returns-in_err-feed_and_flush-in-Ok-read_when_flushed-clause-name g c =
    let (stream, gained, consumed, grows, going_on, limits, st, name, flushed, come, prompt) = c.loop.invariant in c.in_err-feed_and_flush-in-Ok-read_when_flushed.ensures.name ∙ name

pub returns-clause-name : goal.returns-clause-name
returns-clause-name g c = let (stream, gained, consumed, grows, going_on, limits, st, name, flushed, come, prompt) = c.loop.invariant in name

pub returns-in-Err-clause-prompt : goal.returns-in-Err-clause-prompt
returns-in-Err-clause-prompt g c =
    let (stream, gained, consumed, grows, going_on, limits, st, name, flushed, come, prompt) = c.loop.invariant in
    prompt_kept _ _ _ (g.O.Outlet.contents c.args.outlet.now) prompt c.in-Err.ensures.no_turn

pub returns-in-Ok-eq0-clause-prompt : goal.returns-in-Ok-eq0-clause-prompt
returns-in-Ok-eq0-clause-prompt g c =
    let (stream, gained, consumed, grows, going_on, limits, st, name, flushed, come, prompt) = c.loop.invariant in
    prompt_more _ _ _ _ (g.O.Outlet.contents c.loop.outlet) stream _ prompt come (gained, grows, (c.loop.session.database, rw limits at st.run)) c.in-Ok-eq0.ensures.turn

pub returns-in_err-feed_and_flush-in-Ok-read_when_flushed-clause-prompt : goal.returns-in_err-feed_and_flush-in-Ok-read_when_flushed-clause-prompt
returns-in_err-feed_and_flush-in-Ok-read_when_flushed-clause-prompt g c =
    let (stream, gained, consumed, grows, going_on, limits, st, name, flushed, come, prompt) = c.loop.invariant in
    prompt_more _ _ _ _ (g.O.Outlet.contents c.loop.outlet) stream _ prompt come (gained, grows, (c.loop.session.database, rw limits at st.run)) c.in-Ok-read_when_flushed.ensures.turn

pub returns-clause-prompt : goal.returns-clause-prompt
returns-clause-prompt g c = let (stream, gained, consumed, grows, going_on, limits, st, name, flushed, come, prompt) = c.loop.invariant in prompt
