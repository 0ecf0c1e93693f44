use Rattle.std.proofs.Common.{◌++◌, ℕ, List, [], false, true, ◌∙◌, append-nil, refl, rules, subst, sym, take}
use Rattle.std.specs.Io.KnownBytes.{Consumes}
use Rattle.plain_tables.specs.declared.command.TheConstants.Limits.{STANDARD}
use Rattle.mm_session.specs.WholeRuns.{IsFrontOfRun}
use Rattle.mm_session.proofs.Results.{on_err}
use Rattle.mm_session.proofs.Turns.{come_more, come_none, prompt_kept, prompt_more, prompt_none}
use Rattle.mm_session.proofs.Writing.{Appends-append, Appends-nothing, Consumes-append, Consumes-nothing, Consumes-keeps}
use Rattle.mm_batch.specs.Watching.{EndsStream, LosesStream, Stands, TakesPiece}
use Rattle.mm_batch.specs.declared.watched.Ending.TheVariants.{Whole, Stopped}
use Rattle.mm_batch.proofs.Watches.{IfOk-map, answered_so_far, passes, stands_new}
use Rattle.mm_batch.proofs.watched.answer_watched.Goals as goal

pub loop-init : goal.loop-init
loop-init g c = (
  [],
  [],
  Consumes-nothing (g.R.PromptRead.to_come c.args.r.now),
  Appends-nothing (g.O.Outlet.contents c.args.outlet.now),
  subst (λ s. Stands (g.T.Watch.stops c.args.watch.now) s [] []) (sym c.in_ok-watched.ensures.ok) (stands_new (g.T.Watch.stops c.args.watch.now) c.in_ok-watched.watched.session.catalog),
  refl,
  c.requires,
  come_none (g.R.PromptRead.turns c.args.r.now),
  prompt_none (g.R.PromptRead.turns c.args.r.now) (g.O.Outlet.contents c.args.outlet.now),
)

pub read_when_flushed-requires : goal.read_when_flushed-requires
read_when_flushed-requires g c = let (stream, gained, consumed, grows, st, same, flushed, come, prompt) = c.loop.invariant in record { prompt = flushed }

pub returns-in-Err-clause-read : goal.returns-in-Err-clause-read
returns-in-Err-clause-read g c = λ _.
    let (stream, gained, consumed, grows, st, same, flushed, come, prompt) = c.loop.invariant in
    (stream, Consumes-keeps _ _ _ stream consumed c.in-Err.ensures.bytes, (gained, grows, passes (g.T.Watch.stops c.args.watch.now) c.loop.watched.session stream gained st))

pub returns-clause-read : goal.returns-clause-read
returns-clause-read g c = λ _.
    let (stream, gained, consumed, grows, st, same, flushed, come, prompt) = c.loop.invariant in
    (stream, consumed, (gained, grows, passes (g.T.Watch.stops c.args.watch.now) c.loop.watched.session stream gained st))

pub finish-requires : goal.finish-requires
finish-requires g c = let (stream, gained, consumed, grows, st, same, flushed, come, prompt) = c.loop.invariant in st.going_on

pub returns-in-Ok-eq0-clause-ok : goal.returns-in-Ok-eq0-clause-ok
returns-in-Ok-eq0-clause-ok g c =
    let (stream, gained, consumed, grows, st, same, flushed, come, prompt) = c.loop.invariant in
    let none : Consumes (g.R.PromptRead.to_come c.loop.r) (g.R.PromptRead.to_come c.read_when_flushed.new.self) [] = rw c.in-Ok-eq0.field-0-test at c.in-Ok-eq0.ensures.bytes.0 in
    IfOk-map c.finish.result _ _ (λ ending (answer, went, ends). (
      stream,
      rw append-nil at (Consumes-append _ _ _ stream [] consumed none),
      (
        gained ++ answer,
        Appends-append _ _ _ gained answer grows went,
        (subst (λ s. EndsStream s ending c.loop.watched.session answer) same ends) stream gained st,
      ),
    )) c.finish.ensures.ok

pub returns-in-Ok-eq0-clause-write : goal.returns-in-Ok-eq0-clause-write
returns-in-Ok-eq0-clause-write g c = λ fault.
    let (stream, gained, consumed, grows, st, same, flushed, come, prompt) = c.loop.invariant in
    let none : Consumes (g.R.PromptRead.to_come c.loop.r) (g.R.PromptRead.to_come c.read_when_flushed.new.self) [] = rw c.in-Ok-eq0.field-0-test at c.in-Ok-eq0.ensures.bytes.0 in
    let (sent, went, loses) = on_err c.finish.result _ _ fault c.finish.ensures.fault in
    let front = (subst (λ s. LosesStream s c.loop.watched.session [] true sent) same loses) stream gained st in (
      stream,
      rw append-nil at (Consumes-append _ _ _ stream [] consumed none),
      (gained ++ sent, Appends-append _ _ _ gained sent grows went, (true, subst (λ t. IsFrontOfRun STANDARD [] t true (gained ++ sent)) (append-nil stream) front)),
    )

pub take_piece-requires : goal.take_piece-requires
take_piece-requires g c = let (stream, gained, consumed, grows, st, same, flushed, come, prompt) = c.loop.invariant in st.going_on

pub returns-in_err-take_piece-in-Ok-clause-write : goal.returns-in_err-take_piece-in-Ok-clause-write
returns-in_err-take_piece-in-Ok-clause-write g c = λ _.
    let (stream, gained, consumed, grows, st, same, flushed, come, prompt) = c.loop.invariant in
    let piece : List ℕ = take c.in-Ok.n c.read_when_flushed.new.buf in
    let (sent, went, loses) = c.in_err-take_piece-in-Ok.ensures.fault in (
      stream ++ piece,
      Consumes-append _ _ _ stream piece consumed c.in-Ok.ensures.bytes.0,
      (
        gained ++ sent,
        Appends-append _ _ _ gained sent grows went,
        (false, (subst (λ s. LosesStream s c.loop.watched.session piece false sent) same loses) stream gained st),
      ),
    )

pub returns-in-Stopped-clause-ok : goal.returns-in-Stopped-clause-ok
returns-in-Stopped-clause-ok g c =
    let (stream, gained, consumed, grows, st, same, flushed, come, prompt) = c.loop.invariant in
    let piece : List ℕ = take c.in-Ok.n c.read_when_flushed.new.buf in
    let (answer, went, takes) = c.in_ok-take_piece-in-Ok.ensures.ok in
    let stopped = subst (λ e. TakesPiece (g.T.Watch.stops c.loop.watch) e c.loop.watched.session c.take_piece.new.self.session piece answer) c.in-Stopped.is takes in (
      stream ++ piece,
      Consumes-append _ _ _ stream piece consumed c.in-Ok.ensures.bytes.0,
      (
        gained ++ answer,
        Appends-append _ _ _ gained answer grows went,
        (subst (λ s. TakesPiece s Stopped c.loop.watched.session c.take_piece.new.self.session piece answer) same stopped) stream gained st,
      ),
    )

pub loop-preserved : goal.loop-preserved
loop-preserved g c =
    let (stream, gained, consumed, grows, st, same, flushed, come, prompt) = c.loop.invariant in
    let piece : List ℕ = take c.in-Ok.n c.read_when_flushed.new.buf in
    let (answer, went, takes) = c.in_ok-take_piece-in-Ok.ensures.ok in
    let passed = subst (λ e. TakesPiece (g.T.Watch.stops c.loop.watch) e c.loop.watched.session c.take_piece.new.self.session piece answer) c.in-Whole.is takes in (
      stream ++ piece,
      gained ++ answer,
      Consumes-append _ _ _ stream piece consumed c.in-Ok.ensures.bytes.0,
      Appends-append _ _ _ gained answer grows went,
      (subst (λ s. TakesPiece s Whole c.loop.watched.session c.take_piece.new.self.session piece answer) same passed) stream gained st,
      c.in_ok-take_piece-in-Ok.ensures.same ∙ same,
      search rules,
      come_more _ _ _ stream (g.O.Outlet.contents c.loop.outlet) piece come c.in-Ok.ensures.turn,
      prompt_more _ _ _ _ (g.O.Outlet.contents c.loop.outlet) stream piece prompt come (gained, grows, answered_so_far (g.T.Watch.stops c.args.watch.now) c.loop.watched.session stream gained st) c.in-Ok.ensures.turn,
    )

pub returns-in-Err-clause-prompt : goal.returns-in-Err-clause-prompt
returns-in-Err-clause-prompt g c =
    let (stream, gained, consumed, grows, st, same, flushed, come, prompt) = c.loop.invariant in prompt_kept _ _ _ (g.O.Outlet.contents c.args.outlet.now) prompt c.in-Err.ensures.no_turn

pub returns-in-Ok-eq0-clause-prompt : goal.returns-in-Ok-eq0-clause-prompt
returns-in-Ok-eq0-clause-prompt g c =
    let (stream, gained, consumed, grows, st, same, flushed, come, prompt) = c.loop.invariant in
    prompt_more _ _ _ _ (g.O.Outlet.contents c.loop.outlet) stream _ prompt come
    (gained, grows, answered_so_far (g.T.Watch.stops c.args.watch.now) c.loop.watched.session stream gained st) c.in-Ok-eq0.ensures.turn

pub returns-in_err-take_piece-in-Ok-clause-prompt : goal.returns-in_err-take_piece-in-Ok-clause-prompt
returns-in_err-take_piece-in-Ok-clause-prompt g c =
    let (stream, gained, consumed, grows, st, same, flushed, come, prompt) = c.loop.invariant in
    prompt_more _ _ _ _ (g.O.Outlet.contents c.loop.outlet) stream _ prompt come
    (gained, grows, answered_so_far (g.T.Watch.stops c.args.watch.now) c.loop.watched.session stream gained st) c.in-Ok.ensures.turn

pub returns-in-Stopped-clause-prompt : goal.returns-in-Stopped-clause-prompt
returns-in-Stopped-clause-prompt g c =
    let (stream, gained, consumed, grows, st, same, flushed, come, prompt) = c.loop.invariant in
    prompt_more _ _ _ _ (g.O.Outlet.contents c.loop.outlet) stream _ prompt come
    (gained, grows, answered_so_far (g.T.Watch.stops c.args.watch.now) c.loop.watched.session stream gained st) c.in-Ok.ensures.turn

pub returns-clause-prompt : goal.returns-clause-prompt
returns-clause-prompt g c = let (stream, gained, consumed, grows, st, same, flushed, come, prompt) = c.loop.invariant in prompt
