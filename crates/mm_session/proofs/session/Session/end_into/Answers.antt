use Rattle.std.proofs.Common.{[], true, sym, refl, subst, ◌∙◌}
use Rattle.mm_catalog.specs.Seen.{database_of}
use Rattle.mm_transactions.specs.State.{saved_of}
use Rattle.mm_session.specs.Sessions.{State, Finishes, BreaksOff}
use Rattle.mm_session.specs.declared.stream.responder.Responder.{Responder}
use Rattle.mm_session.proofs.Results.{on_ok, on_error}
use Rattle.mm_session.proofs.Runs.{finishes_nothing, finishes_last, breaks_off_last}
use Rattle.mm_session.proofs.Writing.{Appends-nothing}
use Rattle.mm_session.proofs.session.Session.end_into.Goals as goal

-- what a session that has ended is seen as
abbrev ended : Responder → State
ended r = record { limits = r.executor.tables.catalog.limits; database = database_of r.executor.tables.catalog; saved = saved_of r.executor.tables; catalog = r.executor.tables.catalog; ended = true; kept = r.kept }

pub returns-then-is_nothing-clause-ok : goal.returns-then-is_nothing-clause-ok
returns-then-is_nothing-clause-ok g c = (
  [],
  Appends-nothing (g.O.Outlet.contents c.args.outlet.now),
  subst (λ s. Finishes s (ended c.self.inside.responder) []) c.self.view_is
      (finishes_nothing _ (ended c.self.inside.responder) (sym c.is_nothing.ensures ∙ c.if-is_nothing.true) refl),
)

pub returns-then-is_err-clause-write : goal.returns-then-is_err-clause-write
returns-then-is_err-clause-write g c = λ _.
    let (sent, unsent, gained, is) = on_error c.put.result _ c.if-is_err.ensures.value c.put.ensures.fault in (
      sent,
      gained,
      subst (λ s. BreaksOff s (ended c.finish.new.self) [] true sent) c.self.view_is
          (breaks_off_last _ (ended c.finish.new.self) c.finish.new.self.answer sent unsent
          (sym c.is_nothing.ensures ∙ c.if-is_nothing.false) c.finish.ensures.answers (sym c.as_slice.ensures ∙ is)),
    )

pub returns-clause-ok : goal.returns-clause-ok
returns-clause-ok g c = (
  c.as_slice.result.now,
  on_ok c.put.result _ c.if-is_err.ensures.value c.put.ensures.ok,
  rw c.as_slice.ensures
      (subst (λ s. Finishes s (ended c.finish.new.self) c.finish.new.self.answer) c.self.view_is
      (finishes_last _ (ended c.finish.new.self) c.finish.new.self.answer (sym c.is_nothing.ensures ∙ c.if-is_nothing.false) c.finish.ensures.answers)),
)
