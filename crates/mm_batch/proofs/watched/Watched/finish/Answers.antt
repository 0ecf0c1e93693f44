use Rattle.std.proofs.Common.{[], sym, append-nil}
use Rattle.mm_session.proofs.Writing.{Appends-keeps}
use Rattle.mm_batch.proofs.Watches.{OnErr-of, breaks_last, ends_stream}
use Rattle.mm_batch.proofs.watched.Watched.finish.Goals as goal

pub returns-in_err-ending-clause-fault : goal.returns-in_err-ending-clause-fault
returns-in_err-ending-clause-fault g c =
    let (sent, unsent, grows, is) = c.in_err-ending.ensures.fault in
    OnErr-of c.from_residual.result _ (
      sent,
      grows,
      λ stream answers st. breaks_last (g.T.Watch.stops c.args.watch.now) c.args.self.session c.answer_last.new.self stream answers c.answer_last.new.answer sent unsent st
          c.answer_last.ensures.answers is,
    )

pub returns-in_err-flush-clause-fault : goal.returns-in_err-flush-clause-fault
returns-in_err-flush-clause-fault g c =
    let answer = c.answer_last.new.answer in
    OnErr-of c.from_residual-in_err-flush.result _ (
      answer,
      Appends-keeps _ _ _ answer c.in_ok-ending.ensures.ok c.flush.ensures.bytes,
      λ stream answers st. breaks_last (g.T.Watch.stops c.args.watch.now) c.args.self.session c.answer_last.new.self stream answers answer answer [] st
          c.answer_last.ensures.answers (sym (append-nil answer)),
    )

pub returns-clause-ok : goal.returns-clause-ok
returns-clause-ok g c =
    let answer = c.answer_last.new.answer in (
      answer,
      Appends-keeps _ _ _ answer c.in_ok-ending.ensures.ok c.flush.ensures.bytes,
      λ stream answers st. ends_stream (g.T.Watch.stops c.args.watch.now) c.in_ok-ending.ending c.args.self.session c.answer_last.new.self stream answers answer st
          c.answer_last.ensures.answers c.in_ok-ending.ensures.ending,
    )
