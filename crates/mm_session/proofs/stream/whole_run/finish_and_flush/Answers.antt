use Rattle.mm_session.proofs.Results.{on_ok}
use Rattle.mm_session.proofs.Runs.{breaks_off_at_end}
use Rattle.mm_session.proofs.Writing.{Appends-keeps}
use Rattle.mm_session.proofs.stream.whole_run.finish_and_flush.Goals as goal

pub returns-in-Ok-clause-ok : goal.returns-in-Ok-clause-ok
returns-in-Ok-clause-ok g c =
    let (gained, grows, finishes) = on_ok c.end_into.result _ c.if-is_err.ensures.value c.end_into.ensures.ok in
    (gained, Appends-keeps _ _ _ gained grows c.flush_all.ensures.bytes, finishes)

pub returns-in-Err-clause-fault : goal.returns-in-Err-clause-fault
returns-in-Err-clause-fault g c =
    let (gained, grows, finishes) = on_ok c.end_into.result _ c.if-is_err.ensures.value c.end_into.ensures.ok in
    (gained, Appends-keeps _ _ _ gained grows c.flush_all.ensures.bytes, breaks_off_at_end c.args.session.now c.end_into.new.self gained finishes)
