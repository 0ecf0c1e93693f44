use Rattle.mm_session.proofs.Results.{on_ok}
use Rattle.mm_session.proofs.Runs.{breaks_off}
use Rattle.mm_session.proofs.Writing.{Appends-keeps}
use Rattle.mm_session.proofs.stream.whole_run.feed_and_flush.Goals as goal

pub returns-in-Err-clause-fault : goal.returns-in-Err-clause-fault
returns-in-Err-clause-fault g c =
    let (gained, grows, feeds) = on_ok c.feed_into.result _ c.if-is_err.ensures.value c.feed_into.ensures.ok in
    (gained, Appends-keeps _ _ _ gained grows c.flush_all.ensures.bytes, breaks_off _ _ _ gained feeds)
