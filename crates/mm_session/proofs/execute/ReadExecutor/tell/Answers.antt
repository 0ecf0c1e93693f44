use Rattle.std.proofs.Common.{inl, inr}
use Rattle.mm_csv.specs.BlockReading.{block_records}
use Rattle.mm_session.proofs.ReadRequests.{declined-declines, performed-obeys}
use Rattle.mm_session.proofs.execute.ReadExecutor.tell.Goals.{in-Err-show, in_default}
use Rattle.mm_session.proofs.execute.ReadExecutor.tell.Goals as goal

pub returns-clause-told : goal.returns-clause-told
returns-clause-told c =
    let records = block_records c.args.block.now in
    let tables = c.args.catalog.now in
    let line = c.args.line.now in
    elim c.match-show.branch [
      | in-Err-show w ↦
          rw w.answer-is
          (inr (w.in-Err-show.refusal, declined-declines records tables line tables c.in-Ok.command w.in-Err-show.refusal c.in-Ok.ensures.spelled w.in-Err-show.ensures.refused, w.refuse-in-Err-show.ensures))
      | in_default w ↦
          rw w.answer-is (inl (performed-obeys records tables line tables c.in-Ok.command _ c.in-Ok.ensures.spelled w.in_default.ensures.done))
    ]
