use Rattle.std.proofs.Common.{refl, subst}
use Rattle.std.specs.Prelude.{OnOk}
use Rattle.plain_streams.specs.Requests.{Request}
use Rattle.mm_catalog.specs.Seen.{database_of}
use Rattle.mm_transactions.specs.State.{saved_of}
use Rattle.mm_session.specs.OneRequest.{GoesBetween}
use Rattle.mm_session.specs.Sessions.{State}
use Rattle.mm_session.proofs.Beside.{goes_between-if_ok}
use Rattle.mm_session.proofs.session.Session.answer_request.Goals as goal

pub returns-clause-run : goal.returns-clause-run
returns-clause-run c =
    let before = c.self.inside.responder in
    let after = c.answer_request.new.self in
    let ended = c.self.inside.ended in
    let old : State = record { limits = before.executor.tables.catalog.limits; database = database_of before.executor.tables.catalog; saved = saved_of before.executor.tables; catalog = before.executor.tables.catalog; ended = ended; kept = before.kept } in
    let new : State = record { limits = after.executor.tables.catalog.limits; database = database_of after.executor.tables.catalog; saved = saved_of after.executor.tables; catalog = after.executor.tables.catalog; ended = ended; kept = after.kept } in
    let request : Request = record { line = c.args.line.now; block = c.args.block.now } in
    subst (λ (s : State). OnOk c.answer_request.result (GoesBetween s new request c.answer_request.new.answer)) c.self.view_is
    (goes_between-if_ok c.answer_request.result old new request c.answer_request.new.answer
    (record { limits = c.answer_request.ensures.limits; saved = c.answer_request.ensures.saved; ended = refl; kept = c.answer_request.ensures.kept }) c.answer_request.ensures.ok)
