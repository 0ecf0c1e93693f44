use Rattle.std.proofs.Common.{refl, subst}
use Rattle.std.specs.Prelude.{OnOk}
use Rattle.plain_streams.specs.Requests.{Request}
use Rattle.mm_catalog.specs.Seen.{database_of}
use Rattle.mm_transactions.specs.State.{saved_of}
use Rattle.mm_session.specs.OneRequest.{GoesBetween}
use Rattle.mm_session.specs.Sessions.{State}
use Rattle.mm_session.proofs.Beside.{goes_between-if_ok}
use Rattle.mm_session.proofs.session.Session.read_request.Goals as goal

pub returns-clause-run : goal.returns-clause-run
returns-clause-run c =
    let inside = c.self.inside.responder in
    let session : State = record { limits = inside.executor.tables.catalog.limits; database = database_of inside.executor.tables.catalog; saved = saved_of inside.executor.tables; catalog = inside.executor.tables.catalog; ended = c.self.inside.ended; kept = inside.kept } in
    let request : Request = record { line = c.args.line.now; block = c.args.block.now } in
    subst (λ (s : State). OnOk c.read_request.result (GoesBetween s s request c.read_request.new.answer)) c.self.view_is
    (goes_between-if_ok c.read_request.result session session request c.read_request.new.answer
    (record { limits = refl; saved = refl; ended = refl; kept = refl }) c.read_request.ensures.ok)
