use Rattle.std.proofs.Common.{◌<◌, ◌≤◌, length, arith}
use Rattle.plain_streams.specs.Requests.{Request}
use Rattle.plain_streams.specs.Division.{IsWhole}
use Rattle.mm_catalog.specs.Seen.{database_of}
use Rattle.mm_session.proofs.Beside.{has_block-whole, answers-whole_too_long}
use Rattle.mm_session.proofs.stream.responder.Responder.answer_request.Goals as goal

pub returns-then-block-block_limit-clause-ok : goal.returns-then-block-block_limit-clause-ok
returns-then-block-block_limit-clause-ok c =
    let limits = c.args.self.now.executor.tables.catalog.limits in
    let request : Request = record { line = c.args.line.now; block = c.args.block.now } in
    let whole : IsWhole request = c.in-Some.ensures.0 in
    let long : limits.block < length c.args.block.now = omega (arith, c.block_limit.ensures) in
    record { whole = whole; answers = answers-whole_too_long limits (database_of c.args.self.now.executor.tables.catalog) request c.set.new.self whole long c.set.ensures }

pub returns-clause-ok : goal.returns-clause-ok
returns-clause-ok c =
    let limits = c.args.self.now.executor.tables.catalog.limits in
    let request : Request = record { line = c.args.line.now; block = c.args.block.now } in
    let whole : IsWhole request = c.in-Some.ensures.0 in
    let within : length c.args.block.now ≤ limits.block = omega (arith, c.block_limit.ensures) in
    record { whole = whole; answers = c.respond.ensures.answers c.args.line.now c.in-Some.ensures.1 (has_block-whole limits request whole within) }
