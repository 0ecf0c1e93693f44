use Rattle.std.proofs.Common.{◌<◌, ◌≤◌, ℕ, List, length, arith, subst}
use Rattle.std.proofs.lemmas.Result.{IfErr-at_err}
use Rattle.plain_streams.specs.Requests.{Request}
use Rattle.plain_streams.specs.Division.{IsWhole}
use Rattle.plain_streams.specs.Runs.{Answers, HasBlock}
use Rattle.mm_catalog.specs.Seen.{database_of}
use Rattle.mm_catalog.specs.State.{CatalogState}
use Rattle.mm_session.specs.Judging.{IsJudged}
use Rattle.mm_session.specs.OneRequest.{AnswersOne}
use Rattle.mm_session.specs.Reads.{WouldChange}
use Rattle.mm_session.proofs.Beside.{has_block-whole, answers-whole_too_long}
use Rattle.mm_session.proofs.ReadRequests.{would-change}
use Rattle.mm_session.proofs.stream.responder.Responder.read_request.Goals.{in-Err, in-Ok}
use Rattle.mm_session.proofs.stream.responder.Responder.read_request.Goals as goal

pub returns-then-block-block_limit-clause-ok : goal.returns-then-block-block_limit-clause-ok
returns-then-block-block_limit-clause-ok c =
    let limits = c.args.self.now.executor.tables.catalog.limits in
    let request : Request = record { line = c.args.line.now; block = c.args.block.now } in
    let whole : IsWhole request = c.in-Some.ensures.0 in
    let long : limits.block < length c.args.block.now = omega (arith, c.block_limit.ensures) in
    record { whole = whole; answers = answers-whole_too_long limits (database_of c.args.self.now.executor.tables.catalog) request c.set.new.self whole long c.set.ensures }

pub returns-clause-ok : goal.returns-clause-ok
returns-clause-ok c =
    let tables = c.args.self.now.executor.tables.catalog in
    let limits = tables.limits in
    let request : Request = record { line = c.args.line.now; block = c.args.block.now } in
    let whole : IsWhole request = c.in-Some.ensures.0 in
    let within : length c.args.block.now ≤ limits.block = omega (arith, c.block_limit.ensures) in
    elim c.match-respond.branch [
      | in-Ok w ↦
          let answers =
          subst
          (λ (k : CatalogState). (bytes : List ℕ) → IsJudged bytes c.in-Some.judged → HasBlock k.limits (record { line = bytes; block = c.args.block.now })
          → Answers k.limits (database_of k) (record { line = bytes; block = c.args.block.now }) c.respond.new.answer (database_of k)) c.catalog.ensures
          w.in-Ok.ensures.answers in
          let one : AnswersOne limits (database_of tables) request c.respond.new.answer (database_of tables) =
          record { whole = whole; answers = answers c.args.line.now c.in-Some.ensures.1 (has_block-whole limits request whole within) } in
          rw w.result-is one
      | in-Err w ↦ rw w.result-is tt
    ]

pub returns-clause-changes : goal.returns-clause-changes
returns-clause-changes c =
    let request : Request = record { line = c.args.line.now; block = c.args.block.now } in
    elim c.match-respond.branch [
      | in-Ok w ↦ rw w.result-is (λ is. cc)
      | in-Err w ↦ λ is.
          subst (λ (k : CatalogState). WouldChange (database_of k) request) c.catalog.ensures
          (would-change c.catalog.result.now request _ c.in-Some.ensures.0
          (IfErr-at_err _ w.in-Err.is c.respond.ensures.means c.args.line.now c.in-Some.ensures.1)
          (IfErr-at_err _ w.in-Err.is c.respond.ensures.changes))
    ]
