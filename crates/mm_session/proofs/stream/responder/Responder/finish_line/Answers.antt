use Rattle.std.proofs.Common.{◌≡◌, ◌<◌, ◌≤◌, [], true, false, nat_lt, sym, subst, ◌∙◌, arith}
use Rattle.std.proofs.lemmas.Bool.Decides.{nat_tests}
use Rattle.plain_streams.specs.Requests.{Request, Asks}
use Rattle.plain_streams.specs.Runs.{Answers}
use Rattle.mm_catalog.specs.Seen.{database_of}
use Rattle.mm_session.specs.declared.stream.responder.Responder.{Responder}
use Rattle.mm_session.proofs.Asks.{has_block-empty, asks-some}
use Rattle.mm_session.proofs.Requests.{answers-refused_block}
use Rattle.mm_session.proofs.stream.responder.Responder.finish_line.Goals as goal

pub returns-then-length-eq0-clause-answers : goal.returns-then-length-eq0-clause-answers
returns-then-length-eq0-clause-answers c = λ line is.
    c.respond.ensures.answers line (c.judged-line.ensures line is)
    (has_block-empty c.args.self.now.executor.tables.catalog.limits line c.asked.result (c.asked.ensures line (c.judged-line.ensures line is)) (sym c.unwrap_or-length.ensures ∙ c.if-length-eq0.true))

pub returns-clause-answers : goal.returns-clause-answers
returns-clause-answers c = λ line is.
    let limits = c.args.self.now.executor.tables.catalog.limits in
    let tables = database_of c.args.self.now.executor.tables.catalog in
    let request : Request = record { line = line; block = [] } in
    let length = c.unwrap_or-length.result in
    let limit : c.block_limit.result ≡ limits.block = c.block_limit.ensures in
    let some : 0 < length = omega arith in
    let asks : Asks line length = rw c.unwrap_or-length.ensures (asks-some line c.asked.result (c.asked.ensures line (c.judged-line.ensures line is)) (rw c.unwrap_or-length.ensures at some)) in
    let long : nat_lt c.block_limit.result length ≡ true → limits.block < length = λ h. grind (arith, nat_tests) in
    let within : nat_lt c.block_limit.result length ≡ false → length ≤ limits.block = λ h. grind (arith, nat_tests) in
    subst (λ (r : Responder). Answers limits tables request r.answer (database_of r.executor.tables.catalog)) (sym c.refuse_block.ensures)
    (answers-refused_block limits tables request length (nat_lt c.block_limit.result length) asks long within some)
