use Rattle.std.proofs.Common.{ℕ, List, subst}
use Rattle.mm_csv.specs.BlockReading.{block_records}
use Rattle.plain_streams.specs.Requests.{Request}
use Rattle.plain_streams.specs.Runs.{Answers, HasBlock, line_of}
use Rattle.mm_catalog.specs.Seen.{database_of}
use Rattle.mm_catalog.specs.State.{CatalogState}
use Rattle.mm_session.specs.Judging.{IsJudged}
use Rattle.mm_session.specs.Reads.{Means}
use Rattle.mm_session.proofs.AnswerTexts.{answers-declined, answers-obeyed}
use Rattle.mm_session.proofs.ReadRequests.{declined-declines, performed-obeys}
use Rattle.mm_session.proofs.execute.Executor.respond.Goals as goal

pub returns-in_default-clause-answers : goal.returns-in_default-clause-answers
returns-in_default-clause-answers c =
    subst
    (λ (k : CatalogState). (bytes : List ℕ) → IsJudged bytes c.args.line.now → HasBlock k.limits (record { line = bytes; block = c.args.block.now })
    → Answers k.limits (database_of k) (record { line = bytes; block = c.args.block.now }) c.respond.new.answer (database_of k)) c.catalog.ensures
    c.in_default.ensures.answers

pub returns-in-Err-perform-clause-answers : goal.returns-in-Err-perform-clause-answers
returns-in-Err-perform-clause-answers c = λ bytes is has.
    let old = c.args.self.now.tables.catalog in
    let request : Request = record { line = bytes; block = c.args.block.now } in
    let means : Means (database_of old) request c.in-Err.change =
    subst (λ (k : CatalogState). Means (database_of k) request c.in-Err.change) c.catalog.ensures (c.in-Err.ensures.means bytes is) in
    rw c.in-Err-perform.ensures.refused.0.database
    (answers-declined old.limits (database_of old) request means.readable means.heard has c.in-Err-perform.refusal _
    (declined-declines (block_records c.args.block.now) old (line_of request) c.perform.new.self.tables.catalog c.in-Err.change c.in-Err-perform.refusal means.by c.in-Err-perform.ensures.refused)
    c.refuse.ensures)

pub returns-in_default-perform-clause-answers : goal.returns-in_default-perform-clause-answers
returns-in_default-perform-clause-answers c = λ bytes is has.
    let old = c.args.self.now.tables.catalog in
    let request : Request = record { line = bytes; block = c.args.block.now } in
    let means : Means (database_of old) request c.in-Err.change =
    subst (λ (k : CatalogState). Means (database_of k) request c.in-Err.change) c.catalog.ensures (c.in-Err.ensures.means bytes is) in
    answers-obeyed old.limits (database_of old) request means.readable means.heard has _ _
    (performed-obeys (block_records c.args.block.now) old (line_of request) c.perform.new.self.tables.catalog c.in-Err.change c.perform.new.answer means.by c.in_default-perform.ensures.done)
