use Rattle.std.proofs.Common.{◌≡◌, sym, ap, subst, ◌∙◌}
use Rattle.plain_streams.specs.Division.{request_of}
use Rattle.plain_streams.specs.Runs.{Answers}
use Rattle.plain_streams.proofs.Division.{request_of-line, request_of-bytes}
use Rattle.mm_catalog.specs.Seen.{database_of}
use Rattle.mm_session.specs.declared.stream.responder.Responder.{Responder}
use Rattle.mm_session.proofs.Kept.{keeps-no_block, keeps-block, keeps_block-long, keeps_block-within}
use Rattle.mm_session.proofs.Requests.{answers-refused_block}
use Rattle.mm_session.proofs.stream.responder.Responder.finish.Goals as goal

pub returns-in-None-clause-answers : goal.returns-in-None-clause-answers
returns-in-None-clause-answers c = λ rest is some.
    let self = c.args.self.now in
    let (unbroken, kept) = keeps-no_block self.executor.tables.catalog.limits rest self.kept (sym c.take.ensures.value ∙ c.in-None.is) is in
    rw (request_of-line rest unbroken) (c.finish_line.ensures.answers rest kept)

pub returns-in-Some-clause-answers : goal.returns-in-Some-clause-answers
returns-in-Some-clause-answers c = λ rest is some.
    let self = c.args.self.now in
    let limits = self.executor.tables.catalog.limits in
    let tables = database_of self.executor.tables.catalog in
    let keeps = keeps-block limits rest self.kept c.in-Some.block (sym c.take.ensures.value ∙ c.in-Some.is) is in
    let last : request_of rest ≡ keeps.request = ap request_of keeps.bytes ∙ request_of-bytes keeps.request keeps.unbroken in
    let answered = answers-refused_block limits tables keeps.request keeps.asked c.is_too_long-passes.result keeps.asks
    (λ long. keeps_block-long limits.block keeps.asked keeps.request.block c.in-Some.block (sym c.is_too_long-passes.ensures ∙ long) keeps.keeps_block)
    (λ within. keeps_block-within limits.block keeps.asked keeps.request.block c.in-Some.block (sym c.is_too_long-passes.ensures ∙ within) keeps.keeps_block) keeps.cut in
    rw last (subst (λ (r : Responder). Answers limits tables keeps.request r.answer (database_of r.executor.tables.catalog)) (sym c.refuse_block.ensures) answered)
