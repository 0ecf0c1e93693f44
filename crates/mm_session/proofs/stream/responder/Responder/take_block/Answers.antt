use Rattle.std.proofs.Common.{◌≡◌, ◌++◌, length, drop, refl, sym, ap, ◌∙◌, arith}
use Rattle.std.proofs.lemmas.List.{take-append-drop}
use Rattle.mm_session.specs.Kept.{to_come}
use Rattle.mm_session.proofs.Kept.{keeps_request-more, request-whole}
use Rattle.mm_session.proofs.stream.responder.Responder.take_block.Goals as goal

pub returns-then-bytes-to_come-clause-takes : goal.returns-then-bytes-to_come-clause-takes
returns-then-bytes-to_come-clause-takes c = (
  refl,
  λ rest keeps. rw c.extend.ensures (keeps_request-more c.args.self.now.executor.tables.catalog.limits rest c.args.self.now.kept.line c.args.block keeps c.args.bytes.now (omega arith)),
)

pub returns-clause-takes : goal.returns-clause-takes
returns-clause-takes c =
    let bytes = c.args.bytes.now in
    let last = c.split_at.result.0.now in
    let all : length last ≡ to_come c.args.block = c.split_at.ensures.front_len ∙ c.to_come-to_come.ensures in (
      last,
      sym (take-append-drop c.to_come-to_come.result bytes) ∙ ap (λ f. f ++ drop c.to_come-to_come.result bytes) (sym c.split_at.ensures.front) ∙ ap (λ b. last ++ b) (sym c.split_at.ensures.back),
      (
        c.end_block.ensures.kept,
        λ rest keeps.
            let (request, whole, joined, asks, line, kept) = request-whole c.args.self.now.executor.tables.catalog.limits rest c.args.self.now.kept.line c.args.block keeps last all in
            (request, whole, joined, c.end_block.ensures.answers request.line request.block line asks (rw c.extend-2.ensures kept)),
      ),
    )
