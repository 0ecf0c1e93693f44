use Rattle.std.proofs.Common.{[], ◌++◌, refl, ◌∙◌, append-nil, subst}
use Rattle.mm_session.specs.Kept.{KeepsBlock}
use Rattle.mm_session.specs.Responding.{IsLoadLine, IsRestWith}
use Rattle.mm_session.proofs.Kept.{keeps_request-begun}
use Rattle.mm_session.proofs.Taking.{takes-behind}
use Rattle.mm_session.proofs.stream.responder.Responder.begin_block.Goals as goal

pub returns-clause-takes : goal.returns-clause-takes
returns-clause-takes c =
    let limits = c.args.self.now.executor.tables.catalog.limits in
    takes-behind (IsLoadLine c.args.self.now c.args.length) (IsRestWith c.args.self.now c.new-block.result) c.args.self.now c.take_block.new.self []
    (λ rest (line, is, unbroken, asks, kept).
    keeps_request-begun limits (rest ++ []) line c.args.self.now.kept.line c.new-block.result c.args.length (append-nil rest ∙ is) unbroken asks c.requires.some kept
    (subst (λ l. KeepsBlock l c.args.length [] c.new-block.result) c.block_limit.ensures c.new-block.ensures))
    c.args.bytes.now c.args.bytes.now _ refl c.take_block.ensures.takes
