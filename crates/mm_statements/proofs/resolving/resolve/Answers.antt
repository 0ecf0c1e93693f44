use Rattle.std.proofs.Common.{◌∙◌, sym}
use Rattle.mm_statements.proofs.NotedMeanings.{right-now}
use Rattle.mm_statements.proofs.resolving.resolve.Goals as goal

pub returns-then-is_some-clause-right : goal.returns-then-is_some-clause-right
returns-then-is_some-clause-right c =
    right-now c.args.held.now.session.database c.args.noted.now c.args.statements.now
    (c.requires.current (sym c.are_current.ensures ∙ c.if-are_current.true)) c.requires.right
