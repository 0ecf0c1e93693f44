use Rattle.std.proofs.lemmas.Result.{on_ok_weaker, on_err_weaker}
use Rattle.std.proofs.Common.{None, refl}
use Rattle.mm_statements.proofs.Executing.{unchanged}
use Rattle.mm_statements.proofs.Seen.{named-seen, names-seen}
use Rattle.mm_statements.proofs.database.Database.finalize.Goals as goal

pub returns-clause-freed : goal.returns-clause-freed
returns-clause-freed c =
    let s = c.self.inside.held in
    rw (← c.self.view_is)
    (on_ok_weaker c.finalize.result (names-seen s s c.self.inside.statements c.finalize.new.self c.args.number None) c.finalize.ensures.freed)

pub returns-clause-unchanged : goal.returns-clause-unchanged
returns-clause-unchanged c =
    let s = c.self.inside.held in
    let old = c.self.inside.statements in
    rw (← c.self.view_is)
    (on_err_weaker c.finalize.result (λ same. unchanged s s old c.finalize.new.self refl (named-seen old c.finalize.new.self same)) c.finalize.ensures.unchanged)
