use Rattle.std.proofs.Common.{ap, Err}
use Rattle.std.proofs.lemmas.Result.{IfErr-weaker, IfOk-weaker, err_from_is_err_and}
use Rattle.mm_csv.specs.BlockReading.{block_records}
use Rattle.mm_session.proofs.ReadRequests.{means-meant, unparsed-declines, unresolved-declines}
use Rattle.mm_session.proofs.execute.ReadExecutor.meaning.Goals as goal

pub returns-in_err-command-clause-refused : goal.returns-in_err-command-clause-refused
returns-in_err-command-clause-refused c =
    let e = err_from_is_err_and c.from_residual.result c.from_residual.ensures.1 in
    rw (e.1, e.2)
    (unparsed-declines (block_records c.args.block.now) c.args.catalog.now c.args.line.now c.in_err-command.field-0.0 (λ is. c.in_err-command.ensures.syntax (ap Err is)))

pub returns-clause-spelled : goal.returns-clause-spelled
returns-clause-spelled c = IfOk-weaker c.resolve.result _ _ (λ r is. (c.in_ok-command.command, c.in_ok-command.ensures.command, is)) c.resolve.ensures.meant

pub returns-clause-meant : goal.returns-clause-meant
returns-clause-meant c =
    IfOk-weaker c.resolve.result _ _
    (λ r is. means-meant (block_records c.args.block.now) c.args.catalog.now c.args.line.now c.args.catalog.now.limits r (c.in_ok-command.command, c.in_ok-command.ensures.command, is)) c.resolve.ensures.meant

pub returns-clause-refused : goal.returns-clause-refused
returns-clause-refused c =
    IfErr-weaker c.resolve.result _ _
    (λ why is. unresolved-declines (block_records c.args.block.now) c.args.catalog.now c.args.line.now c.in_ok-command.command why c.in_ok-command.ensures.command is) c.resolve.ensures.refused
