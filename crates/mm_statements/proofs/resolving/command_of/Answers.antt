use Rattle.std.proofs.Common.{◌≡◌, sym, Some, Ok, Err}
use Rattle.std.proofs.lemmas.Result.{IfErr-weaker, IfOk-weaker}
use Rattle.mm_prepared.specs.Kept.{named}
use Rattle.mm_prepared.specs.Lent.{lent_command}
use Rattle.mm_statements.proofs.Executing.{is-finished, is-meant, known-resolves}
use Rattle.mm_statements.proofs.Finished.{finished-rows}
use Rattle.mm_statements.proofs.resolving.command_of.Goals as goal

pub returns-clause-finished : goal.returns-clause-finished
returns-clause-finished c = λ tables all.
    let p = c.in-Some.prepared.now in
    let r = c.in-Some-resolution.resolution in
    let there : named c.args.statements.now c.args.number ≡ Some p = sym c.in-Some.ensures in
    let right = all c.args.number p there in
    IfOk-weaker c.lend.result _ _
    (λ lent done.
    is-finished tables p right.statement right.spelled r (known-resolves tables p r right c.in-Some-resolution.is) c.args.statements.now c.args.number
    (Ok (lent_command lent)) there (rw c.as_slice.ensures.values at done)) c.lend.ensures.done

pub returns-clause-meant : goal.returns-clause-meant
returns-clause-meant c = λ limits tables all.
    let p = c.in-Some.prepared.now in
    let r = c.in-Some-resolution.resolution in
    let right = all c.args.number p (sym c.in-Some.ensures) in
    IfOk-weaker c.lend.result _ _
    (λ lent done.
    is-meant tables p right.statement right.spelled r (known-resolves tables p r right c.in-Some-resolution.is) limits (lent_command lent)
    c.as_slice.ensures.width (rw c.as_slice.ensures.values at done)) c.lend.ensures.done

pub returns-clause-rows : goal.returns-clause-rows
returns-clause-rows c =
    IfOk-weaker c.lend.result _ _ (λ lent done. finished-rows c.as_slice.result.now c.in-Some-resolution.resolution (lent_command lent) done) c.lend.ensures.done

pub returns-clause-refused : goal.returns-clause-refused
returns-clause-refused c = λ tables all.
    let p = c.in-Some.prepared.now in
    let r = c.in-Some-resolution.resolution in
    let there : named c.args.statements.now c.args.number ≡ Some p = sym c.in-Some.ensures in
    let right = all c.args.number p there in
    IfErr-weaker c.lend.result _ _
    (λ why says other.
    is-finished tables p right.statement right.spelled r (known-resolves tables p r right c.in-Some-resolution.is) c.args.statements.now c.args.number
    (Err why) there (rw c.as_slice.ensures.values at (says other))) c.lend.ensures.refused
