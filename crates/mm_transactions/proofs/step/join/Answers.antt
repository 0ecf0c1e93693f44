use Rattle.std.proofs.Common.{◌-◌, arith, refl}
use Rattle.mm_transactions.proofs.Steps.{joined_last}
use Rattle.mm_transactions.proofs.step.join.Goals as goal

pub returns-then-step-noted-clause-joined : goal.returns-then-step-noted-clause-joined
returns-then-step-noted-clause-joined c e =
    let step = c.index_mut-step.result.now in
    joined_last c.args.steps.now.items (c.len-count.result - 1) step (record { kind = c.take_in.new.self; table = step.table; start = step.start; cells_start = step.cells_start }) c.args.noted.now
    (omega (arith, c.len-count.ensures, c.if-count-eq0.false, c.args.steps.now.ok.0))
    (omega (arith, c.len-count.ensures, c.args.steps.now.ok.0)) c.index_mut-step.ensures.value c.if-step-noted.true refl (c.take_in.ensures.taken e)
