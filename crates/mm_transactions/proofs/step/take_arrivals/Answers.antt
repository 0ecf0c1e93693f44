use Rattle.std.proofs.Common.{◌-◌, ◌<◌, arith}
use Rattle.mm_transactions.proofs.Arrivals.{arrivals_taken}
use Rattle.mm_transactions.proofs.step.take_arrivals.Goals as goal

pub returns-clause-taken : goal.returns-clause-taken
returns-clause-taken c =
    let step = c.index_mut-step.result.now in
    let some : 0 < c.take_arrivals-taken.result = omega (arith, c.if-taken-eq0.false) in (
      c.take_arrivals-taken.ensures.most,
      arrivals_taken c.args.steps.now.items (c.len-count.result - 1) step c.take_arrivals-taken.new.self c.take_arrivals-taken.result
          (omega (arith, c.len-count.ensures, c.if-count-eq0.false, c.args.steps.now.ok.0)) (omega (arith, c.len-count.ensures, c.args.steps.now.ok.0)) c.index_mut-step.ensures.value
          c.take_arrivals-taken.ensures.kind (c.take_arrivals-taken.ensures.came some) c.take_arrivals-taken.ensures.taken some,
    )
