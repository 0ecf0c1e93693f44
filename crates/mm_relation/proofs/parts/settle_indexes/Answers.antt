use Rattle.std.proofs.Common.{arith}
use Rattle.mm_relation.proofs.Owed.{nothing_now}
use Rattle.mm_relation.proofs.parts.settle_indexes.Goals as goal

pub returns-then-owed-eq0-clause-owed : goal.returns-then-owed-eq0-clause-owed
returns-then-owed-eq0-clause-owed c = λ tree before.
    nothing_now _ _ _ _ (omega (arith, c.owed.ensures.value, c.if-owed-eq0.true)) (omega (arith, c.owed.ensures.value, c.owed.ensures.hidden))
