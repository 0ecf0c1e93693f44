use Rattle.std.proofs.Common.{arith}
use Rattle.part_raw.proofs.Stocked.{most_slots, few_here}
use Rattle.part_raw.proofs.store.Partitions.len.Goals as goal

pub overflow_sub-result : goal.overflow_sub-result
overflow_sub-result g c = omega (arith, c.self.invariant.0.table.store.total, c.self.invariant.1)

pub returns-clause-value : goal.returns-clause-value
returns-clause-value g c = rw (← c.self.view_is) (omega (arith, c.self.invariant.0.table.store.total, c.self.invariant.1))

pub returns-clause-within : goal.returns-clause-within
returns-clause-within g c = rw (← c.self.view_is) (omega (arith, most_slots c.self.invariant.0, few_here c.self.invariant.0))
