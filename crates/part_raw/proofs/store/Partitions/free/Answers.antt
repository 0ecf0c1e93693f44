use Rattle.std.proofs.Common.{arith}
use Rattle.part_raw.proofs.Stocked.{most_slots, few_here}
use Rattle.part_raw.proofs.store.Partitions.free.Goals as goal

pub returns-clause-within : goal.returns-clause-within
returns-clause-within g c = rw (← c.self.view_is) (omega (arith, most_slots c.self.invariant.0, few_here c.self.invariant.0))
