use Rattle.std.proofs.Common.{arith, refl}
use Rattle.part_raw.proofs.Stocked.{part_within, most_slots, few_here}
use Rattle.part_raw.proofs.store.Partitions.slots.Goals as goal

pub overflow_mul-result : goal.overflow_mul-result
overflow_mul-result g c = omega (arith, few_here c.self.invariant.0, c.len.ensures, c.self.inside.blocks.ok)

pub returns-clause-least : goal.returns-clause-least
returns-clause-least g c = rw (← c.self.view_is) (omega (arith, most_slots c.self.invariant.0, c.len.ensures, c.self.inside.blocks.ok))

pub returns-clause-most : goal.returns-clause-most
returns-clause-most g c = omega (arith, few_here c.self.invariant.0, c.len.ensures, c.self.inside.blocks.ok)

pub returns-clause-within : goal.returns-clause-within
returns-clause-within g c r held =
    let part = part_within c.self.invariant.0 r refl refl (rw (← c.self.view_is) at held) in
    omega (arith, part, c.len.ensures, c.self.inside.blocks.ok)
