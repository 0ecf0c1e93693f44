use Rattle.std.proofs.Common.{arith}
use Rattle.mm_relation.proofs.Slots.{set_slot, within_in}
use Rattle.mm_relation.proofs.slot_set.SlotSet.insert.Goals as goal

pub returns-clause-changes : goal.returns-clause-changes
returns-clause-changes c = rw (← c.self.view_is) (set_slot c.self.inside.words.items c.args.slot c.index_mut.result.now (rw (← c.self.view_is) at c.requires) c.index_mut.ensures.value)

pub invariant_of-self : goal.invariant_of-self
invariant_of-self c =
    let comes = set_slot c.self.inside.words.items c.args.slot c.index_mut.result.now (rw (← c.self.view_is) at c.requires) c.index_mut.ensures.value in
    (rw (c.min-self-inside.ensures, c.max-self-inside.ensures) (within_in c.self.inside.words.items _ c.self.inside.start c.self.inside.end c.args.slot comes c.self.invariant.0), omega (arith, c.max-self-inside.ensures, c.self.invariant.1, c.ranges.slot.fits))
