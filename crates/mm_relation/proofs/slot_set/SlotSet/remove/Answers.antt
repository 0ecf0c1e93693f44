use Rattle.mm_relation.proofs.Slots.{clear_slot, within_out}
use Rattle.mm_relation.proofs.slot_set.SlotSet.remove.Goals as goal

pub returns-clause-changes : goal.returns-clause-changes
returns-clause-changes c = rw (← c.self.view_is) (clear_slot c.self.inside.words.items c.args.slot c.index_mut.result.now (rw (← c.self.view_is) at c.requires) c.index_mut.ensures.value)

pub invariant_of-self : goal.invariant_of-self
invariant_of-self c = (within_out c.self.inside.words.items _ c.self.inside.start c.self.inside.end c.args.slot (clear_slot c.self.inside.words.items c.args.slot c.index_mut.result.now (rw (← c.self.view_is) at c.requires) c.index_mut.ensures.value) c.self.invariant.0, c.self.invariant.1)
