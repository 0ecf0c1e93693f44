use Rattle.std.proofs.Common.{arith}
use Rattle.std.specs.Prelude.{is_ok}
use Rattle.mm_relation.proofs.Slots.{slots_resized, within_same}
use Rattle.mm_relation.proofs.slot_set.SlotSet.cover.Goals as goal

pub invariant_of-self : goal.invariant_of-self
invariant_of-self c =
    let same = slots_resized c.self.inside.words.items c.resize.new.self.items c.words_for-words.result _ (is_ok c.resize.result) (omega (arith, c.if-words-len.true, c.len.ensures)) c.resize.ensures.items in
    (within_same c.self.inside.words.items c.resize.new.self.items c.self.inside.start c.self.inside.end same c.self.invariant.0, c.self.invariant.1)
