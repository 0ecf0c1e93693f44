use Rattle.std.proofs.Common.{◌≡◌, set, arith, ap, sym, ◌∙◌}
use Rattle.std.proofs.lemmas.Bool.{true≢false}
use Rattle.std.specs.FinMap.{remove}
use Rattle.part_raw.specs.Layout.{tuples_of}
use Rattle.part_raw.specs.Open.{tables}
use Rattle.part_raw.specs.Counted.{counts_of}
use Rattle.part_raw.proofs.Mapped.{mapped-remove}
use Rattle.part_raw.proofs.Stocked.{as_many, part_within, laid_held, bits_held, freed_slots, most_slots, few_here, held_here, stocked_full, stocked_open, freed_tuples}
use Rattle.part_raw.proofs.store.Partitions.remove.Given.{Over}
use Rattle.part_raw.proofs.store.Partitions.remove.Goals as goal
use Rattle.part_raw.proofs.store.Partitions.remove.Goals.{After-empty}

pub index_mut-occupancy-requires : goal.index_mut-occupancy-requires
index_mut-occupancy-requires g c =
    let held = rw (← c.self.view_is) at c.requires in
    omega (arith, part_within c.self.invariant.0 c.args.r c.part-part.ensures.value c.slot-slot.ensures.value held, as_many c.self.invariant.0, c.self.inside.occupancies.ok)

pub index_mut-block-requires : goal.index_mut-block-requires
index_mut-block-requires g c =
    let held = rw (← c.self.view_is) at c.requires in
    omega (arith, part_within c.self.invariant.0 c.args.r c.part-part.ensures.value c.slot-slot.ensures.value held, c.self.inside.blocks.ok)

pub empty-requires-clause-laid : goal.empty-requires-clause-laid
empty-requires-clause-laid g c =
    let held = rw (← c.self.view_is) at c.requires in
    laid_held c.self.invariant.0 c.args.r c.part-part.ensures.value c.slot-slot.ensures.value held c.index_mut-block.ensures.value

pub empty-requires-clause-bits : goal.empty-requires-clause-bits
empty-requires-clause-bits g c =
    let held = rw (← c.self.view_is) at c.requires in
    bits_held c.self.invariant.0 c.args.r c.part-part.ensures.value c.slot-slot.ensures.value held c.index_mut-block.ensures.value c.index_mut-occupancy.ensures.value

pub empty-requires-clause-held : goal.empty-requires-clause-held
empty-requires-clause-held g c = held_here c.self.invariant.0 c.args.r c.part-part.ensures.value c.slot-slot.ensures.value (rw (← c.self.view_is) at c.requires) c.index_mut-block.ensures.value

pub invariant_of-self : goal.invariant_of-self
invariant_of-self g c = (
  stocked_full c.self.invariant.0 c.args.r c.part-part.ensures.value c.slot-slot.ensures.value (rw (← c.self.view_is) at c.requires) c.index_mut-block.ensures.value c.empty.ensures.laid c.index_mut-occupancy.ensures.value c.empty.ensures.bits c.empty.ensures.slots (c.is_full-was_full.ensures.0 c.if-was_full.true),
  c.self.invariant.1 ∙ sym (freed_slots c.self.invariant.0 c.args.r c.part-part.ensures.value c.slot-slot.ensures.value (rw (← c.self.view_is) at c.requires) c.index_mut-block.ensures.value c.empty.ensures.laid c.index_mut-occupancy.ensures.value c.empty.ensures.bits c.empty.ensures.slots),
)

pub invariant_of-self-else-was_full : goal.invariant_of-self-else-was_full
invariant_of-self-else-was_full g c = (
  stocked_open c.self.invariant.0 c.args.r c.part-part.ensures.value c.slot-slot.ensures.value (rw (← c.self.view_is) at c.requires) c.index_mut-block.ensures.value c.empty.ensures.laid c.index_mut-occupancy.ensures.value c.empty.ensures.bits c.empty.ensures.slots
      (λ full. true≢false (sym (c.is_full-was_full.ensures.1 full) ∙ c.if-was_full.false)),
  c.self.invariant.1 ∙ sym (freed_slots c.self.invariant.0 c.args.r c.part-part.ensures.value c.slot-slot.ensures.value (rw (← c.self.view_is) at c.requires) c.index_mut-block.ensures.value c.empty.ensures.laid c.index_mut-occupancy.ensures.value c.empty.ensures.bits c.empty.ensures.slots),
)

tuples : (g : Over) (c : After-empty g) → tuples_of (tables c.self.inside.width (set c.self.inside.blocks.items c.part-part.result c.empty.new.block)) ≡ remove c.args.self.now.tuples c.args.r
tuples g c =
    rw (← c.self.view_is)
    (freed_tuples c.self.invariant.0 c.args.r c.part-part.ensures.value c.slot-slot.ensures.value (rw (← c.self.view_is) at c.requires) c.index_mut-block.ensures.value c.empty.ensures.laid c.index_mut-occupancy.ensures.value c.empty.ensures.bits c.empty.ensures.slots)

counts : (g : Over) (c : After-empty g)
    → counts_of c.self.inside.counts.items (tuples_of (tables c.self.inside.width (set c.self.inside.blocks.items c.part-part.result c.empty.new.block))) ≡ remove c.args.self.now.counts c.args.r
counts g c =
    rw (← c.self.view_is)
    (ap (counts_of c.self.inside.counts.items) (freed_tuples c.self.invariant.0 c.args.r c.part-part.ensures.value c.slot-slot.ensures.value (rw (← c.self.view_is) at c.requires) c.index_mut-block.ensures.value c.empty.ensures.laid c.index_mut-occupancy.ensures.value c.empty.ensures.bits c.empty.ensures.slots)
    ∙ mapped-remove _ _ c.args.r)

pub returns-then-was_full-clause-tuples : goal.returns-then-was_full-clause-tuples
returns-then-was_full-clause-tuples g c = tuples g (goal.at.returns-then-was_full-clause-tuples g c).After-empty

pub returns-else-was_full-clause-tuples : goal.returns-else-was_full-clause-tuples
returns-else-was_full-clause-tuples g c = tuples g (goal.at.returns-else-was_full-clause-tuples g c).After-empty

pub returns-then-was_full-clause-counts : goal.returns-then-was_full-clause-counts
returns-then-was_full-clause-counts g c = counts g (goal.at.returns-then-was_full-clause-counts g c).After-empty

pub returns-else-was_full-clause-counts : goal.returns-else-was_full-clause-counts
returns-else-was_full-clause-counts g c = counts g (goal.at.returns-else-was_full-clause-counts g c).After-empty

pub overflow_add-self : goal.overflow_add-self
overflow_add-self g c = omega (arith, most_slots c.self.invariant.0, few_here c.self.invariant.0)
