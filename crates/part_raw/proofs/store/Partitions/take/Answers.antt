use Rattle.std.proofs.Common.{◌≡◌, set, arith, ap, Some, sym, ◌∙◌}
use Rattle.std.proofs.lemmas.Bool.{true≢false}
use Rattle.std.specs.FinMap.{remove}
use Rattle.part_raw.specs.Layout.{tuples_of}
use Rattle.part_raw.specs.Open.{tables}
use Rattle.part_raw.proofs.Numbers.{count_seen, number_read}
use Rattle.part_raw.proofs.Mapped.{mapped-remove}
use Rattle.part_raw.proofs.Stocked.{as_many, part_within, laid_held, bits_held, freed_slots, most_slots, few_here, held_here, stocked_full, stocked_open, freed_tuples, found_here}
use Rattle.part_raw.specs.Store.{count_of, tuple_at}
use Rattle.part_raw.specs.Counted.{counts_of}
use Rattle.part_raw.proofs.store.Partitions.take.Given.{Over}
use Rattle.part_raw.proofs.store.Partitions.take.Goals as goal
use Rattle.part_raw.proofs.store.Partitions.take.Goals.{After-count_at-count}

pub index_mut-occupancy-requires : goal.index_mut-occupancy-requires
index_mut-occupancy-requires g c =
    let held = rw (← c.self.view_is) at c.requires.held in
    omega (arith, part_within c.self.invariant.0 c.args.r c.part-part.ensures.value c.slot-slot.ensures.value held, as_many c.self.invariant.0, c.self.inside.occupancies.ok)

pub index_mut-block-requires : goal.index_mut-block-requires
index_mut-block-requires g c =
    let held = rw (← c.self.view_is) at c.requires.held in
    omega (arith, part_within c.self.invariant.0 c.args.r c.part-part.ensures.value c.slot-slot.ensures.value held, c.self.inside.blocks.ok)

pub vacate-requires-clause-laid : goal.vacate-requires-clause-laid
vacate-requires-clause-laid g c =
    let held = rw (← c.self.view_is) at c.requires.held in
    laid_held c.self.invariant.0 c.args.r c.part-part.ensures.value c.slot-slot.ensures.value held c.index_mut-block.ensures.value

pub vacate-requires-clause-bits : goal.vacate-requires-clause-bits
vacate-requires-clause-bits g c =
    let held = rw (← c.self.view_is) at c.requires.held in
    bits_held c.self.invariant.0 c.args.r c.part-part.ensures.value c.slot-slot.ensures.value held c.index_mut-block.ensures.value c.index_mut-occupancy.ensures.value

pub vacate-requires-clause-held : goal.vacate-requires-clause-held
vacate-requires-clause-held g c = held_here c.self.invariant.0 c.args.r c.part-part.ensures.value c.slot-slot.ensures.value (rw (← c.self.view_is) at c.requires.held) c.index_mut-block.ensures.value

pub invariant_of-self : goal.invariant_of-self
invariant_of-self g c = (
  stocked_full c.self.invariant.0 c.args.r c.part-part.ensures.value c.slot-slot.ensures.value (rw (← c.self.view_is) at c.requires.held) c.index_mut-block.ensures.value c.vacate.ensures.laid c.index_mut-occupancy.ensures.value c.vacate.ensures.bits c.vacate.ensures.slots (c.is_full-was_full.ensures.0 c.if-was_full.true),
  c.self.invariant.1 ∙ sym (freed_slots c.self.invariant.0 c.args.r c.part-part.ensures.value c.slot-slot.ensures.value (rw (← c.self.view_is) at c.requires.held) c.index_mut-block.ensures.value c.vacate.ensures.laid c.index_mut-occupancy.ensures.value c.vacate.ensures.bits c.vacate.ensures.slots),
)

pub invariant_of-self-else-was_full : goal.invariant_of-self-else-was_full
invariant_of-self-else-was_full g c = (
  stocked_open c.self.invariant.0 c.args.r c.part-part.ensures.value c.slot-slot.ensures.value (rw (← c.self.view_is) at c.requires.held) c.index_mut-block.ensures.value c.vacate.ensures.laid c.index_mut-occupancy.ensures.value c.vacate.ensures.bits c.vacate.ensures.slots
      (λ full. true≢false (sym (c.is_full-was_full.ensures.1 full) ∙ c.if-was_full.false)),
  c.self.invariant.1 ∙ sym (freed_slots c.self.invariant.0 c.args.r c.part-part.ensures.value c.slot-slot.ensures.value (rw (← c.self.view_is) at c.requires.held) c.index_mut-block.ensures.value c.vacate.ensures.laid c.index_mut-occupancy.ensures.value c.vacate.ensures.bits c.vacate.ensures.slots),
)

tuples : (g : Over) (c : After-count_at-count g) → tuples_of (tables c.self.inside.width (set c.self.inside.blocks.items c.part-part.result c.vacate.new.block)) ≡ remove c.args.self.now.tuples c.args.r
tuples g c =
    rw (← c.self.view_is)
    (freed_tuples c.self.invariant.0 c.args.r c.part-part.ensures.value c.slot-slot.ensures.value (rw (← c.self.view_is) at c.requires.held) c.index_mut-block.ensures.value c.vacate.ensures.laid c.index_mut-occupancy.ensures.value c.vacate.ensures.bits c.vacate.ensures.slots)

tuple : (g : Over) (c : After-count_at-count g) → tuple_at c.args.self.now c.args.r ≡ Some c.vacate.new.cells.items
tuple g c =
    rw (← c.self.view_is)
    (found_here c.self.invariant.0 c.args.r c.part-part.ensures.value c.slot-slot.ensures.value (rw (← c.self.view_is) at c.requires.held) c.index_mut-block.ensures.value ∙ c.vacate.ensures.row)

count : (g : Over) (c : After-count_at-count g) → c.count_at-count.result.now ≡ count_of c.args.self.now c.args.r
count g c =
    rw (← c.self.view_is)
    (c.count_at-count.ensures ∙ number_read c.self.inside.counts.items c.args.r c.part-part.result c.slot-slot.result c.part-part.ensures.value c.slot-slot.ensures.value
    ∙ sym (count_seen _ c.self.inside.counts.items c.args.r (rw (← c.self.view_is) at c.requires.held)))

counts : (g : Over) (c : After-count_at-count g)
    → counts_of c.self.inside.counts.items (tuples_of (tables c.self.inside.width (set c.self.inside.blocks.items c.part-part.result c.vacate.new.block))) ≡ remove c.args.self.now.counts c.args.r
counts g c =
    rw (← c.self.view_is)
    (ap (counts_of c.self.inside.counts.items) (freed_tuples c.self.invariant.0 c.args.r c.part-part.ensures.value c.slot-slot.ensures.value (rw (← c.self.view_is) at c.requires.held) c.index_mut-block.ensures.value c.vacate.ensures.laid c.index_mut-occupancy.ensures.value c.vacate.ensures.bits c.vacate.ensures.slots)
    ∙ mapped-remove _ _ c.args.r)

pub returns-then-was_full-clause-tuples : goal.returns-then-was_full-clause-tuples
returns-then-was_full-clause-tuples g c = tuples g (goal.at.returns-then-was_full-clause-tuples g c).After-count_at-count

pub returns-then-was_full-clause-tuple : goal.returns-then-was_full-clause-tuple
returns-then-was_full-clause-tuple g c = tuple g (goal.at.returns-then-was_full-clause-tuple g c).After-count_at-count

pub returns-else-was_full-clause-tuples : goal.returns-else-was_full-clause-tuples
returns-else-was_full-clause-tuples g c = tuples g (goal.at.returns-else-was_full-clause-tuples g c).After-count_at-count

pub returns-else-was_full-clause-tuple : goal.returns-else-was_full-clause-tuple
returns-else-was_full-clause-tuple g c = tuple g (goal.at.returns-else-was_full-clause-tuple g c).After-count_at-count

pub returns-then-was_full-clause-counts : goal.returns-then-was_full-clause-counts
returns-then-was_full-clause-counts g c = counts g (goal.at.returns-then-was_full-clause-counts g c).After-count_at-count

pub returns-else-was_full-clause-counts : goal.returns-else-was_full-clause-counts
returns-else-was_full-clause-counts g c = counts g (goal.at.returns-else-was_full-clause-counts g c).After-count_at-count

pub returns-then-was_full-clause-count : goal.returns-then-was_full-clause-count
returns-then-was_full-clause-count g c = count g (goal.at.returns-then-was_full-clause-count g c).After-count_at-count

pub returns-else-was_full-clause-count : goal.returns-else-was_full-clause-count
returns-else-was_full-clause-count g c = count g (goal.at.returns-else-was_full-clause-count g c).After-count_at-count

pub overflow_add-self : goal.overflow_add-self
overflow_add-self g c = omega (arith, most_slots c.self.invariant.0, few_here c.self.invariant.0)
