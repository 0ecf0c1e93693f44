use Rattle.std.proofs.Common.{ap, ◌≡◌, set, ◌<◌, ℕ, None, arith, sym, subst, ◌∙◌}
use Rattle.std.proofs.lemmas.Bool.{true≢false}
use Rattle.std.specs.FinMap.{get, insert}
use Rattle.std.specs.Option.{option_map}
use Rattle.part_raw.proofs.Mapped.{get-mapped}
use Rattle.part_raw.specs.Counted.{counts_of}
use Rattle.part_raw.specs.Open.{tables}
use Rattle.part_raw.specs.Rows.{IsLaid, rows_in}
use Rattle.part_raw.specs.Layout.{IsPartition, tuples_of, vacancies}
use Rattle.part_raw.proofs.Sound.{first_is_some}
use Rattle.part_raw.proofs.Stocked.{as_many, bits_here, few_here}
use Rattle.part_raw.proofs.Filled.{first_within, first_has_slot, first_there, filled_slots, filled_full, filled_open, filled_fresh, filled_tuples, filled_counts}
use Rattle.part_raw.proofs.store.Partitions.put.Given.{Over}
use Rattle.part_raw.proofs.store.Partitions.put.Goals as goal
use Rattle.part_raw.proofs.store.Partitions.put.Goals.{After-to-r}

pub unreachable-requires : goal.unreachable-requires
unreachable-requires g c =
    let none = first_is_some _ _ c.self.inside.free (rw c.in-None.is at c.self.invariant.0).table.store in
    let some = rw (← c.self.view_is) at c.requires.room in
    omega (arith, none, some)

pub index_mut-occupancy-requires : goal.index_mut-occupancy-requires
index_mut-occupancy-requires g c =
    let is = rw c.in-Some.is at c.self.invariant.0 in
    omega (arith, first_within is, as_many is, c.self.inside.occupancies.ok)

pub index_mut-block-requires : goal.index_mut-block-requires
index_mut-block-requires g c = let is = rw c.in-Some.is at c.self.invariant.0 in omega (arith, first_within is, c.self.inside.blocks.ok)

pub fill-slot-requires-clause-laid : goal.fill-slot-requires-clause-laid
fill-slot-requires-clause-laid g c =
    let is = rw c.in-Some.is at c.self.invariant.0 in
    let wide = rw (← c.self.view_is) at c.requires.width in
    subst (λ (n : ℕ). IsLaid n c.index_mut-block.result.now) (sym wide) (is.table.laid c.in-Some.part c.index_mut-block.result.now (first_within is) c.index_mut-block.ensures.value (first_there is c.index_mut-block.ensures.value))

pub fill-slot-requires-clause-bits : goal.fill-slot-requires-clause-bits
fill-slot-requires-clause-bits g c =
    let is = rw c.in-Some.is at c.self.invariant.0 in
    let wide = rw (← c.self.view_is) at c.requires.width in
    subst (λ (n : ℕ). IsPartition c.index_mut-occupancy.result.now.held.words (rows_in n c.index_mut-block.result.now)) (sym wide)
    (bits_here is c.in-Some.part c.index_mut-block.result.now c.index_mut-occupancy.result.now (first_within is) c.index_mut-block.ensures.value c.index_mut-occupancy.ensures.value (first_there is c.index_mut-block.ensures.value))

pub fill-slot-requires-clause-free : goal.fill-slot-requires-clause-free
fill-slot-requires-clause-free g c =
    let is = rw c.in-Some.is at c.self.invariant.0 in
    let wide = rw (← c.self.view_is) at c.requires.width in
    subst (λ (n : ℕ). 0 < vacancies (rows_in n c.index_mut-block.result.now)) (sym wide) (first_has_slot is c.index_mut-block.ensures.value)

pub invariant_of-self : goal.invariant_of-self
invariant_of-self g c =
    let is = rw c.in-Some.is at c.self.invariant.0 in
    let wide = rw (← c.self.view_is) at c.requires.width in
    let some = rw (← c.self.view_is) at c.requires.room in (
      filled_full is _ wide c.index_mut-block.ensures.value c.index_mut-occupancy.ensures.value c.fill-slot.ensures.laid c.fill-slot.ensures.bits c.fill-slot.ensures.slot c.fill-slot.ensures.fresh c.fill-slot.ensures.slots c.set_count_at.ensures some (c.is_full.ensures.0 c.if-is_full.true),
      c.self.invariant.1 ∙ sym (filled_slots is _ wide c.index_mut-block.ensures.value c.index_mut-occupancy.ensures.value c.fill-slot.ensures.laid c.fill-slot.ensures.bits c.fill-slot.ensures.slot c.fill-slot.ensures.fresh c.fill-slot.ensures.slots c.set_count_at.ensures),
    )

pub invariant_of-self-else-is_full : goal.invariant_of-self-else-is_full
invariant_of-self-else-is_full g c =
    let is = rw c.in-Some.is at c.self.invariant.0 in
    let wide = rw (← c.self.view_is) at c.requires.width in
    let some = rw (← c.self.view_is) at c.requires.room in (
      rw c.in-Some.is
          (filled_open is _ wide c.index_mut-block.ensures.value c.index_mut-occupancy.ensures.value c.fill-slot.ensures.laid c.fill-slot.ensures.bits c.fill-slot.ensures.slot c.fill-slot.ensures.fresh c.fill-slot.ensures.slots c.set_count_at.ensures some
          (λ full. true≢false (sym (c.is_full.ensures.1 full) ∙ c.if-is_full.false))),
      c.self.invariant.1 ∙ sym (filled_slots is _ wide c.index_mut-block.ensures.value c.index_mut-occupancy.ensures.value c.fill-slot.ensures.laid c.fill-slot.ensures.bits c.fill-slot.ensures.slot c.fill-slot.ensures.fresh c.fill-slot.ensures.slots c.set_count_at.ensures),
    )

pub to-r-requires-clause-part : goal.to-r-requires-clause-part
to-r-requires-clause-part g c = let is = rw c.in-Some.is at c.self.invariant.0 in omega (arith, first_within is, few_here is)

fresh : (g : Over) (c : After-to-r g) → get c.args.self.now.tuples c.to-r.result ≡ None
fresh g c =
    let wide = rw (← c.self.view_is) at c.requires.width in
    rw (← c.self.view_is, c.to-r.ensures)
    (filled_fresh (rw c.in-Some.is at c.self.invariant.0) _ wide c.index_mut-block.ensures.value c.index_mut-occupancy.ensures.value c.fill-slot.ensures.laid c.fill-slot.ensures.bits c.fill-slot.ensures.slot c.fill-slot.ensures.fresh c.fill-slot.ensures.slots c.set_count_at.ensures)

tuples : (g : Over) (c : After-to-r g) → tuples_of (tables c.self.inside.width (set c.self.inside.blocks.items c.in-Some.part c.fill-slot.new.block)) ≡ insert c.args.self.now.tuples c.to-r.result c.args.cells.now.items
tuples g c =
    let wide = rw (← c.self.view_is) at c.requires.width in
    rw (← c.self.view_is, c.to-r.ensures)
    (filled_tuples (rw c.in-Some.is at c.self.invariant.0) _ wide c.index_mut-block.ensures.value c.index_mut-occupancy.ensures.value c.fill-slot.ensures.laid c.fill-slot.ensures.bits c.fill-slot.ensures.slot c.fill-slot.ensures.fresh c.fill-slot.ensures.slots c.set_count_at.ensures)

counts : (g : Over) (c : After-to-r g)
    → counts_of c.set_count_at.new.counts.items (tuples_of (tables c.self.inside.width (set c.self.inside.blocks.items c.in-Some.part c.fill-slot.new.block))) ≡ insert c.args.self.now.counts c.to-r.result 0
counts g c =
    let wide = rw (← c.self.view_is) at c.requires.width in
    rw (← c.self.view_is, c.to-r.ensures)
    (filled_counts (rw c.in-Some.is at c.self.invariant.0) _ wide c.index_mut-block.ensures.value c.index_mut-occupancy.ensures.value c.fill-slot.ensures.laid c.fill-slot.ensures.bits c.fill-slot.ensures.slot c.fill-slot.ensures.fresh c.fill-slot.ensures.slots c.set_count_at.ensures)

pub returns-then-is_full-clause-fresh : goal.returns-then-is_full-clause-fresh
returns-then-is_full-clause-fresh g c = fresh g (goal.at.returns-then-is_full-clause-fresh g c).After-to-r

pub returns-then-is_full-clause-tuples : goal.returns-then-is_full-clause-tuples
returns-then-is_full-clause-tuples g c = tuples g (goal.at.returns-then-is_full-clause-tuples g c).After-to-r

pub returns-else-is_full-clause-fresh : goal.returns-else-is_full-clause-fresh
returns-else-is_full-clause-fresh g c = fresh g (goal.at.returns-else-is_full-clause-fresh g c).After-to-r

pub returns-else-is_full-clause-tuples : goal.returns-else-is_full-clause-tuples
returns-else-is_full-clause-tuples g c = tuples g (goal.at.returns-else-is_full-clause-tuples g c).After-to-r

uncounted : (g : Over) (c : After-to-r g) → get c.args.self.now.counts c.to-r.result ≡ None
uncounted g c =
    let none = rw (← c.self.view_is) at (fresh g c) in
    rw (← c.self.view_is) (get-mapped _ (tuples_of (tables c.self.inside.width c.self.inside.blocks.items)) c.to-r.result ∙ ap (option_map _) none)

pub returns-then-is_full-clause-uncounted : goal.returns-then-is_full-clause-uncounted
returns-then-is_full-clause-uncounted g c = uncounted g (goal.at.returns-then-is_full-clause-uncounted g c).After-to-r

pub returns-else-is_full-clause-uncounted : goal.returns-else-is_full-clause-uncounted
returns-else-is_full-clause-uncounted g c = uncounted g (goal.at.returns-else-is_full-clause-uncounted g c).After-to-r

pub returns-then-is_full-clause-counts : goal.returns-then-is_full-clause-counts
returns-then-is_full-clause-counts g c = counts g (goal.at.returns-then-is_full-clause-counts g c).After-to-r

pub returns-else-is_full-clause-counts : goal.returns-else-is_full-clause-counts
returns-else-is_full-clause-counts g c = counts g (goal.at.returns-else-is_full-clause-counts g c).After-to-r

pub returns-then-is_full-clause-numbered : goal.returns-then-is_full-clause-numbered
returns-then-is_full-clause-numbered g c = let is = rw c.in-Some.is at c.self.invariant.0 in omega (arith, ap (λ r. r.number) c.to-r.ensures, c.fill-slot.ensures.slot, first_within is, few_here is)

pub returns-else-is_full-clause-numbered : goal.returns-else-is_full-clause-numbered
returns-else-is_full-clause-numbered g c = let is = rw c.in-Some.is at c.self.invariant.0 in omega (arith, ap (λ r. r.number) c.to-r.ensures, c.fill-slot.ensures.slot, first_within is, few_here is)
