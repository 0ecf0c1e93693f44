use Rattle.std.proofs.Common.{arith, sym, ◌∙◌}
use Rattle.common_lemmas.proofs.Options.{is_some-Some}
use Rattle.part_raw.proofs.Stocked.{part_within, laid_held, exchanged_slots, held_here, found_here, exchanged_stocked, exchanged_seen}
use Rattle.part_raw.proofs.store.Partitions.replace.Goals as goal

pub index_mut-requires : goal.index_mut-requires
index_mut-requires g c =
    let held = rw (← c.self.view_is) at c.requires.held in
    omega (arith, part_within c.self.invariant.0 c.args.r c.part-part.ensures.value c.slot-slot.ensures.value held, c.self.inside.blocks.ok)

pub exchange-requires-clause-laid : goal.exchange-requires-clause-laid
exchange-requires-clause-laid g c =
    let held = rw (← c.self.view_is) at c.requires.held in
    laid_held c.self.invariant.0 c.args.r c.part-part.ensures.value c.slot-slot.ensures.value held c.index_mut.ensures.value

pub exchange-requires-clause-held : goal.exchange-requires-clause-held
exchange-requires-clause-held g c =
    held_here c.self.invariant.0 c.args.r c.part-part.ensures.value c.slot-slot.ensures.value (rw (← c.self.view_is) at c.requires.held) c.index_mut.ensures.value

pub invariant_of-self : goal.invariant_of-self
invariant_of-self g c =
    let held = rw (← c.self.view_is) at c.requires.held in
    let t = is_some-Some _ held in
    let row = sym (found_here c.self.invariant.0 c.args.r c.part-part.ensures.value c.slot-slot.ensures.value held c.index_mut.ensures.value) ∙ t.1 in (
      exchanged_stocked c.self.invariant.0 c.args.r c.part-part.ensures.value c.slot-slot.ensures.value held c.index_mut.ensures.value c.exchange.ensures.laid _ t.1 (c.exchange.ensures.slots t.0 row),
      c.self.invariant.1 ∙ sym (exchanged_slots c.self.invariant.0 c.args.r c.part-part.ensures.value c.slot-slot.ensures.value held c.index_mut.ensures.value c.exchange.ensures.laid _ t.1 (c.exchange.ensures.slots t.0 row)),
    )

pub returns-clause-value : goal.returns-clause-value
returns-clause-value g c =
    let held = rw (← c.self.view_is) at c.requires.held in
    let t = is_some-Some _ held in
    let row = sym (found_here c.self.invariant.0 c.args.r c.part-part.ensures.value c.slot-slot.ensures.value held c.index_mut.ensures.value) ∙ t.1 in
    rw (← c.self.view_is) (rw t.1 (c.exchange.ensures.value t.0 row))

pub returns-clause-tuples : goal.returns-clause-tuples
returns-clause-tuples g c =
    let held = rw (← c.self.view_is) at c.requires.held in
    let t = is_some-Some _ held in
    let row = sym (found_here c.self.invariant.0 c.args.r c.part-part.ensures.value c.slot-slot.ensures.value held c.index_mut.ensures.value) ∙ t.1 in
    rw (← c.self.view_is)
    (rw t.1
    (exchanged_seen c.self.invariant.0 c.args.r c.part-part.ensures.value c.slot-slot.ensures.value held c.index_mut.ensures.value c.exchange.ensures.laid _ t.1 (c.exchange.ensures.slots t.0 row)))
