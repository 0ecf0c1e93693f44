use Rattle.std.proofs.Common.{◌+◌, ◌<◌, length, arith, ap, refl, sym, ◌∙◌}
use Rattle.part_raw.specs.Store.{store}
use Rattle.part_raw.proofs.Parts.{read_block}
use Rattle.part_raw.proofs.Stocked.{few_here, as_many, room_here}
use Rattle.part_raw.proofs.Filled.{bare_block, refilled_stocked, refill_tuples, refill_counts, refill_slots, pushed_stocked, pushed_tuples, pushed_counts, pushed_slots}
use Rattle.part_raw.proofs.store.Partitions.grow.Goals as goal

pub overflow_cast-self : goal.overflow_cast-self
overflow_cast-self g c = omega (arith, few_here c.self.invariant.0, c.len-part.ensures, c.reserve.ensures.len, c.self.inside.blocks.ok)

pub invariant_of-self-then-bare-len : goal.invariant_of-self-then-bare-len
invariant_of-self-then-bare-len g c =
    let long = as_many c.self.invariant.0 in
    let past : length c.self.inside.blocks.items < c.bare_place-bare.result + 1 = omega (arith, c.if-bare-len.true, c.len.ensures, c.self.inside.blocks.ok) in
    let room = room_here c.self.invariant.0 (rw (← c.self.view_is) at c.requires)
    (λ full part within. c.bare_place-bare.ensures.blocks (omega (arith, full, long)) part (omega (arith, past, within)) (omega (arith, within, long))) in
    rw (c.push_reserved.ensures.items, c.reserve.ensures.items, c.push_next.ensures, c.in_ok-counts.ensures.items, c.push_reserved-then-bare-len.ensures.items, c.reserve-then-bare-len.ensures.items) (
      pushed_stocked c.self.invariant.0 _ _ c.in_ok-block.ensures c.in_ok-counts.ensures.made c.in_ok-counts.ensures.zeros _ _ c.new-then-bare-len.ensures refl refl
          (omega (arith, c.len-part.ensures, c.reserve.ensures.len, c.self.inside.blocks.ok)) room,
      ap (λ n. n + 256) c.self.invariant.1 ∙ sym (pushed_slots c.self.invariant.0 _ _ c.in_ok-block.ensures c.in_ok-counts.ensures.made c.in_ok-counts.ensures.zeros),
    )

pub returns-then-bare-len-clause-ok : goal.returns-then-bare-len-clause-ok
returns-then-bare-len-clause-ok g c =
    let same = pushed_tuples c.self.invariant.0 _ _ c.in_ok-block.ensures c.in_ok-counts.ensures.made c.in_ok-counts.ensures.zeros in
    let alike = pushed_counts c.self.invariant.0 _ _ c.in_ok-block.ensures c.in_ok-counts.ensures.made c.in_ok-counts.ensures.zeros in
    rw (← c.self.view_is, c.push_reserved.ensures.items, c.reserve.ensures.items, c.push_next.ensures, c.in_ok-counts.ensures.items)
    (λ i. store c.self.inside.width (same i) (alike i) (c.self.inside.free + 256) c.self.inside.counted)

pub let_go-requires : goal.let_go-requires
let_go-requires g c =
    let within : c.bare_place-bare.result < length c.self.inside.blocks.items = omega (arith, c.if-bare-len.false, c.len.ensures, c.self.inside.blocks.ok) in
    let among : c.bare_place-bare.result < length c.self.inside.occupancies.items = omega (arith, within, as_many c.self.invariant.0) in
    c.replace.ensures.value ∙ sym (read_block c.self.inside.blocks.items c.index_mut.result.now c.bare_place-bare.result within c.index_mut.ensures.value)
    ∙ bare_block c.self.invariant.0 c.bare_place-bare.result within (c.bare_place-bare.ensures.bare among)

pub index_mut-occupancy-requires : goal.index_mut-occupancy-requires
index_mut-occupancy-requires g c = omega (arith, as_many c.self.invariant.0, c.if-bare-len.false, c.len.ensures, c.self.inside.blocks.ok, c.self.inside.occupancies.ok)

pub overflow_cast-self-2 : goal.overflow_cast-self-2
overflow_cast-self-2 g c = omega (arith, few_here c.self.invariant.0, c.if-bare-len.false, c.len.ensures, c.self.inside.blocks.ok)

pub invariant_of-self-2 : goal.invariant_of-self-2
invariant_of-self-2 g c =
    let o = c.index_mut-occupancy.result.now in
    let within : c.bare_place-bare.result < length c.self.inside.blocks.items = omega (arith, c.if-bare-len.false, c.len.ensures, c.self.inside.blocks.ok) in
    let among : c.bare_place-bare.result < length c.self.inside.occupancies.items = omega (arith, within, as_many c.self.invariant.0) in
    let new = c.replace.ensures.after ∙ c.in_ok-block-2.ensures in
    rw c.set_counts.ensures (
      refilled_stocked c.self.invariant.0 c.bare_place-bare.result c.replace.new.dest o within c.index_mut-occupancy.ensures.value (c.bare_place-bare.ensures.bare among) new _ c.in_ok-counts-2.ensures _ refl refl refl,
      ap (λ n. n + 256) c.self.invariant.1 ∙ sym (refill_slots c.self.invariant.0 c.bare_place-bare.result c.replace.new.dest o within c.index_mut-occupancy.ensures.value (c.bare_place-bare.ensures.bare among) new _ c.in_ok-counts-2.ensures),
    )

pub returns-clause-ok : goal.returns-clause-ok
returns-clause-ok g c =
    let o = c.index_mut-occupancy.result.now in
    let within : c.bare_place-bare.result < length c.self.inside.blocks.items = omega (arith, c.if-bare-len.false, c.len.ensures, c.self.inside.blocks.ok) in
    let among : c.bare_place-bare.result < length c.self.inside.occupancies.items = omega (arith, within, as_many c.self.invariant.0) in
    let same = refill_tuples c.self.invariant.0 c.bare_place-bare.result c.replace.new.dest o within c.index_mut-occupancy.ensures.value (c.bare_place-bare.ensures.bare among) (c.replace.ensures.after ∙ c.in_ok-block-2.ensures) _ c.in_ok-counts-2.ensures in
    let alike = refill_counts c.self.invariant.0 c.bare_place-bare.result c.replace.new.dest o within c.index_mut-occupancy.ensures.value (c.bare_place-bare.ensures.bare among) (c.replace.ensures.after ∙ c.in_ok-block-2.ensures) _ c.in_ok-counts-2.ensures in
    rw (← c.self.view_is) (rw c.set_counts.ensures (λ i. store c.self.inside.width (same i) (alike i) (c.self.inside.free + 256) c.self.inside.counted))
