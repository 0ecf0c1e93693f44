use Rattle.std.proofs.Common.{List, arith, sym, refl, ◌∙◌}
use Rattle.std.specs.List.{refill, length_refill}
use Rattle.common_lemmas.proofs.Options.{is_some-Some}
use Rattle.part_raw.proofs.Rows.{run_of_row, row_of_run, row_wide}
use Rattle.part_raw.proofs.RowSteps.{rows-put_wide}
use Rattle.part_raw.proofs.Stocked.{part_within, slot_in_range, found_here, laid_held, exchanged_stocked, exchanged_slots, exchanged_seen}
use Rattle.part_raw.proofs.store.Partitions.get_mut.Goals as goal

pub index_mut-requires : goal.index_mut-requires
index_mut-requires g c =
    let held = rw (← c.self.view_is) at c.requires in
    omega (arith, part_within c.self.invariant.0 c.args.r c.part-part.ensures.value c.slot-slot.ensures.value held, c.self.inside.blocks.ok)

pub run_mut-requires : goal.run_mut-requires
run_mut-requires g c =
    let held = rw (← c.self.view_is) at c.requires in
    let t = is_some-Some _ held in
    run_of_row c.self.inside.width c.slot-slot.result c.index_mut.result.now t.0 (laid_held c.self.invariant.0 c.args.r c.part-part.ensures.value c.slot-slot.ensures.value held c.index_mut.ensures.value)
    (sym (found_here c.self.invariant.0 c.args.r c.part-part.ensures.value c.slot-slot.ensures.value held c.index_mut.ensures.value) ∙ t.1)

pub invariant_of-self-lent : goal.invariant_of-self-lent
invariant_of-self-lent g c w =
    let held = rw (← c.self.view_is) at c.requires in
    let t = is_some-Some _ held in
    let in_range = slot_in_range c.self.invariant.0 c.args.r c.part-part.ensures.value c.slot-slot.ensures.value held in
    let laid = laid_held c.self.invariant.0 c.args.r c.part-part.ensures.value c.slot-slot.ensures.value held c.index_mut.ensures.value in
    let wide = row_wide c.self.inside.width c.slot-slot.result c.index_mut.result.now c.run_mut.result.now laid (row_of_run c.self.inside.width c.slot-slot.result c.index_mut.result.now c.run_mut.result.now laid.some in_range c.run_mut.ensures.values) in
    let row : List g.row.T.Denot = refill c.self.inside.width c.run_mut.result.now w in
    let put = rows-put_wide c.self.inside.width c.index_mut.result.now c.slot-slot.result row (sym (length_refill c.self.inside.width c.run_mut.result.now w (sym wide))) in_range laid in (
      exchanged_stocked c.self.invariant.0 c.args.r c.part-part.ensures.value c.slot-slot.ensures.value held c.index_mut.ensures.value put.0 row t.1 put.1,
      c.self.invariant.1 ∙ sym (exchanged_slots c.self.invariant.0 c.args.r c.part-part.ensures.value c.slot-slot.ensures.value held c.index_mut.ensures.value put.0 row t.1 put.1),
    )

pub returns : goal.returns
returns g c =
    let held = rw (← c.self.view_is) at c.requires in
    let t = is_some-Some _ held in
    let in_range = slot_in_range c.self.invariant.0 c.args.r c.part-part.ensures.value c.slot-slot.ensures.value held in
    let laid = laid_held c.self.invariant.0 c.args.r c.part-part.ensures.value c.slot-slot.ensures.value held c.index_mut.ensures.value in
    let is_row = row_of_run c.self.inside.width c.slot-slot.result c.index_mut.result.now c.run_mut.result.now laid.some in_range c.run_mut.ensures.values in
    let wide = row_wide c.self.inside.width c.slot-slot.result c.index_mut.result.now c.run_mut.result.now laid is_row in
    let is = found_here c.self.invariant.0 c.args.r c.part-part.ensures.value c.slot-slot.ensures.value held c.index_mut.ensures.value ∙ is_row in (
      (
        refl,
        λ w.
            let row : List g.row.T.Denot = refill c.self.inside.width c.run_mut.result.now w in
            let put = rows-put_wide c.self.inside.width c.index_mut.result.now c.slot-slot.result row (sym (length_refill c.self.inside.width c.run_mut.result.now w (sym wide))) in_range laid in
            rw (← c.self.view_is) (exchanged_seen c.self.invariant.0 c.args.r c.part-part.ensures.value c.slot-slot.ensures.value held c.index_mut.ensures.value put.0 row t.1 put.1),
      ),
      record { writes_back = tt; tuple = rw (← c.self.view_is) is; width = rw (← c.self.view_is) wide },
    )
