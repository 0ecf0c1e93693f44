use Rattle.std.proofs.Common.{◌≡◌, ◌&&◌, ◌∙◌, ℕ, true, false, refl, ap, filter, sym, arith, is_some}
use Rattle.std.specs.FinMap as finite
use Rattle.temp_list.specs.Reading.{row_passes}
use Rattle.temp_list.proofs.Slots.{refs_below, none_below, slot_passes, slot_fails, slots_pass}
use Rattle.temp_list.proofs.search.passing_in_slots.Goals as goal
use Rattle.temp_list.proofs.search.passing_in_slots.Goals.{then-not-holds_slot-via-then-not-holds_slot, then-not-holds_slot-via-else-not-holds_slot+then-not-passes_all}

pub loop-number-init : goal.loop-number-init
loop-number-init g c = record { rows = c.new-rows.ensures.items ∙ none_below _; held = λ r from to. absurd (omega (arith, to)) }

pub loop-number-preserved-then-not-holds_slot : goal.loop-number-preserved-then-not-holds_slot
loop-number-preserved-then-not-holds_slot g c = record {
  rows =
      slot_fails _ c.loop-number.number _ (omega arith) c.numbered-r.result c.numbered-r.ensures c.loop-number.rows.items c.loop-number.invariant.rows
      (elim c.then-not-holds_slot.branch [
        | then-not-holds_slot-via-then-not-holds_slot w ↦ (let a : is_some (finite.get c.args.relation.now.rows c.numbered-r.result) ≡ false = sym c.holds_slot.ensures ∙ w.if-not-holds_slot.true in rw a refl)
        | then-not-holds_slot-via-else-not-holds_slot+then-not-passes_all w ↦
            (let a : is_some (finite.get c.args.relation.now.rows c.numbered-r.result) ≡ true = sym c.holds_slot.ensures ∙ w.if-not-holds_slot.false in
            let b : row_passes (g.R.Relations.tables c.args.tables.now) c.args.relation.now c.args.tests.now c.numbered-r.result ≡ false = sym w.passes_all.ensures ∙ w.if-not-passes_all.true in
            rw (a, b) refl)
      ]);
  held = λ q from to. c.held_up_to-held_end.ensures q (omega (arith, from, c.numbered-r.ensures)) to;
}

pub loop-number-preserved : goal.loop-number-preserved
loop-number-preserved g c = record {
  rows =
      c.in_ok-push.ensures.items
      ∙ slot_passes _ c.loop-number.number _ (omega arith) c.numbered-r.result c.numbered-r.ensures c.loop-number.rows.items c.loop-number.invariant.rows
      (let a : is_some (finite.get c.args.relation.now.rows c.numbered-r.result) ≡ true = sym c.holds_slot.ensures ∙ c.if-not-holds_slot.false in
      let b : row_passes (g.R.Relations.tables c.args.tables.now) c.args.relation.now c.args.tests.now c.numbered-r.result ≡ true = sym c.passes_all.ensures ∙ c.if-not-passes_all.false in
      rw (a, b) refl);
  held = λ q from to. c.held_up_to-held_end.ensures q (omega (arith, from, c.numbered-r.ensures)) to;
}

pub returns : goal.returns
returns g c =
    slots_pass (g.R.Relations.tables c.args.tables.now) c.args.relation.now c.a_relation_is_kept.ensures c.args.tests.now c.slots-number-end.result c.slots-number-end.ensures.within c.loop-number.rows.items
    (c.loop-number.invariant.rows
    ∙ (let last : c.loop-number.number ≡ c.slots-number-end.result = omega (arith, c.loop-number-test.false) in
    ap (λ (n : ℕ). filter (λ r. is_some (finite.get c.args.relation.now.rows r) && row_passes (g.R.Relations.tables c.args.tables.now) c.args.relation.now c.args.tests.now r) (refs_below n)) last))
