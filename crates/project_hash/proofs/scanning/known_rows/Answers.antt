use Rattle.std.proofs.Common.{◌≡◌, ◌&&◌, ◌∙◌, ◌+◌, ℕ, true, false, List, [], length, refl, ap, sym, subst, arith, is_some, IsSome, ◌<◌}
use Rattle.std.specs.List.{All}
use Rattle.std.specs.FinMap as finite
use Rattle.std.proofs.lemmas.List.Elements.{All-nil}
use Rattle.part_raw.specs.declared.tuple_ref.TupleRef.{TupleRef}
use Rattle.mm_relation.specs.State.{IsKept}
use Rattle.temp_list.specs.Reading.{passing, row_passes}
use Rattle.project_hash.specs.Known.{AreKnown, AreEnough, row_states}
use Rattle.project_hash.specs.Shown.{IsShown}
use Rattle.project_hash.specs.Table.{TableState, list_of_table}
use Rattle.project_hash.proofs.KnownRows.{none_known}
use Rattle.project_hash.proofs.Scans.{IsShownBy, found_below, nothing_below, slot_without, all_more, some_more, found_there, all_shown}
use Rattle.project_hash.proofs.scanning.known_rows.Goals as goal
use Rattle.project_hash.proofs.scanning.known_rows.Goals.{then-not-holds_slot-via-then-not-holds_slot, then-not-holds_slot-via-else-not-holds_slot+then-not-passes_all}

pub loop-number-init : goal.loop-number-init
loop-number-init g c =
    let t = c.args.table.now in
    let all = list_of_table t.table (passing t.relations t.relation c.args.tests.now) t.places in
    record {
      known = subst (λ (rs : List TupleRef). AreKnown t rs c.new-known.result.by_hash.entries) (sym c.new-known.ensures.rows) (subst (AreKnown t []) (sym c.new-known.ensures.by_hash) (none_known t));
      some = subst (λ (rs : List TupleRef). All (IsShown t.relations all) (row_states t rs)) (sym c.new-known.ensures.rows) (All-nil (IsShown t.relations all));
      all = nothing_below t c.args.tests.now c.new-known.result.rows.items;
      few = omega (arith, ap length c.new-known.ensures.rows, c.new-known.result.rows.ok.0);
      held = λ r from to. absurd (omega (arith, to));
    }

pub loop-number-preserved-then-not-holds_slot : goal.loop-number-preserved-then-not-holds_slot
loop-number-preserved-then-not-holds_slot g c =
    let t = c.args.table.now in
    let tests = c.args.tests.now in
    let fails : (is_some (finite.get t.relation.rows c.numbered-r.result) && row_passes t.relations t.relation tests c.numbered-r.result) ≡ false =
    elim c.then-not-holds_slot.branch [
      | then-not-holds_slot-via-then-not-holds_slot w ↦ (let a : is_some (finite.get t.relation.rows c.numbered-r.result) ≡ false = sym (ap (λ (u : TableState). is_some (finite.get u.relation.rows c.numbered-r.result)) c.table.view_is) ∙ sym c.holds_slot.ensures ∙ w.if-not-holds_slot.true in rw a refl)
      | then-not-holds_slot-via-else-not-holds_slot+then-not-passes_all w ↦
          (let a : is_some (finite.get t.relation.rows c.numbered-r.result) ≡ true = sym (ap (λ (u : TableState). is_some (finite.get u.relation.rows c.numbered-r.result)) c.table.view_is) ∙ sym c.holds_slot.ensures ∙ w.if-not-holds_slot.false in
          let b : row_passes t.relations t.relation tests c.numbered-r.result ≡ false = sym (ap (λ (u : TableState). row_passes u.relations u.relation tests c.numbered-r.result) c.table.view_is) ∙ sym w.passes_all.ensures ∙ w.if-not-passes_all.true in
          rw (a, b) refl)
    ] in
    record {
      known = c.loop-number.invariant.known;
      some = c.loop-number.invariant.some;
      all = subst (All (IsShownBy t tests c.loop-number.known.rows.items)) (slot_without t tests c.loop-number.number (c.loop-number.number + 1) refl c.numbered-r.result c.numbered-r.ensures fails) c.loop-number.invariant.all;
      few = omega (arith, c.loop-number.invariant.few);
      held = λ q from to. subst (λ (u : TableState). IsSome (finite.get u.relation.rows q)) c.table.view_is (c.held_up_to-held_end.ensures q (omega (arith, from, c.numbered-r.ensures)) to);
    }

pub loop-number-preserved : goal.loop-number-preserved
loop-number-preserved g c =
    let t = c.args.table.now in
    let tests = c.args.tests.now in
    let r = c.numbered-r.result in
    let held : is_some (finite.get t.relation.rows r) ≡ true = sym (ap (λ (u : TableState). is_some (finite.get u.relation.rows r)) c.table.view_is) ∙ sym c.holds_slot.ensures ∙ c.if-not-holds_slot.false in
    let passes : row_passes t.relations t.relation tests r ≡ true = sym (ap (λ (u : TableState). row_passes u.relations u.relation tests r) c.table.view_is) ∙ sym c.passes_all.ensures ∙ c.if-not-passes_all.false in
    let picked : (is_some (finite.get t.relation.rows r) && row_passes t.relations t.relation tests r) ≡ true = rw (held, passes) refl in
    record {
      known = c.in_ok-keep.ensures.known;
      some = some_more t tests c.loop-number.number (c.loop-number.number + 1) refl r c.numbered-r.ensures c.loop-number.known.rows.items c.keep.new.self.rows.items c.in_ok-keep.ensures.rows picked
          (found_there t tests (subst (λ (u : TableState). IsKept u.relation) c.table.view_is c.a_relation_is_kept.ensures) r held passes) c.loop-number.invariant.some;
      all = all_more t tests c.loop-number.number (c.loop-number.number + 1) refl r c.numbered-r.ensures c.loop-number.known.rows.items c.keep.new.self.rows.items c.in_ok-keep.ensures.rows picked c.loop-number.invariant.all;
      few = omega (arith, c.in_ok-keep.ensures.count, c.loop-number.invariant.few);
      held = λ q from to. subst (λ (u : TableState). IsSome (finite.get u.relation.rows q)) c.table.view_is (c.held_up_to-held_end.ensures q (omega (arith, from, c.numbered-r.ensures)) to);
    }

pub returns : goal.returns
returns g c =
    let t = c.args.table.now in
    let tests = c.args.tests.now in
    let last : c.loop-number.number ≡ c.slots-number-end.result = omega (arith, c.loop-number-test.false) in
    subst (AreEnough t (passing t.relations t.relation tests)) (sym c.into_rows.ensures)
    (record {
      held = c.loop-number.invariant.known.held;
      some = c.loop-number.invariant.some;
      apart = c.loop-number.invariant.known.apart;
      all = all_shown t tests (subst (λ (u : TableState). IsKept u.relation) c.table.view_is c.a_relation_is_kept.ensures) c.slots-number-end.result
          (subst (λ (u : TableState). (r : TupleRef) → IsSome (finite.get u.relation.rows r) → r.number < c.slots-number-end.result) c.table.view_is c.slots-number-end.ensures.within) c.loop-number.known.rows.items
          (subst (λ (n : ℕ). All (IsShownBy t tests c.loop-number.known.rows.items) (found_below t tests n)) last c.loop-number.invariant.all);
    })
