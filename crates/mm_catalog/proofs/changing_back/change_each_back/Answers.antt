use Rattle.std.proofs.Common.{◌≡◌, ◌+◌, ◌*◌, ◌-◌, ◌≤◌, is_some, ap, arith, drop, get_or, length, refl, sym, ◌∙◌, subst, take}
use Rattle.std.specs.FinMap as finite
use Rattle.std.proofs.Math.Nat.{mul-le-mul_right}
use Rattle.std.proofs.lemmas.List.{get_or_default, length-drop, length-take, length-take-le}
use Rattle.std.proofs.lemmas.Slice.{drop-put_mid}
use borrow.Rule.Slice.PartMut.{same_len_mid}
use lib.Seq.{drop-drop}
use Rattle.std.proofs.lemmas.Option.{none-some}
use Rattle.mm_relation.specs.Changes.{IsChangedBack}
use Rattle.mm_relation.specs.State.{IsCurrent}
use Rattle.mm_catalog.specs.ChangedBack.{AreRelinked, CellsFit, cells_of_row}
use Rattle.mm_catalog.proofs.HideSteps.{keys_once, not_yet}
use Rattle.mm_catalog.proofs.Relinking.{changed_more, counted_still, current_still, enough_still, fit_still, relinked_none, relinked_then, room_still}
use Rattle.mm_catalog.proofs.changing_back.change_each_back.Goals as goal

pub loop-k-init : goal.loop-k-init
loop-k-init c =
    let none : 0 ≡ 0 * c.args.width = omega arith in
    record {
      linked = subst (AreRelinked c.args.before.now c.args.before.now c.args.relation.now c.args.relation.now) none (relinked_none c.args.before.now c.args.relation.now c.requires.kept);
      changed = record {
        changed = λ k r at. absurd (none-some r at);
        others = λ r other. refl;
        referrers = refl;
        hidden = refl;
        owed = omega arith;
        keeps = record { schema = refl; targets = refl; declared = refl; counted = refl };
      };
      rest = refl;
      count = refl;
      kept = c.a_relation_is_kept.ensures;
      current = c.requires.current;
    }

pub change_row_back-requires : goal.change_row_back-requires
change_row_back-requires c =
    let k = c.loop-k.k in
    let rows = c.args.rows.now in
    let width = c.args.width in
    let r = get_or rows k (record { number = 0 }) in
    let itself = get_or_default rows k r (record { number = 0 }) c.loop-k-test.true in
    let linked = c.loop-k.invariant.linked in
    let changed = c.loop-k.invariant.changed in
    let targets = changed.keeps.targets in
    let few : (k + 1) * width ≤ length rows * width = mul-le-mul_right width (omega (arith, c.loop-k-test.true)) in
    let part : k * width + width - k * width ≡ width = omega arith in
    let here : take width (drop (k * width) c.loop-k.cells) ≡ take width (drop (k * width) c.args.cells.now) = ap (take width) c.loop-k.invariant.rest in
    let cells = ap (λ m. take m (drop (k * width) c.loop-k.cells)) part in
    let row_length : length (take (k * width + width - k * width) (drop (k * width) c.loop-k.cells)) ≤ width = omega (arith, part, length-take (k * width + width - k * width) (drop (k * width) c.loop-k.cells)) in
    record {
      kept = linked.counted.kept;
      own = c.loop-k.invariant.kept;
      held = ap is_some (changed.others r (not_yet rows k r c.loop-k-test.true itself c.requires.once)) ∙ c.requires.held k (record { number = 0 }) c.loop-k-test.true;
      fit = fit_still c.args.before.now c.loop-k.before c.args.relation.now c.loop-k.relation (k * width) linked targets _
          (subst (CellsFit c.args.before.now c.args.relation.now.targets) (sym (cells ∙ here)) (c.requires.fit k c.loop-k-test.true));
      counted = counted_still c.args.before.now c.loop-k.before c.args.relation.now c.loop-k.relation (k * width) linked targets c.requires.counted;
      enough = enough_still c.args.before.now c.loop-k.before c.args.relation.now c.loop-k.relation (k * width) linked targets c.requires.enough;
      room = room_still c.args.before.now c.loop-k.before c.args.relation.now c.loop-k.relation (k * width) linked targets (length rows * width) _ (omega (arith, few, row_length)) c.requires.room;
      owed = omega (arith, c.requires.owed, ap finite.len changed.hidden, changed.owed, c.loop-k-test.true, length-take-le k rows (omega (arith, c.loop-k-test.true)));
      current = current_still c.args.before.now c.loop-k.before c.args.relation.now c.loop-k.relation (k * width) linked targets c.loop-k.invariant.current;
    }

pub loop-k-preserved : goal.loop-k-preserved
loop-k-preserved c =
    let k = c.loop-k.k in
    let rows = c.args.rows.now in
    let width = c.args.width in
    let cells = c.loop-k.cells in
    let r = get_or rows k (record { number = 0 }) in
    let itself = get_or_default rows k r (record { number = 0 }) c.loop-k-test.true in
    let start = k * width in
    let part : start + width - start ≡ width = omega arith in
    let next : start + width ≡ (k + 1) * width = omega arith in
    let few : (k + 1) * width ≤ length rows * width = mul-le-mul_right width (omega (arith, c.loop-k-test.true)) in
    let long : start + width ≤ length cells = omega (arith, next, few, c.requires.count, c.loop-k.invariant.count) in
    let own : take (start + width - start) (drop start cells) ≡ cells_of_row width c.args.cells.now k = ap (λ m. take m (drop start cells)) part ∙ ap (take width) c.loop-k.invariant.rest in
    let wide : length (take (start + width - start) (drop start cells)) ≡ width = omega (arith, part, length-take (start + width - start) (drop start cells), length-drop start cells, long) in
    let sets_long : length c.change_row_back.new.sets ≡ start + width - start = omega (arith, c.change_row_back.auto.sets, wide, part) in
    let linked = relinked_then c.args.before.now c.loop-k.before c.change_row_back.new.before c.args.relation.now c.loop-k.relation c.change_row_back.new.relation start (length (take (start + width - start) (drop start cells))) c.loop-k.invariant.linked c.change_row_back.ensures.linked in
    let as_many : start + length (take (start + width - start) (drop start cells)) ≡ (k + 1) * width = omega (arith, wide, next) in
    let keys = keys_once c.args.relation.now c.loop-k.relation c.args.before.now c.loop-k.before c.loop-k.invariant.changed.keeps.targets c.loop-k.invariant.linked.counted.recounted in
    record {
      linked = subst (AreRelinked c.args.before.now c.change_row_back.new.before c.args.relation.now c.change_row_back.new.relation) as_many linked;
      changed = changed_more c.args.relation.now c.loop-k.relation c.change_row_back.new.relation rows k r c.loop-k-test.true itself c.requires.once width c.args.cells.now c.loop-k.invariant.changed
          (subst (IsChangedBack c.loop-k.relation c.change_row_back.new.relation r) own c.change_row_back.ensures.changed);
      rest =
          drop-put_mid start (start + width - start) cells c.change_row_back.new.sets ((k + 1) * width) (omega (arith, next, part)) (omega (arith, long)) sets_long
          ∙ ap (λ m. drop m cells) (sym next) ∙ sym (drop-drop width start cells) ∙ ap (drop width) c.loop-k.invariant.rest ∙ drop-drop width start c.args.cells.now ∙ ap (λ m. drop m c.args.cells.now) next;
      count = same_len_mid start (start + width - start) cells c.change_row_back.new.sets c.change_row_back.auto.sets ∙ c.loop-k.invariant.count;
      kept = c.change_row_back.ensures.kept;
      current = subst (λ ks. IsCurrent ks c.change_row_back.new.relation) keys c.change_row_back.ensures.current;
    }
