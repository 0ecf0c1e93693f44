use Rattle.std.proofs.Common.{◌≡◌, ◌*◌, ◌+◌, ◌≤◌, IsSome, None, is_some, ap, arith, get_or, length, sym, ◌∙◌, subst}
use Rattle.std.specs.FinMap as finite
use Rattle.std.specs.List.{All, Contains}
use Rattle.std.proofs.lemmas.List.{get_or_default}
use Rattle.std.proofs.lemmas.List.Elements.{All-contains}
use Rattle.std.proofs.lemmas.Option.{same_Some}
use Rattle.std.proofs.Math.Nat.{mul-le-mul_right}
use Rattle.part_raw.specs.declared.tuple_ref.TupleRef.{TupleRef}
use Rattle.part_raw.proofs.Tuples.{get-insert_same, held_tuple}
use Rattle.mm_relation.specs.State.{IsCurrent, IsReadable, linked_keys}
use Rattle.mm_catalog.specs.Counted.{IsHeldIn}
use Rattle.mm_catalog.specs.Linked.{row_links}
use Rattle.mm_catalog.proofs.Counted.{all_held_still, room_left}
use Rattle.mm_catalog.proofs.HideSteps.{is_one, keys_once, len-insert_most, linked_more, linked_none, new_key, not_yet, shown_more, shown_none, shown_one}
use Rattle.mm_catalog.proofs.hiding.show_each.Goals as goal

pub loop-r-init : goal.loop-r-init
loop-r-init c = record {
  linked = linked_none c.args.before.now c.args.relation.now c.requires.kept;
  shown = shown_none c.args.relation.now;
  few = omega (arith, c.requires.few);
  owed = omega arith;
  kept = c.a_relation_is_kept.ensures;
  current = c.requires.current;
}

pub show_row-requires-clause-hidden : goal.show_row-requires-clause-hidden
show_row-requires-clause-hidden c =
    let i = c.loop-r.r-index in
    let rows = c.args.rows.now in
    let r = get_or rows i (record { number = 0 }) in
    let itself = get_or_default rows i r (record { number = 0 }) c.loop-r-test.true in
    let not = not_yet rows i r c.loop-r-test.true itself c.requires.once in
    let one = is_one rows i r c.loop-r-test.true itself c.requires.once in
    ap is_some (c.loop-r.invariant.shown.hidden r not) ∙ All-contains (λ q. IsSome (finite.get c.args.relation.now.hidden q)) rows r c.requires.hidden one

pub show_row-requires-clause-new_key : goal.show_row-requires-clause-new_key
show_row-requires-clause-new_key c row at =
    let i = c.loop-r.r-index in
    let rows = c.args.rows.now in
    let r = get_or rows i (record { number = 0 }) in
    let itself = get_or_default rows i r (record { number = 0 }) c.loop-r-test.true in
    let not = not_yet rows i r c.loop-r-test.true itself c.requires.once in
    let one = is_one rows i r c.loop-r-test.true itself c.requires.once in
    new_key rows i r c.loop-r-test.true itself c.requires.once c.args.relation.now c.loop-r.relation row c.loop-r.invariant.shown c.requires.hidden
    (λ q there. c.hidden_rows_are_apart.ensures q (All-contains (λ x. IsSome (finite.get c.args.relation.now.hidden x)) rows q c.requires.hidden there))
    c.requires.keys (sym (c.loop-r.invariant.shown.hidden r not) ∙ at)

pub show_row-requires-clause-readable : goal.show_row-requires-clause-readable
show_row-requires-clause-readable c row at =
    let i = c.loop-r.r-index in
    let rows = c.args.rows.now in
    let r = get_or rows i (record { number = 0 }) in
    let itself = get_or_default rows i r (record { number = 0 }) c.loop-r-test.true in
    let not = not_yet rows i r c.loop-r-test.true itself c.requires.once in
    let one = is_one rows i r c.loop-r-test.true itself c.requires.once in
    let keys = keys_once c.args.relation.now c.loop-r.relation c.args.before.now c.loop-r.before c.loop-r.invariant.shown.keeps.targets c.loop-r.invariant.linked.counted.recounted in
    subst (λ ks. IsReadable ks (length c.loop-r.relation.targets) row) (sym keys)
    (subst (λ targets. IsReadable (linked_keys c.args.relation.now.targets c.args.before.now) (length targets) row) (sym c.loop-r.invariant.shown.keeps.targets)
    (c.requires.readable r row one (sym (c.loop-r.invariant.shown.hidden r not) ∙ at)))

pub show_row-requires-clause-few : goal.show_row-requires-clause-few
show_row-requires-clause-few c = omega (arith, c.loop-r.invariant.few, c.loop-r-test.true)

pub show_row-requires-clause-current : goal.show_row-requires-clause-current
show_row-requires-clause-current c =
    let keys = keys_once c.args.relation.now c.loop-r.relation c.args.before.now c.loop-r.before c.loop-r.invariant.shown.keeps.targets c.loop-r.invariant.linked.counted.recounted in
    subst (λ ks. IsCurrent ks c.loop-r.relation) (sym keys) c.loop-r.invariant.current

pub count_up_links-requires-clause-held : goal.count_up_links-requires-clause-held
count_up_links-requires-clause-held c =
    let i = c.loop-r.r-index in
    let rows = c.args.rows.now in
    let r = get_or rows i (record { number = 0 }) in
    let itself = get_or_default rows i r (record { number = 0 }) c.loop-r-test.true in
    let not = not_yet rows i r c.loop-r-test.true itself c.requires.once in
    let one = is_one rows i r c.loop-r-test.true itself c.requires.once in
    let was = held_tuple c.loop-r.relation.hidden r (ap is_some (c.loop-r.invariant.shown.hidden r not) ∙ All-contains (λ q. IsSome (finite.get c.args.relation.now.hidden q)) rows r c.requires.hidden one) in
    ap is_some (ap (λ all. finite.get all r) (c.show_row.ensures.shown was.0 was.1).rows ∙ get-insert_same c.loop-r.relation.rows r was.0)

pub count_up_links-requires-clause-named : goal.count_up_links-requires-clause-named
count_up_links-requires-clause-named c row found =
    let i = c.loop-r.r-index in
    let rows = c.args.rows.now in
    let r = get_or rows i (record { number = 0 }) in
    let itself = get_or_default rows i r (record { number = 0 }) c.loop-r-test.true in
    let not = not_yet rows i r c.loop-r-test.true itself c.requires.once in
    let one = is_one rows i r c.loop-r-test.true itself c.requires.once in
    let was = held_tuple c.loop-r.relation.hidden r (ap is_some (c.loop-r.invariant.shown.hidden r not) ∙ All-contains (λ q. IsSome (finite.get c.args.relation.now.hidden q)) rows r c.requires.hidden one) in
    let shown = c.show_row.ensures.shown was.0 was.1 in
    let same : was.0 ≡ row = same_Some was.0 row (sym (ap (λ all. finite.get all r) shown.rows ∙ get-insert_same c.loop-r.relation.rows r was.0) ∙ found) in
    let targets = shown.keeps.targets ∙ c.loop-r.invariant.shown.keeps.targets in
    all_held_still c.args.before.now c.loop-r.before (row_links c.show_row.new.self.targets row) c.loop-r.invariant.linked.counted.recounted
    (subst (All (IsHeldIn c.args.before.now)) (λ k. row_links (sym targets k) (same k)) (c.requires.named r was.0 one (sym (c.loop-r.invariant.shown.hidden r not) ∙ was.1)))

pub count_up_links-requires-clause-room : goal.count_up_links-requires-clause-room
count_up_links-requires-clause-room c =
    let i = c.loop-r.r-index in
    let rows = c.args.rows.now in
    let r = get_or rows i (record { number = 0 }) in
    let itself = get_or_default rows i r (record { number = 0 }) c.loop-r-test.true in
    let not = not_yet rows i r c.loop-r-test.true itself c.requires.once in
    let one = is_one rows i r c.loop-r-test.true itself c.requires.once in
    let was = held_tuple c.loop-r.relation.hidden r (ap is_some (c.loop-r.invariant.shown.hidden r not) ∙ All-contains (λ q. IsSome (finite.get c.args.relation.now.hidden q)) rows r c.requires.hidden one) in
    let targets = (c.show_row.ensures.shown was.0 was.1).keeps.targets ∙ c.loop-r.invariant.shown.keeps.targets in
    let width = length c.args.relation.now.targets in
    let more : (i + 1) * width ≤ length rows * width = mul-le-mul_right width (omega (arith, c.loop-r-test.true)) in
    room_left c.args.before.now c.loop-r.before c.loop-r.invariant.linked.more (length rows * width) (length c.show_row.new.self.targets) c.loop-r.invariant.linked.counted
    (λ table q. omega (arith, c.loop-r.invariant.linked.few table q, more, ap length targets)) c.requires.room

pub loop-r-preserved : goal.loop-r-preserved
loop-r-preserved c =
    let i = c.loop-r.r-index in
    let rows = c.args.rows.now in
    let r = get_or rows i (record { number = 0 }) in
    let itself = get_or_default rows i r (record { number = 0 }) c.loop-r-test.true in
    let not = not_yet rows i r c.loop-r-test.true itself c.requires.once in
    let one = is_one rows i r c.loop-r-test.true itself c.requires.once in
    let hidden = c.loop-r.invariant.shown.hidden r not in
    let was = held_tuple c.loop-r.relation.hidden r (ap is_some hidden ∙ All-contains (λ q. IsSome (finite.get c.args.relation.now.hidden q)) rows r c.requires.hidden one) in
    let shown = c.show_row.ensures.shown was.0 was.1 in
    let apart : (q : TupleRef) → Contains rows q → finite.get c.args.relation.now.rows q ≡ None = λ q there. c.hidden_rows_are_apart.ensures q (All-contains (λ x. IsSome (finite.get c.args.relation.now.hidden x)) rows q c.requires.hidden there) in
    let here = ap (λ all. finite.get all r) shown.rows ∙ get-insert_same c.loop-r.relation.rows r was.0 in
    let counted = c.count_up_links.ensures was.0 here in
    let more = shown_one rows i r c.loop-r-test.true itself c.requires.once c.args.relation.now c.loop-r.relation c.show_row.new.self was.0 was.1 shown (apart r one) c.loop-r.invariant.shown in
    let absent = new_key rows i r c.loop-r-test.true itself c.requires.once c.args.relation.now c.loop-r.relation was.0 c.loop-r.invariant.shown c.requires.hidden apart c.requires.keys (sym hidden ∙ was.1) in
    let keys = keys_once c.args.relation.now c.loop-r.relation c.args.before.now c.loop-r.before c.loop-r.invariant.shown.keeps.targets c.loop-r.invariant.linked.counted.recounted in
    record {
      linked = linked_more c.args.before.now c.loop-r.before c.count_up_links.new.before c.args.relation.now c.loop-r.relation c.show_row.new.self r was.0 i c.loop-r.invariant.kept c.a_relation_is_kept-in-loop-r.ensures more absent
          c.loop-r.invariant.shown.keeps.targets c.loop-r.invariant.linked counted;
      shown = shown_more rows i r c.loop-r-test.true itself c.requires.once c.args.relation.now c.loop-r.relation c.show_row.new.self was.0 was.1 shown (apart r one) c.loop-r.invariant.shown;
      few = omega (arith, c.loop-r.invariant.few, c.loop-r-test.true, ap finite.len shown.rows, len-insert_most c.loop-r.relation.rows r was.0);
      owed = omega (arith, shown.keeps.owed, c.loop-r.invariant.owed);
      kept = c.a_relation_is_kept-in-loop-r.ensures;
      current = subst (λ ks. IsCurrent ks c.show_row.new.self) keys c.show_row.ensures.current;
    }
