use Rattle.std.proofs.Common.{IsSome, ap, arith, get_or, refl, sym, ◌∙◌, subst}
use Rattle.std.specs.FinMap as finite
use Rattle.std.proofs.lemmas.List.{get_or_default}
use Rattle.part_raw.proofs.Tuples.{held_tuple}
use Rattle.mm_relation.specs.State.{IsCurrent, linked_keys}
use Rattle.mm_catalog.proofs.Removing.{AreRemoved-none, AreRemoved-more, AreUnlinked-none, AreUnlinked-more, still_there, links_held, enough_for_row, keys_still}
use Rattle.mm_catalog.proofs.HideSteps.{hidden_gone, hidden_more, hidden_none, len-insert_most, not_yet}
use Rattle.mm_catalog.specs.Linked.{row_links}
use Rattle.mm_catalog.specs.Counted.{LeadIntoCounted}
use Rattle.mm_catalog.proofs.Counted.{all_held_still}
use Rattle.mm_catalog.proofs.hiding.hide_each.Goals as goal

pub loop-place-init : goal.loop-place-init
loop-place-init c = record {
  unlinked = AreUnlinked-none c.args.before.now c.args.relation.now c.requires.stands.kept;
  removed = AreRemoved-none c.args.relation.now;
  hidden = hidden_none c.args.relation.now;
  few = omega (arith, c.requires.owed);
  owed = refl;
  kept = c.a_relation_is_kept.ensures;
  current = c.requires.stands.current;
}

pub count_down_links-requires-clause-held : goal.count_down_links-requires-clause-held
count_down_links-requires-clause-held c =
    let i = c.loop-place.place in
    let r = get_or c.args.rows.now i (record { number = 0 }) in
    subst IsSome (sym (still_there c.args.relation.now c.loop-place.relation c.args.rows.now i r c.loop-place-test.true (get_or_default c.args.rows.now i r (record { number = 0 }) c.loop-place-test.true) c.requires.once c.loop-place.invariant.removed))
    (c.requires.held i (record { number = 0 }) c.loop-place-test.true)

pub count_down_links-requires-clause-named : goal.count_down_links-requires-clause-named
count_down_links-requires-clause-named c row at =
    let r = get_or c.args.rows.now c.loop-place.place (record { number = 0 }) in
    let current : IsCurrent (linked_keys c.loop-place.relation.targets c.args.before.now) c.loop-place.relation =
    subst (λ targets. IsCurrent (linked_keys targets c.args.before.now) c.loop-place.relation) (sym c.loop-place.invariant.removed.keeps.targets) c.loop-place.invariant.current in
    let counted : LeadIntoCounted c.args.before.now c.loop-place.relation.targets = subst (LeadIntoCounted c.args.before.now) (sym c.loop-place.invariant.removed.keeps.targets) c.requires.stands.counted in
    all_held_still c.args.before.now c.loop-place.before (row_links c.loop-place.relation.targets row) c.loop-place.invariant.unlinked.counted.recounted
    (links_held c.args.before.now c.loop-place.relation r row current counted at)

pub count_down_links-requires-clause-enough : goal.count_down_links-requires-clause-enough
count_down_links-requires-clause-enough c row at =
    let r = get_or c.args.rows.now c.loop-place.place (record { number = 0 }) in
    enough_for_row c.args.before.now c.loop-place.before c.args.relation.now c.loop-place.relation r row c.requires.stands.enough c.loop-place.invariant.unlinked c.loop-place.invariant.kept at

pub hide_row-requires-clause-held : goal.hide_row-requires-clause-held
hide_row-requires-clause-held c =
    let i = c.loop-place.place in
    let r = get_or c.args.rows.now i (record { number = 0 }) in
    subst IsSome (sym (still_there c.args.relation.now c.loop-place.relation c.args.rows.now i r c.loop-place-test.true (get_or_default c.args.rows.now i r (record { number = 0 }) c.loop-place-test.true) c.requires.once c.loop-place.invariant.removed))
    (c.requires.held i (record { number = 0 }) c.loop-place-test.true)

pub hide_row-requires-clause-current : goal.hide_row-requires-clause-current
hide_row-requires-clause-current c =
    let i = c.loop-place.place in
    let r = get_or c.args.rows.now i (record { number = 0 }) in
    let held : IsSome (finite.get c.loop-place.relation.rows r) =
    subst IsSome (sym (still_there c.args.relation.now c.loop-place.relation c.args.rows.now i r c.loop-place-test.true (get_or_default c.args.rows.now i r (record { number = 0 }) c.loop-place-test.true) c.requires.once c.loop-place.invariant.removed))
    (c.requires.held i (record { number = 0 }) c.loop-place-test.true) in
    let row = held_tuple c.loop-place.relation.rows r held in
    subst (λ keys. IsCurrent keys c.loop-place.relation)
    (sym (keys_still c.args.relation.now c.loop-place.relation c.args.before.now c.loop-place.before c.count_down_links.new.before c.loop-place.invariant.removed.keeps.targets c.loop-place.invariant.unlinked.counted.recounted (c.count_down_links.ensures row.0 row.1).recounted))
    c.loop-place.invariant.current

pub hide_row-requires-clause-unnamed : goal.hide_row-requires-clause-unnamed
hide_row-requires-clause-unnamed c =
    let i = c.loop-place.place in
    let r = get_or c.args.rows.now i (record { number = 0 }) in
    let itself = get_or_default c.args.rows.now i r (record { number = 0 }) c.loop-place-test.true in
    c.loop-place.invariant.removed.counts r (not_yet c.args.rows.now i r c.loop-place-test.true itself c.requires.once) ∙ c.requires.free i (record { number = 0 }) c.loop-place-test.true

pub hide_row-requires-clause-owed : goal.hide_row-requires-clause-owed
hide_row-requires-clause-owed c = omega (arith, c.loop-place.invariant.few, c.loop-place-test.true)

pub loop-place-preserved : goal.loop-place-preserved
loop-place-preserved c =
    let i = c.loop-place.place in
    let r = get_or c.args.rows.now i (record { number = 0 }) in
    let itself = get_or_default c.args.rows.now i r (record { number = 0 }) c.loop-place-test.true in
    let held : IsSome (finite.get c.loop-place.relation.rows r) =
    subst IsSome (sym (still_there c.args.relation.now c.loop-place.relation c.args.rows.now i r c.loop-place-test.true itself c.requires.once c.loop-place.invariant.removed))
    (c.requires.held i (record { number = 0 }) c.loop-place-test.true) in
    let row = held_tuple c.loop-place.relation.rows r held in
    let counted = c.count_down_links.ensures row.0 row.1 in
    let hidden = c.hide_row.ensures.hidden row.0 row.1 in
    let gone = hidden_gone c.loop-place.relation c.hide_row.new.self r row.0 hidden in
    record {
      unlinked = AreUnlinked-more c.args.before.now c.loop-place.before c.count_down_links.new.before c.args.relation.now c.loop-place.relation c.hide_row.new.self r row.0
          c.loop-place.invariant.kept c.a_relation_is_kept-in-loop-place.ensures row.1 gone c.loop-place.invariant.unlinked counted;
      removed = AreRemoved-more c.args.relation.now c.loop-place.relation c.hide_row.new.self c.args.rows.now i r c.loop-place-test.true itself c.loop-place.invariant.removed gone;
      hidden = hidden_more c.args.rows.now i r c.loop-place-test.true itself c.requires.once c.args.relation.now c.loop-place.relation c.hide_row.new.self row.0 row.1 hidden c.loop-place.invariant.removed c.loop-place.invariant.hidden;
      few = omega (arith, c.loop-place.invariant.few, c.loop-place-test.true, ap finite.len hidden.keeps.hidden, len-insert_most c.loop-place.relation.hidden r row.0, hidden.keeps.owed);
      owed = hidden.keeps.owed ∙ c.loop-place.invariant.owed;
      kept = c.a_relation_is_kept-in-loop-place.ensures;
      current = subst (λ keys. IsCurrent keys c.hide_row.new.self)
          (keys_still c.args.relation.now c.loop-place.relation c.args.before.now c.loop-place.before c.count_down_links.new.before c.loop-place.invariant.removed.keeps.targets c.loop-place.invariant.unlinked.counted.recounted counted.recounted)
          c.hide_row.ensures.current;
    }
