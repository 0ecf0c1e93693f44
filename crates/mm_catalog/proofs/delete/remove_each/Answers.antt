use Rattle.std.proofs.Common.{IsSome, get_or, refl, sym, ◌∙◌, subst}
use Rattle.std.specs.FinMap as finite
use Rattle.std.proofs.lemmas.List.{get_or_default}
use Rattle.part_raw.proofs.Tuples.{held_tuple}
use Rattle.mm_relation.specs.State.{IsCurrent, linked_keys}
use Rattle.mm_catalog.proofs.Removing.{AreRemoved-none, AreRemoved-more, AreUnlinked-none, AreUnlinked-more, still_there, links_held, enough_for_row, keys_still}
use Rattle.mm_catalog.proofs.Kept.{row_gone}
use Rattle.mm_catalog.specs.Linked.{row_links}
use Rattle.mm_catalog.specs.Counted.{LeadIntoCounted}
use Rattle.mm_catalog.proofs.Counted.{all_held_still}
use Rattle.mm_catalog.proofs.delete.remove_each.Goals as goal

pub loop-place-init : goal.loop-place-init
loop-place-init c = record {
  unlinked = AreUnlinked-none c.args.before.now c.args.relation.now c.requires.stands.kept;
  removed = AreRemoved-none c.args.relation.now;
  aside = record { hidden = refl; owed = refl };
  kept = c.a_relation_is_kept.ensures;
  current = c.requires.stands.current;
}

pub count_down_links-requires-clause-held : goal.count_down_links-requires-clause-held
count_down_links-requires-clause-held c =
    let i = c.loop-place.place in
    let r = get_or c.args.rows.now i (record { number = 0 }) in
    subst IsSome (sym (still_there c.args.relation.now c.loop-place.relation c.args.rows.now i r c.loop-place-test.true (get_or_default c.args.rows.now i r (record { number = 0 }) c.loop-place-test.true) c.requires.once c.loop-place.invariant.removed))
    (c.requires.held i (record { number = 0 }) c.loop-place-test.true)

pub count_down_links-requires-clause-named : goal.count_down_links-requires-clause-named
count_down_links-requires-clause-named c row at =
    let r = get_or c.args.rows.now c.loop-place.place (record { number = 0 }) in
    let current : IsCurrent (linked_keys c.loop-place.relation.targets c.args.before.now) c.loop-place.relation =
    subst (λ targets. IsCurrent (linked_keys targets c.args.before.now) c.loop-place.relation) (sym c.loop-place.invariant.removed.keeps.targets) c.loop-place.invariant.current in
    let counted : LeadIntoCounted c.args.before.now c.loop-place.relation.targets = subst (LeadIntoCounted c.args.before.now) (sym c.loop-place.invariant.removed.keeps.targets) c.requires.stands.counted in
    all_held_still c.args.before.now c.loop-place.before (row_links c.loop-place.relation.targets row) c.loop-place.invariant.unlinked.counted.recounted
    (links_held c.args.before.now c.loop-place.relation r row current counted at)

pub count_down_links-requires-clause-enough : goal.count_down_links-requires-clause-enough
count_down_links-requires-clause-enough c row at =
    let r = get_or c.args.rows.now c.loop-place.place (record { number = 0 }) in
    enough_for_row c.args.before.now c.loop-place.before c.args.relation.now c.loop-place.relation r row c.requires.stands.enough c.loop-place.invariant.unlinked c.loop-place.invariant.kept at

pub remove_row-requires-clause-held : goal.remove_row-requires-clause-held
remove_row-requires-clause-held c =
    let i = c.loop-place.place in
    let r = get_or c.args.rows.now i (record { number = 0 }) in
    subst IsSome (sym (still_there c.args.relation.now c.loop-place.relation c.args.rows.now i r c.loop-place-test.true (get_or_default c.args.rows.now i r (record { number = 0 }) c.loop-place-test.true) c.requires.once c.loop-place.invariant.removed))
    (c.requires.held i (record { number = 0 }) c.loop-place-test.true)

pub remove_row-requires-clause-current : goal.remove_row-requires-clause-current
remove_row-requires-clause-current c =
    let i = c.loop-place.place in
    let r = get_or c.args.rows.now i (record { number = 0 }) in
    let held : IsSome (finite.get c.loop-place.relation.rows r) =
    subst IsSome (sym (still_there c.args.relation.now c.loop-place.relation c.args.rows.now i r c.loop-place-test.true (get_or_default c.args.rows.now i r (record { number = 0 }) c.loop-place-test.true) c.requires.once c.loop-place.invariant.removed))
    (c.requires.held i (record { number = 0 }) c.loop-place-test.true) in
    let row = held_tuple c.loop-place.relation.rows r held in
    subst (λ keys. IsCurrent keys c.loop-place.relation)
    (sym (keys_still c.args.relation.now c.loop-place.relation c.args.before.now c.loop-place.before c.count_down_links.new.before c.loop-place.invariant.removed.keeps.targets c.loop-place.invariant.unlinked.counted.recounted (c.count_down_links.ensures row.0 row.1).recounted))
    c.loop-place.invariant.current

pub loop-place-preserved : goal.loop-place-preserved
loop-place-preserved c =
    let i = c.loop-place.place in
    let r = get_or c.args.rows.now i (record { number = 0 }) in
    let itself = get_or_default c.args.rows.now i r (record { number = 0 }) c.loop-place-test.true in
    let held : IsSome (finite.get c.loop-place.relation.rows r) =
    subst IsSome (sym (still_there c.args.relation.now c.loop-place.relation c.args.rows.now i r c.loop-place-test.true itself c.requires.once c.loop-place.invariant.removed))
    (c.requires.held i (record { number = 0 }) c.loop-place-test.true) in
    let row = held_tuple c.loop-place.relation.rows r held in
    let counted = c.count_down_links.ensures row.0 row.1 in
    let keeps = c.remove_row.ensures.removed.keeps in
    let gone = row_gone c.loop-place.relation c.remove_row.new.self r c.remove_row.ensures.removed in
    record {
      unlinked = AreUnlinked-more c.args.before.now c.loop-place.before c.count_down_links.new.before c.args.relation.now c.loop-place.relation c.remove_row.new.self r row.0
          c.loop-place.invariant.kept c.a_relation_is_kept-in-loop-place.ensures row.1 gone c.loop-place.invariant.unlinked counted;
      removed = AreRemoved-more c.args.relation.now c.loop-place.relation c.remove_row.new.self c.args.rows.now i r c.loop-place-test.true itself c.loop-place.invariant.removed gone;
      aside = record { hidden = keeps.hidden ∙ c.loop-place.invariant.aside.hidden; owed = keeps.owed ∙ c.loop-place.invariant.aside.owed };
      kept = c.a_relation_is_kept-in-loop-place.ensures;
      current = subst (λ keys. IsCurrent keys c.remove_row.new.self)
          (keys_still c.args.relation.now c.loop-place.relation c.args.before.now c.loop-place.before c.count_down_links.new.before c.loop-place.invariant.removed.keeps.targets c.loop-place.invariant.unlinked.counted.recounted counted.recounted)
          c.remove_row.ensures.current;
    }
