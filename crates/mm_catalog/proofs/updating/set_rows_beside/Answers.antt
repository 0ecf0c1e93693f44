use Rattle.std.proofs.Common.{rules, ◌≡◌, ◌*◌, List, arith, drop, length, map, ap, ◌∙◌, subst}
use Rattle.mm_relation.specs.Changes.{IsChanged}
use Rattle.mm_catalog.specs.Assigned.{links_at, set_links}
use Rattle.mm_catalog.specs.Counted.{AreCountedBy, linked_of, naming, none}
use Rattle.mm_relation.specs.Settings.{link_set}
use Rattle.mm_catalog.specs.Linked.{Linked}
use Rattle.mm_catalog.proofs.Lists.{whole}
use Rattle.mm_catalog.proofs.SetLinks.{as_many_left, columns_left, links_left}
use Rattle.mm_catalog.proofs.UpdateNeeds as needs
use Rattle.mm_catalog.proofs.UpdateRefused.{not_set_for_memory}
use Rattle.mm_catalog.proofs.updating.set_rows_beside.Goals as goal
use Rattle.mm_catalog.proofs.updating.set_rows_beside.Goals.{In_ok-list_links, In_ok-change_rows, After-as_slice-2, After-count_up_sets}

pub pack_sets-requires-clause-back : goal.pack_sets-requires-clause-back
pack_sets-requires-clause-back c = let k = c.requires.stands in needs.leads_front k.0 k.2.0 k.1 c.args.relation.now k.2.1 c.args.before.now k.2.2

pub list_links-requires-clause-columns : goal.list_links-requires-clause-columns
list_links-requires-clause-columns c =
    let k = c.requires.stands in
    rw c.as_slice.ensures.value (needs.sets_apart k.0 k.2.0 k.1 c.args.relation.now k.2.1 c.args.before.now k.2.2 c.args.assignments.now c.requires.columns c.pack_sets.new.sets.items c.in_ok-pack_sets.ensures.sets).within

pub returns-in_err-list_links-clause-refused : goal.returns-in_err-list_links-clause-refused
returns-in_err-list_links-clause-refused c =
    not_set_for_memory c.args.before.now c.args.relation.now.targets c.args.assignments.now c.from_residual-in_err-list_links.result (search rules)

pub change_rows-requires : goal.change_rows-requires
change_rows-requires c =
    let k = c.requires.stands in
    let apart = needs.sets_apart k.0 k.2.0 k.1 c.args.relation.now k.2.1 c.args.before.now k.2.2 c.args.assignments.now c.requires.columns c.pack_sets.new.sets.items c.in_ok-pack_sets.ensures.sets in
    rw c.as_mut_slice.ensures.value (record {
      held = c.requires.held;
      once = c.requires.once;
      columns = apart.within;
      not_the_key = apart.behind;
      readable = needs.sets_readable k.0 k.2.0 k.1 c.args.relation.now k.2.1 c.args.before.now k.2.2 c.args.assignments.now c.requires.columns c.pack_sets.new.sets.items c.in_ok-pack_sets.ensures.sets;
      current = needs.current_front k.0 k.2.0 k.1 c.args.relation.now k.2.1 c.args.before.now k.2.2;
    })

pub returns-in_err-change_rows-clause-refused : goal.returns-in_err-change_rows-clause-refused
returns-in_err-change_rows-clause-refused c =
    not_set_for_memory c.args.before.now c.args.relation.now.targets c.args.assignments.now c.from_residual-in_err-change_rows.result (search rules)

-- ---- what the calls leave

listed : (c : In_ok-list_links) → map linked_of c.list_links.new.links.items ≡ links_at c.args.relation.now c.pack_sets.new.sets.items c.args.rows.now
listed c = rw c.as_slice.ensures.value at c.in_ok-list_links.ensures

changed : (c : In_ok-change_rows) → IsChanged c.args.relation.now c.change_rows.new.self c.args.rows.now c.pack_sets.new.sets.items
changed c = rw c.as_mut_slice.ensures.value at c.in_ok-change_rows.ensures.changed

same_links : (c : In_ok-change_rows) → map link_set c.change_rows.new.sets ≡ map link_set c.pack_sets.new.sets.items
same_links c = rw c.as_mut_slice.ensures.value at c.in_ok-change_rows.ensures.links

left : (c : After-as_slice-2) → c.as_slice-2.result.now ≡ c.change_rows.new.sets
left c =
    let sets = c.change_rows.new.sets in
    let same = rw c.as_mut_slice.ensures.value at c.in_ok-change_rows.ensures.links in
    c.as_slice-2.ensures.value ∙ whole sets (drop (length sets) c.pack_sets.new.sets.items) c.pack_sets.new.sets.len (omega (arith, as_many_left c.pack_sets.new.sets.items sets same, c.pack_sets.new.sets.ok.0))

up : (c : After-count_up_sets) → c.as_slice-2.result.now ≡ c.change_rows.new.sets → map link_set c.change_rows.new.sets ≡ map link_set c.pack_sets.new.sets.items
    → AreCountedBy c.args.before.now c.count_up_sets.new.before (λ t q. length c.args.rows.now * naming (set_links c.change_rows.new.self.targets c.pack_sets.new.sets.items) t q) none
up c now same =
    subst (λ (ls : List Linked). AreCountedBy c.args.before.now c.count_up_sets.new.before (λ t q. length c.args.rows.now * naming ls t q) none)
    (ap (set_links c.change_rows.new.self.targets) now ∙ links_left c.pack_sets.new.sets.items c.change_rows.new.sets same c.change_rows.new.self.targets) c.count_up_sets.ensures

pub count_up_sets-requires : goal.count_up_sets-requires
count_up_sets-requires c =
    let at = goal.at.count_up_sets-requires c in
    let k = c.requires.stands in
    let sets = c.pack_sets.new.sets.items in
    let same = same_links at.In_ok-change_rows in
    let now = left at.After-as_slice-2 in
    let targets = (changed at.In_ok-change_rows).keeps.targets in
    record {
      kept = needs.kept_front k.0 k.2.0 k.1 c.args.relation.now k.2.1 c.args.before.now k.2.2;
      columns = rw (now, targets) (columns_left sets c.change_rows.new.sets same (length c.args.relation.now.targets) (needs.sets_apart k.0 k.2.0 k.1 c.args.relation.now k.2.1 c.args.before.now k.2.2 c.args.assignments.now c.requires.columns c.pack_sets.new.sets.items c.in_ok-pack_sets.ensures.sets).within);
      held = rw (now, targets, links_left sets c.change_rows.new.sets same c.args.relation.now.targets) (needs.sets_held k.0 k.2.0 k.1 c.args.relation.now k.2.1 c.args.before.now k.2.2 c.args.assignments.now c.requires.columns c.pack_sets.new.sets.items c.in_ok-pack_sets.ensures.sets);
      room = rw (now, as_many_left sets c.change_rows.new.sets same) (needs.room_front k.0 k.2.0 k.1 c.args.relation.now k.2.1 c.args.before.now k.2.2 c.args.assignments.now c.requires.columns c.pack_sets.new.sets.items c.in_ok-pack_sets.ensures.sets c.args.rows.now c.requires.held c.requires.once);
    }

pub count_down_all-requires : goal.count_down_all-requires
count_down_all-requires c =
    let at = goal.at.count_down_all-requires c in
    let k = c.requires.stands in
    let a = c.change_rows.new.self in
    let came = up at.After-count_up_sets (left at.After-as_slice-2) (same_links at.In_ok-change_rows) in
    let gone = c.list_links.new.links.items in
    rw c.as_slice-3.ensures.value (record {
      kept = c.count_up_sets.ensures.kept;
      held = needs.gone_named k.0 k.2.0 k.1 c.args.relation.now k.2.1 c.args.before.now k.2.2 c.args.assignments.now c.requires.columns c.pack_sets.new.sets.items c.in_ok-pack_sets.ensures.sets c.args.rows.now c.requires.held c.requires.once a c.a_relation_is_kept.ensures (changed at.In_ok-change_rows) c.count_up_sets.new.before came gone (listed at.In_ok-list_links);
      enough = needs.gone_enough k.0 k.2.0 k.1 c.args.relation.now k.2.1 c.args.before.now k.2.2 c.args.assignments.now c.requires.columns c.pack_sets.new.sets.items c.in_ok-pack_sets.ensures.sets c.args.rows.now c.requires.held c.requires.once a c.a_relation_is_kept.ensures (changed at.In_ok-change_rows) c.count_up_sets.new.before came gone (listed at.In_ok-list_links);
    })

pub returns-clause-updated : goal.returns-clause-updated
returns-clause-updated c k n stands =
    let at = goal.at.returns-clause-updated c in
    let came = up at.After-count_up_sets (left at.After-as_slice-2) (same_links at.In_ok-change_rows) in
    let gone = c.list_links.new.links.items in
    needs.updated k stands.0 n c.args.relation.now stands.1 c.args.before.now stands.2 c.args.assignments.now c.requires.columns c.pack_sets.new.sets.items c.in_ok-pack_sets.ensures.sets
    c.args.rows.now c.requires.held c.requires.once c.change_rows.new.self c.a_relation_is_kept.ensures (changed at.In_ok-change_rows)
    c.count_up_sets.new.before came gone (listed at.In_ok-list_links) c.count_down_all.new.before (rw c.as_slice-3.ensures.value at c.count_down_all.ensures) c.in_ok-change_rows.ensures.current
