use Rattle.std.proofs.Common.{◌≡◌, ◌<◌, ◌≤◌, ◌+◌, [], ◌∷◌, Some, length, get_or, refl, sym, ap, ◌∙◌, subst, arith}
use Rattle.std.specs.Option.{option_map}
use Rattle.std.proofs.lemmas.List.{take_all}
use Rattle.std.proofs.lemmas.Option.{same_Some}
use Rattle.mm_catalog.specs.Assigned.{CellSet, row_links_at}
use Rattle.mm_catalog.specs.Counted.{AreCountedBy, IsHeldIn, linked_of, naming, none}
use Rattle.mm_catalog.specs.Linked.{Linked, link_at}
use Rattle.mm_catalog.proofs.Counted.{counted_as, counted_none, down_then, enough_left, held_still}
use Rattle.mm_catalog.proofs.Relinking.{first_links, link_among, naming_first, naming_link, naming_no_link}
use Rattle.mm_catalog.proofs.SetLinks.{no_row_links}
use Rattle.mm_catalog.proofs.changing_back.count_down_sets.Goals as goal
use Rattle.mm_catalog.proofs.changing_back.count_down_sets.Goals.{in-Some, in_default}

pub loop-column-init : goal.loop-column-init
loop-column-init c =
    counted_as c.args.before.now c.args.before.now none none none _ (λ t q. refl) (λ t q. ap (λ ls. naming ls t q) (sym (no_row_links c.args.relation.now.targets c.row-row.result.row))) (counted_none c.args.before.now c.requires.kept)

pub count_down-requires : goal.count_down-requires
count_down-requires c =
    let targets = c.args.relation.now.targets in
    let sets = c.args.sets.now in
    let row = c.row-row.result.row in
    let i = c.loop-column.column-index in
    let d = c.loop-column-item.result in
    let within : i < length sets = omega (arith, c.loop-column-test.true) in
    let link : Linked = linked_of c.in-Some.link in
    let found : link_at targets row (get_or sets i d).0.0 ≡ Some link =
    sym (c.link_in.ensures ∙ ap (λ (s : CellSet). link_at targets row s.0.0) c.loop-column-item.is) ∙ ap (option_map linked_of) c.in-Some.is in
    record {
      kept = c.loop-column.invariant.kept;
      held = held_still c.args.before.now c.loop-column.before link c.loop-column.invariant.recounted
          (link_among targets sets row i d within (IsHeldIn c.args.before.now) link (c.requires.named row c.row-row.ensures.row) found);
      enough = enough_left c.args.before.now c.loop-column.before (naming (first_links targets sets row i)) (naming (link ∷ [])) (naming (row_links_at targets sets row)) c.loop-column.invariant
          (λ t q. omega (arith, naming_link targets sets row i d within c.in-Some.link found t q, naming_first targets sets row (i + 1) t q)) (c.requires.enough row c.row-row.ensures.row);
    }

pub loop-column-preserved : goal.loop-column-preserved
loop-column-preserved c =
    let targets = c.args.relation.now.targets in
    let sets = c.args.sets.now in
    let row = c.row-row.result.row in
    let i = c.loop-column.column-index in
    let d = c.loop-column-item.result in
    let within : i < length sets = omega (arith, c.loop-column-test.true) in
    let found : option_map linked_of c.link_in.result ≡ link_at targets row (get_or sets i d).0.0 =
    c.link_in.ensures ∙ ap (λ (s : CellSet). link_at targets row s.0.0) c.loop-column-item.is in
    elim c.match-link_in.branch [
      | in-Some w ↦
          rw w.before-is (down_then c.args.before.now c.loop-column.before w.count_down.new.before (naming (first_links targets sets row i)) _ (naming (first_links targets sets row (i + 1)))
          (naming_link targets sets row i d within w.in-Some.link (sym found ∙ ap (option_map linked_of) w.in-Some.is)) c.loop-column.invariant w.count_down.ensures)
      | in_default w ↦
          rw w.before-is (counted_as c.args.before.now c.loop-column.before none (naming (first_links targets sets row i)) none (naming (first_links targets sets row (i + 1)))
          (λ t q. refl) (naming_no_link targets sets row i d within (sym found ∙ ap (option_map linked_of) w.in_default.is)) c.loop-column.invariant)
    ]

pub returns : goal.returns
returns c row at =
    let targets = c.args.relation.now.targets in
    let sets = c.args.sets.now in
    let past : length sets ≤ c.loop-column.column-index = omega (arith, c.loop-column-test.false) in
    subst (λ ss. AreCountedBy c.args.before.now c.loop-column.before none (naming (row_links_at targets ss row))) (take_all c.loop-column.column-index sets past)
    (subst (λ u. AreCountedBy c.args.before.now c.loop-column.before none (naming (first_links targets sets u c.loop-column.column-index))) (same_Some _ _ (sym c.row-row.ensures.row ∙ at)) c.loop-column.invariant)
