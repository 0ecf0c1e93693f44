use Rattle.std.proofs.Common.{◌≡◌, ◌<◌, ◌≤◌, ◌++◌, [], List, Option, length, map, get_or, sym, ap, ◌∙◌, append-nil, arith}
use Rattle.std.specs.List.{cons_option}
use Rattle.std.specs.Option.{option_map}
use Rattle.std.proofs.lemmas.List.{take_all}
use Rattle.std.proofs.lemmas.Option.{same_Some}
use Rattle.mm_catalog.specs.declared.references.link.Link.{Link}
use Rattle.mm_catalog.specs.Assigned.{CellSet, row_links_at}
use Rattle.mm_catalog.specs.Counted.{linked_of}
use Rattle.mm_catalog.specs.Linked.{Linked, link_at}
use Rattle.mm_catalog.proofs.SetLinks.{links_pushed, no_row_links}
use Rattle.mm_catalog.proofs.updating.push_links.Goals as goal
use Rattle.mm_catalog.proofs.updating.push_links.Goals.{in-Some+in_ok-push, in_default}

pub loop-column-init : goal.loop-column-init
loop-column-init c =
    let first = map linked_of c.args.links.now.items in
    sym (append-nil first) ∙ ap (λ (ls : List Linked). first ++ ls) (sym (no_row_links c.args.relation.now.targets c.row-row.result.row))

pub loop-column-preserved : goal.loop-column-preserved
loop-column-preserved c =
    let first = map linked_of c.args.links.now.items in
    let targets = c.args.relation.now.targets in
    let sets = c.args.sets.now in
    let row = c.row-row.result.row in
    let i = c.loop-column.column-index in
    let d = c.loop-column-item.result in
    let items = c.loop-column.links.items in
    let within : i < length sets = omega (arith, c.loop-column-test.true) in
    let found : option_map linked_of c.link_in.result ≡ link_at targets row (get_or sets i d).0.0 =
    c.link_in.ensures ∙ ap (λ (s : CellSet). link_at targets row s.0.0) c.loop-column-item.is in
    let pushed = links_pushed targets sets row i d c.link_in.result within found first items c.loop-column.invariant in
    elim c.match-link_in.branch [
      | in-Some+in_ok-push w ↦
          ap (λ v. map linked_of v.items) w.links-is
          ∙ ap (map linked_of) (w.in_ok-push.ensures.items ∙ ap (λ (o : Option Link). items ++ cons_option o []) (sym w.in-Some.is)) ∙ pushed
      | in_default w ↦
          ap (λ v. map linked_of v.items) w.links-is
          ∙ ap (map linked_of) (sym (append-nil items) ∙ ap (λ (o : Option Link). items ++ cons_option o []) (sym w.in_default.is)) ∙ pushed
    ]

pub returns : goal.returns
returns c row at =
    let sets = c.args.sets.now in
    let targets = c.args.relation.now.targets in
    let past : length sets ≤ c.loop-column.column-index = omega (arith, c.loop-column-test.false) in
    c.loop-column.invariant
    ∙ ap (λ ss. map linked_of c.args.links.now.items ++ row_links_at targets ss c.row-row.result.row) (take_all c.loop-column.column-index sets past)
    ∙ ap (λ u. map linked_of c.args.links.now.items ++ row_links_at targets sets u) (same_Some _ _ (sym c.row-row.ensures.row ∙ at))
