use Rattle.std.proofs.Common.{◌≡◌, ◌<◌, ◌+◌, [], ◌∷◌, Some, length, refl, sym, ap, ◌∙◌, subst, arith}
use Rattle.std.specs.Option.{option_map}
use Rattle.std.proofs.lemmas.Option.{same_Some}
use Rattle.plain_tables.specs.declared.schema.Schema.{Schema}
use Rattle.mm_catalog.specs.Linked.{link_at, row_links, Linked}
use Rattle.mm_catalog.specs.Counted.{AreCountedBy, IsHeldIn, linked_of, naming, none}
use Rattle.mm_catalog.proofs.Counted.{counted_as, counted_none, first_links, held_still, link_of_row, naming_within, naming_link, naming_no_link, naming_row, enough_left, down_then}
use Rattle.mm_catalog.proofs.references.counting.count_down_links.Goals as goal
use Rattle.mm_catalog.proofs.references.counting.count_down_links.Goals.{in-Some, in_default}

pub loop-column-init : goal.loop-column-init
loop-column-init c = counted_none c.args.before.now c.requires.kept

pub count_down-requires : goal.count_down-requires
count_down-requires c =
    let targets = c.args.relation.now.targets in
    let row = c.row-row.result.row in
    let i = c.loop-column.column in
    let link : Linked = linked_of c.in-Some.link in
    let within : i < length targets =
    omega (arith, c.a_relation_is_kept.ensures.width, ap (λ (s : Schema). length s.columns) c.schema.ensures, c.len-column-end.ensures, c.loop-column-test.true) in
    let at : link_at targets row i ≡ Some link = sym c.link_in.ensures ∙ ap (option_map linked_of) c.in-Some.is in
    record {
      kept = c.loop-column.invariant.kept;
      held = held_still c.args.before.now c.loop-column.before link c.loop-column.invariant.recounted
          (link_of_row targets row (IsHeldIn c.args.before.now) i link (c.requires.named row c.row-row.ensures.row) within at);
      enough = enough_left c.args.before.now c.loop-column.before (naming (first_links targets row i)) (naming (link ∷ [])) (naming (row_links targets row)) c.loop-column.invariant
          (λ table r. let more = naming_link targets row i link at table r in
          omega (arith, more, naming_within targets row (i + 1) (length targets) table r (omega (arith, within)), naming_row targets row (length targets) refl table r)) (c.requires.enough row c.row-row.ensures.row);
    }

pub loop-column-preserved : goal.loop-column-preserved
loop-column-preserved c =
    let targets = c.args.relation.now.targets in
    let row = c.row-row.result.row in
    let i = c.loop-column.column in
    elim c.match-link_in.branch [
      | in-Some w ↦
          let link : link_at targets row i ≡ Some (linked_of w.in-Some.link) = sym c.link_in.ensures ∙ ap (option_map linked_of) w.in-Some.is in
          rw w.before-is (down_then c.args.before.now c.loop-column.before w.count_down.new.before (naming (first_links targets row i)) _ (naming (first_links targets row (i + 1)))
          (λ table r. let more = naming_link targets row i (linked_of w.in-Some.link) link table r in omega (arith, more)) c.loop-column.invariant w.count_down.ensures)
      | in_default w ↦
          let no_link = sym c.link_in.ensures ∙ ap (option_map linked_of) w.in_default.is in
          rw w.before-is (counted_as c.args.before.now c.loop-column.before none (naming (first_links targets row i)) none (naming (first_links targets row (i + 1)))
          (λ table r. refl) (naming_no_link targets row i no_link) c.loop-column.invariant)
    ]

pub returns : goal.returns
returns c row at =
    let targets = c.args.relation.now.targets in
    let same = same_Some _ _ (sym c.row-row.ensures.row ∙ at) in
    let wide = ap (λ (s : Schema). length s.columns) c.schema.ensures in
    let whole : c.loop-column.column ≡ length targets = omega (arith, c.loop-column-test.false, c.loop-column.auto.column-end, c.len-column-end.ensures, wide, c.a_relation_is_kept.ensures.width) in
    subst (λ u. AreCountedBy c.args.before.now c.loop-column.before none (naming (row_links targets u))) same
    (counted_as c.args.before.now c.loop-column.before none (naming (first_links targets c.row-row.result.row c.loop-column.column)) none _ (λ table r. refl) (naming_row targets c.row-row.result.row c.loop-column.column whole) c.loop-column.invariant)
