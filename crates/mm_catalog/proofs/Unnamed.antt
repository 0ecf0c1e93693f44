-- No link names a row without which the others are those of a consistent catalog.
use Rattle.std.proofs.Common.{◌≡◌, ◌≢◌, ℕ, ◌<◌, ◌==◌, true, false, List, Some, None, sym, ap, ◌∙◌, arith, map, set, get_or}
use Rattle.std.specs.List.{Contains, flat_map, slice_get}
use Rattle.std.specs.Option.{option_map}
use Rattle.std.specs.FinMap.{get}
use Rattle.std.specs.Ordering.{is_eq}
use Rattle.std.proofs.lemmas.Bool.{and_parts, eqb-true, false_from_ne_true}
use Rattle.std.proofs.lemmas.List.Elements.{All-contains_itself}
use Rattle.std.proofs.lemmas.Option.{none-some, same_Some, slice_get-get_or, slice_get-map, slice_get_within}
use Rattle.common_lemmas.proofs.Elements.{All-flat_map}
use Rattle.common_lemmas.proofs.Options.{option_map_some}
use Rattle.common_lemmas.proofs.Places.{slice_get_set, slice_get-set_other}
use Rattle.part_raw.specs.TupleRefs.{ref_cmp}
use Rattle.part_raw.specs.declared.tuple_ref.TupleRef.{TupleRef}
use Rattle.part_raw.proofs.Tuples.{same_ref_true}
use Rattle.mm_relation.specs.Rows.{Row}
use Rattle.mm_relation.specs.State.{RelationState}
use Rattle.mm_catalog.specs.State.{CatalogState}
use Rattle.mm_catalog.specs.Consistent.{IsConsistent}
use Rattle.mm_catalog.specs.Linked.{Linked, is_link_to, link_at, links, links_to, relation_links, target_at}
use Rattle.mm_catalog.specs.Loaded.{AreFreeRows}
use Rattle.mm_catalog.specs.Outline.{Outline, RelationOutline, outline_of, relation_outline, without, without_rows}
use Rattle.mm_catalog.specs.Picked.{HoldsRows}
use Rattle.mm_catalog.proofs.Anywhere.{none_counted}
use Rattle.mm_catalog.proofs.Back.{lead_back}
use Rattle.mm_catalog.proofs.LinksHeld.{link_held}
use Rattle.mm_catalog.proofs.Outlined.{changed_here, gone_without}
use Rattle.mm_catalog.proofs.RowLinks.{each_link, link_parts}

-- where each link names none, no links are counted to a row
pub none_named : (relations : List RelationState) (n : ℕ) (r : TupleRef)
    → ((k : ℕ) (t : RelationState) → slice_get relations k ≡ Some t → (q : TupleRef) (row : Row) (column : ℕ) (link : Linked) → get t.rows q ≡ Some row → link_at t.targets row column ≡ Some link → is_link_to n r link ≡ true → ⊥)
    → links_to relations n r ≡ 0
unfolding links_to links
none_named relations n r no_link =
    none_counted (is_link_to n r) (flat_map relation_links relations)
    (All-flat_map (λ link. is_link_to n r link ≡ false) relation_links relations (λ k w l.
    let t = get_or relations k w in
    each_link (λ link. is_link_to n r link ≡ false) t (λ q row column link held e.
    false_from_ne_true (is_link_to n r link) (no_link k t (slice_get-get_or relations k w l) q row column link held e))))

module _ (c d : CatalogState) (ok : IsConsistent c) (fine : IsConsistent d) (n : ℕ) (refs : List TupleRef) (left : outline_of d ≡ without_rows n refs (outline_of c)) where
  module _ (s : RelationState) (there : slice_get c.relations n ≡ Some s) where
    abbrev rest : RelationOutline
    rest = record (relation_outline s) { rows = without refs s.rows }

    outlines_left : map relation_outline d.relations ≡ set (map relation_outline c.relations) n rest
    outlines_left =
        ap (λ (o : Outline). o.relations) left
        ∙ changed_here (λ (o : RelationOutline). record o { rows = without refs o.rows }) n (map relation_outline c.relations) (relation_outline s)
        (slice_get-map relation_outline c.relations n ∙ ap (option_map relation_outline) there)

    -- the relation of this outline that is left
    left_at : (k : ℕ) (o : RelationOutline) → slice_get (set (map relation_outline c.relations) n rest) k ≡ Some o → (t : RelationState) × (slice_get d.relations k ≡ Some t) × (relation_outline t ≡ o)
    left_at k o at = option_map_some relation_outline (slice_get d.relations k) o (sym (slice_get-map relation_outline d.relations k) ∙ ap (λ os. slice_get os k) outlines_left ∙ at)

    -- a link to one of the rows would lead to none among those that are left
    no_link : (r : TupleRef) → Contains refs r → (k : ℕ) (t : RelationState) → slice_get c.relations k ≡ Some t → (q : TupleRef) (row : Row) (column : ℕ) (link : Linked)
        → get t.rows q ≡ Some row → link_at t.targets row column ≡ Some link → is_link_to n r link ≡ true → ⊥
    no_link r among k t at q row column link held e names =
        let parts = link_parts t.targets row column link e in
        let both = and_parts (link.0 == n) (is_eq (ref_cmp link.1 r)) names in
        let table : link.0 ≡ n = eqb-true link.0 n both.0 in
        let named : link.1 ≡ r = same_ref_true link.1 r both.1 in
        let before : link.0 < k = lead_back c ok k t at column link.0 parts.0 in
        let other : k ≢ n = λ same. absurd (omega (arith, before, table, same)) in
        let u = left_at k (relation_outline t) (slice_get-set_other (map relation_outline c.relations) n k rest other ∙ slice_get-map relation_outline c.relations k ∙ ap (option_map relation_outline) at) in
        let holds : get u.0.rows q ≡ Some row = ap (λ (o : RelationOutline). get o.rows q) u.2 ∙ held in
        let leads : target_at u.0.targets column ≡ Some link.0 = ap (λ (o : RelationOutline). target_at o.targets column) u.2 ∙ parts.0 in
        let found = link_held d fine k u.0 q row column link.0 link.1 u.1 holds leads parts.1 in
        let v = left_at n rest (slice_get_set (map relation_outline c.relations) n rest (slice_get_within (map relation_outline c.relations) n (relation_outline s) (slice_get-map relation_outline c.relations n ∙ ap (option_map relation_outline) there))) in
        let same : found.0 ≡ v.0 = same_Some found.0 v.0 (sym found.2 ∙ ap (slice_get d.relations) table ∙ v.1) in
        let gone : get found.0.rows link.1 ≡ None =
        ap (λ (x : RelationState). get x.rows link.1) same ∙ ap (λ (o : RelationOutline). get o.rows link.1) v.2 ∙ ap (get (without refs s.rows)) named ∙ gone_without refs s.rows r among in
        none-some found.1 (sym gone ∙ found.3)

    none_to : (r : TupleRef) → Contains refs r → links_to c.relations n r ≡ 0
    none_to r among = none_named c.relations n r (no_link r among)

  pub free_without : HoldsRows c n refs → AreFreeRows c n refs
  free_without holds s there i w l =
      let r = get_or refs i w in
      ok.counted n s r there (holds s there i w l) ∙ none_to s there r (All-contains_itself refs i w l)
