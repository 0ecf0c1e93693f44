-- A catalog with and without the table that stands last.
use Rattle.std.proofs.Common.{◌≡◌, ℕ, ◌-◌, List, [], ◌∷◌, ◌++◌, Some, refl, sym, ap, ◌∙◌, subst, arith, ◌<◌, length, map, take, get_or, append-nil, length-append}
use Rattle.std.specs.List.{All, count_by, flat_map, slice_get}
use Rattle.std.specs.Option.{option_map}
use Rattle.std.specs.FinMap as finite
use Rattle.std.proofs.lemmas.Grind.{flat_map-append}
use Rattle.std.proofs.lemmas.List.{length-map, map-append, take-append-le}
use Rattle.std.proofs.lemmas.Option.{same_Some, slice_get-map, slice_get-get_or, slice_get_within}
use Rattle.common_lemmas.proofs.Options.{option_map_some}
use Rattle.common_lemmas.proofs.Places.{slice_get-front, slice_get_behind}
use Rattle.plain_tables.specs.References.{IsSound}
use Rattle.plain_tables.specs.declared.schema.Schema.{Schema}
use Rattle.mm_relation.specs.State.{IsCurrent, RelationState, linked_keys}
use Rattle.mm_catalog.specs.State.{CatalogState}
use Rattle.mm_catalog.specs.Seen.{database_of}
use Rattle.mm_catalog.specs.Consistent.{AreCounted, IsAmong, IsConsistent}
use Rattle.mm_catalog.specs.Created.{aimed_relation, without_counts}
use Rattle.mm_catalog.specs.Declarations.{EndsInEmpty, HasTableMore, but_last, uncounted, without_last}
use Rattle.mm_catalog.specs.Linked.{is_link_to, links, links_to, relation_links, target_of}
use Rattle.mm_catalog.specs.Outline.{IsOutline, Outline, RelationOutline, changed_each, outline_of, relation_outline}
use Rattle.mm_catalog.proofs.Among.{among_at}
use Rattle.mm_catalog.proofs.Back.{lead_back}
use Rattle.mm_catalog.proofs.NoRows.{no_links}
use Rattle.mm_catalog.proofs.Lists.{whole}
use Rattle.mm_catalog.proofs.Outlines.{LeadBack, keys_before}
use Rattle.mm_catalog.proofs.ShownAgain.{database_alike}
use Rattle.mm_catalog.proofs.Uncounting.{outlines_less}

but_last-push : {A : Type 0} (xs : List A) (x : A) → but_last (xs ++ x ∷ []) ≡ xs
but_last-push xs x = whole xs (x ∷ []) (length (xs ++ x ∷ []) - 1) (omega (arith, length-append xs (x ∷ [])))

last-push : {A : Type 0} (xs : List A) (x : A) → slice_get (xs ++ x ∷ []) (length (xs ++ x ∷ []) - 1) ≡ Some x
last-push xs x =
    let count : length (xs ++ x ∷ []) - 1 ≡ length xs = omega (arith, length-append xs (x ∷ [])) in
    ap (slice_get (xs ++ x ∷ [])) count ∙ slice_get_behind xs [] x

module _ (c : CatalogState) (names : List (List ℕ)) (name : List ℕ) (front : List RelationState) (s : RelationState) (called : c.names ≡ names ++ name ∷ []) (list : c.relations ≡ front ++ s ∷ []) where
  -- the catalog without the table that stands last
  abbrev pub less : CatalogState
  less = record c { names = names; relations = front }

  outlines : map relation_outline c.relations ≡ map relation_outline front ++ relation_outline s ∷ []
  outlines = ap (map relation_outline) list ∙ map-append relation_outline front (s ∷ [])

  pub outline_less : (gained : List ℕ) → without_last gained (outline_of c) ≡ record (outline_of less) { relations = changed_each uncounted gained (map relation_outline front) }
  outline_less gained =
      let fewer = ap but_last called ∙ but_last-push names name in
      let relations = ap but_last outlines ∙ but_last-push (map relation_outline front) (relation_outline s) in
      λ i. record { limits = c.limits; names = fewer i; relations = changed_each uncounted gained (relations i) }

  pub last_outline : slice_get (map relation_outline c.relations) (length (map relation_outline c.relations) - 1) ≡ Some (relation_outline s)
  last_outline = ap (λ (os : List RelationOutline). slice_get os (length os - 1)) outlines ∙ last-push (map relation_outline front) (relation_outline s)

  -- ---- it can be without it

  module _ (ok : IsConsistent c) (empty : EndsInEmpty (outline_of c)) (stands : IsOutline (outline_of less)) where
    abbrev d : CatalogState
    d = stands.0

    no_rows : s.rows ≡ finite.empty
    no_rows = ap (λ (o : RelationOutline). o.rows) (same_Some (relation_outline s) empty.last (sym last_outline ∙ empty.there)) ∙ empty.rows

    in_front : (k : ℕ) (t : RelationState) → slice_get front k ≡ Some t → slice_get c.relations k ≡ Some t
    in_front k t at = ap (λ rs. slice_get rs k) list ∙ slice_get-front front (s ∷ []) k (slice_get_within front k t at) ∙ at

    -- links lead into the tables before, so they lead to the same keys
    keys_front : (k : ℕ) (t : RelationState) → slice_get front k ≡ Some t → linked_keys t.targets front ≡ linked_keys t.targets c.relations
    keys_front k t at =
        let back : LeadBack t.targets k = lead_back c ok k t (in_front k t at) in
        let before : take k c.relations ≡ take k front = ap (take k) list ∙ take-append-le k front (s ∷ []) (omega (arith, slice_get_within front k t at)) in
        sym (keys_before t.targets front k back) ∙ ap (linked_keys t.targets) (sym before) ∙ keys_before t.targets c.relations k back

    -- the relation of a number in the other catalog of this outline
    other_at : (k : ℕ) (t : RelationState) → slice_get front k ≡ Some t → (u : RelationState) × (slice_get d.relations k ≡ Some u) × (relation_outline u ≡ relation_outline t)
    other_at k t at =
        option_map_some relation_outline (slice_get d.relations k) (relation_outline t)
        (sym (slice_get-map relation_outline d.relations k) ∙ ap (λ (o : Outline). slice_get o.relations k) stands.2 ∙ slice_get-map relation_outline front k ∙ ap (option_map relation_outline) at)

    among : (k : ℕ) (t : RelationState) → slice_get front k ≡ Some t → IsAmong names front t
    among k t at =
        let a = among_at c ok k t (in_front k t at) in
        let u = other_at k t at in
        record {
          kept = a.kept;
          targets = ap (λ (o : RelationOutline). o.targets) (sym u.2) ∙ (among_at d stands.1 k u.0 u.1).targets ∙ (λ i. map (target_of (stands.2 i).names) (u.2 i).schema.columns);
          counted = λ column table v e here. a.counted column table v e (in_front table v here);
          linked = a.linked;
          current = subst (λ keys. IsCurrent keys t) (sym (keys_front k t at)) a.current;
        }

    its_links : relation_links s ≡ []
    its_links = no_links s no_rows (among_at c ok (length front) s (ap (λ rs. slice_get rs (length front)) list ∙ slice_get_behind front [] s)).kept

    same_links : links c.relations ≡ links front
    unfolding links
    same_links =
        ap (flat_map relation_links) list ∙ flat_map-append relation_links front (s ∷ []) ∙ ap (λ ls. flat_map relation_links front ++ (ls ++ [])) its_links
        ∙ append-nil (flat_map relation_links front)

    counted : AreCounted front
    unfolding links_to
    counted table t r at held = ok.counted table t r (in_front table t at) held ∙ ap (count_by (is_link_to table r)) same_links

    sound : IsSound c.limits (database_of less)
    sound =
        let limits : d.limits ≡ c.limits = ap (λ (o : Outline). o.limits) stands.2 in
        let same = database_alike d less (sym stands.2) (λ k e l. (stands.1.each k e l).kept) (λ k e l. (among k (get_or front k e) (slice_get-get_or front k e l)).kept) in
        subst (IsSound c.limits) (sym same) (subst (λ (most : _). IsSound most (database_of d)) limits stands.1.sound)

    pub consistent_less : IsConsistent less
    consistent_less = record {
      named = omega (arith, ok.named, ap length called, ap length list, length-append names (name ∷ []), length-append front (s ∷ []));
      rows = ok.rows;
      sound = sound;
      each = λ k e l. among k (get_or front k e) (slice_get-get_or front k e l);
      counted = counted;
    }

-- ---- a new table

module _ (c : CatalogState) (mid : List RelationState) (gained : List ℕ) (within : All (λ n. n < length mid) gained) (others : changed_each without_counts gained mid ≡ c.relations) (name : List ℕ) (schema : Schema) where
  abbrev new : RelationState
  new = aimed_relation c.names schema

  abbrev grown : CatalogState
  grown = record c { names = c.names ++ name ∷ []; relations = mid ++ new ∷ [] }

  pub table_more : HasTableMore (outline_of c) (outline_of grown) gained
  table_more =
      let relations = sym (outlines_less gained mid) ∙ ap (map relation_outline) others in
      let count = length-map (mid ++ new ∷ []) relation_outline ∙ length-append mid (new ∷ []) in
      record {
        last = record { last = relation_outline new; there = last_outline grown c.names name mid new refl refl; rows = refl; hidden = refl; owed = refl };
        before_last = λ k d l. omega (arith, within k d l, count);
        others = outline_less grown c.names name mid new refl refl gained ∙ (λ i. record { limits = c.limits; names = c.names; relations = relations i });
      }
