-- A table without rows that is put back among others.
use Rattle.std.proofs.Common.{◌≡◌, ◌≢◌, ℕ, ◌+◌, ◌<◌, ◌≤◌, false, List, [], ◌∷◌, ◌++◌, Option, Some, None, is_some, refl, sym, ap, ◌∙◌, subst, arith, length, map, take, drop, get_or, inl, inr}
use Rattle.std.specs.List.{All, AllPairs, count_by, insert, list_any, slice_get}
use Rattle.std.specs.Option.{option_map}
use Rattle.std.specs.FinMap as finite
use Rattle.std.specs.FinMap.{get-empty}
use Rattle.std.specs.Prelude.{String}
use Rattle.std.specs.String.{string_bytes}
use Rattle.std.specs.Str.{bytes_eq}
use Rattle.std.proofs.lemmas.Bool.{cases_eq, false_from_ne_true, false≢true}
use Rattle.std.proofs.lemmas.List.{length-map}
use Rattle.std.proofs.lemmas.List.Edits.{length-insert}
use Rattle.std.proofs.lemmas.List.Folds.{list_any_none}
use Rattle.std.proofs.lemmas.Option.{same_Some, slice_get-map, slice_get-get_or}
use Rattle.std.proofs.lemmas.Simd.{map-map}
use Rattle.std.proofs.lemmas.Slice.Eq.{bytes_eq-Decides}
use Rattle.common_lemmas.proofs.Options.{option_map_some}
use Rattle.common_lemmas.proofs.Pairs.{AllPairs-map}
use Rattle.indexmap.proofs.SetLemmas.{map-insert}
use Rattle.part_raw.specs.TupleRefs.{ref_cmp}
use Rattle.plain_tables.specs.References.{IsSound}
use Rattle.plain_tables.specs.Tables.{Table}
use Rattle.mm_relation.specs.Rows.{referrers_at}
use Rattle.mm_relation.specs.State.{IsCurrent, IsKept, RelationState, linked_keys, no_keys}
use Rattle.mm_catalog.specs.State.{CatalogState}
use Rattle.mm_catalog.specs.Seen.{database_of}
use Rattle.mm_catalog.specs.Consistent.{AreCounted, IsAmong, IsConsistent}
use Rattle.mm_catalog.specs.Dropped.{moved_down, moved_up, renumbered}
use Rattle.mm_catalog.specs.DroppedTables.{CanHaveTable, DroppedTableState, outline_moved_down, with_table}
use Rattle.mm_catalog.specs.Linked.{HasLinksOrNulls, is_link_to, links_to, relation_links, target_at, target_of}
use Rattle.mm_catalog.specs.Outline.{Outline, RelationOutline, outline_of, relation_outline}
use Rattle.mm_catalog.proofs.Among.{among_at}
use Rattle.mm_catalog.proofs.Back.{lead_back, names-database}
use Rattle.mm_catalog.proofs.Created.{named-there, new_key}
use Rattle.mm_catalog.proofs.Gone.{get-inserted, get-remove, inserted_apart, moved_down-before, moved_down-other, moved_up-back, remove-inserted}
use Rattle.mm_catalog.proofs.NoRows.{current_anywhere, no_links}
use Rattle.mm_catalog.proofs.Renumbered.{LeadElsewhere, current_renumbered, kept_renumbered, keys_renumbered, less_one, links_less_one, renumbered_same, target_at-map, told_whole}
use Rattle.mm_catalog.proofs.ShownAgain.{database_alike}

-- ---- the numbers of tables, once one is back

-- gone again, links lead where they led
targets_again : (n : ℕ) (targets : List (Option ℕ)) → map (option_map (moved_up n)) (map (option_map (moved_down n)) targets) ≡ targets
targets_again n [] = refl
targets_again n (None ∷ ts) = ap (λ us. None ∷ us) (targets_again n ts)
targets_again n (Some t ∷ ts) =
    ap (λ m. Some m ∷ map (option_map (moved_up n)) (map (option_map (moved_down n)) ts)) (moved_up-back n t) ∙ ap (λ us. Some t ∷ us) (targets_again n ts)

relations_again : (n : ℕ) (relations : List RelationState) → map (renumbered (moved_up n)) (map (renumbered (moved_down n)) relations) ≡ relations
relations_again n [] = refl
relations_again n (s ∷ ss) =
    ap (λ targets. record s { targets = targets } ∷ map (renumbered (moved_up n)) (map (renumbered (moved_down n)) ss)) (targets_again n s.targets)
    ∙ ap (λ rest. s ∷ rest) (relations_again n ss)

-- no links of the others lead into it
none_lead : (n : ℕ) (targets : List (Option ℕ)) → LeadElsewhere (map (option_map (moved_down n)) targets) n
none_lead n targets column t e same =
    let old = option_map_some (moved_down n) (target_at targets column) t (sym (target_at-map (moved_down n) targets column) ∙ e) in
    moved_down-other n old.0 (old.2 ∙ same)

module _ (c : CatalogState) (ok : IsConsistent c) (d : DroppedTableState) (can : CanHaveTable (outline_of c) d) where
  abbrev n : ℕ
  n = d.number

  abbrev moved : List RelationState
  moved = map (renumbered (moved_down n)) c.relations

  abbrev pub back : CatalogState
  back = record c { names = insert c.names n d.name; relations = insert moved n d.relation }

  pub place : n ≤ length c.relations
  place = omega (arith, can.place, length-map c.relations relation_outline)

  place_moved : n ≤ length moved
  place_moved = omega (arith, place, length-map c.relations (renumbered (moved_down n)))

  -- those before it lead where they led
  pub all_told : take n c.relations ++ map (renumbered (moved_down n)) (drop n c.relations) ≡ moved
  all_told =
      told_whole (moved_down n) n c.relations (λ k s below at.
      renumbered_same (moved_down n) s (λ column t e. moved_down-before n t (omega (arith, below, lead_back c ok k s at column t e))))

  pub outline_back : outline_of back ≡ with_table d (outline_of c)
  outline_back =
      let others : map relation_outline moved ≡ map (outline_moved_down n) (map relation_outline c.relations) =
      map-map relation_outline (renumbered (moved_down n)) c.relations ∙ sym (map-map (outline_moved_down n) relation_outline c.relations) in
      let relations = map-insert relation_outline moved n d.relation ∙ ap (λ (os : List RelationOutline). insert os n (relation_outline d.relation)) others in
      λ i. record { limits = c.limits; names = back.names; relations = relations i }

  -- gone again, the relations are those before
  less_again : less_one back.relations n ≡ c.relations
  less_again = ap (map (renumbered (moved_up n))) (remove-inserted moved n d.relation place_moved) ∙ relations_again n c.relations

  own_at : slice_get back.relations n ≡ Some d.relation
  own_at = get-inserted moved n d.relation place_moved

  other_at : (k : ℕ) (t : RelationState) → k ≢ n → slice_get back.relations k ≡ Some t → (s : RelationState) × (slice_get c.relations (moved_up n k) ≡ Some s) × (renumbered (moved_down n) s ≡ t)
  other_at k t other at =
      option_map_some (renumbered (moved_down n)) (slice_get c.relations (moved_up n k)) t
      (sym (slice_get-map (renumbered (moved_down n)) c.relations (moved_up n k)) ∙ ap (λ rs. slice_get rs (moved_up n k)) (sym (remove-inserted moved n d.relation place_moved))
      ∙ get-remove back.relations n k other ∙ at)

  -- ---- beside another catalog of its outline

  module _ (e : CatalogState) (fine : IsConsistent e) (all : outline_of e ≡ with_table d (outline_of c)) where
    alike : outline_of back ≡ outline_of e
    alike = outline_back ∙ sym all

    twin_at : (k : ℕ) (t : RelationState) → slice_get back.relations k ≡ Some t → (u : RelationState) × (slice_get e.relations k ≡ Some u) × (relation_outline u ≡ relation_outline t)
    twin_at k t at =
        option_map_some relation_outline (slice_get e.relations k) (relation_outline t)
        (sym (slice_get-map relation_outline e.relations k) ∙ ap (λ (o : Outline). slice_get o.relations k) (sym alike) ∙ slice_get-map relation_outline back.relations k ∙ ap (option_map relation_outline) at)

    same_targets : (k : ℕ) (t u : RelationState) → relation_outline u ≡ relation_outline t → t.targets ≡ u.targets
    same_targets k t u same = ap (λ (o : RelationOutline). o.targets) (sym same)

    elsewhere : (k : ℕ) (t : RelationState) → slice_get back.relations k ≡ Some t → LeadElsewhere t.targets n
    elsewhere k t at = elim (cases_eq k n) [
      | inl own ↦ λ column table leads same.
          let u = twin_at k t at in
          let before : table < k = lead_back e fine k u.0 u.1 column table (ap (λ targets. target_at targets column) (sym (same_targets k t u.0 u.2)) ∙ leads) in
          absurd (omega (arith, before, own, same))
      | inr other ↦
          let s = other_at k t other at in
          subst (λ (v : RelationState). LeadElsewhere v.targets n) s.2 (none_lead n s.0.targets)
    ]

    kept_back : (k : ℕ) (t : RelationState) → slice_get back.relations k ≡ Some t → IsKept t
    kept_back k t at = elim (cases_eq k n) [
      | inl own ↦ subst IsKept (same_Some d.relation t (sym own_at ∙ ap (slice_get back.relations) (sym own) ∙ at)) can.kept
      | inr other ↦
          let s = other_at k t other at in
          subst IsKept s.2 (kept_renumbered (moved_down n) s.0 (among_at c ok (moved_up n k) s.0 s.1).kept)
    ]

    -- the others lead to the same keys
    same_keys : (s : RelationState) → LeadElsewhere (renumbered (moved_down n) s).targets n → linked_keys (renumbered (moved_down n) s).targets back.relations ≡ linked_keys s.targets c.relations
    same_keys s leads =
        sym (keys_renumbered back.relations n (renumbered (moved_down n) s).targets leads)
        ∙ (λ i. linked_keys (targets_again n s.targets i) (less_again i))

    current_back : (k : ℕ) (t : RelationState) → slice_get back.relations k ≡ Some t → IsCurrent (linked_keys t.targets back.relations) t
    current_back k t at = elim (cases_eq k n) [
      | inl own ↦
          let same : d.relation ≡ t = same_Some d.relation t (sym own_at ∙ ap (slice_get back.relations) (sym own) ∙ at) in
          subst (λ (v : RelationState). IsCurrent (linked_keys v.targets back.relations) v) same
          (current_anywhere d.relation can.rows no_keys (linked_keys d.relation.targets back.relations) can.current)
      | inr other ↦
          let s = other_at k t other at in
          subst (λ (v : RelationState). IsCurrent (linked_keys v.targets back.relations) v) s.2
          (subst (λ keys. IsCurrent keys (renumbered (moved_down n) s.0)) (sym (same_keys s.0 (none_lead n s.0.targets)))
          (current_renumbered (moved_down n) (linked_keys s.0.targets c.relations) s.0 (among_at c ok (moved_up n k) s.0 s.1).current))
    ]

    among_back : (k : ℕ) (t : RelationState) → slice_get back.relations k ≡ Some t → IsAmong back.names back.relations t
    among_back k t at =
        let u = twin_at k t at in
        let a = among_at e fine k u.0 u.1 in
        record {
          kept = kept_back k t at;
          targets = same_targets k t u.0 u.2 ∙ a.targets ∙ (λ i. map (target_of (sym alike i).names) (u.2 i).schema.columns);
          counted = λ column table v leads here.
              let w = twin_at table v here in
              ap (λ (o : RelationOutline). o.counted) (sym w.2) ∙ a.counted column table w.0 (ap (λ targets. target_at targets column) (sym (same_targets k t u.0 u.2)) ∙ leads) w.1;
          linked = λ r row held. subst (λ targets. HasLinksOrNulls targets row) (sym (same_targets k t u.0 u.2)) (a.linked r row (ap (λ (o : RelationOutline). finite.get o.rows r) u.2 ∙ held));
          current = current_back k t at;
        }

    -- as many links as before name a row
    counted_back : AreCounted back.relations
    counted_back table t r at held = elim (cases_eq table n) [
      | inl own ↦
          let same : t ≡ d.relation = same_Some t d.relation (sym at ∙ ap (slice_get back.relations) own ∙ own_at) in
          let gone : finite.get t.rows r ≡ None = ap (λ (v : RelationState). finite.get v.rows r) same ∙ ap (λ rows. finite.get rows r) can.rows ∙ get-empty ref_cmp r in
          absurd (false≢true (ap is_some (sym gone) ∙ held))
      | inr other ↦
          let s = other_at table t other at in
          let had : referrers_at s.0.referrers r ≡ links_to c.relations (moved_up n table) r = ok.counted (moved_up n table) s.0 r s.1 (ap (λ (v : RelationState). is_some (finite.get v.rows r)) s.2 ∙ held) in
          let number : referrers_at s.0.referrers r ≡ referrers_at t.referrers r = ap (λ (v : RelationState). referrers_at v.referrers r) s.2 in
          let links : links_to back.relations table r ≡ links_to (less_one back.relations n) (moved_up n table) r + count_by (is_link_to table r) (relation_links d.relation) =
          links_less_one n table r other back.relations d.relation own_at elsewhere in
          let less : links_to (less_one back.relations n) (moved_up n table) r ≡ links_to c.relations (moved_up n table) r = ap (λ rs. links_to rs (moved_up n table) r) less_again in
          let own : count_by (is_link_to table r) (relation_links d.relation) ≡ 0 = ap (count_by (is_link_to table r)) (no_links d.relation can.rows can.kept) in
          omega (arith, had, number, links, less, own)
    ]

    sound : IsSound c.limits (database_of back)
    sound =
        let limits : e.limits ≡ c.limits = ap (λ (o : Outline). o.limits) all in
        let kept : All IsKept back.relations = λ k w l. kept_back k (get_or back.relations k w) (slice_get-get_or back.relations k w l) in
        let same : database_of back ≡ database_of e = database_alike e back alike (λ k w l. (fine.each k w l).kept) kept in
        subst (IsSound c.limits) (sym same) (subst (λ (most : _). IsSound most (database_of e)) limits fine.sound)

    pub consistent_back : IsConsistent back
    consistent_back = record {
      named = length-insert c.names n d.name (omega (arith, place, ok.named)) ∙ ap (λ count. count + 1) (ok.named ∙ sym (length-map c.relations (renumbered (moved_down n)))) ∙ sym (length-insert moved n d.relation place_moved);
      rows = ok.rows;
      sound = sound;
      each = λ k w l. among_back k (get_or back.relations k w) (slice_get-get_or back.relations k w l);
      counted = counted_back;
    }

    -- its name is none of the others'
    names_apart : AllPairs (λ a b. a ≢ b) back.names
    names_apart =
        let differ : List ℕ → List ℕ → Type 0 = λ a b. a ≢ b in
        subst (AllPairs differ) (names-database e fine ∙ ap (λ (o : Outline). o.names) all)
        (AllPairs-map (λ (t : Table). t.name) (λ t u. t.name ≢ u.name) differ (λ t u apart. apart) (database_of e) fine.sound.apart)

    name_absent : list_any (λ other. bytes_eq other d.name) c.names ≡ false
    name_absent =
        let apart = inserted_apart c.names n d.name names_apart in
        list_any_none (λ other. bytes_eq other d.name) c.names
        (λ k w l. false_from_ne_true (bytes_eq (get_or c.names k w) d.name) (λ same. apart k w l ((bytes_eq-Decides (get_or c.names k w) d.name).0 same)))

    pub name_new : {Z : Type 0} (keys : List (String Z)) (name : String Z) → map string_bytes keys ≡ c.names → string_bytes name ≡ d.name
        → list_any (λ other. bytes_eq (string_bytes name) (string_bytes other)) keys ≡ false
    name_new {Z} keys name same called =
        new_key c ok keys name same
        (named-there c ok (string_bytes name) ∙ ap (λ (k : List ℕ). list_any (λ other. bytes_eq other k) c.names) called ∙ name_absent)
