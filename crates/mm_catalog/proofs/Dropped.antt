-- A catalog of one table less, to which no column refers.
use Rattle.std.proofs.Common.{◌≡◌, ◌≢◌, ℕ, zero, suc, ◌+◌, ◌-◌, ◌<◌, false, List, [], ◌∷◌, Option, Some, None, IsSome, refl, sym, ap, ◌∙◌, subst, arith, length, map, get_or, is_some}
use Rattle.std.specs.List.{All, slice_get, remove, list_any, position, count_by}
use Rattle.std.specs.Option.{option_and_then, option_map, option_map_or}
use Rattle.std.specs.Str.{bytes_eq}
use Rattle.std.specs.FinMap as finite
use Rattle.std.proofs.lemmas.Bool.{true≢false, or_parts}
use Rattle.std.proofs.lemmas.List.{length-map}
use Rattle.std.proofs.lemmas.List.Edits.{length-remove}
use Rattle.std.proofs.lemmas.List.Elements.{All-map}
use Rattle.std.proofs.lemmas.List.Quantifiers.{position-Some}
use Rattle.std.proofs.lemmas.Option.{none-some, slice_get-map, slice_get_within, slice_get-get_or, get_or_from_slice_get}
use Rattle.common_lemmas.proofs.Places.{slice_get-inside}
use Rattle.common_lemmas.proofs.Elements.{All-at}
use Rattle.common_lemmas.proofs.Options.{option_map_some}
use Rattle.common_lemmas.proofs.Tests.{fails_where_none}
use Rattle.part_raw.specs.declared.tuple_ref.TupleRef.{TupleRef}
use Rattle.plain_tables.specs.Tables.{Table}
use Rattle.plain_tables.specs.References.{referred, refers_to, is_table_referenced, IsSound}
use Rattle.plain_tables.specs.declared.schema.Column.{Column}
use Rattle.mm_relation.specs.Rows.{Row, referrers_at}
use Rattle.mm_relation.specs.State.{RelationState, IsKept, IsCurrent, linked_keys}
use Rattle.mm_catalog.specs.State.{CatalogState}
use Rattle.mm_catalog.specs.Seen.{database_of, table_of, rows_of, plain_index}
use Rattle.mm_catalog.specs.Linked.{target_of, target_at, relation_links, links, links_to, is_link_to, HasLinksOrNulls}
use Rattle.mm_catalog.specs.Consistent.{IsAmong, IsConsistent, AreCounted}
use Rattle.mm_catalog.specs.Recounted.{IsRecounted, AreRecounted}
use Rattle.mm_catalog.specs.Dropped.{moved_down, moved_up, renumbered}
use Rattle.mm_catalog.proofs.Tables.{database-get}
use Rattle.mm_catalog.proofs.Recounting.{current_recounted, rows_recounted, links_recounted}
use Rattle.mm_catalog.proofs.Removing.{recounted_keys}
use Rattle.mm_catalog.proofs.Gone.{moved_down-other, moved_up-back, moved_up-injective, get-removed, position-remove}
use Rattle.mm_catalog.proofs.Renumbered.{less_one, LeadElsewhere, target_at-map, keys_renumbered, kept_renumbered, current_renumbered, links_less_one, database-dropped}
use Rattle.mm_catalog.proofs.Among.{among_at}
use Rattle.mm_catalog.proofs.Lists.{flat_map_alike, map-zip-all}
use Rattle.mm_catalog.proofs.Back.{has_name}

-- ---- relations that are recounted

module _ (c : CatalogState) (new : List RelationState) (h : AreRecounted c.relations new) where
  -- they have the same links, and show the same tables
  links-recounted : links new ≡ links c.relations
  unfolding links
  links-recounted = flat_map_alike relation_links c.relations new h.count (λ k s t at here. links_recounted s t (h.each k s t at here))

  count-recounted : (table : ℕ) (r : TupleRef) → links_to new table r ≡ links_to c.relations table r
  unfolding links_to
  count-recounted table r = ap (count_by (is_link_to table r)) links-recounted

  table_recounted : (k : ℕ) (name : List ℕ) (s t : RelationState) → IsRecounted s t → table_of new name t ≡ table_of c.relations name s
  unfolding table_of
  table_recounted k name s t e =
      let keys : linked_keys t.targets new ≡ linked_keys s.targets c.relations =
      ap (λ targets. linked_keys targets new) (ap (λ (r : RelationState). r.targets) e) ∙ recounted_keys s.targets c.relations new h in
      let rows : rows_of (linked_keys t.targets new) t ≡ rows_of (linked_keys s.targets c.relations) s =
      ap (λ k. rows_of k t) keys ∙ rows_recounted s t e (linked_keys s.targets c.relations) in
      λ j. record { name = name; columns = (e j).schema.columns; indexes = map plain_index (e j).declared; rows = rows j }

  database-recounted : database_of (record c { relations = new }) ≡ database_of c
  unfolding database_of
  database-recounted =
      map-zip-all (λ (t : List ℕ × RelationState). table_of c.relations t.0 t.1) (λ (t : List ℕ × RelationState). table_of new t.0 t.1) c.names c.relations new h.count
      (λ k name s t named at here. table_recounted k name s t (h.each k s t at here))

-- ---- where links lead, once a table to which none lead is gone

-- a target, where the name that goes is not the one that is referred to
found_less : (names : List (List ℕ)) (n : ℕ) (gone : List ℕ) (found : Option (List ℕ)) → slice_get names n ≡ Some gone → option_map_or (bytes_eq gone) found false ≡ false → option_and_then (λ name. position (has_name name) (remove names n)) found ≡ option_map (moved_up n) (option_and_then (λ name. position (has_name name) names) found)
found_less names n gone None at other = refl
found_less names n gone (Some name) at other = position-remove (has_name name) names n gone at other

found_elsewhere : (names : List (List ℕ)) (n : ℕ) (gone : List ℕ) (found : Option (List ℕ)) → slice_get names n ≡ Some gone → option_map_or (bytes_eq gone) found false ≡ false → (t : ℕ) → option_and_then (λ name. position (has_name name) names) found ≡ Some t → t ≢ n
found_elsewhere names n gone None at other t e same = none-some t e
found_elsewhere names n gone (Some name) at other t e same =
    let first = position-Some (has_name name) names t gone e in
    true≢false (sym first.1 ∙ ap (λ k. has_name name (get_or names k gone)) same ∙ ap (has_name name) (get_or_from_slice_get names n gone gone at) ∙ other)

targets_less : (names : List (List ℕ)) (n : ℕ) (gone : List ℕ) (columns : List Column) → slice_get names n ≡ Some gone → list_any (refers_to gone) columns ≡ false → map (target_of (remove names n)) columns ≡ map (option_map (moved_up n)) (map (target_of names) columns)
targets_less names n gone [] at none = refl
targets_less names n gone (c ∷ cs) at none =
    let parts = or_parts (refers_to gone c) (list_any (refers_to gone) cs) none in
    ap (λ t. t ∷ map (target_of (remove names n)) cs) (found_less names n gone (referred c.kind) at parts.0)
    ∙ ap (λ ts. option_map (moved_up n) (target_of names c) ∷ ts) (targets_less names n gone cs at parts.1)

target_there : (names : List (List ℕ)) (columns : List Column) (column t : ℕ) → target_at (map (target_of names) columns) column ≡ Some t → (c : Column) × (slice_get columns column ≡ Some c) × (target_of names c ≡ Some t)
target_there names [] column t e = absurd (none-some t e)
target_there names (c ∷ cs) zero t e = (c, refl, e)
target_there names (c ∷ cs) (suc column) t e = target_there names cs column t e

some_before : {A B : Type 0} (f : A → B) (o : Option A) → IsSome (option_map f o) → IsSome o
some_before f None h = h
some_before f (Some x) h = refl

-- ---- the catalog

module _ (c : CatalogState) (ok : IsConsistent c) (n : ℕ) (gone : List ℕ) (called : slice_get c.names n ≡ Some gone) (unreferred : is_table_referenced (database_of c) gone ≡ false) where
  none_refer : (k : ℕ) (s : RelationState) → slice_get c.relations k ≡ Some s → list_any (refers_to gone) s.schema.columns ≡ false
  unfolding table_of
  none_refer k s there =
      let name = slice_get-inside c.names k (omega (arith, ok.named, slice_get_within c.relations k s there)) in
      All-at (λ (t : Table). list_any (refers_to gone) t.columns ≡ false) (database_of c) k (table_of c.relations name.0 s)
      (fails_where_none (λ (t : Table). list_any (refers_to gone) t.columns) (database_of c) unreferred) (database-get c ok.named k name.0 s name.1 there)

  pub elsewhere : (k : ℕ) (s : RelationState) → slice_get c.relations k ≡ Some s → LeadElsewhere s.targets n
  elsewhere k s there column t e =
      let col = target_there c.names s.schema.columns column t (subst (λ targets. target_at targets column ≡ Some t) (among_at c ok k s there).targets e) in
      found_elsewhere c.names n gone (referred col.0.kind) called (All-at (λ x. refers_to gone x ≡ false) s.schema.columns column col.0 (fails_where_none (refers_to gone) s.schema.columns (none_refer k s there)) col.1) t col.2

  -- its rows' links are no more counted
  module _ (counted : List RelationState) (s : RelationState) (there : slice_get c.relations n ≡ Some s) (h : AreRecounted c.relations counted) (kept : All IsKept counted) (fewer : (k : ℕ) (t : RelationState) (r : TupleRef) → k ≢ n → slice_get counted k ≡ Some t → IsSome (finite.get t.rows r) → referrers_at t.referrers r ≡ links_to c.relations k r - count_by (is_link_to k r) (relation_links s)) where
    abbrev less : List RelationState
    less = less_one counted n

    abbrev left : CatalogState
    left = record c { names = remove c.names n; relations = less }

    before : (k : ℕ) (t : RelationState) → slice_get counted k ≡ Some t → (u : RelationState) × (slice_get c.relations k ≡ Some u) × IsRecounted u t
    before k t at =
        let u = slice_get-inside c.relations k (omega (arith, h.count, slice_get_within counted k t at)) in
        (u.0, u.1, h.each k u.0 t u.1 at)

    elsewhere_still : (k : ℕ) (t : RelationState) → slice_get counted k ≡ Some t → LeadElsewhere t.targets n
    elsewhere_still k t at =
        let u = before k t at in
        subst (λ targets. LeadElsewhere targets n) (sym (ap (λ (r : RelationState). r.targets) u.2)) (elsewhere k u.0 u.1)

    linked_left : (k : ℕ) (t : RelationState) → slice_get counted k ≡ Some t → (r : TupleRef) (row : Row) → finite.get t.rows r ≡ Some row → HasLinksOrNulls (map (option_map (moved_up n)) t.targets) row
    linked_left k t at r row e column value behind leads held =
        let u = before k t at in
        let some : IsSome (target_at t.targets column) = some_before (moved_up n) (target_at t.targets column) (subst IsSome (target_at-map (moved_up n) t.targets column) leads) in
        (among_at c ok k u.0 u.1).linked r row (ap (λ (w : RelationState). finite.get w.rows r) (sym u.2) ∙ e) column value behind
        (subst (λ targets. IsSome (target_at targets column)) (ap (λ (r : RelationState). r.targets) u.2) some) held

    among_left : (k : ℕ) (t : RelationState) → slice_get counted k ≡ Some t → IsAmong (remove c.names n) less (renumbered (moved_up n) t)
    among_left k t at =
        let u = before k t at in
        let a = among_at c ok k u.0 u.1 in
        let targets : t.targets ≡ u.0.targets = ap (λ (r : RelationState). r.targets) u.2 in
        let columns : t.schema.columns ≡ u.0.schema.columns = ap (λ (r : RelationState). r.schema.columns) u.2 in
        let keys : linked_keys (map (option_map (moved_up n)) t.targets) less ≡ linked_keys u.0.targets c.relations =
        keys_renumbered counted n t.targets (elsewhere_still k t at) ∙ recounted_keys t.targets c.relations counted h ∙ ap (λ ts. linked_keys ts c.relations) targets in
        record {
          kept = kept_renumbered (moved_up n) t (All-at IsKept counted k t kept at);
          targets = ap (map (option_map (moved_up n))) (targets ∙ a.targets)
              ∙ sym (targets_less c.names n gone u.0.schema.columns called (none_refer k u.0 u.1))
              ∙ ap (map (target_of (remove c.names n))) (sym columns);
          counted = λ column table v e here.
              let old = option_map_some (moved_up n) (target_at t.targets column) table (sym (target_at-map (moved_up n) t.targets column) ∙ e) in
              let from = option_map_some (renumbered (moved_up n)) (slice_get counted (moved_down n table)) v
              (sym (slice_get-map (renumbered (moved_up n)) (remove counted n) table ∙ ap (option_map (renumbered (moved_up n))) (get-removed counted n table)) ∙ here) in
              let same : moved_down n table ≡ old.0 = moved_up-injective n (moved_down n table) old.0 (moved_down-other n table) (elsewhere_still k t at column old.0 old.1) (moved_up-back n table ∙ sym old.2) in
              let was = before old.0 from.0 (ap (slice_get counted) (sym same) ∙ from.1) in
              ap (λ (r : RelationState). r.counted) (sym from.2) ∙ ap (λ (r : RelationState). r.counted) was.2
              ∙ a.counted column old.0 was.0 (ap (λ ts. target_at ts column) (sym targets) ∙ old.1) was.1;
          linked = linked_left k t at;
          current = current_renumbered (moved_up n) (linked_keys (map (option_map (moved_up n)) t.targets) less) t
              (subst (λ ks. IsCurrent ks t) (sym keys) (current_recounted u.0 t u.2 (linked_keys u.0.targets c.relations) a.current));
        }

    counted_left : AreCounted less
    counted_left k v r at held =
        let j = moved_down n k in
        let t = slice_get-inside counted n (omega (arith, h.count, slice_get_within c.relations n s there)) in
        let from = option_map_some (renumbered (moved_up n)) (slice_get counted j) v
        (sym (slice_get-map (renumbered (moved_up n)) (remove counted n) k ∙ ap (option_map (renumbered (moved_up n))) (get-removed counted n k)) ∙ at) in
        let same_number : referrers_at from.0.referrers r ≡ referrers_at v.referrers r = ap (λ (w : RelationState). referrers_at w.referrers r) from.2 in
        let had : referrers_at from.0.referrers r ≡ links_to c.relations j r - count_by (is_link_to j r) (relation_links s) =
        fewer j from.0 r (moved_down-other n k) from.1 (ap (λ (w : RelationState). is_some (finite.get w.rows r)) from.2 ∙ held) in
        let all : links_to counted j r ≡ links_to less (moved_up n j) r + count_by (is_link_to j r) (relation_links t.0) =
        links_less_one n j r (moved_down-other n k) counted t.0 t.1 elsewhere_still in
        let same : links_to counted j r ≡ links_to c.relations j r = count-recounted c counted h j r in
        let its : count_by (is_link_to j r) (relation_links t.0) ≡ count_by (is_link_to j r) (relation_links s) =
        ap (count_by (is_link_to j r)) (links_recounted s t.0 (h.each n s t.0 there t.1)) in
        let place : links_to less (moved_up n j) r ≡ links_to less k r = ap (λ m. links_to less m r) (moved_up-back n k) in
        omega (arith, same_number, had, all, same, its, place)

    pub database_left : database_of left ≡ remove (database_of c) n
    database_left =
        database-dropped (record c { relations = counted }) n elsewhere_still
        ∙ ap (λ tables. remove tables n) (database-recounted c counted h)

    pub consistent_left : IsSound c.limits (database_of left) → IsConsistent left
    consistent_left sound =
        let within : n < length c.relations = slice_get_within c.relations n s there in
        record {
          named = omega (arith, length-remove c.names n (omega (arith, within, ok.named)), length-remove counted n (omega (arith, within, h.count)), length-map (remove counted n) (renumbered (moved_up n)), ok.named, h.count);
          rows = ok.rows;
          sound = sound;
          each = All-map (IsAmong (remove c.names n) less) (renumbered (moved_up n)) (remove counted n)
              (λ k d l. among_left (moved_down n k) (get_or (remove counted n) k d) (sym (get-removed counted n k) ∙ slice_get-get_or (remove counted n) k d l));
          counted = counted_left;
        }
