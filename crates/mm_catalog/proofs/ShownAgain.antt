-- A catalog of which hidden rows are shown again: it has the database of any catalog of its outline, and stays consistent.
use Rattle.std.proofs.Common.{◌≡◌, ◌≢◌, ℕ, ◌+◌, ◌*◌, ◌<◌, ◌≤◌, true, false, List, ◌++◌, Option, Some, None, IsSome, is_some, refl, sym, ap, ◌∙◌, subst, arith, length, length-take, map, set, take, drop}
use Rattle.std.specs.List.{All, AllPairs, Contains, slice_get, zip}
use Rattle.std.specs.Option.{option_and_then, option_map}
use Rattle.std.specs.FinMap.{get, len}
use Rattle.std.proofs.lemmas.List.{length-map}
use Rattle.std.proofs.lemmas.Nat.{mul-le}
use Rattle.std.proofs.lemmas.Option.{same_Some, slice_get-map, slice_get_within}
use Rattle.common_lemmas.proofs.Elements.{All-at}
use Rattle.common_lemmas.proofs.Options.{option_map_some}
use Rattle.common_lemmas.proofs.Places.{slice_get-inside, slice_get_set, slice_get-set_other}
use Rattle.part_raw.specs.declared.tuple_ref.TupleRef.{TupleRef}
use Rattle.plain_tables.specs.References.{IsSound}
use Rattle.plain_tables.specs.declared.value.Value.{Value}
use Rattle.mm_relation.specs.Order.{KeysDiffer}
use Rattle.mm_relation.specs.Reading.{key_at}
use Rattle.mm_relation.specs.Rows.{Row, referrers_at}
use Rattle.mm_relation.specs.State.{IsKept, IsKeyed, IsReadable, RelationState, linked_keys, tree_list}
use Rattle.mm_catalog.specs.State.{CatalogState}
use Rattle.mm_catalog.specs.Seen.{database_of, plain_index, rows_of, table_of, values_of}
use Rattle.mm_catalog.specs.Consistent.{AreCounted, IsConsistent}
use Rattle.mm_catalog.specs.Counted.{HaveRoom}
use Rattle.mm_catalog.specs.Hidden.{AreShownAt, CanBeShown, CanShow}
use Rattle.mm_catalog.specs.Linked.{HasLinksOrNulls, links_to, target_at}
use Rattle.mm_catalog.specs.Outline.{HidesOnce, IsOutline, Outline, RelationOutline, changed_at, is_among, outline_of, relation_outline, shown, with_shown, with_those}
use Rattle.mm_catalog.specs.Recounted.{HaveReferrers, IsRewritten}
use Rattle.mm_catalog.proofs.Among.{among_at}
use Rattle.mm_catalog.proofs.Back.{lead_back}
use Rattle.mm_catalog.proofs.Bounded.{few_columns, few_links}
use Rattle.mm_catalog.proofs.Counted.{counted_up}
use Rattle.mm_catalog.proofs.Elsewhere.{consistent_rewritten, counted_from, current_beside_old, kept_from}
use Rattle.mm_catalog.proofs.HiddenRows.{shown_outlined, shown_rewritten, with_among, with_more}
use Rattle.mm_catalog.proofs.Inserted.{no_links_to}
use Rattle.mm_catalog.proofs.Keyed.{keyed_unique}
use Rattle.mm_catalog.proofs.Lists.{get-take, map-zip-all, map_alike}
use Rattle.mm_catalog.proofs.Outlined.{among_contains, changed_here, none_among}
use Rattle.mm_catalog.proofs.Outlines.{keys_before, outline, outlines, same_keys}
use Rattle.mm_catalog.proofs.Removing.{links_read}
use Rattle.mm_catalog.proofs.Standing.{stands_at}

-- ---- catalogs of one outline

module _ (c d : CatalogState) (alike : outline_of d ≡ outline_of c) where
  outlines_alike : map relation_outline d.relations ≡ map relation_outline c.relations
  outlines_alike = ap (λ (o : Outline). o.relations) alike

  as_many : length d.relations ≡ length c.relations
  as_many = sym (length-map d.relations relation_outline) ∙ ap length outlines_alike ∙ length-map c.relations relation_outline

  -- relations of one number have one outline
  pub alike_at : (k : ℕ) (s t : RelationState) → slice_get c.relations k ≡ Some s → slice_get d.relations k ≡ Some t → relation_outline t ≡ relation_outline s
  alike_at k s t was now =
      same_Some (relation_outline t) (relation_outline s)
      (sym (slice_get-map relation_outline d.relations k ∙ ap (option_map relation_outline) now) ∙ ap (λ os. slice_get os k) outlines_alike
      ∙ slice_get-map relation_outline c.relations k ∙ ap (option_map relation_outline) was)

  module _ (kept : All IsKept c.relations) (now_kept : All IsKept d.relations) where
    listed_alike : (k : ℕ) (s t : RelationState) → slice_get c.relations k ≡ Some s → slice_get d.relations k ≡ Some t → tree_list t.by_key ≡ tree_list s.by_key
    listed_alike k s t was now =
        let rows : t.rows ≡ s.rows = ap (λ (o : RelationOutline). o.rows) (alike_at k s t was now) in
        keyed_unique s.rows (tree_list t.by_key) (tree_list s.by_key)
        (subst (λ rs. IsKeyed rs (tree_list t.by_key)) rows (All-at IsKept d.relations k t now_kept now).keyed) (All-at IsKept c.relations k s kept was).keyed

    read_alike : outlines d.relations ≡ outlines c.relations
    read_alike =
        map_alike outline c.relations d.relations as_many
        (λ k s t was now i. ((alike_at k s t was now i).targets, (alike_at k s t was now i).rows, listed_alike k s t was now i))

    table_alike : (k : ℕ) (name : List ℕ) (s t : RelationState) → slice_get c.relations k ≡ Some s → slice_get d.relations k ≡ Some t → table_of d.relations name t ≡ table_of c.relations name s
    unfolding table_of rows_of
    table_alike k name s t was now =
        let same = alike_at k s t was now in
        let keys : linked_keys t.targets d.relations ≡ linked_keys s.targets c.relations =
        ap (λ (o : RelationOutline). linked_keys o.targets d.relations) same ∙ same_keys s.targets d.relations c.relations read_alike in
        λ i. record {
          name = name;
          columns = (same i).schema.columns;
          indexes = map plain_index (same i).declared;
          rows = map (values_of (keys i) (length (same i).schema.columns) (same i).rows) (listed_alike k s t was now i);
        }

    -- they have one database
    pub database_alike : database_of d ≡ database_of c
    unfolding database_of
    database_alike =
        ap (λ (o : Outline). map (λ (t : List ℕ × RelationState). table_of d.relations t.0 t.1) (zip o.names d.relations)) alike
        ∙ map-zip-all (λ (t : List ℕ × RelationState). table_of c.relations t.0 t.1) (λ (t : List ℕ × RelationState). table_of d.relations t.0 t.1) c.names c.relations d.relations as_many
        (λ k name s t named was now. table_alike k name s t was now)

-- ---- a catalog whose outline is that of another but for one relation

-- the outline of one with another relation in the place of a number
abbrev pub with_other : ℕ → (RelationOutline → RelationOutline) → Outline → Outline
with_other n change o = record o { relations = changed_at change n o.relations }

module _ (c d : CatalogState) (ok : IsConsistent c) (n : ℕ) (change : RelationOutline → RelationOutline) (all : outline_of d ≡ with_other n change (outline_of c)) (s : RelationState) (there : slice_get c.relations n ≡ Some s) where
  outlines_all : map relation_outline d.relations ≡ set (map relation_outline c.relations) n (change (relation_outline s))
  outlines_all =
      ap (λ (o : Outline). o.relations) all
      ∙ changed_here change n (map relation_outline c.relations) (relation_outline s) (slice_get-map relation_outline c.relations n ∙ ap (option_map relation_outline) there)

  -- the relation of this outline
  d_at : (k : ℕ) (o : RelationOutline) → slice_get (set (map relation_outline c.relations) n (change (relation_outline s))) k ≡ Some o → (t : RelationState) × (slice_get d.relations k ≡ Some t) × (relation_outline t ≡ o)
  d_at k o at = option_map_some relation_outline (slice_get d.relations k) o (sym (slice_get-map relation_outline d.relations k) ∙ ap (λ os. slice_get os k) outlines_all ∙ at)

  pub d_here : (t : RelationState) × (slice_get d.relations n ≡ Some t) × (relation_outline t ≡ change (relation_outline s))
  d_here =
      d_at n (change (relation_outline s))
      (slice_get_set (map relation_outline c.relations) n (change (relation_outline s)) (slice_get_within (map relation_outline c.relations) n (relation_outline s) (slice_get-map relation_outline c.relations n ∙ ap (option_map relation_outline) there)))

  d_other : (k : ℕ) (u : RelationState) → k ≢ n → slice_get c.relations k ≡ Some u → (t : RelationState) × (slice_get d.relations k ≡ Some t) × (relation_outline t ≡ relation_outline u)
  d_other k u other at =
      d_at k (relation_outline u)
      (slice_get-set_other (map relation_outline c.relations) n k (change (relation_outline s)) other ∙ slice_get-map relation_outline c.relations k ∙ ap (option_map relation_outline) at)

  abbrev key_in : TupleRef → Option RelationState → Option Value
  key_in to found = option_and_then (λ (u : RelationState). key_at u.rows to) found

  -- its rows are read under the same keys
  pub keys_there : linked_keys s.targets d.relations ≡ linked_keys s.targets c.relations
  keys_there = λ i column to. at column to i
    where
      at : (column : ℕ) (to : TupleRef) → linked_keys s.targets d.relations column to ≡ linked_keys s.targets c.relations column to
      at column to =
          elim (target_at s.targets column) as (λ o. target_at s.targets column ≡ o → key_in to (option_and_then (slice_get d.relations) o) ≡ key_in to (option_and_then (slice_get c.relations) o)) [
            | None ↦ λ e. refl
            | Some table ↦ λ e.
                let below : table < n = lead_back c ok n s there column table e in
                let u = slice_get-inside c.relations table (omega (arith, below, slice_get_within c.relations n s there)) in
                let t = d_other table u.0 (λ same. absurd (omega (arith, below, same))) u.1 in
                ap (key_in to) t.1 ∙ ap (λ (o : RelationOutline). key_at o.rows to) t.2 ∙ ap (key_in to) (sym u.1)
          ] refl

-- ---- what is asked of the rows

-- a consistent catalog d would have these rows too
module _ (c d : CatalogState) (ok : IsConsistent c) (fine : IsConsistent d) (n : ℕ) (refs : List TupleRef) (all : outline_of d ≡ with_shown n refs (outline_of c)) (s : RelationState) (there : slice_get c.relations n ≡ Some s) where
  here : (t : RelationState) × (slice_get d.relations n ≡ Some t) × (relation_outline t ≡ shown refs (relation_outline s))
  here = d_here c d ok n (shown refs) all s there

  abbrev t : RelationState
  t = here.0

  rows_all : t.rows ≡ with_those refs s.hidden s.rows
  rows_all = ap (λ (o : RelationOutline). o.rows) here.2

  targets_all : t.targets ≡ s.targets
  targets_all = ap (λ (o : RelationOutline). o.targets) here.2

  module _ (hidden : All (λ r. IsSome (get s.hidden r)) refs) where
    row_there : (r : TupleRef) (row : Row) → Contains refs r → get s.hidden r ≡ Some row → get t.rows r ≡ Some row
    row_there r row among at = ap (λ rows. get rows r) rows_all ∙ with_among s.hidden s.rows refs r among (ap is_some at) ∙ at

    can_read : (r : TupleRef) (row : Row) → Contains refs r → get s.hidden r ≡ Some row → IsReadable (linked_keys s.targets (take n c.relations)) (length s.targets) row
    can_read r row among at =
        subst (λ keys. IsReadable keys (length s.targets) row) (keys_there c d ok n (shown refs) all s there ∙ sym (keys_before s.targets c.relations n (lead_back c ok n s there)))
        (subst (λ targets. IsReadable (linked_keys targets d.relations) (length targets) row) targets_all ((among_at d fine n t here.1).current.readable r row (row_there r row among at)))

    pub can_be_shown : AllPairs (λ q r. q ≢ r) refs → ((r : TupleRef) → IsSome (get s.hidden r) → get s.rows r ≡ None) → CanBeShown (take n c.relations) s refs
    can_be_shown once apart =
        let stands = stands_at c ok n s there in
        let few : len s.rows + length refs ≤ 16777216 =
        omega (arith, ap len rows_all, with_more s.hidden s.rows refs hidden once apart, (among_at d fine n t here.1).kept.few) in
        record {
          kept = stands.kept;
          hidden = hidden;
          once = once;
          keys = subst KeysDiffer rows_all (among_at d fine n t here.1).kept.keyed.keys_differ;
          few = few;
          readable = can_read;
          named = λ r row among at. links_read (take n c.relations) s.targets row (can_read r row among at) stands.counted;
          room = room_for few;
          current = stands.current;
        }
      where
        room_for : len s.rows + length refs ≤ 16777216 → HaveRoom (take n c.relations) (length refs * length s.targets)
        room_for few table u r at held =
            let below : table < n = omega (arith, slice_get_within (take n c.relations) table u at, length-take n c.relations, slice_get_within c.relations n s there) in
            let counted = ok.counted table u r (sym (get-take c.relations n table below) ∙ at) held in
            let most : length refs * length s.targets ≤ 16777216 * 16 = mul-le (length refs) (length s.targets) 16777216 16 (omega (arith, few)) (few_columns c ok n s there) in
            omega (arith, counted, few_links c ok table r, most)

-- ---- what is left of the catalog

module _ (c d : CatalogState) (ok : IsConsistent c) (fine : IsConsistent d) (n : ℕ) (refs : List TupleRef) (all : outline_of d ≡ with_shown n refs (outline_of c)) (relations : List RelationState)
    (h : AreShownAt c.relations relations n refs) (hidden : All (λ r. IsSome (get h.before.hidden r)) refs) where
  abbrev e : CatalogState
  e = record c { relations = relations }

  abbrev b : RelationState
  b = h.before

  abbrev a : RelationState
  a = h.after

  abbrev joined : List RelationState
  joined = h.front ++ set (drop n c.relations) 0 a

  -- it has the outline of d
  alike : outline_of e ≡ outline_of d
  alike = shown_outlined c relations n refs h hidden ∙ sym all

  rewritten : IsRewritten c.relations relations n b a
  rewritten = shown_rewritten c.relations relations n refs h

  rewritten_joined : IsRewritten c.relations joined n b a
  rewritten_joined = subst (λ rs. IsRewritten c.relations rs n b a) h.list rewritten

  all_kept : All IsKept relations
  all_kept = subst (All IsKept) (sym h.list) (kept_from c ok n h.front a h.linked.counted.kept h.kept)

  fine_kept : All IsKept d.relations
  fine_kept k x l = (fine.each k x l).kept

  limits : d.limits ≡ c.limits
  limits = ap (λ (o : Outline). o.limits) (sym alike)

  sound : IsSound c.limits (database_of e)
  sound = subst (IsSound c.limits) (sym (database_alike d e alike fine_kept all_kept)) (subst (λ (l : _). IsSound l (database_of d)) limits fine.sound)

  -- its rows have links or nulls as those of d
  linked : (r : TupleRef) (row : Row) → get a.rows r ≡ Some row → HasLinksOrNulls a.targets row
  linked r row at =
      let t = d_here c d ok n (shown refs) all b h.there in
      let same : relation_outline a ≡ relation_outline t.0 = alike_at d e alike n t.0 a t.1 rewritten.here in
      subst (λ targets. HasLinksOrNulls targets row) (ap (λ (o : RelationOutline). o.targets) (sym same))
      ((among_at d fine n t.0 t.1).linked r row (ap (λ (o : RelationOutline). get o.rows r) (sym same) ∙ at))

  abbrev count : ℕ → TupleRef → ℕ
  count = λ table r. links_to c.relations table r + h.linked.more table r

  have : HaveReferrers h.front count
  have =
      counted_up (take n c.relations) h.front h.linked.more (links_to c.relations) h.linked.counted
      (λ table s r at held.
      let below : table < n = omega (arith, slice_get_within (take n c.relations) table s at, length-take n c.relations) in
      ok.counted table s r (sym (get-take c.relations n table below) ∙ at) held)

  own : (r : TupleRef) → IsSome (get a.rows r) → referrers_at a.referrers r ≡ links_to c.relations n r
  own r held = elim (is_among refs r) as (λ x. is_among refs r ≡ x → referrers_at a.referrers r ≡ links_to c.relations n r) [
    | true ↦ λ among.
        let there = among_contains refs r among in
        h.shown.free r there ∙ sym (no_links_to c ok n b h.there r (h.shown.apart r there))
    | false ↦ λ among.
        let no = none_among refs r among in
        h.shown.counts r no ∙ ok.counted n b r h.there (ap is_some (sym (h.shown.others r no)) ∙ held)
  ] refl

  front_length : length h.front ≡ n
  front_length = omega (arith, h.linked.counted.recounted.count, length-take n c.relations, slice_get_within c.relations n b h.there)

  counted : AreCounted joined
  counted = counted_from c ok n h.front b a rewritten_joined front_length count have (λ table r below. omega (arith, h.linked.links table r)) own

  pub shown_consistent : IsConsistent e
  shown_consistent =
      consistent_rewritten c ok n relations b a rewritten all_kept (current_beside_old c ok n relations b a rewritten h.current) linked (subst AreCounted (sym h.list) counted) sound

-- ---- what the calls ask and answer

module _ (c : CatalogState) (ok : IsConsistent c) (n : ℕ) (refs : List TupleRef) (hides : HidesOnce (outline_of c) n refs) where
  -- what is hidden of an outline is hidden of its relation
  pub hidden_at : (s : RelationState) → slice_get c.relations n ≡ Some s → hides.relation ≡ relation_outline s
  hidden_at s there = same_Some hides.relation (relation_outline s) (sym hides.there ∙ slice_get-map relation_outline c.relations n ∙ ap (option_map relation_outline) there)

  pub all_hidden_at : (s : RelationState) → slice_get c.relations n ≡ Some s → All (λ r. IsSome (get s.hidden r)) refs
  all_hidden_at s there = subst (λ (o : RelationOutline). All (λ r. IsSome (get o.hidden r)) refs) (hidden_at s there) hides.hidden

  pub relation_there : n < length c.relations
  relation_there = omega (arith, slice_get_within (map relation_outline c.relations) n hides.relation hides.there, length-map c.relations relation_outline)

  module _ (stands : IsOutline (with_shown n refs (outline_of c))) where
    pub can_show : ((s : RelationState) → slice_get c.relations n ≡ Some s → (r : TupleRef) → IsSome (get s.hidden r) → get s.rows r ≡ None) → CanShow c.relations n refs
    can_show apart s there = can_be_shown c stands.0 ok stands.1 n refs stands.2 s there (all_hidden_at s there) hides.once (apart s there)

    pub shown_so : (relations : List RelationState) → AreShownAt c.relations relations n refs → IsConsistent (record c { relations = relations }) × (outline_of (record c { relations = relations }) ≡ with_shown n refs (outline_of c))
    shown_so relations h =
        let hidden = all_hidden_at h.before h.there in (
          shown_consistent c stands.0 ok stands.1 n refs stands.2 relations h hidden,
          shown_outlined c relations n refs h hidden,
        )
