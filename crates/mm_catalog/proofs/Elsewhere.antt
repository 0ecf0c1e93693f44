-- A catalog of which one relation's rows change and others are recounted: what it shows, and that it stays consistent.
use Rattle.std.proofs.Common.{◌≡◌, ◌≢◌, ℕ, zero, suc, ◌+◌, ◌<◌, ◌≤◌, ◌==◌, Bool, false, cond, List, [], ◌∷◌, ◌++◌, Option, Some, None, IsSome, is_some, refl, sym, ap, ◌∙◌, subst, arith, length, map, set, take, drop, get_or, length-append, length-set, length-take, length-drop, inl, inr}
use Rattle.std.specs.List.{All, count_by, flat_map, range_with_len, slice_get, zip}
use Rattle.std.specs.Option.{option_and_then, option_map_or}
use Rattle.std.specs.FinMap.{get}
use Rattle.std.specs.Ordering.{is_eq}
use Rattle.std.proofs.lemmas.Bool.{and_left, cases_eq, cases_lt, ne_eqb}
use Rattle.std.proofs.lemmas.List.Elements.{All-append, All-set, All-drop}
use Rattle.std.proofs.lemmas.List.Sums.{sum_by-append}
use Rattle.std.proofs.lemmas.Option.{none-some, same_Some, slice_get_within, slice_get-get_or}
use Rattle.common_lemmas.proofs.Places.{slice_get-inside, slice_get-front}
use Rattle.common_lemmas.proofs.Elements.{All-at}
use Rattle.part_raw.specs.TupleRefs.{ref_cmp}
use Rattle.part_raw.specs.declared.tuple_ref.TupleRef.{TupleRef}
use Rattle.part_raw.specs.Store.{Tuples}
use Rattle.plain_tables.specs.References.{IsSound}
use Rattle.plain_tables.specs.declared.schema.Schema.{Schema}
use Rattle.plain_tables.specs.declared.value.Value.{Value}
use Rattle.mm_relation.specs.Agreement.{stays_current, reads_alike}
use Rattle.mm_relation.specs.Rows.{Row, referrers_at}
use Rattle.mm_relation.specs.Reading.{Keys, AgreeOnLinks, key_at, link_in, row_value}
use Rattle.mm_relation.specs.State.{tree_list, RelationState, IsKept, IsCurrent, linked_keys}
use Rattle.mm_catalog.specs.State.{CatalogState}
use Rattle.mm_catalog.specs.Seen.{database_of, table_of, rows_of, values_of, row_values, or_null, plain_index}
use Rattle.mm_catalog.specs.Linked.{target_of, target_at, relation_links, links, is_link_to, links_to, HasLinksOrNulls}
use Rattle.mm_catalog.specs.Consistent.{IsAmong, IsConsistent, AreCounted}
use Rattle.mm_catalog.specs.Changes.{IsCurrentAt}
use Rattle.mm_catalog.specs.Recounted.{IsRecounted, AreRecounted, HaveReferrers, IsRewritten, KeepsColumns}
use Rattle.mm_catalog.proofs.Lists.{get-take, flat_map_alike, map-zip-all}
use Rattle.mm_catalog.proofs.Outlines.{LeadBack, keys_before}
use Rattle.mm_catalog.proofs.Back.{lead_back}
use Rattle.mm_catalog.proofs.Recounting.{key_recounted, current_recounted, links_recounted}
use Rattle.mm_catalog.proofs.LinksHeld.{link_there, link_held, link_counted}
use Rattle.mm_catalog.proofs.Among.{among_at}
use Rattle.mm_catalog.proofs.Counted.{IsRecounted-refl}
use Rattle.mm_catalog.proofs.Anywhere.{none_counted}
use Rattle.mm_catalog.proofs.RowLinks.{each_link, link_parts}

-- ---- the relations put together again

get_here : {A : Type 0} (before xs : List A) (n : ℕ) (a : A) → length before ≡ n → n < length xs → slice_get (before ++ set (drop n xs) 0 a) n ≡ Some a
get_here [] (x ∷ xs) zero a e l = refl
get_here (y ∷ before) (x ∷ xs) (suc n) a e l = get_here before xs n a (omega arith) (omega arith)
get_here before xs n a e l = absurd (omega arith)

get_behind : {A : Type 0} (before xs : List A) (n k : ℕ) (a : A) → length before ≡ n → n < length xs → n < k → slice_get (before ++ set (drop n xs) 0 a) k ≡ slice_get xs k
get_behind [] (x ∷ xs) zero (suc k) a e l m = refl
get_behind (y ∷ before) (x ∷ xs) (suc n) (suc k) a e l m = get_behind before xs n k a (omega arith) (omega arith) (omega arith)
get_behind before xs n k a e l m = absurd (omega arith)

length-joined : {A : Type 0} (before xs : List A) (n : ℕ) (a : A) → length before ≡ n → n < length xs → length (before ++ set (drop n xs) 0 a) ≡ length xs
length-joined before xs n a e l =
    let both = length-append before (set (drop n xs) 0 a) in
    let rest = length-set (drop n xs) 0 a in
    let behind = length-drop n xs in
    omega (arith, e, l, both, rest, behind)

-- the relations before one, recounted; that one, another; and those behind it
pub rewritten_from : (old before : List RelationState) (n : ℕ) (b a : RelationState) → slice_get old n ≡ Some b → AreRecounted (take n old) before → KeepsColumns b a → ((r : TupleRef) → IsSome (get b.rows r) → 0 < referrers_at b.referrers r → key_at a.rows r ≡ key_at b.rows r) → IsRewritten old (before ++ set (drop n old) 0 a) n b a
rewritten_from old before n b a there counts keeps keys =
    let within = slice_get_within old n b there in
    let front : length before ≡ n = let taken = length-take n old in omega (arith, within, counts.count, taken) in
    record {
      there = there;
      here = get_here before old n a front within;
      count = length-joined before old n a front within;
      others = λ k s t other at now. elim (cases_lt k n) [
        | inl below ↦
            counts.each k s t (get-take old n k below ∙ at) (sym (slice_get-front before (set (drop n old) 0 a) k (omega (arith, below, front))) ∙ now)
        | inr above ↦
            let behind : n < k = omega (arith, above, other) in
            subst (IsRecounted s) (same_Some s t (sym at ∙ sym (get_behind before old n k a front within behind) ∙ now)) (IsRecounted-refl s)
      ];
      keeps = keeps;
      keys = keys;
    }

pub kept_from : (c : CatalogState) → IsConsistent c → (n : ℕ) (before : List RelationState) (a : RelationState) → All IsKept before → IsKept a → All IsKept (before ++ set (drop n c.relations) 0 a)
kept_from c ok n before a front kept =
    All-append IsKept before (set (drop n c.relations) 0 a) front
    (All-set IsKept (drop n c.relations) 0 a kept (All-drop IsKept n c.relations (λ k d l. (ok.each k d l).kept)))

-- ---- what is the same elsewhere

map-zip-other : {A B C : Type 0} (f g : A × B → C) (xs : List A) (ys zs : List B) (n : ℕ) (x : A) (z : B) → length xs ≡ length ys → length zs ≡ length ys → slice_get xs n ≡ Some x → slice_get zs n ≡ Some z → ((i : ℕ) (a : A) (b d : B) → i ≢ n → slice_get xs i ≡ Some a → slice_get ys i ≡ Some b → slice_get zs i ≡ Some d → g (a, d) ≡ f (a, b)) → map g (zip xs zs) ≡ set (map f (zip xs ys)) n (g (x, z))
map-zip-other f g [] ys zs n x z e l at here same = absurd (none-some x at)
map-zip-other f g (a ∷ xs) [] zs n x z e l at here same = absurd (omega arith)
map-zip-other f g (a ∷ xs) (b ∷ ys) [] n x z e l at here same = absurd (none-some z here)
map-zip-other f g (a ∷ xs) (b ∷ ys) (d ∷ zs) zero x z e l at here same =
    ap (λ w. g w ∷ map g (zip xs zs)) (λ i. (same_Some a x at i, same_Some d z here i))
    ∙ ap (λ all. g (x, z) ∷ all) (map-zip-all f g xs ys zs (omega arith) (λ i a b d. same (suc i) a b d (omega arith)))
map-zip-other f g (a ∷ xs) (b ∷ ys) (d ∷ zs) (suc n) x z e l at here same =
    ap (λ w. w ∷ map g (zip xs zs)) (same 0 a b d (omega arith) refl refl refl)
    ∙ ap (λ all. f (a, b) ∷ all) (map-zip-other f g xs ys zs n x z (omega arith) (omega arith) at here (λ i a b d other. same (suc i) a b d (omega (arith, other))))

-- lists that are alike but for one element
counted_other : {A B : Type 0} (test : B → Bool) (f : A → List B) (xs ys : List A) (n : ℕ) (x y : A) → length ys ≡ length xs → slice_get xs n ≡ Some x → slice_get ys n ≡ Some y → ((k : ℕ) (s t : A) → k ≢ n → slice_get xs k ≡ Some s → slice_get ys k ≡ Some t → f t ≡ f s) → count_by test (flat_map f ys) + count_by test (f x) ≡ count_by test (flat_map f xs) + count_by test (f y)
counted_other test f [] ys n x y l at here same = absurd (none-some x at)
counted_other test f (a ∷ xs) [] n x y l at here same = absurd (none-some y here)
counted_other {A} test f (a ∷ xs) (b ∷ ys) zero x y l at here same =
    let left = sum_by-append (λ z. cond (test z) 1 0) (f b) (flat_map f ys) in
    let right = sum_by-append (λ z. cond (test z) 1 0) (f a) (flat_map f xs) in
    let first : count_by test (f a) ≡ count_by test (f x) = ap (λ (z : A). count_by test (f z)) (same_Some a x at) in
    let other : count_by test (f b) ≡ count_by test (f y) = ap (λ (z : A). count_by test (f z)) (same_Some b y here) in
    let rest : count_by test (flat_map f ys) ≡ count_by test (flat_map f xs) = ap (count_by test) (flat_map_alike f xs ys (omega arith) (λ k s t. same (suc k) s t (omega arith))) in
    omega (arith, left, right, first, other, rest)
counted_other test f (a ∷ xs) (b ∷ ys) (suc n) x y l at here same =
    let left = sum_by-append (λ z. cond (test z) 1 0) (f b) (flat_map f ys) in
    let right = sum_by-append (λ z. cond (test z) 1 0) (f a) (flat_map f xs) in
    let first : count_by test (f b) ≡ count_by test (f a) = ap (count_by test) (same 0 a b (omega arith) refl refl) in
    let rest = counted_other test f xs ys n x y (omega arith) at here (λ k s t other. same (suc k) s t (omega (arith, other))) in
    omega (arith, left, right, first, rest)

-- ---- links that lead before a table

-- no link of a relation leads to it, nor behind it
pub relation_leads : (s : RelationState) (n : ℕ) → LeadBack s.targets n → (table : ℕ) (r : TupleRef) → n ≤ table → count_by (is_link_to table r) (relation_links s) ≡ 0
relation_leads s n back table r above =
    none_counted (is_link_to table r) (relation_links s)
    (each_link (λ link. is_link_to table r link ≡ false) s (λ q row column link held e.
    let before : link.0 < n = back column link.0 (link_parts s.targets row column link e).0 in
    and_left (link.0 == table) (is_eq (ref_cmp link.1 r)) (ne_eqb link.0 table (λ same. absurd (omega (arith, above, same, before))))))

-- ---- keys that agree

row_alike : (keys others : Keys) (rows : Tuples Row) → AgreeOnLinks rows keys others → (r : TupleRef) (row : Row) → get rows r ≡ Some row → (column : ℕ) → row_value others column row ≡ row_value keys column row
row_alike keys others rows agree r row e column =
    subst (λ o. option_and_then (row_value others column) o ≡ option_and_then (row_value keys column) o) e (reads_alike keys others rows column r agree)

values_alike : (keys others : Keys) (width : ℕ) (rows : Tuples Row) → AgreeOnLinks rows keys others → (r : TupleRef) → values_of others width rows r ≡ values_of keys width rows r
unfolding values_of row_values
values_alike keys others width rows agree r =
    elim (get rows r) as (λ o. get rows r ≡ o → option_map_or (row_values others width) o [] ≡ option_map_or (row_values keys width) o []) [
      | None ↦ λ e. refl
      | Some row ↦ λ e.
          ap (λ (value : ℕ → Option Value). map (λ column. or_null (value column)) (range_with_len 0 width)) (λ i column. row_alike keys others rows agree r row e column i)
    ] refl

-- keys that agree on the links of a relation show the same rows
pub shown_alike : (keys others : Keys) (s : RelationState) → AgreeOnLinks s.rows keys others → rows_of others s ≡ rows_of keys s
unfolding rows_of
shown_alike keys others s agree =
    ap (λ (values : TupleRef → List Value). map values (tree_list s.by_key)) (λ i r. values_alike keys others (length s.schema.columns) s.rows agree r i)

-- ---- the catalog

module _ (c : CatalogState) (ok : IsConsistent c) (n : ℕ) (new : List RelationState) (b a : RelationState) (h : IsRewritten c.relations new n b a) where
  abbrev key_in : TupleRef → Option RelationState → Option Value
  key_in to found = option_and_then (λ (s : RelationState). key_at s.rows to) found

  -- the old relation of a number
  old_at : (k : ℕ) (t : RelationState) → slice_get new k ≡ Some t → (s : RelationState) × (slice_get c.relations k ≡ Some s)
  old_at k t at = slice_get-inside c.relations k (omega (arith, slice_get_within new k t at, h.count))

  new_at : (k : ℕ) (s : RelationState) → slice_get c.relations k ≡ Some s → (t : RelationState) × (slice_get new k ≡ Some t)
  new_at k s at = slice_get-inside new k (omega (arith, slice_get_within c.relations k s at, h.count))

  same_key_other : (table : ℕ) (u : RelationState) (to : TupleRef) → table ≢ n → slice_get c.relations table ≡ Some u → key_in to (slice_get new table) ≡ key_in to (slice_get c.relations table)
  same_key_other table u to other at =
      let v = new_at table u at in
      ap (key_in to) v.1 ∙ key_recounted u v.0 (h.others table u v.0 other at v.1) to ∙ ap (key_in to) (sym at)

  -- a row with referrers has the key that it had
  same_key : (table : ℕ) (u : RelationState) (to : TupleRef) → slice_get c.relations table ≡ Some u → IsSome (get u.rows to) → 0 < referrers_at u.referrers to → key_in to (slice_get new table) ≡ key_in to (slice_get c.relations table)
  same_key table u to at held some = elim (cases_eq table n) [
    | inl e ↦
        let same : u ≡ b = same_Some u b (sym at ∙ ap (slice_get c.relations) e ∙ h.there) in
        ap (λ m. key_in to (slice_get new m)) e ∙ ap (key_in to) h.here
        ∙ h.keys to (subst (λ (s : RelationState). IsSome (get s.rows to)) same held) (subst (λ (s : RelationState). 0 < referrers_at s.referrers to) same some)
        ∙ ap (λ (s : RelationState). key_at s.rows to) (sym same) ∙ ap (key_in to) (sym at)
    | inr other ↦ same_key_other table u to other at
  ]

  agree : (k : ℕ) (s : RelationState) → slice_get c.relations k ≡ Some s → AgreeOnLinks s.rows (linked_keys s.targets c.relations) (linked_keys s.targets new)
  agree k s at column to (r, row, behind, held, cell) =
      let link : link_in column row ≡ Some to = link_there column row to behind cell in
      elim (target_at s.targets column) as (λ o. target_at s.targets column ≡ o → key_in to (option_and_then (slice_get new) o) ≡ key_in to (option_and_then (slice_get c.relations) o)) [
        | None ↦ λ e. refl
        | Some table ↦ λ e.
            let named = link_held c ok k s r row column table to at held e link in
            let some = link_counted c ok k s r row column table to at held e link in
            let there = ap is_some named.3 in
            same_key table named.0 to named.2 there (omega (arith, some, ok.counted table named.0 to named.2 there))
      ] refl

  -- the keys of the relations before are those that they were
  keys_in_front : (targets : List (Option ℕ)) → LeadBack targets n → linked_keys targets new ≡ linked_keys targets c.relations
  keys_in_front targets back = λ i column to. at column to i
    where
      at : (column : ℕ) (to : TupleRef) → linked_keys targets new column to ≡ linked_keys targets c.relations column to
      at column to =
          elim (target_at targets column) as (λ o. target_at targets column ≡ o → key_in to (option_and_then (slice_get new) o) ≡ key_in to (option_and_then (slice_get c.relations) o)) [
            | None ↦ λ e. refl
            | Some table ↦ λ e.
                let below = back column table e in
                let u = slice_get-inside c.relations table (omega (arith, below, slice_get_within c.relations n b h.there)) in
                same_key_other table u.0 to (λ same. absurd (omega (arith, below, same))) u.1
          ] refl

  back_before : LeadBack b.targets n
  back_before = lead_back c ok n b h.there

  back_after : LeadBack a.targets n
  back_after = subst (λ targets. LeadBack targets n) (sym h.keeps.targets) back_before

  keys_of_it : linked_keys a.targets new ≡ linked_keys a.targets c.relations
  keys_of_it = keys_in_front a.targets back_after

  -- ---- what it shows

  -- a relation that is recounted at most shows the rows that it showed
  table_again : (k : ℕ) (name : List ℕ) (s t : RelationState) → slice_get c.relations k ≡ Some s → IsRecounted s t → table_of new name t ≡ table_of c.relations name s
  unfolding table_of rows_of
  table_again k name s t at counts =
      ap (table_of new name) counts
      ∙ (λ i. record { name = name; columns = s.schema.columns; indexes = map plain_index s.declared; rows = shown_alike (linked_keys s.targets c.relations) (linked_keys s.targets new) s (agree k s at) i })

  table_here : (name : List ℕ) → table_of new name a ≡ table_of c.relations name a
  unfolding table_of
  table_here name = λ i. record { name = name; columns = a.schema.columns; indexes = map plain_index a.declared; rows = rows_of (keys_of_it i) a }

  -- just its own table is another
  pub database_rewritten : (name : List ℕ) → slice_get c.names n ≡ Some name → database_of (record c { relations = new }) ≡ set (database_of c) n (table_of c.relations name a)
  unfolding database_of
  database_rewritten name at =
      map-zip-other (λ (t : List ℕ × RelationState). table_of c.relations t.0 t.1) (λ (t : List ℕ × RelationState). table_of new t.0 t.1) c.names c.relations new n name a ok.named h.count at h.here
      (λ k called s t other named was now. table_again k called s t was (h.others k s t other was now))
      ∙ ap (set (database_of c) n) (table_here name)

  -- ---- it stays consistent

  pub current_beside_new : IsCurrent (linked_keys b.targets (take n new)) a → IsCurrentAt new n
  current_beside_new current s at =
      subst (λ (t : RelationState). IsCurrent (linked_keys t.targets (take n new)) t) (same_Some a s (sym h.here ∙ at))
      (subst (λ targets. IsCurrent (linked_keys targets (take n new)) a) (sym h.keeps.targets) current)

  pub current_beside_old : IsCurrent (linked_keys b.targets (take n c.relations)) a → IsCurrentAt new n
  current_beside_old current =
      current_beside_new (subst (λ keys. IsCurrent keys a) (keys_before b.targets c.relations n back_before ∙ sym (keys_in_front b.targets back_before) ∙ sym (keys_before b.targets new n back_before)) current)

  -- what kept numbers of referrers keeps them
  counted_at : (table : ℕ) (t : RelationState) → slice_get new table ≡ Some t → (u : RelationState) × (slice_get c.relations table ≡ Some u) × (t.counted ≡ u.counted)
  counted_at table t at = elim (cases_eq table n) [
    | inl e ↦
        let same : a ≡ t = same_Some a t (sym h.here ∙ ap (slice_get new) (sym e) ∙ at) in
        (b, ap (slice_get c.relations) e ∙ h.there, ap (λ (r : RelationState). r.counted) (sym same) ∙ h.keeps.counted)
    | inr other ↦
        let u = old_at table t at in
        (u.0, u.1, ap (λ (r : RelationState). r.counted) (h.others table u.0 t other u.1 at))
  ]

  among_other : (k : ℕ) (s t : RelationState) → slice_get c.relations k ≡ Some s → IsRecounted s t → IsKept t → IsAmong c.names new t
  among_other k s t at counts kept =
      let old = among_at c ok k s at in
      let targets : t.targets ≡ s.targets = ap (λ (r : RelationState). r.targets) counts in
      record {
        kept = kept;
        targets = targets ∙ old.targets ∙ ap (λ (r : RelationState). map (target_of c.names) r.schema.columns) (sym counts);
        counted = λ column table u e at.
            let was = counted_at table u at in
            was.2 ∙ old.counted column table was.0 (ap (λ ts. target_at ts column) (sym targets) ∙ e) was.1;
        linked = λ r row e column value behind leads cell.
            old.linked r row (ap (λ (u : RelationState). get u.rows r) (sym counts) ∙ e) column value behind (subst (λ ts. IsSome (target_at ts column)) targets leads) cell;
        current = subst (λ ts. IsCurrent (linked_keys ts new) t) (sym targets)
            (current_recounted s t counts (linked_keys s.targets new) (stays_current (linked_keys s.targets c.relations) (linked_keys s.targets new) s (agree k s at) old.current));
      }

  among_here : IsKept a → IsCurrentAt new n → ((r : TupleRef) (row : Row) → get a.rows r ≡ Some row → HasLinksOrNulls a.targets row) → IsAmong c.names new a
  among_here kept current linked = record {
    kept = kept;
    targets = h.keeps.targets ∙ (among_at c ok n b h.there).targets ∙ ap (λ (schema : Schema). map (target_of c.names) schema.columns) (sym h.keeps.schema);
    counted = λ column table u e at.
        let was = counted_at table u at in
        was.2 ∙ (among_at c ok n b h.there).counted column table was.0 (ap (λ ts. target_at ts column) (sym h.keeps.targets) ∙ e) was.1;
    linked = linked;
    current = subst (λ keys. IsCurrent keys a) (keys_before a.targets new n back_after) (current a h.here);
  }

  among_new : All IsKept new → IsCurrentAt new n → ((r : TupleRef) (row : Row) → get a.rows r ≡ Some row → HasLinksOrNulls a.targets row) → (k : ℕ) (t : RelationState) → slice_get new k ≡ Some t → IsAmong c.names new t
  among_new kept current linked k t at = elim (cases_eq k n) [
    | inl e ↦
        let same : a ≡ t = same_Some a t (sym h.here ∙ ap (slice_get new) (sym e) ∙ at) in
        subst (IsAmong c.names new) same (among_here (All-at IsKept new n a kept h.here) current linked)
    | inr other ↦
        let s = old_at k t at in
        among_other k s.0 t s.1 (h.others k s.0 t other s.1 at) (All-at IsKept new k t kept at)
  ]

  pub consistent_rewritten : All IsKept new → IsCurrentAt new n → ((r : TupleRef) (row : Row) → get a.rows r ≡ Some row → HasLinksOrNulls a.targets row) → AreCounted new → IsSound c.limits (database_of (record c { relations = new })) → IsConsistent (record c { relations = new })
  consistent_rewritten kept current linked counted sound = record {
    named = ok.named ∙ sym h.count;
    rows = ok.rows;
    sound = sound;
    each = λ k d l. among_new kept current linked k (get_or new k d) (slice_get-get_or new k d l);
    counted = counted;
  }

  -- ---- how many links there are

  -- the links that come and go are its own
  pub links_rewritten : (table : ℕ) (r : TupleRef) → links_to new table r + count_by (is_link_to table r) (relation_links b) ≡ links_to c.relations table r + count_by (is_link_to table r) (relation_links a)
  unfolding links_to links
  links_rewritten table r =
      counted_other (is_link_to table r) relation_links c.relations new n b a h.count h.there h.here
      (λ k s t other was now. links_recounted s t (h.others k s t other was now))

  -- none of them leads to it, nor behind it
  pub links_behind : (table : ℕ) (r : TupleRef) → n ≤ table → links_to new table r ≡ links_to c.relations table r
  links_behind table r above =
      let whole = links_rewritten table r in
      let gone = relation_leads b n back_before table r above in
      let come = relation_leads a n back_after table r above in
      omega (arith, whole, gone, come)

module _ (c : CatalogState) (ok : IsConsistent c) (n : ℕ) (before : List RelationState) (b a : RelationState) where
  abbrev joined : List RelationState
  joined = before ++ set (drop n c.relations) 0 a

  pub counted_from : IsRewritten c.relations joined n b a → length before ≡ n → (count : ℕ → TupleRef → ℕ) → HaveReferrers before count → ((table : ℕ) (r : TupleRef) → table < n → count table r + count_by (is_link_to table r) (relation_links b) ≡ links_to c.relations table r + count_by (is_link_to table r) (relation_links a)) → ((r : TupleRef) → IsSome (get a.rows r) → referrers_at a.referrers r ≡ links_to c.relations n r) → AreCounted joined
  counted_from h front count have told own table s r at held =
      let within = slice_get_within c.relations n b h.there in
      elim (cases_lt table n) [
        | inl below ↦
            let here : referrers_at s.referrers r ≡ count table r = have table s r (sym (slice_get-front before (set (drop n c.relations) 0 a) table (omega (arith, below, front))) ∙ at) held in
            let whole = links_rewritten c ok n joined b a h table r in
            omega (arith, here, whole, told table r below)
        | inr above ↦ elim (cases_eq table n) [
          | inl same ↦
              let it : s ≡ a = same_Some s a (sym at ∙ ap (slice_get joined) same ∙ h.here) in
              let few = own r (subst (λ (t : RelationState). IsSome (get t.rows r)) it held) in
              ap (λ (t : RelationState). referrers_at t.referrers r) it ∙ few ∙ ap (λ m. links_to c.relations m r) (sym same) ∙ sym (links_behind c ok n joined b a h table r above)
          | inr other ↦
              ok.counted table s r (sym (get_behind before c.relations n table a front within (omega (arith, above, other))) ∙ at) held
              ∙ sym (links_behind c ok n joined b a h table r above)
        ]
      ]
