-- Relations whose rows are counted anew, one link after another.
use Rattle.std.proofs.Common.{◌≡◌, ◌≢◌, ℕ, zero, suc, ◌<◌, ◌≤◌, ◌+◌, ◌-◌, ◌*◌, true, false, cond, List, [], ◌∷◌, ◌++◌, Option, Some, None, IsSome, is_some, refl, sym, ap, ◌∙◌, subst, arith, length, length-set, set, eqb, add-zero, zero-add, inl, inr}
use Rattle.std.specs.List.{All, slice_get, range_with_len, filter_map, cons_option}
use Rattle.std.specs.Option.{unwrap_or}
use Rattle.std.specs.Ordering.{is_eq}
use Rattle.std.specs.FinMap as finite
use Rattle.std.proofs.lemmas.Bool.{cases_eq, cases_lt, eq-eqb, ne_eqb, and_from, and_left, and_right}
use Rattle.std.proofs.lemmas.List.Elements.{All-set, All-weaker, filter_map-append, All-contains}
use Rattle.std.proofs.lemmas.List.Sums.{sum_by-append, sum_by-cons}
use Rattle.std.proofs.lemmas.Option.{same_Some, slice_get_within}
use Rattle.common_lemmas.proofs.Places.{slice_get-inside, slice_get_set, slice_get-set_other}
use Rattle.lin_hash.proofs.Placed.{one_if}
use Rattle.part_raw.specs.declared.tuple_ref.TupleRef.{TupleRef}
use Rattle.part_raw.specs.TupleRefs.{ref_cmp}
use Rattle.part_raw.specs.Store.{Tuples}
use Rattle.part_raw.proofs.Lookup.{same_or_other}
use Rattle.part_raw.proofs.Tuples.{same_ref_self, same_ref_other, get-insert_same, get-insert_other}
use Rattle.mm_relation.specs.Rows.{Row, referrers_at}
use Rattle.mm_relation.specs.Changes.{with_referrers}
use Rattle.mm_relation.specs.State.{RelationState, IsKept}
use Rattle.mm_catalog.specs.Linked.{Linked, link_at, row_links, is_link_to}
use Rattle.mm_catalog.specs.Recounted.{IsRecounted, AreRecounted, HaveReferrers}
use Rattle.mm_catalog.specs.Counted.{IsHeldIn, HaveRoom, HaveAtLeast, AreCountedBy, naming, none}
use Rattle.mm_catalog.proofs.Lists.{each_set}
use Rattle.mm_catalog.proofs.LinksHeld.{Contains-filter_map, Contains-range}

-- ---- what is recounted

pub IsRecounted-refl : (s : RelationState) → IsRecounted s s
IsRecounted-refl s = refl

pub IsRecounted-trans : (s t u : RelationState) → IsRecounted s t → IsRecounted t u → IsRecounted s u
IsRecounted-trans s t u a b = b ∙ ap (λ (v : RelationState). record v { referrers = u.referrers }) a

-- a row whose number of referrers changes
IsRecounted-with : (s t : RelationState) (r : TupleRef) (n : ℕ) → t ≡ with_referrers s r n → IsRecounted s t
IsRecounted-with s t r n is = is ∙ ap (λ (referrers : Tuples ℕ). record s { referrers = referrers }) (sym (ap (λ (u : RelationState). u.referrers) is))

pub AreRecounted-refl : (relations : List RelationState) → AreRecounted relations relations
AreRecounted-refl relations = record {
  count = refl;
  each = λ k s t a b. subst (IsRecounted s) (same_Some s t (sym a ∙ b)) (IsRecounted-refl s);
}

pub AreRecounted-trans : (old mid new : List RelationState) → AreRecounted old mid → AreRecounted mid new → AreRecounted old new
AreRecounted-trans old mid new a b = record {
  count = b.count ∙ a.count;
  each = λ k s u at here.
      let t = slice_get-inside mid k (omega (arith, a.count, slice_get_within old k s at)) in
      IsRecounted-trans s t.0 u (a.each k s t.0 at t.1) (b.each k t.0 u t.1 here);
}

-- one relation among others
pub AreRecounted-set : (relations : List RelationState) (n : ℕ) (s t : RelationState) → slice_get relations n ≡ Some s → IsRecounted s t → AreRecounted relations (set relations n t)
AreRecounted-set relations n s t at changed = record { count = length-set relations n t; each = each_set IsRecounted IsRecounted-refl relations n s t at changed }

-- what is held stays held
pub held_still : (old new : List RelationState) (link : Linked) → AreRecounted old new → IsHeldIn old link → IsHeldIn new link
held_still old new link h was =
    let t = slice_get-inside new link.0 (omega (arith, h.count, slice_get_within old link.0 was.0 was.1)) in
    let same = h.each link.0 was.0 t.0 was.1 t.1 in
    (t.0, t.1, ap (λ (s : RelationState). is_some (finite.get s.rows link.1)) same ∙ was.2, ap (λ (s : RelationState). s.counted) same ∙ was.3)

pub all_held_still : (old new : List RelationState) (links : List Linked) → AreRecounted old new → All (IsHeldIn old) links → All (IsHeldIn new) links
all_held_still old new links h all = All-weaker (IsHeldIn old) (IsHeldIn new) (λ link. held_still old new link h) links all

-- ---- how often links name a row

pub naming-append : (xs ys : List Linked) (table : ℕ) (r : TupleRef) → naming (xs ++ ys) table r ≡ naming xs table r + naming ys table r
naming-append xs ys table r = sum_by-append (λ l. cond (is_link_to table r l) 1 0) xs ys

pub naming-one : (link : Linked) (table : ℕ) (r : TupleRef) → naming (link ∷ []) table r ≡ one_if (is_link_to table r link)
naming-one link table r = sum_by-cons (λ l. cond (is_link_to table r l) 1 0) link [] ∙ add-zero (one_if (is_link_to table r link))

pub naming_itself : (table : ℕ) (r : TupleRef) → naming ((table, r) ∷ []) table r ≡ 1
naming_itself table r = naming-one (table, r) table r ∙ ap one_if (and_from (eqb table table) (is_eq (ref_cmp r r)) (eq-eqb table table refl) (same_ref_self r))

naming_other_table : (table n : ℕ) (r to : TupleRef) → table ≢ n → naming ((n, to) ∷ []) table r ≡ 0
naming_other_table table n r to differs = naming-one (n, to) table r ∙ ap one_if (and_left (eqb n table) (is_eq (ref_cmp to r)) (ne_eqb n table (λ e. differs (sym e))))

naming_other_row : (table n : ℕ) (r to : TupleRef) → r ≢ to → naming ((n, to) ∷ []) table r ≡ 0
naming_other_row table n r to differs = naming-one (n, to) table r ∙ ap one_if (and_right (eqb n table) (is_eq (ref_cmp to r)) (same_ref_other to r (λ e. differs (sym e))))

pub naming-most : (link : Linked) (table : ℕ) (r : TupleRef) → naming (link ∷ []) table r ≤ 1
naming-most link table r = elim (is_link_to table r link) as (λ b. naming (link ∷ []) table r ≡ one_if b → naming (link ∷ []) table r ≤ 1) [
  | true ↦ λ e. omega (arith, e)
  | false ↦ λ e. omega (arith, e)
] (naming-one link table r)

-- ---- what is counted

-- nothing comes and nothing goes
pub counted_none : (relations : List RelationState) → All IsKept relations → AreCountedBy relations relations none none
counted_none relations kept = record {
  recounted = AreRecounted-refl relations;
  kept = kept;
  counts = λ table s t r at here. ap (λ (u : RelationState). referrers_at u.referrers r + 0) (same_Some t s (sym here ∙ at));
}

-- as many, told otherwise
pub counted_as : (old new : List RelationState) (m f n g : ℕ → TupleRef → ℕ) → ((table : ℕ) (r : TupleRef) → m table r ≡ n table r) → ((table : ℕ) (r : TupleRef) → f table r ≡ g table r) → AreCountedBy old new m f → AreCountedBy old new n g
counted_as old new m f n g up down h = record {
  recounted = h.recounted;
  kept = h.kept;
  counts = λ table s t r at here. omega (arith, h.counts table s t r at here, up table r, down table r);
}

-- one change after another
pub counted_then : (old mid new : List RelationState) (m f n g : ℕ → TupleRef → ℕ) → AreCountedBy old mid m f → AreCountedBy mid new n g → AreCountedBy old new (λ table r. m table r + n table r) (λ table r. f table r + g table r)
counted_then old mid new m f n g a b = record {
  recounted = AreRecounted-trans old mid new a.recounted b.recounted;
  kept = b.kept;
  counts = λ table s u r at here.
      let t = slice_get-inside mid table (omega (arith, a.recounted.count, slice_get_within old table s at)) in
      omega (arith, a.counts table s t.0 r at t.1, b.counts table t.0 u r t.1 here);
}

-- links that come and go after others
pub up_then : (old mid new : List RelationState) (m n all : ℕ → TupleRef → ℕ) → ((table : ℕ) (r : TupleRef) → all table r ≡ m table r + n table r) → AreCountedBy old mid m none → AreCountedBy mid new n none → AreCountedBy old new all none
up_then old mid new m n all both a b =
    counted_as old new (λ table r. m table r + n table r) (λ table r. 0 + 0) all none (λ table r. sym (both table r)) (λ table r. refl) (counted_then old mid new m none n none a b)

pub down_then : (old mid new : List RelationState) (f g all : ℕ → TupleRef → ℕ) → ((table : ℕ) (r : TupleRef) → all table r ≡ f table r + g table r) → AreCountedBy old mid none f → AreCountedBy mid new none g → AreCountedBy old new none all
down_then old mid new f g all both a b =
    counted_as old new (λ table r. 0 + 0) (λ table r. f table r + g table r) none all (λ table r. refl) (λ table r. sym (both table r)) (counted_then old mid new none f none g a b)

-- a row as it was
pub counted_row : (old new : List RelationState) (m f : ℕ → TupleRef → ℕ) → AreCountedBy old new m f → (table : ℕ) (t : RelationState) (r : TupleRef) → slice_get new table ≡ Some t → IsSome (finite.get t.rows r)
    → (s : RelationState) × (slice_get old table ≡ Some s) × IsSome (finite.get s.rows r) × (referrers_at t.referrers r + f table r ≡ referrers_at s.referrers r + m table r)
counted_row old new m f h table t r here held =
    let s = slice_get-inside old table (omega (arith, h.recounted.count, slice_get_within new table t here)) in
    (s.0, s.1, sym (ap (λ (u : RelationState). is_some (finite.get u.rows r)) (h.recounted.each table s.0 t s.1 here)) ∙ held, h.counts table s.0 t r s.1 here)

-- what was counted is counted anew
pub counted_up : (old new : List RelationState) (m count : ℕ → TupleRef → ℕ) → AreCountedBy old new m none → HaveReferrers old count → HaveReferrers new (λ table r. count table r + m table r)
counted_up old new m count h counted table t r here held =
    let was = counted_row old new m none h table t r here held in
    omega (arith, was.3, counted table was.0 r was.1 was.2)

pub counted_down : (old new : List RelationState) (f count : ℕ → TupleRef → ℕ) → AreCountedBy old new none f → HaveReferrers old count → HaveReferrers new (λ table r. count table r - f table r)
counted_down old new f count h counted table t r here held =
    let was = counted_row old new none f h table t r here held in
    omega (arith, was.3, counted table was.0 r was.1 was.2)

-- there is room left, and there are referrers enough left
pub room_left : (old now : List RelationState) (m : ℕ → TupleRef → ℕ) (all n : ℕ) → AreCountedBy old now m none → ((table : ℕ) (r : TupleRef) → m table r + n ≤ all) → HaveRoom old all → HaveRoom now n
room_left old now m all n h few room table t r here held =
    let was = counted_row old now m none h table t r here held in
    omega (arith, was.3, few table r, room table was.0 r was.1 was.2)

pub enough_left : (old now : List RelationState) (f next all : ℕ → TupleRef → ℕ) → AreCountedBy old now none f → ((table : ℕ) (r : TupleRef) → f table r + next table r ≤ all table r) → HaveAtLeast old all → HaveAtLeast now next
enough_left old now f next all h few enough table t r here held =
    let was = counted_row old now none f h table t r here held in
    omega (arith, was.3, few table r, enough table was.0 r was.1 was.2)

-- ---- one row

-- the number of one row changes
module _ (relations : List RelationState) (n : ℕ) (s t : RelationState) (to : TupleRef) (count m f : ℕ) (there : slice_get relations n ≡ Some s) (changed : t ≡ with_referrers s to count) (changes : count + f ≡ referrers_at s.referrers to + m) where
  at_table : (r : TupleRef) → referrers_at t.referrers r + f * naming ((n, to) ∷ []) n r ≡ referrers_at s.referrers r + m * naming ((n, to) ∷ []) n r
  at_table r =
      let now : referrers_at t.referrers r ≡ referrers_at (finite.insert s.referrers to count) r = ap (λ (u : RelationState). referrers_at u.referrers r) changed in
      elim (same_or_other r to) [
        | inl itself ↦
            let one : naming ((n, to) ∷ []) n r ≡ 1 = ap (naming ((n, to) ∷ []) n) itself ∙ naming_itself n to in
            let had : referrers_at s.referrers r ≡ referrers_at s.referrers to = ap (referrers_at s.referrers) itself in
            let has : referrers_at (finite.insert s.referrers to count) r ≡ count = ap (referrers_at (finite.insert s.referrers to count)) itself ∙ ap (λ (o : Option ℕ). unwrap_or o 0) (get-insert_same s.referrers to count) in
            let up : m * naming ((n, to) ∷ []) n r ≡ m * 1 = ap (λ k. m * k) one in
            let down : f * naming ((n, to) ∷ []) n r ≡ f * 1 = ap (λ k. f * k) one in
            omega (arith, now, up, down, had, has, changes)
        | inr differs ↦
            let same : referrers_at (finite.insert s.referrers to count) r ≡ referrers_at s.referrers r = ap (λ (o : Option ℕ). unwrap_or o 0) (get-insert_other s.referrers to r count differs) in
            let up : m * naming ((n, to) ∷ []) n r ≡ m * 0 = ap (λ k. m * k) (naming_other_row n n r to differs) in
            let down : f * naming ((n, to) ∷ []) n r ≡ f * 0 = ap (λ k. f * k) (naming_other_row n n r to differs) in
            omega (arith, now, up, down, same)
      ]

  pub counted_one : All IsKept relations → IsKept t → AreCountedBy relations (set relations n t) (λ table r. m * naming ((n, to) ∷ []) table r) (λ table r. f * naming ((n, to) ∷ []) table r)
  counted_one kept now_kept = record {
    recounted = AreRecounted-set relations n s t there (IsRecounted-with s t to count changed);
    kept = All-set IsKept relations n t now_kept kept;
    counts = λ table u v r at here. elim (cases_eq table n) [
      | inl same ↦
          let was : referrers_at u.referrers r ≡ referrers_at s.referrers r = ap (λ (w : RelationState). referrers_at w.referrers r) (same_Some u s (sym at ∙ ap (slice_get relations) same ∙ there)) in
          let now : referrers_at v.referrers r ≡ referrers_at t.referrers r =
          ap (λ (w : RelationState). referrers_at w.referrers r) (same_Some v t (sym here ∙ ap (slice_get (set relations n t)) same ∙ slice_get_set relations n t (slice_get_within relations n s there))) in
          subst (λ k. referrers_at v.referrers r + f * naming ((n, to) ∷ []) k r ≡ referrers_at u.referrers r + m * naming ((n, to) ∷ []) k r) (sym same) (omega (arith, was, now, at_table r))
      | inr other ↦
          let alike : referrers_at u.referrers r ≡ referrers_at v.referrers r =
          ap (λ (w : RelationState). referrers_at w.referrers r) (same_Some u v (sym at ∙ sym (slice_get-set_other relations n table t other) ∙ here)) in
          let up : m * naming ((n, to) ∷ []) table r ≡ m * 0 = ap (λ k. m * k) (naming_other_table table n r to other) in
          let down : f * naming ((n, to) ∷ []) table r ≡ f * 0 = ap (λ k. f * k) (naming_other_table table n r to other) in
          omega (arith, up, down, alike)
    ];
  }

-- ---- the links of a row, column by column

range_more : (a i : ℕ) → range_with_len a (suc i) ≡ range_with_len a i ++ (a + i) ∷ []
range_more a zero = ap (λ n. n ∷ []) (sym (add-zero a))
range_more a (suc i) =
    ap (λ ns. a ∷ ns) (range_more (a + 1) i)
    ∙ (let same : a + 1 + i ≡ a + suc i = omega arith in ap (λ n. a ∷ (range_with_len (a + 1) i ++ n ∷ [])) same)

module _ (targets : List (Option ℕ)) (row : Row) where
  -- the links in the first columns
  abbrev pub first_links : ℕ → List Linked
  first_links i = filter_map (link_at targets row) (range_with_len 0 i)

  pub links_more : (i : ℕ) → first_links (i + 1) ≡ first_links i ++ cons_option (link_at targets row i) []
  links_more i =
      let next : i + 1 ≡ suc i = omega arith in
      ap first_links next ∙ ap (filter_map (link_at targets row)) (range_more 0 i)
      ∙ filter_map-append (link_at targets row) (range_with_len 0 i) ((0 + i) ∷ [])
      ∙ ap (λ n. first_links i ++ filter_map (link_at targets row) (n ∷ [])) (zero-add i)

  naming_more : (i table : ℕ) (r : TupleRef) → naming (first_links (i + 1)) table r ≡ naming (first_links i) table r + naming (cons_option (link_at targets row i) []) table r
  naming_more i table r = ap (λ ls. naming ls table r) (links_more i) ∙ naming-append (first_links i) (cons_option (link_at targets row i) []) table r

  pub naming_link : (i : ℕ) (link : Linked) → link_at targets row i ≡ Some link → (table : ℕ) (r : TupleRef) → naming (first_links (i + 1)) table r ≡ naming (first_links i) table r + naming (link ∷ []) table r
  naming_link i link e table r = naming_more i table r ∙ ap (λ o. naming (first_links i) table r + naming (cons_option o []) table r) e

  pub naming_no_link : (i : ℕ) → link_at targets row i ≡ None → (table : ℕ) (r : TupleRef) → naming (first_links i) table r ≡ naming (first_links (i + 1)) table r
  naming_no_link i e table r = let more = naming_more i table r ∙ ap (λ o. naming (first_links i) table r + naming (cons_option o []) table r) e in omega (arith, more)

  -- so many columns have no more links
  pub naming_few : (i table : ℕ) (r : TupleRef) → naming (first_links i) table r ≤ i
  naming_few zero table r = omega arith
  naming_few (suc i) table r =
      let next : i + 1 ≡ suc i = omega arith in
      let more : naming (first_links (suc i)) table r ≡ naming (first_links i) table r + naming (cons_option (link_at targets row i) []) table r = ap (λ n. naming (first_links n) table r) (sym next) ∙ naming_more i table r in
      omega (arith, naming_few i table r, more, at_most (link_at targets row i))
    where
      at_most : (o : Option Linked) → naming (cons_option o []) table r ≤ 1
      at_most None = omega arith
      at_most (Some link) = naming-most link table r

  pub naming_within : (i n table : ℕ) (r : TupleRef) → i ≤ n → naming (first_links i) table r ≤ naming (first_links n) table r
  naming_within i zero table r h = let same : i ≡ 0 = omega arith in rw same (omega arith)
  naming_within i (suc n) table r h = elim (cases_lt n i) [
    | inl over ↦ let last : i ≡ suc n = omega (arith, over, h) in rw last (omega arith)
    | inr within ↦
        let next : n + 1 ≡ suc n = omega arith in
        let more : naming (first_links (suc n)) table r ≡ naming (first_links n) table r + naming (cons_option (link_at targets row n) []) table r = ap (λ k. naming (first_links k) table r) (sym next) ∙ naming_more n table r in
        omega (arith, naming_within i n table r within, more)
  ]

  -- a link in a column is one of the row's
  pub link_of_row : (P : Linked → Type 0) (k : ℕ) (link : Linked) → All P (row_links targets row) → k < length targets → link_at targets row k ≡ Some link → P link
  unfolding row_links
  link_of_row P k link all within e =
      All-contains P (row_links targets row) link all (Contains-filter_map (link_at targets row) (range_with_len 0 (length targets)) k link (Contains-range (length targets) k within) e)

  -- those of all columns are the row's
  pub naming_row : (n : ℕ) → n ≡ length targets → (table : ℕ) (r : TupleRef) → naming (first_links n) table r ≡ naming (row_links targets row) table r
  unfolding row_links
  naming_row n e table r = ap (λ k. naming (first_links k) table r) e
