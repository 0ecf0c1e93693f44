-- What an update asks of the relations among which it sets rows.
use Rattle.std.proofs.Common.{◌≡◌, ◌≢◌, ℕ, zero, suc, ◌+◌, ◌-◌, ◌*◌, ◌<◌, ◌≤◌, Bool, List, [], ◌∷◌, ◌++◌, Option, Some, None, IsSome, is_some, refl, sym, ap, ◌∙◌, subst, arith, length, map, set, take, drop, get_or, length-take}
use Rattle.part_raw.specs.Store.{Tuples}
use Rattle.std.specs.Bool.{Decides}
use Rattle.std.specs.List.{All, AllPairs, Contains, count_by, range_with_len, slice_get}
use Rattle.std.specs.Option.{option_and_then, option_map, option_map_or}
use Rattle.std.specs.Prelude.{nat_eq, IsTrue}
use Rattle.std.specs.FinMap.{get}
use Rattle.std.proofs.Math.Nat.{mul-le-mul}
use Rattle.std.proofs.lemmas.Bool.{eq-eqb, eqb-true}
use Rattle.std.proofs.lemmas.Cmp.{nat_eq_equiv}
use Rattle.std.proofs.lemmas.List.{length-map}
use Rattle.std.proofs.lemmas.List.Elements.{All-contains, All-take}
use Rattle.std.proofs.lemmas.List.FromFn.{length-range_with_len}
use Rattle.std.proofs.lemmas.Map.Made.{IsDistinct-from_AllPairs, is_member-Decides, length-le_from_is_member}
use Rattle.std.proofs.lemmas.Option.{get_or_from_slice_get, none-some, same_Some, slice_get-get_or, slice_get_within}
use Rattle.common_lemmas.proofs.Places.{slice_get-inside}
use Rattle.common_lemmas.proofs.Options.{and_then-Some, option_map_some}
use Rattle.common_lemmas.proofs.Elements.{All-from_map, All-at, All-flat_map}
use Rattle.part_raw.proofs.Tuples.{held_tuple}
use Rattle.part_raw.specs.declared.tuple_ref.TupleRef.{TupleRef}
use Rattle.plain_tables.specs.declared.resolved.Assignment.{Assignment}
use Rattle.mm_relation.proofs.Setting.{no_more}
use Rattle.mm_relation.specs.Changes.{IsChanged}
use Rattle.mm_relation.specs.Reading.{cell_value, key_at, link_of}
use Rattle.mm_relation.specs.State.{tree_list, RelationState, IsCurrent, IsKept, linked_keys}
use Rattle.mm_relation.specs.declared.row.Cell.{Cell}
use Rattle.mm_relation.specs.declared.row.Cell.TheVariants.{Held, Link as Named}
use Rattle.mm_relation.specs.Rows.{Row, referrers_at}
use Rattle.mm_catalog.specs.declared.references.link.Link.{Link}
use Rattle.mm_catalog.specs.Assigned.{AreSetBy, AreToColumns, CellSet, IsUpdated, links_at, row_links_at, set_link, set_links}
use Rattle.mm_catalog.specs.Cells.{read_in, target_in}
use Rattle.mm_catalog.specs.Consistent.{IsConsistent}
use Rattle.mm_catalog.specs.Linked.{Linked, is_link_to, link_at, links_to, relation_links, target_at}
use Rattle.mm_catalog.specs.Counted.{AreCountedBy, HaveAtLeast, HaveRoom, IsHeldIn, linked_of, naming, none, LeadIntoCounted}
use Rattle.mm_catalog.specs.Recounted.{AreRecounted, HaveReferrers, IsRewritten}
use Rattle.mm_catalog.specs.State.{CatalogState}
use Rattle.mm_catalog.proofs.Back.{lead_back}
use Rattle.mm_catalog.proofs.Bounded.{few_columns, few_links}
use Rattle.mm_catalog.proofs.Among.{among_at, current_at}
use Rattle.mm_catalog.proofs.Kept.{columns_kept}
use Rattle.mm_catalog.proofs.Elsewhere.{counted_from, current_beside_old, kept_from, rewritten_from}
use Rattle.mm_catalog.proofs.Counted as later
use Rattle.mm_catalog.proofs.Counted.{AreRecounted-trans, all_held_still}
use Rattle.mm_catalog.proofs.LinksHeld.{Contains-range}
use Rattle.mm_catalog.proofs.Lists.{get-take}
use Rattle.mm_catalog.proofs.RelationSets.{keys_set, links_set, row_wide, held_same}
use Rattle.mm_catalog.proofs.Removing.{link_held_at, links_within}
use Rattle.mm_catalog.proofs.RowLinks.{All-filter_map}
use Rattle.mm_catalog.proofs.RowSets.{AreApart}
use Rattle.mm_catalog.proofs.CellRows.{read_value}

-- ---- lists

pub get-mapped : {A B : Type 0} (f : A → B) (xs : List A) (k : ℕ) (d : B) → k < length (map f xs) → (x : A) × (slice_get xs k ≡ Some x) × (get_or (map f xs) k d ≡ f x)
get-mapped f [] k d l = absurd (omega (arith, l))
get-mapped f (x ∷ xs) zero d l = (x, refl, refl)
get-mapped f (x ∷ xs) (suc k) d l = get-mapped f xs k d (omega arith)

-- different numbers below a bound are no more than it
pub few_below : (xs : List ℕ) (n : ℕ) → AllPairs (λ a b. a ≢ b) xs → All (λ x. x < n) xs → length xs ≤ n
few_below xs n apart below =
    let few = length-le_from_is_member nat_eq_equiv xs (range_with_len 0 n) (IsDistinct-from_AllPairs decides xs apart)
    (λ q e. (is_member-Decides decides (range_with_len 0 n) q).1 (within q (All-contains (λ x. x < n) xs q below ((is_member-Decides decides xs q).0 e)))) in
    omega (arith, few, length-range_with_len 0 n)
  where
    decides : (a b : ℕ) → Decides (nat_eq a b) (a ≡ b)
    decides a b = (eqb-true a b, eq-eqb a b)

    within : (q : ℕ) → q < n → Contains (range_with_len 0 n) q
    within q l = Contains-range n q l

then_some : {A B : Type 0} (f : A → Option B) (o : Option A) (y : B) → option_and_then f o ≡ Some y → (x : A) × (o ≡ Some x) × (f x ≡ Some y)
then_some f None y e = absurd (none-some y e)
then_some f (Some x) y e = (x, refl, e)

-- a cell that links, and can be read, names a row
named_by : (relations : List RelationState) (target : Option ℕ) (cell : Cell) (table : ℕ) (to : TupleRef) → target ≡ Some table → link_of cell ≡ Some to → IsSome (read_in relations target cell) → ((s : RelationState) → slice_get relations table ≡ Some s → IsTrue s.counted) → IsHeldIn relations (table, to)
named_by relations target (Held value) table to e f read counted = absurd (none-some to f)
named_by relations target (Named q) table to e f read counted =
    let same : q ≡ to = same_Some q to f in
    let found = and_then-Some (λ (s : RelationState). key_at s.rows q) (target_in relations target) read in
    let row = and_then-Some (λ (t : Row). Some t.key) (get found.0.rows q) found.2 in
    let at = sym (ap (target_in relations) e) ∙ found.1 in
    (found.0, at, subst (λ p. IsSome (get found.0.rows p)) same (ap is_some row.1), counted found.0 at)

-- ---- the relations that an update is among

module _ (k : CatalogState) (ok : IsConsistent k) (n : ℕ) (b : RelationState) (there : slice_get k.relations n ≡ Some b) (front : List RelationState) (same : front ≡ take n k.relations) where
  pub front_long : length front ≡ n
  front_long = let within = slice_get_within k.relations n b there in let taken = length-take n k.relations in ap length same ∙ omega (arith, taken, within)

  pub leads_front : (column table : ℕ) → target_at b.targets column ≡ Some table → table < length front
  leads_front column table e = let below = lead_back k ok n b there column table e in omega (arith, below, front_long)

  pub kept_front : All IsKept front
  kept_front = subst (All IsKept) (sym same) (All-take IsKept n k.relations (λ i d l. (ok.each i d l).kept))

  pub current_front : IsCurrent (linked_keys b.targets front) b
  current_front = subst (λ rs. IsCurrent (linked_keys b.targets rs) b) (sym same) (current_at k ok n b there)

  -- the relation of a number before this one
  front_at : (table : ℕ) (s : RelationState) → slice_get front table ≡ Some s → slice_get k.relations table ≡ Some s
  front_at table s at =
      let below : table < n = omega (arith, slice_get_within front table s at, front_long) in
      sym (get-take k.relations n table below) ∙ ap (λ rs. slice_get rs table) (sym same) ∙ at

  pub keeps_front : LeadIntoCounted front b.targets
  keeps_front column table s e at = (among_at k ok n b there).counted column table s e (front_at table s at)

  pub counted_front : HaveReferrers front (links_to k.relations)
  counted_front table s r at held = ok.counted table s r (front_at table s at) held

  module _ (assignments : List Assignment) (to : AreToColumns (length b.targets) assignments) (sets : List CellSet) (cells : AreSetBy front b.targets assignments sets) where
    set_from : (i : ℕ) (d : CellSet) → i < length sets → (a : Assignment) × (slice_get assignments i ≡ Some a) × ((get_or sets i d).0 ≡ a.column) × IsSome (read_in front (target_at b.targets a.column.0) (get_or sets i d).1)
    set_from i d l =
        let a = slice_get-inside assignments i (omega (arith, l, cells.count)) in
        let is = cells.each i a.0 (get_or sets i d) a.1 (slice_get-get_or sets i d l) in
        (a.0, a.1, is.0, ap is_some is.1.read)

    pub sets_apart : AreApart (length b.targets) sets
    sets_apart = record {
      behind = λ i d l. let a = set_from i d l in subst (λ c. 0 < c.0) (sym a.2) (All-at (λ (x : Assignment). 0 < x.column.0) assignments i a.0 to.behind_key a.1);
      within = λ i d l. let a = set_from i d l in subst (λ c. c.0 < length b.targets) (sym a.2) (All-at (λ (x : Assignment). x.column.0 < length b.targets) assignments i a.0 to.within a.1);
      apart = λ i j d below l e.
          let p = set_from i d (omega (arith, below, l)) in
          let q = set_from j d l in
          pairs_at i j p.0 q.0 below p.1 q.1 (ap (λ c. c.0) (sym p.2) ∙ e ∙ ap (λ c. c.0) q.2);
    }
      where
        pairs_at : (i j : ℕ) (p q : Assignment) → i < j → slice_get assignments i ≡ Some p → slice_get assignments j ≡ Some q → p.column.0 ≡ q.column.0 → ⊥
        pairs_at i j p q below at here e =
            to.apart i j p below (slice_get_within assignments j q here)
            (ap (λ (x : Assignment). x.column.0) (get_or_from_slice_get assignments i p p at) ∙ e ∙ ap (λ (x : Assignment). x.column.0) (sym (get_or_from_slice_get assignments j q p here)))

    pub sets_readable : All (λ s. IsSome (cell_value (linked_keys b.targets front) s.0.0 s.1)) sets
    sets_readable i d l =
        let a = set_from i d l in
        let cell = (get_or sets i d).1 in
        subst (λ c. IsSome (cell_value (linked_keys b.targets front) c.0 cell)) (sym a.2)
        (subst IsSome (sym (read_value front b.targets a.0.column.0 cell)) a.3)

    -- the links that cells are name rows that are held
    pub sets_held : All (IsHeldIn front) (set_links b.targets sets)
    unfolding set_links
    sets_held =
        All-filter_map (IsHeldIn front) (set_link b.targets) sets
        (λ s link among e.
        let found = then_some (λ (table : ℕ). option_map (λ (q : TupleRef). (table, q)) (link_of s.1)) (target_at b.targets s.0.0) link e in
        let q = option_map_some (λ (p : TupleRef). (found.0, p)) (link_of s.1) link found.2 in
        let read = All-contains (λ x. IsSome (cell_value (linked_keys b.targets front) x.0.0 x.1)) sets s sets_readable among in
        subst (IsHeldIn front) q.2 (named_by front (target_at b.targets s.0.0) s.1 found.0 q.0 found.1 q.1 (subst IsSome (read_value front b.targets s.0.0 s.1) read) (λ t. keeps_front s.0.0 found.0 t found.1)))

    few_sets : length sets ≤ 16
    few_sets =
        let columns = map (λ (s : CellSet). s.0.0) sets in
        let few = few_below columns (length b.targets)
        (λ i j d below l e.
        let p = get-mapped (λ (s : CellSet). s.0.0) sets i d (omega (arith, below, l)) in
        let q = get-mapped (λ (s : CellSet). s.0.0) sets j d l in
        sets_apart.apart i j p.0 below (slice_get_within sets j q.0 q.1)
        (ap (λ (s : CellSet). s.0.0) (get_or_from_slice_get sets i p.0 p.0 p.1) ∙ sym p.2 ∙ e ∙ q.2 ∙ ap (λ (s : CellSet). s.0.0) (sym (get_or_from_slice_get sets j q.0 p.0 q.1))))
        (λ i d l.
        let p = get-mapped (λ (s : CellSet). s.0.0) sets i d l in
        subst (λ m. m < length b.targets) (sym p.2) (All-at (λ (s : CellSet). s.0.0 < length b.targets) sets i p.0 sets_apart.within p.1)) in
        omega (arith, few, few_columns k ok n b there, length-map sets (λ (s : CellSet). s.0.0))

    module _ (rs : List TupleRef) (held : All (λ r. IsSome (get b.rows r)) rs) (once : AllPairs (λ q r. q ≢ r) rs) where
      few_rows : length rs ≤ 16777216
      few_rows =
          let kept = (among_at k ok n b there).kept in
          let some = no_more rs (tree_list b.by_key) once (λ r h. kept.keyed.lists.listed r (All-contains (λ q. IsSome (get b.rows q)) rs r held h)) in
          omega (arith, some, kept.keyed.lists.count, kept.few)

      -- there is room for the links that come
      pub room_front : HaveRoom front (length rs * length sets)
      room_front table s r at named =
          let counted = counted_front table s r at named in
          let few = few_links k ok table r in
          let product : length rs * length sets ≤ 16777216 * 16 = mul-le-mul few_rows few_sets in
          let bound : 17179869184 + 16777216 * 16 < 18446744073709551616 = omega arith in
          omega (arith, counted, few, product, bound)

      -- the links that go name rows that are held
      pub gone_held : All (IsHeldIn front) (links_at b sets rs)
      unfolding links_at row_links_at
      gone_held =
          All-flat_map (IsHeldIn front) (λ r. option_map_or (row_links_at b.targets sets) (get b.rows r) []) rs
          (λ i d l.
          let r = get_or rs i d in
          let row = held_tuple b.rows r (held i d l) in
          subst (λ o. All (IsHeldIn front) (option_map_or (row_links_at b.targets sets) o [])) (sym row.1)
          (All-filter_map (IsHeldIn front) (λ (s : CellSet). link_at b.targets row.0 s.0.0) sets
          (λ s link here e. link_held_at front b r row.0 current_front keeps_front row.1 s.0.0 link e)))

      -- ---- what it leaves

      module _ (a : RelationState) (kept : IsKept a) (changed : IsChanged b a rs sets) where
        wide : (r : TupleRef) (row : Row) → get b.rows r ≡ Some row → length b.targets ≤ length row.cells + 1
        wide r row at = row_wide (linked_keys b.targets front) b current_front r row at

        links_now : (test : Linked → Bool) → count_by test (relation_links a) + count_by test (links_at b sets rs) ≡ count_by test (relation_links b) + length rs * count_by test (set_links b.targets sets)
        links_now test = links_set b a rs sets changed (among_at k ok n b there).kept kept held once sets_apart wide test

        module _ (raised : List RelationState) (up : AreCountedBy front raised (λ t q. length rs * naming (set_links a.targets sets) t q) none) (gone : List Link) (listed : map linked_of gone ≡ links_at b sets rs) where
          counted_up : HaveReferrers raised (λ t q. links_to k.relations t q + length rs * naming (set_links a.targets sets) t q)
          counted_up = later.counted_up front raised (λ t q. length rs * naming (set_links a.targets sets) t q) (links_to k.relations) up counted_front

          same_more : (t : ℕ) (q : TupleRef) → length rs * naming (set_links a.targets sets) t q ≡ length rs * naming (set_links b.targets sets) t q
          same_more t q = ap (λ targets. length rs * naming (set_links targets sets) t q) changed.keeps.targets

          -- the rows that lose links have them
          pub gone_named : All (λ l. IsHeldIn raised (linked_of l)) gone
          gone_named =
              All-from_map (IsHeldIn raised) linked_of gone
              (all_held_still front raised (map linked_of gone) up.recounted (subst (All (IsHeldIn front)) (sym listed) gone_held))

          pub gone_enough : HaveAtLeast raised (naming (map linked_of gone))
          unfolding links_to
          gone_enough t s q at named =
              let counted = counted_up t s q at named in
              let whole = links_now (is_link_to t q) in
              let part = links_within (is_link_to t q) k.relations n b there in
              let less : naming (map linked_of gone) t q ≡ count_by (is_link_to t q) (links_at b sets rs) = ap (count_by (is_link_to t q)) listed in
              omega (arith, counted, whole, part, less, same_more t q)

          module _ (lowered : List RelationState) (down : AreCountedBy raised lowered none (naming (map linked_of gone))) where
            counted_down : HaveReferrers lowered (λ t q. links_to k.relations t q + length rs * naming (set_links a.targets sets) t q - naming (map linked_of gone) t q)
            counted_down = later.counted_down raised lowered (naming (map linked_of gone)) (λ t q. links_to k.relations t q + length rs * naming (set_links a.targets sets) t q) down counted_up

            recounted : AreRecounted (take n k.relations) lowered
            recounted = subst (λ rs'. AreRecounted rs' lowered) same (AreRecounted-trans front raised lowered up.recounted down.recounted)

            abbrev new : List RelationState
            new = lowered ++ set (drop n k.relations) 0 a

            rewritten : IsRewritten k.relations new n b a
            rewritten = rewritten_from k.relations lowered n b a there recounted (columns_kept b a changed.keeps) (λ r named some. keys_set b a rs sets changed r)

            -- rows that no cell of a link touches keep their numbers
            own_counts : (r : TupleRef) → IsSome (get a.rows r) → referrers_at a.referrers r ≡ links_to k.relations n r
            own_counts r here = ap (λ (numbers : Tuples ℕ). referrers_at numbers r) changed.referrers ∙ ok.counted n b r there (sym (held_same b a rs sets changed r) ∙ here)

            counts : (t : ℕ) (q : TupleRef) → t < n → links_to k.relations t q + length rs * naming (set_links a.targets sets) t q - naming (map linked_of gone) t q + count_by (is_link_to t q) (relation_links b) ≡ links_to k.relations t q + count_by (is_link_to t q) (relation_links a)
            unfolding links_to
            counts t q below =
                let whole = links_now (is_link_to t q) in
                let part = links_within (is_link_to t q) k.relations n b there in
                let less : naming (map linked_of gone) t q ≡ count_by (is_link_to t q) (links_at b sets rs) = ap (count_by (is_link_to t q)) listed in
                omega (arith, whole, part, less, same_more t q)

            pub updated : IsCurrent (linked_keys b.targets front) a → IsUpdated k.relations new n rs assignments
            updated current = record {
              before = b;
              after = a;
              sets = sets;
              rewritten = rewritten;
              cells = subst (λ rs'. AreSetBy rs' b.targets assignments sets) same cells;
              changed = changed;
              kept = kept_from k ok n lowered a down.kept kept;
              current = current_beside_old k ok n new b a rewritten (subst (λ rs'. IsCurrent (linked_keys b.targets rs') a) same current);
              counted = counted_from k ok n lowered b a rewritten (down.recounted.count ∙ up.recounted.count ∙ front_long)
                  (λ t q. links_to k.relations t q + length rs * naming (set_links a.targets sets) t q - naming (map linked_of gone) t q)
                  counted_down counts own_counts;
            }
