-- The rows that a relation shows, where some go out.
use Rattle.std.proofs.Common.{◌≡◌, ◌≢◌, ℕ, Bool, true, not, IsTrue, List, [], IsSome, refl, sym, ap, ◌∙◌, subst, length, map, filter, get_or}
use Rattle.std.specs.List.{All, AllPairs, Contains}
use Rattle.std.specs.Option.{option_map_or}
use Rattle.std.specs.Ordering.{ordering_reverse}
use Rattle.std.specs.declared.cmp.Ordering.TheVariants.{Less, Greater}
use Rattle.std.specs.FinMap.{get}
use Rattle.std.proofs.lemmas.Bool.{false_from_ne_true, false≢true, not-true}
use Rattle.std.proofs.lemmas.Cmp.{eq_by_cmp_equiv}
use Rattle.std.proofs.lemmas.List.Elements.{All-contains, Contains-get_or}
use Rattle.std.proofs.lemmas.List.Kept.{AllPairs-filter}
use Rattle.std.proofs.lemmas.Option.{none-some}
use Rattle.std.proofs.lemmas.List.{length-map}
use Rattle.common_lemmas.proofs.Elements.{Contains-filter, Contains-from_filter}
use Rattle.common_lemmas.proofs.Filters.{filter-map}
use Rattle.part_raw.specs.declared.tuple_ref.TupleRef.{TupleRef}
use Rattle.part_raw.specs.Store.{Tuples}
use Rattle.part_raw.proofs.Refs.{ref_cmp_total}
use Rattle.part_raw.proofs.Tuples.{same_ref, Decides-same_ref, held_tuple}
use Rattle.mm_index.proofs.Bags.{length-same_bag}
use Rattle.mm_index.proofs.Distinct.{IsSameBag-from_members}
use Rattle.mm_index.proofs.Listed.{IsRising-agree}
use Rattle.plain_tables.specs.declared.schema.Schema.{Schema}
use Rattle.plain_tables.specs.declared.value.Value.{Value}
use Rattle.mm_relation.specs.Rows.{Row}
use Rattle.mm_relation.specs.Order.{column_cmp, column_cmp_total}
use Rattle.mm_relation.specs.Reading.{Keys}
use Rattle.mm_relation.specs.State.{tree_list, RelationState, IsKept, no_keys}
use Rattle.mm_catalog.specs.Seen.{row_values, values_of, rows_of}
use Rattle.mm_catalog.specs.Deleted.{AreRemoved}
use Rattle.mm_catalog.proofs.Rising.{rising_same}
use Rattle.mm_catalog.proofs.Lists.{map_agree_on}

-- what rises repeats nothing
not_below_itself : (rows : Tuples Row) (a : TupleRef) → column_cmp no_keys 0 rows a a ≡ Less → ⊥
not_below_itself rows a e =
    let g : Less ≡ Greater = sym e ∙ (column_cmp_total no_keys 0 rows).antisymm a a ∙ ap ordering_reverse e in absurd (cc)

-- a row is picked by its values exactly where its reference is one of these
abbrev pub PicksThese : Keys → RelationState → List TupleRef → (List Value → Bool) → Type 0
PicksThese keys s refs picks =
    (r : TupleRef) → IsSome (get s.rows r)
    → (Contains refs r → IsTrue (picks (values_of keys (length s.schema.columns) s.rows r))) × (IsTrue (picks (values_of keys (length s.schema.columns) s.rows r)) → Contains refs r)

module _ (keys : Keys) (old : RelationState) (kept : IsKept old) (refs : List TupleRef) (picks : List Value → Bool) (picked : PicksThese keys old refs picks) where
  abbrev before : TupleRef → List Value
  before = values_of keys (length old.schema.columns) old.rows

  abbrev is_left : TupleRef → Bool
  is_left q = not (picks (before q))

  held_listed : (q : TupleRef) → Contains (tree_list old.by_key) q → IsSome (get old.rows q)
  held_listed q h = All-contains (λ r. IsSome (get old.rows r)) (tree_list old.by_key) q kept.keyed.lists.held h

  -- as many rows are picked as there are references
  pub length_picked : All (λ r. IsSome (get old.rows r)) refs → AllPairs (λ q r. q ≢ r) refs → length (filter picks (rows_of keys old)) ≡ length refs
  unfolding rows_of
  length_picked held once =
      ap length (filter-map picks before (tree_list old.by_key)) ∙ length-map (filter (λ q. picks (before q)) (tree_list old.by_key)) before
      ∙ length-same_bag (filter (λ q. picks (before q)) (tree_list old.by_key)) refs
      (IsSameBag-from_members same_ref Decides-same_ref (eq_by_cmp_equiv ref_cmp_total) (filter (λ q. picks (before q)) (tree_list old.by_key)) refs
      (AllPairs-filter (λ q r. q ≢ r) (λ q. picks (before q)) (tree_list old.by_key)
      (λ i j d l w e. not_below_itself old.rows (get_or (tree_list old.by_key) i d) (subst (λ r. column_cmp no_keys 0 old.rows (get_or (tree_list old.by_key) i d) r ≡ Less) (sym e) (kept.keyed.rising i j d l w))))
      once
      (λ q h. let parts = Contains-from_filter (λ x. picks (before x)) (tree_list old.by_key) q h in (picked q (held_listed q parts.0)).1 parts.1)
      (λ q h. let there = All-contains (λ r. IsSome (get old.rows r)) refs q held h in
      Contains-filter (λ x. picks (before x)) (tree_list old.by_key) q (kept.keyed.lists.listed q there) ((picked q there).0 h)))

  module _ (new : RelationState) (now : IsKept new) (removed : AreRemoved old new refs) where
    stays : (q : TupleRef) → IsSome (get new.rows q) → Contains refs q → ⊥
    stays q held h = let found = held_tuple new.rows q held in none-some found.0 (sym (removed.gone q h) ∙ found.1)

    left_in : (q : TupleRef) → Contains (tree_list old.by_key) q → is_left q ≡ true → get new.rows q ≡ get old.rows q
    left_in q h e = removed.others q (λ there. false≢true (sym (not-true (picks (before q)) e) ∙ (picked q (held_listed q h)).0 there))

    -- the keys that are left, in their order
    keys_left : (tree_list new.by_key) ≡ filter is_left (tree_list old.by_key)
    keys_left =
        rising_same (column_cmp no_keys 0 new.rows) (column_cmp_total no_keys 0 new.rows) (tree_list new.by_key) (filter is_left (tree_list old.by_key)) now.keyed.rising
        (IsRising-agree (column_cmp no_keys 0 old.rows) (column_cmp no_keys 0 new.rows) (filter is_left (tree_list old.by_key))
        (λ p q hp hq.
        let fp = Contains-from_filter is_left (tree_list old.by_key) p hp in
        let fq = Contains-from_filter is_left (tree_list old.by_key) q hq in
        let ep : get new.rows p ≡ get old.rows p = left_in p fp.0 fp.1 in
        let eq : get new.rows q ≡ get old.rows q = left_in q fq.0 fq.1 in
        rw (ep, eq) refl)
        (AllPairs-filter (λ a b. column_cmp no_keys 0 old.rows a b ≡ Less) is_left (tree_list old.by_key) kept.keyed.rising))
        (λ q h.
        let here = All-contains (λ r. IsSome (get new.rows r)) (tree_list new.by_key) q now.keyed.lists.held h in
        let was : IsSome (get old.rows q) = subst IsSome (removed.others q (stays q here)) here in
        Contains-filter is_left (tree_list old.by_key) q (kept.keyed.lists.listed q was)
        (ap not (false_from_ne_true (picks (before q)) (λ e. stays q here ((picked q was).1 e)))))
        (λ q h.
        let from = Contains-from_filter is_left (tree_list old.by_key) q h in
        now.keyed.lists.listed q (subst IsSome (sym (left_in q from.0 from.1)) (held_listed q from.0)))

    -- the rows that are left
    pub rows_left : rows_of keys new ≡ filter (λ v. not (picks v)) (rows_of keys old)
    unfolding rows_of values_of
    rows_left =
        ap (λ (columns : ℕ). map (values_of keys columns new.rows) (tree_list new.by_key)) (ap (λ (schema : Schema). length schema.columns) removed.keeps.schema)
        ∙ ap (map (values_of keys (length old.schema.columns) new.rows)) keys_left
        ∙ map_agree_on (values_of keys (length old.schema.columns) new.rows) before (filter is_left (tree_list old.by_key))
        (λ k d l.
        let from = Contains-from_filter is_left (tree_list old.by_key) _ (Contains-get_or (filter is_left (tree_list old.by_key)) k d l) in
        ap (λ o. option_map_or (row_values keys (length old.schema.columns)) o []) (left_in (get_or (filter is_left (tree_list old.by_key)) k d) from.0 from.1))
        ∙ sym (filter-map (λ v. not (picks v)) before (tree_list old.by_key))
