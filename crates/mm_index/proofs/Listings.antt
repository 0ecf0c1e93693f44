-- The listings of a store: they are one bag, as long as the store, and follow a put, a write and a take.
use Rattle.std.proofs.Common.{◌≡◌, ◌≢◌, Bool, true, false, ◌&&◌, T, List, [], ◌∷◌, map, length, get_or, None, is_some, IsSome, sym, ap, ◌∙◌, subst, arith, inl, inr}
use Rattle.std.specs.Cmp.{IsEquivalence, eq_by_cmp_equiv, tied_itself}
use Rattle.std.specs.FinMap.{get, insert, remove, len, keys, entries, entries_sorted, contains_key-keys, len-entries}
use Rattle.std.specs.FinMap.Entries.{is_sorted, below_all}
use Rattle.std.specs.List.{All, AllPairs}
use Rattle.std.specs.Ordering.{is_lt}
use Rattle.std.proofs.lemmas.List.{length-map}
use Rattle.std.proofs.lemmas.List.Elements.{All-cons, All-contains, All-tail, Contains-get_or}
use Rattle.std.proofs.lemmas.List.Kept.{AllPairs-cons}
use Rattle.std.proofs.lemmas.Map.Views.{list_any-from_Contains, Contains-from_any}
use Rattle.part_raw.specs.declared.tuple_ref.TupleRef.{TupleRef}
use Rattle.part_raw.specs.Store.{Tuples}
use Rattle.part_raw.specs.TupleRefs.{ref_cmp}
use Rattle.part_raw.proofs.Lookup.{same_or_other}
use Rattle.part_raw.proofs.Refs.{ref_cmp_total}
use Rattle.part_raw.proofs.Tuples.{same_ref, same_ref_true, Decides-same_ref, get-insert_same, get-insert_other, get-remove_same, get-remove_other, held-insert, held-remove_other}
use Rattle.mm_index.specs.Bag.{IsSameBag}
use Rattle.mm_index.specs.Listing.{IsListing}
use Rattle.mm_index.proofs.Bags.{IsSameBag-sym, Contains-same_bag, length-same_bag}
use Rattle.mm_index.proofs.Distinct.{IsSameBag-from_members, AllPairs-same_bag}
use Rattle.common_lemmas.proofs.Elements.{Contains-cons, Contains-cons_cases}
use Rattle.common_lemmas.proofs.Pairs.{AllPairs-head, AllPairs-tail}

laws : IsEquivalence same_ref
laws = eq_by_cmp_equiv ref_cmp_total

-- keys that rise differ
both : (a b : Bool) → T (a && b) → T a × T b
both true b h = (tt, h)
both false b h = absurd h

differs : (r q : TupleRef) → T (is_lt (ref_cmp r q)) → r ≢ q
differs r q below e = subst (λ o. T (is_lt o)) (tied_itself ref_cmp_total r) (subst (λ p. T (is_lt (ref_cmp r p))) (sym e) below)

module _ {X : Type 0} where
  differ_above : (r : TupleRef) (es : List (TupleRef × X)) → T (below_all ref_cmp r es) → All (λ q. r ≢ q) (map (λ e. e.0) es)
  differ_above r [] h = λ k d l. absurd (omega arith)
  differ_above r (e ∷ es) h =
      let parts = both (is_lt (ref_cmp r e.0)) (below_all ref_cmp r es) h in
      All-cons (λ q. r ≢ q) e.0 (map (λ e. e.0) es) (differs r e.0 parts.0) (differ_above r es parts.1)

  differ_all : (es : List (TupleRef × X)) → T (is_sorted ref_cmp es) → AllPairs (λ a b. a ≢ b) (map (λ e. e.0) es)
  differ_all [] h = λ i j d l m. absurd (omega arith)
  differ_all (e ∷ es) h =
      let parts = both (below_all ref_cmp e.0 es) (is_sorted ref_cmp es) h in
      AllPairs-cons (λ a b. a ≢ b) e.0 (map (λ e. e.0) es) (differ_above e.0 es parts.0) (differ_all es parts.1)

  -- the keys of the map are one listing
  pub IsListing-keys : (tuples : Tuples X) → IsListing tuples (keys tuples)
  IsListing-keys tuples = record {
    distinct = differ_all (entries tuples) (entries_sorted tuples);
    held = λ k d l.
        contains_key-keys tuples (get_or (keys tuples) k d)
        ∙ list_any-from_Contains laws (get_or (keys tuples) k d) (keys tuples) (Contains-get_or (keys tuples) k d l);
    listed = λ r h. Contains-from_any same_ref_true r (keys tuples) (sym (contains_key-keys tuples r) ∙ h);
  }

  -- any two are the same bag
  pub IsSameBag-listings : (tuples : Tuples X) (xs ys : List TupleRef) → IsListing tuples xs → IsListing tuples ys → IsSameBag xs ys
  IsSameBag-listings tuples xs ys one other =
      IsSameBag-from_members same_ref Decides-same_ref laws xs ys one.distinct other.distinct
      (λ r h. other.listed r (All-contains (λ q. IsSome (get tuples q)) xs r one.held h))
      (λ r h. one.listed r (All-contains (λ q. IsSome (get tuples q)) ys r other.held h))

  -- each has as many references as the store has tuples
  pub length-listing : (tuples : Tuples X) (xs : List TupleRef) → IsListing tuples xs → length xs ≡ len tuples
  length-listing tuples xs lists =
      length-same_bag xs (keys tuples) (IsSameBag-listings tuples xs (keys tuples) lists (IsListing-keys tuples))
      ∙ length-map (entries tuples) (λ e. e.0) ∙ sym (len-entries tuples)

  -- the same bag is a listing too
  pub IsListing-same_bag : (tuples : Tuples X) (xs ys : List TupleRef) → IsSameBag xs ys → IsListing tuples xs → IsListing tuples ys
  IsListing-same_bag tuples xs ys bag lists = record {
    distinct = AllPairs-same_bag same_ref Decides-same_ref laws xs ys bag lists.distinct;
    held = λ k d l.
        All-contains (λ q. IsSome (get tuples q)) xs (get_or ys k d) lists.held
        (Contains-same_bag same_ref Decides-same_ref ys xs (get_or ys k d) (IsSameBag-sym bag) (Contains-get_or ys k d l));
    listed = λ r h. Contains-same_bag same_ref Decides-same_ref xs ys r bag (lists.listed r h);
  }

  not_held : (tuples : Tuples X) (r : TupleRef) → get tuples r ≡ None → IsSome (get tuples r) → ⊥
  not_held tuples r none held = let e : true ≡ false = sym held ∙ ap is_some none in cc

  -- a put at a reference that was not held, with it as one more of the bag
  pub IsListing-insert : (tuples : Tuples X) (r : TupleRef) (tuple : X) (xs ys : List TupleRef) → get tuples r ≡ None → IsSameBag (r ∷ xs) ys → IsListing tuples xs → IsListing (insert tuples r tuple) ys
  IsListing-insert tuples r tuple xs ys fresh bag lists =
      IsListing-same_bag (insert tuples r tuple) (r ∷ xs) ys bag (record {
        distinct =
            AllPairs-cons (λ a b. a ≢ b) r xs
            (λ k d l e. not_held tuples r fresh (subst (λ q. IsSome (get tuples q)) (sym e) (lists.held k d l)))
            lists.distinct;
        held =
            All-cons (λ q. IsSome (get (insert tuples r tuple) q)) r xs (ap is_some (get-insert_same tuples r tuple))
            (λ k d l. held-insert tuples r (get_or xs k d) tuple (lists.held k d l));
        listed = λ q h.
            elim (same_or_other q r) [
              | inl e ↦ (0, omega arith, sym e)
              | inr other ↦ Contains-cons r xs q (lists.listed q (subst IsSome (get-insert_other tuples r q tuple other) h))
            ];
      })

  -- a take, with the reference as one fewer of the bag
  pub IsListing-remove : (tuples : Tuples X) (r : TupleRef) (xs ys : List TupleRef) → IsSameBag xs (r ∷ ys) → IsListing tuples xs → IsListing (remove tuples r) ys
  IsListing-remove tuples r xs ys bag lists =
      let front : IsListing tuples (r ∷ ys) = IsListing-same_bag tuples xs (r ∷ ys) bag lists in
      let others : All (λ q. r ≢ q) ys = AllPairs-head (λ a b. a ≢ b) r ys front.distinct in
      record {
        distinct = AllPairs-tail (λ a b. a ≢ b) r ys front.distinct;
        held = λ k d l.
            held-remove_other tuples r (get_or ys k d) (λ e. others k d l (sym e)) (All-tail (λ q. IsSome (get tuples q)) r ys front.held k d l);
        listed = λ q h.
            let other : q ≢ r = λ e. not_held (remove tuples r) q (ap (get (remove tuples r)) e ∙ get-remove_same tuples r) h in
            elim (Contains-cons_cases r ys q (front.listed q (subst IsSome (get-remove_other tuples r q other) h))) [
              | inl e ↦ absurd (other e)
              | inr there ↦ there
            ];
      }

  -- a write at a reference that is held
  pub IsListing-write : (tuples : Tuples X) (r : TupleRef) (tuple : X) (xs : List TupleRef) → IsSome (get tuples r) → IsListing tuples xs → IsListing (insert tuples r tuple) xs
  IsListing-write tuples r tuple xs held lists = record {
    distinct = lists.distinct;
    held = λ k d l. held-insert tuples r (get_or xs k d) tuple (lists.held k d l);
    listed = λ q h.
        elim (same_or_other q r) [
          | inl e ↦ lists.listed q (subst (λ p. IsSome (get tuples p)) (sym e) held)
          | inr other ↦ lists.listed q (subst IsSome (get-insert_other tuples r q tuple other) h)
        ];
  }
