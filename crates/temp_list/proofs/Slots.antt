-- The references of a store in the order of their numbers, of which those of rows are a listing.
use Rattle.std.proofs.Common.{◌≡◌, ◌≢◌, ℕ, zero, suc, ◌+◌, ◌<◌, ◌&&◌, Bool, true, false, List, [], ◌∷◌, ◌++◌, IsSome, is_some, get_or, inl, inr, refl, sym, ap, ◌∙◌, subst, arith}
use Rattle.std.specs.List.{AllPairs, Contains, filter}
use Rattle.std.specs.FinMap as finite
use Rattle.std.proofs.lemmas.Bool.{cases_eq}
use Rattle.std.proofs.lemmas.List.{append-nil}
use Rattle.std.proofs.lemmas.List.Elements.{All-cons, All-contains_itself, Contains-append_left, Contains-append_right, Contains-push_cases, filter-append}
use Rattle.std.proofs.lemmas.List.Kept.{AllPairs-filter}
use Rattle.common_lemmas.proofs.Elements.{Contains-filter, Contains-from_filter}
use Rattle.common_lemmas.proofs.Filters.{filter-filter}
use Rattle.common_lemmas.proofs.Pairs.{AllPairs-append}
use Rattle.part_raw.specs.declared.tuple_ref.TupleRef.{TupleRef}
use Rattle.part_raw.specs.Store.{Tuples}
use Rattle.part_raw.proofs.Refs.{numbered}
use Rattle.plain_tables.specs.declared.resolved.Test.{Test}
use Rattle.mm_index.specs.Bag.{IsSameBag}
use Rattle.mm_index.specs.Listing.{IsListing}
use Rattle.mm_index.proofs.Listings.{IsSameBag-listings}
use Rattle.mm_relation.specs.Rows.{Row}
use Rattle.mm_relation.specs.State.{tree_list, RelationState, IsKept}
use Rattle.mm_relation.proofs.Listings.{keyed_listing}
use Rattle.temp_list.specs.Reading.{row_passes, passing}
use Rattle.temp_list.proofs.Searches.{IsSameBag-filter}

-- the references with numbers below this one
unfoldable pub refs_below : ℕ → List TupleRef
refs_below zero = []
refs_below (suc n) = refs_below n ++ numbered n ∷ []

-- one slot more, of a reference that passes or doesn't
module _ (p : TupleRef → Bool) (n m : ℕ) (next : m ≡ n + 1) (r : TupleRef) (at : r.number ≡ n) (rows : List TupleRef) (so_far : rows ≡ filter p (refs_below n)) where
  added : (more : List TupleRef) → filter p (numbered n ∷ []) ≡ more → rows ++ more ≡ filter p (refs_below m)
  unfolding refs_below
  added more is =
      let here : m ≡ suc n = omega (arith, next) in
      ap (λ (xs : List TupleRef). xs ++ more) so_far ∙ ap (λ (xs : List TupleRef). filter p (refs_below n) ++ xs) (sym is) ∙ sym (filter-append p (refs_below n) (numbered n ∷ [])) ∙ ap (λ (k : ℕ). filter p (refs_below k)) (sym here)

  same_ref : numbered n ≡ r
  same_ref = ap numbered (sym at)

  pub slot_passes : p r ≡ true → rows ++ r ∷ [] ≡ filter p (refs_below m)
  slot_passes passes = added (r ∷ []) (let t : p (numbered n) ≡ true = ap p same_ref ∙ passes in rw t (ap (λ (q : TupleRef). q ∷ []) same_ref))

  pub slot_fails : p r ≡ false → rows ≡ filter p (refs_below m)
  slot_fails fails = sym (append-nil rows) ∙ added [] (let f : p (numbered n) ≡ false = ap p same_ref ∙ fails in rw f refl)

pub none_below : (p : TupleRef → Bool) → [] ≡ filter p (refs_below 0)
unfolding refs_below
none_below p = refl

member_below : (n : ℕ) (r : TupleRef) → Contains (refs_below n) r → r.number < n
unfolding refs_below
member_below zero r h = absurd (omega (arith, h.1))
member_below (suc n) r h = elim (Contains-push_cases (refs_below n) (numbered n) r h) [
  | inl there ↦ omega (arith, member_below n r there)
  | inr same ↦ (let e : n ≡ r.number = ap (λ (q : TupleRef). q.number) same in omega (arith, e))
]

below_member : (n : ℕ) (r : TupleRef) → r.number < n → Contains (refs_below n) r
unfolding refs_below
below_member zero r h = absurd (omega (arith, h))
below_member (suc n) r h = elim (cases_eq r.number n) [
  | inl same ↦ Contains-append_right (refs_below n) (numbered n ∷ []) r (0, omega arith, ap numbered (sym same))
  | inr differs ↦ Contains-append_left (refs_below n) (numbered n ∷ []) r (below_member n r (omega (arith, h, differs)))
]

apart_below : (n : ℕ) → AllPairs (λ a b. a ≢ b) (refs_below n)
unfolding refs_below
apart_below zero = λ i j d l m. absurd (omega (arith, m))
apart_below (suc n) =
    AllPairs-append (λ a b. a ≢ b) (refs_below n) (numbered n ∷ []) (apart_below n) (λ i j d l m. absurd (omega (arith, l, m)))
    (λ k d l.
    let r : TupleRef = get_or (refs_below n) k d in
    let less : r.number < n = member_below n r (All-contains_itself (refs_below n) k d l) in
    All-cons (λ b. r ≢ b) (numbered n) [] (λ same. let e : r.number ≡ n = ap (λ (q : TupleRef). q.number) same in absurd (omega (arith, less, e))) (λ i e m. absurd (omega (arith, m))))

module _ (rows : Tuples Row) (slots : ℕ) (within : (r : TupleRef) → IsSome (finite.get rows r) → r.number < slots) where
  abbrev held : TupleRef → Bool
  held r = is_some (finite.get rows r)

  -- those below the number of slots under which rows are
  slots_listing : IsListing rows (filter held (refs_below slots))
  slots_listing = record {
    distinct = AllPairs-filter (λ a b. a ≢ b) held (refs_below slots) (apart_below slots);
    held = λ k d l. (Contains-from_filter held (refs_below slots) (get_or (filter held (refs_below slots)) k d) (All-contains_itself (filter held (refs_below slots)) k d l)).1;
    listed = λ r there. Contains-filter held (refs_below slots) r (below_member slots r (within r there)) there;
  }

-- the rows that pass, in the order of the slots, are those that pass in the order of the keys
pub slots_pass : (relations : List RelationState) (s : RelationState) → IsKept s → (tests : List Test) (slots : ℕ) → ((r : TupleRef) → IsSome (finite.get s.rows r) → r.number < slots)
    → (found : List TupleRef) → found ≡ filter (λ r. is_some (finite.get s.rows r) && row_passes relations s tests r) (refs_below slots) → IsSameBag found (passing relations s tests)
slots_pass relations s kept tests slots within found is =
    subst (λ (rs : List TupleRef). IsSameBag rs (passing relations s tests)) (filter-filter (row_passes relations s tests) (λ r. is_some (finite.get s.rows r)) (refs_below slots) ∙ sym is)
    (IsSameBag-filter (row_passes relations s tests) (filter (λ r. is_some (finite.get s.rows r)) (refs_below slots)) (tree_list s.by_key)
    (IsSameBag-listings s.rows (filter (λ r. is_some (finite.get s.rows r)) (refs_below slots)) (tree_list s.by_key) (slots_listing s.rows slots within) (keyed_listing s.rows (tree_list s.by_key) kept.keyed)))
