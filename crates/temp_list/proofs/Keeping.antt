-- Rows that pass tests one after another, and tests that are told already.
use Rattle.std.proofs.Common.{◌≡◌, ◌≤◌, ◌<◌, ◌+◌, ℕ, Bool, true, false, ◌==◌, ◌&&◌, IsSome, IsTrue, List, [], ◌∷◌, ◌++◌, length, take, drop, get_or, filter, refl, sym, ap, ◌∙◌, subst, inl, inr}
use Rattle.std.specs.FinMap as finite
use Rattle.std.specs.List.{HoldsAt, list_all}
use Rattle.std.specs.Cmp.{first_so, second_so}
use Rattle.std.proofs.lemmas.Bool.{cases_Bool, eqb-true}
use Rattle.std.proofs.lemmas.List.{drop_all, drop_more, take-append-drop}
use Rattle.std.proofs.lemmas.List.Elements.{All-filter, filter_agree}
use Rattle.std.proofs.lemmas.List.Folds.{list_all-append}
use Rattle.common_lemmas.proofs.Filters.{filter-filter, filter_all}
use Rattle.part_raw.specs.declared.tuple_ref.TupleRef.{TupleRef}
use Rattle.plain_tables.specs.declared.resolved.Test.{Test}
use Rattle.plain_tables.specs.declared.condition.Op.TheVariants as op
use Rattle.plain_tables.specs.Queries.{stands}
use Rattle.plan_chooser.specs.Plans.{is_equality, is_range, hash_serves}
use Rattle.mm_index.specs.Bag.{IsSameBag}
use Rattle.mm_index.proofs.Bags.{IsSameBag-trans, IsSameBag-from_same}
use Rattle.mm_relation.specs.Changes.{has_hash_on}
use Rattle.mm_relation.specs.State.{tree_list, RelationState, IsKept}
use Rattle.temp_list.specs.Reading.{value_in, row_passes, passing, bounds, is_between, unbounded, all_but}
use Rattle.temp_list.specs.Selecting.{AreSelected}
use Rattle.temp_list.proofs.Searches.{IsSameBag-filter}
use Rattle.temp_list.proofs.Selects.{found_held, equality_op}

-- the first of two tests and a rest, and the second
both_first : (a b c : Bool) → (a && (b && c)) ≡ (b && (a && c))
both_first true b c = refl
both_first false true c = refl
both_first false false c = refl

grouped : (a b c : Bool) → ((a && b) && c) ≡ (a && (b && c))
grouped true b c = refl
grouped false b c = refl

-- a list at an element
split_at : (tests : List Test) (i : ℕ) (test : Test) → i < length tests → test ≡ get_or tests i test → drop i tests ≡ test ∷ drop (i + 1) tests
split_at tests i test within item = drop_more tests i test within ∙ ap (λ (t : Test). t ∷ drop (i + 1) tests) (sym item)

module _ (relations : List RelationState) (s : RelationState) where
  abbrev so : Test → TupleRef → Bool
  so test r = stands test.op (value_in relations s test.column.0 r) test.value

  -- ---- the rows that pass, test by test

  pub keep_one : (tests : List Test) (i : ℕ) (test : Test) (rows : List TupleRef) → i < length tests → test ≡ get_or tests i test → filter (row_passes relations s (drop i tests)) rows ≡ filter (row_passes relations s (drop (i + 1) tests)) (filter (so test) rows)
  keep_one tests i test rows within item =
      ap (λ (ts : List Test). filter (row_passes relations s ts) rows) (split_at tests i test within item)
      ∙ sym (filter-filter (row_passes relations s (drop (i + 1) tests)) (so test) rows)

  pub keep_none : (tests : List Test) (i : ℕ) (rows : List TupleRef) → length tests ≤ i → filter (row_passes relations s (drop i tests)) rows ≡ rows
  keep_none tests i rows past =
      ap (λ (ts : List Test). filter (row_passes relations s ts) rows) (drop_all i tests past) ∙ filter_all (row_passes relations s []) rows (λ k d l. refl)

  -- the same of those tests that don't bound a column
  module _ (column : ℕ) (tests : List Test) (i : ℕ) where
    module _ (test : Test) (within : i < length tests) (item : test ≡ get_or tests i test) where
      pub skip_bound : bounds column test ≡ true → unbounded column (drop i tests) ≡ unbounded column (drop (i + 1) tests)
      skip_bound bound =
          let first : unbounded column (test ∷ drop (i + 1) tests) ≡ unbounded column (drop (i + 1) tests) = rw bound refl in
          ap (unbounded column) (split_at tests i test within item) ∙ first

      pub keep_unbounded : bounds column test ≡ false → (rows : List TupleRef) → filter (row_passes relations s (unbounded column (drop i tests))) rows ≡ filter (row_passes relations s (unbounded column (drop (i + 1) tests))) (filter (so test) rows)
      keep_unbounded free rows =
          let first : unbounded column (test ∷ drop (i + 1) tests) ≡ test ∷ unbounded column (drop (i + 1) tests) = rw free refl in
          ap (λ (ts : List Test). filter (row_passes relations s ts) rows) (ap (unbounded column) (split_at tests i test within item) ∙ first)
          ∙ sym (filter-filter (row_passes relations s (unbounded column (drop (i + 1) tests))) (so test) rows)

    pub keep_none_unbounded : (rows : List TupleRef) → length tests ≤ i → filter (row_passes relations s (unbounded column (drop i tests))) rows ≡ rows
    keep_none_unbounded rows past =
        ap (λ (ts : List Test). filter (row_passes relations s (unbounded column ts)) rows) (drop_all i tests past) ∙ filter_all (row_passes relations s []) rows (λ k d l. refl)

  -- some tests and then others
  pub keep_both : (front behind : List Test) (rows : List TupleRef) → filter (row_passes relations s behind) (filter (row_passes relations s front) rows) ≡ filter (row_passes relations s (front ++ behind)) rows
  keep_both front behind rows =
      filter-filter (row_passes relations s behind) (row_passes relations s front) rows
      ∙ filter_agree (λ r. row_passes relations s front r && row_passes relations s behind r) (row_passes relations s (front ++ behind))
      (λ r. sym (list_all-append (λ t. so t r) front behind)) rows

  -- ---- tests that are told

  -- a row that passes one test passes all where it passes the others
  pub passes_others : (tests : List Test) (n : ℕ) (test : Test) → n < length tests → test ≡ get_or tests n test → (r : TupleRef) → (so test r && row_passes relations s (all_but n tests) r) ≡ row_passes relations s tests r
  passes_others tests n test within item r =
      let p : Test → Bool = λ t. so t r in
      let front : List Test = take n tests in
      let behind : List Test = drop (n + 1) tests in
      ap (λ b. p test && b) (list_all-append p front behind)
      ∙ both_first (p test) (list_all p front) (list_all p behind)
      ∙ sym (list_all-append p front (test ∷ behind))
      ∙ ap (λ (ts : List Test). list_all p (front ++ ts)) (sym (split_at tests n test within item))
      ∙ ap (list_all p) (take-append-drop n tests)

  -- one that passes those that bound a column passes all where it passes the others
  pub passes_unbounded : (column : ℕ) (r : TupleRef) (tests : List Test) → (is_between column tests (value_in relations s column r) && row_passes relations s (unbounded column tests) r) ≡ row_passes relations s tests r
  passes_unbounded column r [] = refl
  passes_unbounded column r (test ∷ tests) =
      let between : Bool = is_between column tests (value_in relations s column r) in
      let others : Bool = row_passes relations s (unbounded column tests) r in
      elim (cases_Bool (bounds column test)) [
        | inl b ↦
            rw b
            (grouped (stands test.op (value_in relations s column r) test.value) between others
            ∙ ap (λ c. stands test.op (value_in relations s column r) test.value && c) (passes_unbounded column r tests)
            ∙ ap (λ (k : ℕ). stands test.op (value_in relations s k r) test.value && row_passes relations s tests r)
            (sym (eqb-true test.column.0 column (second_so (is_range test.op) (test.column.0 == column) b))))
        | inr f ↦ rw f (both_first between (so test r) others ∙ ap (λ c. so test r && c) (passes_unbounded column r tests))
      ]

-- ---- what a select finds

module _ (relations : List RelationState) (s : RelationState) (kept : IsKept s) where
  -- of rows that some test picks, those that pass what is not told by it
  pub selected_left : (tests : List Test) (found rows : List TupleRef) (so others : TupleRef → Bool) → IsSameBag found (filter so (tree_list s.by_key)) → ((r : TupleRef) → (so r && others r) ≡ row_passes relations s tests r) → rows ≡ filter others found → AreSelected relations s tests rows
  selected_left tests found rows so others bag told is =
      subst (AreSelected relations s tests) (sym is) (record {
        held = All-filter others (λ r. IsSome (finite.get s.rows r)) found (found_held relations s kept found so bag);
        bag = IsSameBag-trans (IsSameBag-filter others found (filter so (tree_list s.by_key)) bag)
            (IsSameBag-from_same (filter others (filter so (tree_list s.by_key))) (passing relations s tests)
            (filter-filter others so (tree_list s.by_key) ∙ filter_agree (λ r. so r && others r) (row_passes relations s tests) told (tree_list s.by_key)));
      })

-- the test that a hash serves asks for one value
pub equality_served : (s : RelationState) (tests : List Test) (n : ℕ) (test : Test) → test ≡ get_or tests n test → HoldsAt (λ t. IsTrue (hash_serves s t)) tests n → test.op ≡ op.Eq
equality_served s tests n test item served =
    let serves : IsTrue (hash_serves s test) = subst (λ (t : Test). IsTrue (hash_serves s t)) (sym item) (served test) in
    equality_op test.op (first_so (is_equality test.op) (has_hash_on s test.column.0) serves)
