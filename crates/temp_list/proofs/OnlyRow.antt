-- The row that passes, where there is one at most.
use Rattle.std.proofs.Common.{◌≡◌, ◌≢◌, ◌≤◌, ◌+◌, ◌<◌, ℕ, zero, suc, Bool, true, false, cond, List, [], ◌∷◌, ◌++◌, Option, None, Some, IsSome, IsTrue, Ordering, is_some, filter, get_or, length, refl, sym, ap, ◌∙◌, subst, arith, append-nil, append_assoc}
use Rattle.std.specs.Cmp.{second_so}
use Rattle.std.specs.FinMap as finite
use Rattle.std.specs.List.{All, Contains, HoldsAt, position}
use Rattle.std.specs.Prelude.{IfSome, ◌==◌}
use Rattle.std.specs.Option.{option_to_list}
use Rattle.std.specs.Ordering.{is_eq, is_ge, ordering_index}
use Rattle.std.specs.declared.cmp.Ordering.TheVariants.{Less, Equal, Greater}
use Rattle.std.proofs.lemmas.List.{get_or-append-add, get_or_default, length-append}
use Rattle.std.proofs.lemmas.Bool.{and_parts, eqb-true, false_from_ne_true}
use Rattle.std.proofs.lemmas.List.Elements.{All-filter, All-head, filter-append, filter_passes}
use Rattle.std.proofs.lemmas.List.Kept.{IsNonDecreasingBy-filter}
use Rattle.common_lemmas.proofs.Elements.{All-append_parts}
use Rattle.common_lemmas.proofs.Filters.{filter_none}
use Rattle.part_raw.specs.declared.tuple_ref.TupleRef.{TupleRef}
use Rattle.plain_tables.specs.declared.condition.Op.{Op}
use Rattle.plain_tables.specs.declared.condition.Op.TheVariants as op
use Rattle.plain_tables.specs.declared.resolved.Test.{Test}
use Rattle.plain_tables.specs.declared.value.Value.{Value}
use Rattle.plain_tables.specs.declared.value.Value.TheVariants.{Null}
use Rattle.plain_tables.specs.Hashes.{low_hash}
use Rattle.plain_tables.specs.Queries.{stands}
use Rattle.mm_index.specs.Bag.{IsSameBag, with_hash}
use Rattle.mm_index.specs.Range.{NeverFalls, from_range}
use Rattle.mm_index.proofs.Bags.{IsSameBag-sym, length-same_bag}
use Rattle.mm_index.proofs.Refs.{Contains-same_refs}
use Rattle.mm_relation.specs.Reading.{key_at}
use Rattle.plan_chooser.proofs.Choices.{leftmost_passes}
use Rattle.plan_chooser.specs.Plans.{hash_serves, is_equality, is_range, tree_serves}
use Rattle.mm_relation.specs.Changes.{HasHash, HasTree, entries_of, has_hash_on, has_tree_on, list_of}
use Rattle.mm_relation.specs.State.{RelationState, IsKept, IsCurrent, linked_keys, tree_list}
use Rattle.temp_list.specs.OnlyRow.{AsksForKey, AsksForValue, is_for_key}
use Rattle.temp_list.specs.Ranges.{place_of}
use Rattle.temp_list.specs.Reading.{HasColumns, passing, row_passes, value_in}
use Rattle.temp_list.proofs.Keys.{same_key, standing_found, standing_none}
use Rattle.temp_list.proofs.Ranges.{range_stands}
use Rattle.temp_list.proofs.Searches.{IsSameBag-filter, filter_inner, hash_range, serves_tree, tree_in_order}
use Rattle.temp_list.proofs.Selects.{passes_each, selected}

-- a bag of one at most is a list
pub only_bag : (row : Option TupleRef) (refs : List TupleRef) → IsSameBag (option_to_list row) refs → refs ≡ option_to_list row
only_bag None [] bag = refl
only_bag None (r ∷ refs) bag = absurd (let long = length-same_bag [] (r ∷ refs) bag in omega (arith, long))
only_bag (Some q) [] bag = absurd (let long = length-same_bag (q ∷ []) [] bag in omega (arith, long))
only_bag (Some q) (r ∷ []) bag = ap (λ (p : TupleRef). p ∷ []) (itself (Contains-same_refs (r ∷ []) (q ∷ []) r (IsSameBag-sym bag) (0, omega arith, refl)))
  where
    itself : Contains (q ∷ []) r → r ≡ q
    itself (zero, l, e) = sym e
    itself (suc k, l, e) = absurd (omega arith)
only_bag (Some q) (p ∷ r ∷ refs) bag = absurd (let long = length-same_bag (q ∷ []) (p ∷ r ∷ refs) bag in omega (arith, long))

-- ---- the test that an index serves

module _ (s : RelationState) (tests : List Test) (n : ℕ) (within : n < length tests) (test : Test) (item : test ≡ get_or tests n test) where
  pub asked_column : HasColumns s tests → test.column.0 < length s.schema.columns
  asked_column columns = subst (λ (t : Test). t.column.0 < length s.schema.columns) (sym item) (columns n test within)

  pub asked_hash : HoldsAt (λ t. IsTrue (hash_serves s t)) tests n → HasHash s test.column.0
  asked_hash served = second_so (is_equality test.op) (has_hash_on s test.column.0) (subst (λ (t : Test). IsTrue (hash_serves s t)) (sym item) (served test))

  pub asked_tree : HoldsAt (λ t. IsTrue (tree_serves s t)) tests n → HasTree s test.column.0
  asked_tree served = second_so (is_range test.op) (has_tree_on s test.column.0) (subst (λ (t : Test). IsTrue (tree_serves s t)) (sym item) (served test))

  pub asks_equal : AsksForValue tests n → test.op ≡ op.Eq
  asks_equal asks = subst (λ (t : Test). t.op ≡ op.Eq) (sym item) (asks test)

  pub equals_asked : (relations : List RelationState) → test.op ≡ op.Eq → (r : TupleRef) → row_passes relations s tests r ≡ true → stands op.Eq (value_in relations s test.column.0 r) test.value ≡ true
  equals_asked relations equal r passes =
      subst (λ (o : Op). stands o (value_in relations s test.column.0 r) test.value ≡ true) equal (passes_each relations s tests n test within item r passes)

-- ---- one row more is looked at

-- what was seen, and what is left
pub seen_more : {A : Type 0} (seen rest more : List A) (r : A) → rest ≡ r ∷ more → seen ++ rest ≡ (seen ++ r ∷ []) ++ more
seen_more {A} seen rest more r steps = ap (λ (xs : List A). seen ++ xs) steps ∙ sym (append_assoc seen (r ∷ []) more)

module _ {A : Type 0} (p : A → Bool) (seen : List A) (row : Option A) (is : filter p seen ≡ option_to_list row) (r : A) where
  -- it fails
  pub still_only : p r ≡ false → filter p (seen ++ r ∷ []) ≡ option_to_list row
  still_only fails = filter-append p seen (r ∷ []) ∙ ap (λ b. filter p seen ++ cond b (r ∷ []) []) fails ∙ append-nil (filter p seen) ∙ is

  -- it is the first that passes
  pub now_only : (new : Option A) → new ≡ Some r → is_some row ≡ false → p r ≡ true → filter p (seen ++ r ∷ []) ≡ option_to_list new
  now_only new after none passes =
      filter-append p seen (r ∷ []) ∙ ap (λ b. filter p seen ++ cond b (r ∷ []) []) passes ∙ ap (λ (xs : List A). xs ++ r ∷ []) (is ∙ nothing row none)
      ∙ ap option_to_list (sym after)
    where
      nothing : (o : Option A) → is_some o ≡ false → option_to_list o ≡ []
      nothing None e = refl
      nothing (Some x) e = cc

above_stays : (a b : Ordering) → is_ge a ≡ true → is_eq a ≡ false → ordering_index a ≤ ordering_index b → is_eq b ≡ false
above_stays Less b ge above h = cc
above_stays Equal b ge above h = cc
above_stays Greater Greater ge above h = refl
above_stays Greater b ge above h = absurd (omega arith)

-- what is told of each member is told of the next one of a walk
pub walked_next : {A : Type 0} (P : A → Type 0) (place : A → Ordering) (xs seen rest more : List A) (r : A) → All P xs → from_range place xs ≡ seen ++ rest → rest ≡ r ∷ more → P r
walked_next {A} P place xs seen rest more r each split steps =
    All-head P r more (All-append_parts P seen (r ∷ more) (subst (All P) (split ∙ ap (λ (ys : List A). seen ++ ys) steps) (All-filter (λ x. is_ge (place x)) P xs each))).1

-- behind one that stands above a range, none is in it
pub none_behind : {A : Type 0} (place : A → Ordering) (xs seen rest : List A) (r : A) → NeverFalls place xs → from_range place xs ≡ seen ++ r ∷ rest → is_eq (place r) ≡ false → All (λ x. is_eq (place x) ≡ false) (r ∷ rest)
none_behind {A} place xs seen rest r falls split above = λ k d l.
    let stands : All (λ x. is_ge (place x) ≡ true) (seen ++ r ∷ rest) = subst (All (λ x. is_ge (place x) ≡ true)) split (filter_passes (λ x. is_ge (place x)) xs) in
    let rises : NeverFalls place (seen ++ r ∷ rest) = subst (NeverFalls place) split (IsNonDecreasingBy-filter (λ x. ordering_index (place x)) (λ x. is_ge (place x)) xs falls) in
    let here : is_ge (place r) ≡ true = All-head (λ x. is_ge (place x) ≡ true) r rest (All-append_parts (λ x. is_ge (place x) ≡ true) seen (r ∷ rest) stands).1 in
    let long : length (seen ++ r ∷ rest) ≡ length seen + length (r ∷ rest) = length-append seen (r ∷ rest) in
    let behind : ordering_index (place (get_or (seen ++ r ∷ rest) (length seen + 0) d)) ≤ ordering_index (place (get_or (seen ++ r ∷ rest) (length seen + k) d)) =
    rises (length seen + 0) (length seen + k) d (omega arith) (omega (arith, long, l)) in
    above_stays (place r) (place (get_or (r ∷ rest) k d)) here above
    (rw (get_or-append-add seen (r ∷ rest) 0 d, get_or-append-add seen (r ∷ rest) k d) at behind)

-- ---- what an index gives

module _ (relations : List RelationState) (s : RelationState) (kept : IsKept s) (tests : List Test) where
  abbrev p : TupleRef → Bool
  p = row_passes relations s tests

  -- of the rows that a hash gives
  pub only_in_chain : (column : ℕ) → IsCurrent (linked_keys s.targets relations) s → column < length s.schema.columns → HasHash s column → (sought : Value)
      → ((r : TupleRef) → p r ≡ true → stands op.Eq (value_in relations s column r) sought ≡ true)
      → (chain : List TupleRef) → IsSameBag chain (with_hash (low_hash sought) (entries_of s column)) → (row : Option TupleRef) → filter p chain ≡ option_to_list row → passing relations s tests ≡ option_to_list row
  only_in_chain column current within has sought so chain bag row is =
      let equal : TupleRef → Bool = λ r. stands op.Eq (value_in relations s column r) sought in
      only_bag row (passing relations s tests)
      (selected relations s kept tests (filter equal chain) (option_to_list row) equal (hash_range relations s column kept current within has sought chain bag) so
      (sym is ∙ sym (filter_inner p equal chain (λ k d l. so (get_or chain k d))))).bag

  module _ (column : ℕ) (current : IsCurrent (linked_keys s.targets relations) s) (within : column < length s.schema.columns) (has : HasTree s column) (sought : Value)
      (so : (r : TupleRef) → p r ≡ true → stands op.Eq (value_in relations s column r) sought ≡ true) where
    abbrev place : TupleRef → Ordering
    place r = place_of op.Eq (value_in relations s column r) sought

    in_place : (r : TupleRef) → is_eq (place r) ≡ stands op.Eq (value_in relations s column r) sought
    in_place r = range_stands op.Eq (λ e. cc) (value_in relations s column r) sought

    -- of the rows that a tree gives
    pub only_in_tree : (row : Option TupleRef) → filter p (from_range place (list_of s column)) ≡ option_to_list row → passing relations s tests ≡ option_to_list row
    only_in_tree row is =
        only_bag row (passing relations s tests)
        (subst (λ refs. IsSameBag refs (passing relations s tests))
        (sym (filter_inner p (λ r. is_ge (place r)) (list_of s column) (λ k d l e. eq_ge (place (get_or (list_of s column) k d)) (in_place (get_or (list_of s column) k d) ∙ so (get_or (list_of s column) k d) e))) ∙ is)
        (IsSameBag-filter p (list_of s column) (tree_list s.by_key) (serves_tree relations s column kept current within has).bag))
      where
        eq_ge : (o : Ordering) → is_eq o ≡ true → is_ge o ≡ true
        eq_ge Equal e = refl
        eq_ge o e = cc

    -- where none behind a row asks to be looked at
    pub only_before : (seen rest : List TupleRef) (r : TupleRef) → from_range place (list_of s column) ≡ seen ++ r ∷ rest → stands op.Eq (value_in relations s column r) sought ≡ false
        → filter p (from_range place (list_of s column)) ≡ filter p seen
    only_before seen rest r split fails =
        let none : All (λ x. is_eq (place x) ≡ false) (r ∷ rest) =
        none_behind place (list_of s column) seen rest r (tree_in_order relations s column kept current within has op.Eq refl sought) split (in_place r ∙ fails) in
        ap (filter p) split ∙ filter-append p seen (r ∷ rest)
        ∙ ap (λ (refs : List TupleRef). filter p seen ++ refs) (filter_none p (r ∷ rest) (λ k d l. fails_so (get_or (r ∷ rest) k d) (none k d l)))
        ∙ append-nil (filter p seen)
      where
        fails_so : (q : TupleRef) → is_eq (place q) ≡ false → p q ≡ false
        fails_so q e = false_from_ne_true (p q) (λ h. let f : false ≡ true = sym e ∙ in_place q ∙ so q h in cc)

-- ---- the row of a key

single : (tests : List Test) (n : ℕ) (test : Test) → length tests ≤ 1 → n < length tests → test ≡ get_or tests n test → tests ≡ test ∷ []
single [] n test alone within item = absurd (omega (arith, within))
single (t ∷ []) zero test alone within item = ap (λ (x : Test). x ∷ []) (sym item)
single (t ∷ []) (suc n) test alone within item = absurd (omega (arith, within))
single (t ∷ u ∷ ts) n test alone within item = absurd (omega (arith, alone))

module _ (relations : List RelationState) (s : RelationState) (kept : IsKept s) (tests : List Test) (n : ℕ) (asks : AsksForKey tests n) (test : Test) (item : test ≡ get_or tests n test) where
  -- a row that passes all tests has the key
  has_key : (r : TupleRef) → row_passes relations s tests r ≡ true → stands op.Eq (value_in relations s 0 r) test.value ≡ true
  has_key r passes =
      let asked = subst (λ (t : Test). (t.column.0 ≡ 0) × (t.op ≡ op.Eq)) (sym item) (asks.1 test) in
      subst (λ (o : Op). stands o (value_in relations s 0 r) test.value ≡ true) asked.1
      (subst (λ k. stands test.op (value_in relations s k r) test.value ≡ true) asked.0 (passes_each relations s tests n test asks.0 item r passes))

  among_keyed : filter (row_passes relations s tests) (filter (λ r. stands op.Eq (value_in relations s 0 r) test.value) (tree_list s.by_key)) ≡ passing relations s tests
  among_keyed =
      filter_inner (row_passes relations s tests) (λ r. stands op.Eq (value_in relations s 0 r) test.value) (tree_list s.by_key) (λ k d l. has_key (get_or (tree_list s.by_key) k d))

  pub keyed_found : (r : TupleRef) → key_at s.rows r ≡ Some test.value → passing relations s tests ≡ filter (row_passes relations s tests) (r ∷ [])
  keyed_found r at = sym among_keyed ∙ ap (filter (row_passes relations s tests)) (standing_found relations s kept test.value r at)

  -- a row that is held and passes is the one
  pub keyed_passing : (r : TupleRef) → IsSome (finite.get s.rows r) → row_passes relations s tests r ≡ true → passing relations s tests ≡ r ∷ []
  keyed_passing r held passes = keyed_found r (same_key relations s kept test.value r held (has_key r passes)) ∙ ap (λ b. cond b (r ∷ []) []) passes

  pub keyed_none : ((r : TupleRef) → key_at s.rows r ≢ Some test.value) → passing relations s tests ≡ []
  keyed_none none = sym among_keyed ∙ ap (filter (row_passes relations s tests)) (standing_none relations s kept test.value none)

  -- where no other test is made, a row that has the key passes
  pub alone_passes : length tests ≤ 1 → (r : TupleRef) → key_at s.rows r ≡ Some test.value → row_passes relations s tests r ≡ true
  alone_passes alone r at =
      let asked = subst (λ (t : Test). (t.column.0 ≡ 0) × (t.op ≡ op.Eq)) (sym item) (asks.1 test) in
      let equal : TupleRef → Bool = λ q. stands op.Eq (value_in relations s 0 q) test.value in
      let stands_so : equal r ≡ true =
      All-head (λ q. equal q ≡ true) r [] (subst (All (λ q. equal q ≡ true)) (standing_found relations s kept test.value r at) (filter_passes equal (tree_list s.by_key))) in
      let passes : stands test.op (value_in relations s test.column.0 r) test.value ≡ true =
      subst (λ k. stands test.op (value_in relations s k r) test.value ≡ true) (sym asked.0)
      (subst (λ (o : Op). stands o (value_in relations s 0 r) test.value ≡ true) (sym asked.1) stands_so) in
      ap (λ ts. row_passes relations s ts r) (single tests n test alone asks.0 item) ∙ rw passes refl

-- the same where no test is at hand
any_test : Test
any_test = record { column = record { 0 = 0 }; op = op.Eq; value = Null }

pub one_passing : (relations : List RelationState) (s : RelationState) → IsKept s → (tests : List Test) → (n : ℕ) × AsksForKey tests n
    → (r : TupleRef) → IsSome (finite.get s.rows r) → row_passes relations s tests r ≡ true → passing relations s tests ≡ r ∷ []
one_passing relations s kept tests (n, asks) =
    let test : Test = get_or tests n any_test in
    keyed_passing relations s kept tests n asks test (get_or_default tests n any_test test asks.0)

-- ---- the test that asks for a key

equal_so : (o : Op) → is_equality o ≡ true → o ≡ op.Eq
equal_so op.Eq e = refl
equal_so o e = cc

asks_so : (t : Test) → is_for_key t ≡ true → (t.column.0 ≡ 0) × (t.op ≡ op.Eq)
asks_so t e =
    let parts = and_parts (is_equality t.op) (t.column.0 == 0) e in
    (eqb-true t.column.0 0 parts.1, equal_so t.op parts.0)

pub leftmost_asks : (tests : List Test) (first : Option ℕ) → first ≡ position is_for_key tests → IfSome first (AsksForKey tests)
leftmost_asks tests None e = tt
leftmost_asks tests (Some n) e = let asks = leftmost_passes is_for_key tests (Some n) e in (asks.0, λ d. asks_so (get_or tests n d) (asks.1 d))
