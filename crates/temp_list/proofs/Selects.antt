-- What a select finds is the rows that pass.
use Rattle.std.proofs.Common.{◌≡◌, ℕ, ◌<◌, Bool, true, false, IsTrue, List, [], ◌++◌, Some, IsSome, length, filter, get_or, refl, sym, ap, ◌∙◌, subst, inl, inr}
use Rattle.std.specs.Prelude.{slice_get}
use Rattle.std.specs.List.{All, HoldsAt}
use Rattle.std.specs.FinMap as finite
use Rattle.std.specs.Cmp.{first_so}
use Rattle.std.proofs.lemmas.List.Elements.{All-contains, All-contains_itself, All-filter}
use Rattle.std.proofs.lemmas.Bool.{cases_Bool}
use Rattle.std.proofs.lemmas.List.Folds.{list_all_at}
use Rattle.common_lemmas.proofs.Elements.{Contains-from_filter}
use Rattle.part_raw.specs.declared.tuple_ref.TupleRef.{TupleRef}
use Rattle.plain_tables.specs.declared.resolved.Test.{Test}
use Rattle.plain_tables.specs.declared.condition.Op.{Op}
use Rattle.plain_tables.specs.declared.condition.Op.TheVariants as op
use Rattle.plain_tables.specs.Queries.{stands}
use Rattle.plan_chooser.specs.Plans.{is_equality, hash_serves}
use Rattle.mm_relation.specs.Changes.{has_hash_on}
use Rattle.mm_index.specs.Bag.{IsSameBag, AppendsBag}
use Rattle.mm_index.proofs.Bags.{IsSameBag-trans, IsSameBag-from_same}
use Rattle.mm_index.proofs.Refs.{Contains-same_refs}
use Rattle.mm_relation.specs.State.{tree_list, RelationState, IsKept}
use Rattle.temp_list.specs.Reading.{AreSound, OfRelation, value_in, row_passes, passing}
use Rattle.temp_list.specs.Selecting.{AreSelected}
use Rattle.temp_list.proofs.Lists.{same_at}
use Rattle.temp_list.proofs.Reading.{sound_at}
use Rattle.temp_list.proofs.Searches.{IsSameBag-filter, filter_inner}

module _ (relations : List RelationState) (s : RelationState) (kept : IsKept s) where
  pub passing_held : (tests : List Test) → All (λ r. IsSome (finite.get s.rows r)) (passing relations s tests)
  passing_held tests = All-filter (row_passes relations s tests) (λ r. IsSome (finite.get s.rows r)) (tree_list s.by_key) kept.keyed.lists.held

  -- rows that some test picks are held
  pub found_held : (found : List TupleRef) (so : TupleRef → Bool) → IsSameBag found (filter so (tree_list s.by_key)) → All (λ r. IsSome (finite.get s.rows r)) found
  found_held found so bag = λ k d l.
      All-contains (λ r. IsSome (finite.get s.rows r)) (tree_list s.by_key) (get_or found k d) kept.keyed.lists.held
      (Contains-from_filter so (tree_list s.by_key) (get_or found k d) (Contains-same_refs found (filter so (tree_list s.by_key)) (get_or found k d) bag (All-contains_itself found k d l))).0

  -- of rows among which are all that pass, those that pass
  pub selected : (tests : List Test) (found rows : List TupleRef) (so : TupleRef → Bool) → IsSameBag found (filter so (tree_list s.by_key)) → ((r : TupleRef) → row_passes relations s tests r ≡ true → so r ≡ true) → rows ≡ filter (row_passes relations s tests) found → AreSelected relations s tests rows
  selected tests found rows so bag passes is =
      let p : TupleRef → Bool = row_passes relations s tests in
      subst (AreSelected relations s tests) (sym is) (record {
        held = All-filter p (λ r. IsSome (finite.get s.rows r)) found (found_held found so bag);
        bag = IsSameBag-trans (IsSameBag-filter p found (filter so (tree_list s.by_key)) bag)
            (IsSameBag-from_same (filter p (filter so (tree_list s.by_key))) (filter p (tree_list s.by_key)) (filter_inner p so (tree_list s.by_key) (λ k d l. passes (get_or (tree_list s.by_key) k d))));
      })

-- a row that passes all tests passes each
pub passes_each : (relations : List RelationState) (s : RelationState) (tests : List Test) (n : ℕ) (test : Test) → n < length tests → test ≡ get_or tests n test → (r : TupleRef) → row_passes relations s tests r ≡ true → stands test.op (value_in relations s test.column.0 r) test.value ≡ true
passes_each relations s tests n test within item r e =
    let p : Test → Bool = λ t. stands t.op (value_in relations s t.column.0 r) t.value in
    elim (cases_Bool (p test)) [
      | inl told ↦ told
      | inr failed ↦ absurd (let none : row_passes relations s tests r ≡ false = list_all_at p tests n test within (ap p (sym item) ∙ failed) in cc)
    ]

-- a hash serves an equality alone
pub equality_op : (operator : Op) → is_equality operator ≡ true → operator ≡ op.Eq
equality_op op.Eq e = refl
equality_op operator e = cc

pub passes_equality : (relations : List RelationState) (s : RelationState) (tests : List Test) (n : ℕ) (test : Test) → n < length tests → test ≡ get_or tests n test → HoldsAt (λ t. IsTrue (hash_serves s t)) tests n → (r : TupleRef) → row_passes relations s tests r ≡ true → stands op.Eq (value_in relations s test.column.0 r) test.value ≡ true
passes_equality relations s tests n test within item served r e =
    let serves : IsTrue (hash_serves s test) = subst (λ (t : Test). IsTrue (hash_serves s t)) (sym item) (served test) in
    subst (λ (o : Op). stands o (value_in relations s test.column.0 r) test.value ≡ true)
    (equality_op test.op (first_so (is_equality test.op) (has_hash_on s test.column.0) serves))
    (passes_each relations s tests n test within item r e)

-- what is appended to an empty vector
pub all_appended : {A : Type 0} (old new bag : List A) → old ≡ [] → AppendsBag old new bag → IsSameBag new bag
all_appended {A} old new bag none h =
    IsSameBag-trans (IsSameBag-from_same new h.0 (h.1 ∙ ap (λ (xs : List A). xs ++ h.0) none)) h.2

-- the relation that is lent is that of the table
pub selected_there : (relations : List RelationState) (table : ℕ) (s : RelationState) → slice_get relations table ≡ Some s → (tests : List Test) (rows : List TupleRef) → AreSelected relations s tests rows → OfRelation relations table (λ t. AreSelected relations t tests rows)
selected_there relations table s lent tests rows so t at = subst (λ (u : RelationState). AreSelected relations u tests rows) (same_at (slice_get relations table) s t lent at) so

-- rows that are as a bag those that pass
pub bag_selected : (relations : List RelationState) → AreSound relations → (table : ℕ) (s : RelationState) → slice_get relations table ≡ Some s → (tests : List Test) (rows : List TupleRef) → IsSameBag rows (passing relations s tests) → OfRelation relations table (λ t. AreSelected relations t tests rows)
bag_selected relations sound table s lent tests rows bag =
    selected_there relations table s lent tests rows
    (record { held = found_held relations s (sound_at relations sound table s lent).0 rows (row_passes relations s tests) bag; bag = bag })
