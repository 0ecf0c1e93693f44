-- The rows of a table that a plan found are those that are picked: each is held, and each comes once.
use Rattle.std.proofs.Common.{◌≡◌, ◌≢◌, ℕ, true, List, Some, IsSome, IsTrue, sym, ◌∙◌, subst, get_or, arith}
use Rattle.std.proofs.lemmas.List.Kept.{AllPairs-filter}
use Rattle.std.proofs.lemmas.Option.{same_Some, slice_get_within}
use Rattle.std.specs.List.{All, AllPairs, Contains, slice_get}
use Rattle.std.specs.FinMap as finite
use Rattle.part_raw.specs.declared.tuple_ref.TupleRef.{TupleRef}
use Rattle.mm_index.specs.Bag.{IsSameBag}
use Rattle.mm_index.proofs.Bags.{IsSameBag-sym}
use Rattle.mm_index.proofs.Distinct.{AllPairs-same_bag}
use Rattle.mm_index.proofs.Refs.{Contains-same_refs}
use Rattle.part_raw.specs.TupleRefs.{ref_cmp}
use Rattle.part_raw.proofs.Refs.{ref_cmp_total}
use Rattle.part_raw.proofs.Tuples.{same_ref_self, same_ref_true}
use Rattle.std.specs.Cmp.{eq_by_cmp_equiv}
use Rattle.std.specs.Ordering.{eq_by_cmp}
use Rattle.common_lemmas.proofs.Elements.{Contains-filter, Contains-from_filter}
use Rattle.plain_tables.specs.Tables.{Table}
use Rattle.plain_tables.specs.Doing.{passes_all}
use Rattle.plain_tables.specs.ResolvedLaws.{AreTests}
use Rattle.plain_tables.specs.declared.resolved.Test.{Test}
use Rattle.mm_relation.specs.Order.{column_cmp, column_cmp_total}
use Rattle.mm_relation.specs.State.{tree_list, RelationState, no_keys}
use Rattle.mm_catalog.specs.State.{CatalogState}
use Rattle.mm_catalog.specs.Seen.{database_of}
use Rattle.mm_catalog.specs.Consistent.{IsConsistent}
use Rattle.mm_catalog.specs.Picked.{seen_values}
use Rattle.mm_catalog.proofs.Among.{among_at}
use Rattle.temp_list.specs.Reading.{HasColumns, row_passes, passing}
use Rattle.join_ops.proofs.Sides.{All-same_bag}
use Rattle.mm_session.specs.Passing.{ArePassing}
use Rattle.mm_session.proofs.Members.{passing_held, passes_seen, width_same}
use Rattle.mm_relation.proofs.Listings.{rising_apart}

-- ---- the rows that pass

-- a bag of references that repeats nothing repeats nothing in another order
apart_bag : (xs ys : List TupleRef) → IsSameBag xs ys → AllPairs (λ a b. a ≢ b) xs → AllPairs (λ a b. a ≢ b) ys
apart_bag xs ys bag apart = AllPairs-same_bag (eq_by_cmp ref_cmp) (λ a b. (same_ref_true a b, λ e. subst (λ r. eq_by_cmp ref_cmp a r ≡ true) e (same_ref_self a))) (eq_by_cmp_equiv ref_cmp_total) xs ys bag apart

module _ (c : CatalogState) (ok : IsConsistent c) (n : ℕ) (table : Table) (at : slice_get (database_of c) n ≡ Some table) (tests : List Test) (s : RelationState) (there : slice_get c.relations n ≡ Some s) (columns : HasColumns s tests)
    (refs : List TupleRef) (bag : IsSameBag refs (passing c.relations s tests)) where
  held : All (λ r. IsSome (finite.get s.rows r)) refs
  held = All-same_bag (λ r. IsSome (finite.get s.rows r)) refs (passing c.relations s tests) bag (passing_held c ok n table at s there tests)

  listed_apart : AllPairs (λ q r. q ≢ r) (passing c.relations s tests)
  listed_apart =
      AllPairs-filter (λ (q : TupleRef) (r : TupleRef). q ≢ r) (row_passes c.relations s tests) (tree_list s.by_key)
      (rising_apart (column_cmp no_keys 0 s.rows) (column_cmp_total no_keys 0 s.rows) (tree_list s.by_key) (among_at c ok n s there).kept.keyed.rising)

  picked_so : (r : TupleRef) → IsSome (finite.get s.rows r)
      → (Contains refs r → IsTrue (passes_all tests (seen_values c s r))) × (IsTrue (passes_all tests (seen_values c s r)) → Contains refs r)
  picked_so r here = (
    λ inside. sym (passes_seen c s r here tests columns) ∙ (Contains-from_filter (row_passes c.relations s tests) (tree_list s.by_key) r (Contains-same_refs refs (passing c.relations s tests) r bag inside)).1,
    λ passes. Contains-same_refs (passing c.relations s tests) refs r (IsSameBag-sym bag)
        (Contains-filter (row_passes c.relations s tests) (tree_list s.by_key) r ((among_at c ok n s there).kept.keyed.lists.listed r here) (passes_seen c s r here tests columns ∙ passes)),
  )

  one : (t : RelationState) → slice_get c.relations n ≡ Some t → s ≡ t
  one t e = same_Some s t (sym there ∙ e)

  pub are_passing : ArePassing c n tests refs
  are_passing = record {
    held = λ t e. subst (λ (u : RelationState). All (λ r. IsSome (finite.get u.rows r)) refs) (one t e) held;
    once = apart_bag (passing c.relations s tests) refs (IsSameBag-sym bag) listed_apart;
    picks = λ t r e. subst (λ (u : RelationState). IsSome (finite.get u.rows r)
        → (Contains refs r → IsTrue (passes_all tests (seen_values c u r))) × (IsTrue (passes_all tests (seen_values c u r)) → Contains refs r))
        (one t e) (picked_so r);
  }

-- the columns of tests on a table are those of its relation
pub test_columns : (c : CatalogState) (ok : IsConsistent c) (n : ℕ) (table : Table) → slice_get (database_of c) n ≡ Some table → (tests : List Test) → AreTests (database_of c) table tests
    → (s : RelationState) → slice_get c.relations n ≡ Some s → HasColumns s tests
test_columns c ok n table at tests are s there =
    let same = width_same c ok n table at s there in
    λ k d l. let is = are k d l in omega (arith, same, slice_get_within table.columns (get_or tests k d).column.0 is.0 is.1)
