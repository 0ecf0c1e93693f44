-- Rows that pass, in the order of their keys.
use Rattle.std.proofs.Common.{◌≡◌, ◌∙◌, ◌+◌, false, List, IsSome, get_or, ap, arith, Ordering}
use Rattle.std.specs.List.{AllPairs}
use Rattle.std.specs.List.Sorted.{IsPermutation, IsSorted}
use Rattle.std.specs.FinMap as finite
use Rattle.std.specs.Cmp.Lexicographic.{options_total}
use Rattle.std.specs.Ordering.{is_lt, ordering_reverse, ordering_then}
use Rattle.std.specs.declared.cmp.Ordering.TheVariants.{Less, Equal, Greater}
use Rattle.std.proofs.lemmas.Cmp.{on_total}
use Rattle.std.proofs.lemmas.List.Kept.{AllPairs-filter}
use Rattle.std.proofs.lemmas.List.Sorted.{All-permutation, sum_by-IsPermutation}
use Rattle.part_raw.specs.declared.tuple_ref.TupleRef.{TupleRef}
use Rattle.plain_tables.specs.Values.{value_cmp_total}
use Rattle.plain_tables.specs.declared.resolved.Test.{Test}
use Rattle.mm_index.proofs.Refs.{same_ref, Decides-same_ref}
use Rattle.mm_relation.specs.Order.{column_cmp, option_exact}
use Rattle.mm_relation.specs.Reading.{key_at}
use Rattle.mm_relation.specs.State.{tree_list, RelationState, IsKept, no_keys}
use Rattle.temp_list.specs.Lists.{key_cmp}
use Rattle.temp_list.specs.Reading.{row_passes, passing}
use Rattle.temp_list.specs.Selecting.{AreSelected}
use Rattle.temp_list.proofs.OneOrder.{one_order}
use Rattle.temp_list.proofs.Selects.{passing_held}

-- what is below by a comparison made twice is not above by it
not_above : (o r : Ordering) → r ≡ ordering_reverse o → ordering_then o o ≡ Less → is_lt r ≡ false
not_above Less r turned below = ap is_lt turned
not_above Equal r turned below = cc
not_above Greater r turned below = cc

module _ (relations : List RelationState) (s : RelationState) (kept : IsKept s) (tests : List Test) where
  passing_sorted : IsSorted (key_cmp s) (passing relations s tests)
  passing_sorted = λ k d z l.
      let refs = passing relations s tests in
      let rising : AllPairs (λ r q. column_cmp no_keys 0 s.rows r q ≡ Less) refs =
      AllPairs-filter (λ r q. column_cmp no_keys 0 s.rows r q ≡ Less) (row_passes relations s tests) (tree_list s.by_key) kept.keyed.rising in
      let total = on_total (key_at s.rows) (options_total value_cmp_total) in
      not_above (key_cmp s (get_or refs k d) (get_or refs (k + 1) d)) (key_cmp s (get_or refs (k + 1) d) (get_or refs k d))
      (total.antisymm (get_or refs (k + 1) d) (get_or refs k d)) (rising k (k + 1) d (omega arith) (omega (arith, l)))

  -- they are one list, whatever found them
  pub selected_one : (rows : List TupleRef) → AreSelected relations s tests rows → IsSorted (key_cmp s) rows → rows ≡ passing relations s tests
  selected_one rows are up =
      one_order (key_cmp s) (on_total (key_at s.rows) (options_total value_cmp_total)) (λ r. IsSome (finite.get s.rows r))
      (λ q r hq hr e. kept.keyed.keys_differ.apart q r hq hr (option_exact (key_at s.rows q) (key_at s.rows r) e))
      same_ref Decides-same_ref rows (passing relations s tests) are.held (passing_held relations s kept tests) are.bag up passing_sorted

  -- nor is it another where they were moved into that order
  pub selected_in_order : (rows moved : List TupleRef) → AreSelected relations s tests rows → IsPermutation rows moved → IsSorted (key_cmp s) moved → moved ≡ passing relations s tests
  selected_in_order rows moved are h up =
      selected_one moved
      (record {
        held = All-permutation (λ (r : TupleRef). IsSome (finite.get s.rows r)) rows moved h are.held;
        bag = record { count = λ test. sum_by-IsPermutation _ _ _ h ∙ are.bag.count test };
      })
      up
