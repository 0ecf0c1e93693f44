-- What is shown of the rows of a table that pass tests.
use Rattle.std.proofs.Common.{◌≡◌, ◌&&◌, ℕ, ◌+◌, ◌<◌, Bool, true, false, List, [], ◌∷◌, IsSome, is_some, length, get_or, refl, sym, subst, arith}
use Rattle.std.specs.List.{All, Contains, filter}
use Rattle.std.specs.FinMap as finite
use Rattle.std.proofs.lemmas.List.{get_or-map, length-map}
use Rattle.std.proofs.lemmas.List.Elements.{All-nil, All-push, All-weaker, All-contains, All-contains_itself}
use Rattle.std.proofs.lemmas.Map.Keys.{IsDistinct-IsPermutation}
use Rattle.common_lemmas.proofs.Elements.{Contains-filter, Contains-map}
use Rattle.indexmap.specs.IndexSet.{insert_key}
use Rattle.part_raw.specs.declared.tuple_ref.TupleRef.{TupleRef}
use Rattle.plain_tables.specs.declared.resolved.Test.{Test}
use Rattle.mm_index.proofs.Bags.{IsSameBag-sym}
use Rattle.mm_index.proofs.Refs.{Contains-same_refs}
use Rattle.mm_relation.specs.State.{tree_list, IsKept}
use Rattle.temp_list.specs.Reading.{row_passes, passing}
use Rattle.temp_list.specs.Lists.{ListState, IsOver}
use Rattle.temp_list.proofs.Selects.{passing_held}
use Rattle.temp_list.proofs.Slots.{refs_below, none_below, slot_passes, slot_fails, slots_pass}
use Rattle.project_hash.specs.Distinct.{shown_values, IsDistinctOf}
use Rattle.project_hash.specs.Known.{AreEnough, AreInOrder, row_states}
use Rattle.project_hash.specs.Shown.{ShownState, IsShown, ShowsOnce, alike, references_of, values_of}
use Rattle.project_hash.specs.Table.{TableState, CanRead, list_of_table, row_state}
use Rattle.project_hash.proofs.KnownRows.{alike_flips}
use Rattle.project_hash.proofs.Once.{inserted_all, inserted_keeps, inserted_there, shows_once}
use Rattle.project_hash.proofs.Picked.{picked_distinct, picked_over}
use Rattle.project_hash.proofs.Tables.{table_over}

module _ (t : TableState) (tests : List Test) where
  abbrev found : List TupleRef
  found = passing t.relations t.relation tests

  abbrev picks : TupleRef → Bool
  picks r = is_some (finite.get t.relation.rows r) && row_passes t.relations t.relation tests r

  abbrev all : ListState
  all = list_of_table t.table found t.places

  -- what a row shows is shown by some of these rows
  abbrev pub IsShownBy : List TupleRef → TupleRef → Type 0
  IsShownBy rows r = Contains (values_of (row_states t rows)) (row_state t r).values

  -- those that pass in the slots below a number
  abbrev pub found_below : ℕ → List TupleRef
  found_below n = filter picks (refs_below n)

  pub nothing_below : (rows : List TupleRef) → All (IsShownBy rows) (found_below 0)
  nothing_below rows = subst (All (IsShownBy rows)) (none_below picks) (All-nil (IsShownBy rows))

  -- one slot more
  module _ (n m : ℕ) (next : m ≡ n + 1) (r : TupleRef) (at : r.number ≡ n) where
    pub slot_without : picks r ≡ false → found_below n ≡ found_below m
    slot_without fails = slot_fails picks n m next r at (found_below n) refl fails

    -- whose row is kept
    module _ (rows new : List TupleRef) (kept : row_states t new ≡ insert_key alike (row_states t rows) (row_state t r)) (passes : picks r ≡ true) where
      pub all_more : All (IsShownBy rows) (found_below n) → All (IsShownBy new) (found_below m)
      all_more so_far =
          subst (All (IsShownBy new)) (slot_passes picks n m next r at (found_below n) refl passes)
          (All-push (IsShownBy new) (found_below n) r
          (All-weaker (IsShownBy rows) (IsShownBy new) (λ q there. subst (λ (xs : List ShownState). Contains (values_of xs) (row_state t q).values) (sym kept) (inserted_keeps (row_states t rows) (row_state t r) (row_state t q).values there)) (found_below n) so_far)
          (subst (λ (xs : List ShownState). Contains (values_of xs) (row_state t r).values) (sym kept) (inserted_there (row_states t rows) (row_state t r))))

      pub some_more : Contains found r → All (IsShown t.relations all) (row_states t rows) → All (IsShown t.relations all) (row_states t new)
      some_more there so_far =
          subst (All (IsShown t.relations all)) (sym kept)
          (inserted_all (IsShown t.relations all) (row_states t rows) (row_state t r) so_far (Contains-map (λ (q : TupleRef). q ∷ []) found r there, refl))

  pub found_there : IsKept t.relation → (r : TupleRef) → is_some (finite.get t.relation.rows r) ≡ true → row_passes t.relations t.relation tests r ≡ true → Contains found r
  found_there kept r held passes = Contains-filter (row_passes t.relations t.relation tests) (tree_list t.relation.by_key) r (kept.keyed.lists.listed r held) passes

  -- all slots
  pub all_shown : IsKept t.relation → (slots : ℕ) → ((r : TupleRef) → IsSome (finite.get t.relation.rows r) → r.number < slots) → (rows : List TupleRef) → All (IsShownBy rows) (found_below slots) → All (IsShownBy rows) found
  all_shown kept slots within rows shown = λ k d l.
      All-contains (IsShownBy rows) (found_below slots) (get_or found k d) shown
      (Contains-same_refs found (found_below slots) (get_or found k d) (IsSameBag-sym (slots_pass t.relations t.relation kept tests slots within (found_below slots) refl)) (All-contains_itself found k d l))

  module _ (rows : List TupleRef) (enough : AreEnough t found rows) (ordered : List ShownState) (is : AreInOrder t rows ordered) where
    abbrev result : ListState
    result = record { sources = t.table ∷ []; rows = references_of ordered; columns = t.places }

    once : ShowsOnce t.relations all ordered
    once =
        shows_once t.relations all (row_states t rows) ordered enough.some
        (λ k within.
        let d : TupleRef = record { number = 0 } in
        let inside : k < length found = omega (arith, within, length-map found (λ (r : TupleRef). r ∷ [])) in
        subst (λ (row : List TupleRef). Contains (values_of (row_states t rows)) (shown_values t.relations all row)) (sym (get_or-map (λ (r : TupleRef). r ∷ []) found k d [] inside)) (enough.all k d inside))
        is.moved is.sorted (IsDistinct-IsPermutation alike alike_flips (row_states t rows) ordered is.moved enough.apart)

    pub scanned_distinct : IsDistinctOf t.relations all result
    scanned_distinct = picked_distinct t.relations all ordered once

    pub scanned_over : CanRead t → IsKept t.relation → t.table < length t.relations → IsOver t.relations result
    scanned_over can kept there = picked_over t.relations all ordered once (table_over t can there found (passing_held t.relations t.relation kept tests))
