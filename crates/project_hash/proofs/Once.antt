-- Rows that are put into a set, of which each value is there once, and then sorted.
use Rattle.std.proofs.Common.{◌≡◌, true, false, ℕ, ◌<◌, List, [], ◌∷◌, ◌++◌, length, get_or, ap, ◌∙◌, sym, subst, refl, arith, cond}
use Rattle.std.specs.List.{list_any, IsDistinct, All, Contains, Any}
use Rattle.std.specs.Ordering.{is_lt, is_eq, ordering_reverse}
use Rattle.std.specs.declared.cmp.Ordering.{Ordering}
use Rattle.std.specs.declared.cmp.Ordering.TheVariants.{Less, Equal, Greater}
use Rattle.std.specs.List.Sorted.{IsSorted, IsPermutation}
use Rattle.std.proofs.lemmas.List.{get_or-map, get_or_default, length-map, map-append}
use Rattle.std.proofs.lemmas.List.Elements.{All-push, All-map, All-from_get_or, Contains-append_left, Contains-push}
use Rattle.std.proofs.lemmas.List.Folds.{Any-from_list_any}
use Rattle.std.proofs.lemmas.List.Sorted.{sorted_far, ranks_by, All-permutation, Contains-permutation, IsPermutation-map}
use Rattle.std.proofs.lemmas.Map.Keys.{apart_from_distinct}
use Rattle.std.proofs.lemmas.Map.Views.{tells_apart}
use Rattle.indexmap.specs.IndexSet.{insert_key}
use Rattle.plain_tables.specs.declared.value.Value.{Value}
use Rattle.part_raw.specs.declared.tuple_ref.TupleRef.{TupleRef}
use Rattle.mm_relation.specs.State.{RelationState}
use Rattle.temp_list.specs.Lists.{ListState}
use Rattle.project_hash.specs.Alike.{values_cmp-exact}
use Rattle.project_hash.specs.Distinct.{shown_values, values_cmp_total, AreRising}
use Rattle.project_hash.specs.Shown.{ShownState, IsShown, ShowsOnce, alike, rows_cmp, state_at, values_of}

-- what holds of the rows and of one more holds after it is put in
pub inserted_all : (P : ShownState → Type 0) (rows : List ShownState) (row : ShownState) → All P rows → P row → All P (insert_key alike rows row)
inserted_all P rows row all one =
    elim (list_any (alike row) rows) as (λ b. All P (cond b rows (rows ++ row ∷ []))) [ true ↦ all | false ↦ All-push P rows row all one ]

-- the values of the rows are there after one more is put in
pub inserted_keeps : (rows : List ShownState) (row : ShownState) (values : List Value) → Contains (values_of rows) values → Contains (values_of (insert_key alike rows row)) values
inserted_keeps rows row values there =
    elim (list_any (alike row) rows) as (λ b. Contains (values_of (cond b rows (rows ++ row ∷ []))) values) [
      | true ↦ there
      | false ↦ rw map-append (Contains-append_left (values_of rows) (row.values ∷ []) values there)
    ]

-- the values of a row that is alike to one of the rows are there
alike_there : (rows : List ShownState) (row : ShownState) → Any (λ x. alike row x ≡ true) rows → Contains (values_of rows) row.values
alike_there rows row (k, x, within, at, same) =
    let values : List Value = (get_or rows k row).values in
    let tied : alike row (get_or rows k row) ≡ true = subst (λ (q : ShownState). alike row q ≡ true) (sym at ∙ get_or_default rows k x row within) same in
    (k, rw length-map within, get_or-map (λ (r : ShownState). r.values) rows k row row.values within ∙ sym (tells_apart values_cmp-exact row.values values tied))

-- and so are those of that one
pub inserted_there : (rows : List ShownState) (row : ShownState) → Contains (values_of (insert_key alike rows row)) row.values
inserted_there rows row =
    elim (list_any (alike row) rows) as (λ b. list_any (alike row) rows ≡ b → Contains (values_of (cond b rows (rows ++ row ∷ []))) row.values) [
      | true ↦ λ e. alike_there rows row (Any-from_list_any (alike row) rows e)
      | false ↦ λ e. rw map-append (Contains-push (values_of rows) row.values)
    ] refl

-- what stands before in an order, and is not equal, is less
before : (o p : Ordering) → p ≡ ordering_reverse o → is_lt p ≡ false → is_eq o ≡ false → o ≡ Less
before Less p e below apart = refl
before Equal p e below apart = cc
before Greater p e below apart = let f : is_lt p ≡ true = ap is_lt e in cc

-- rows in order, of which no two are alike, rise
sorted_rise : (rows : List ShownState) → IsSorted rows_cmp rows → IsDistinct alike rows → AreRising (values_of rows)
sorted_rise rows sorted apart i j d below within =
    let e : ShownState = record { references = []; values = d } in
    let inside : j < length rows = omega (arith, length-map rows (λ (r : ShownState). r.values)) in
    let x : ShownState = get_or rows i e in
    let y : ShownState = get_or rows j e in
    let far : is_lt (rows_cmp y x) ≡ false = sorted_far (λ a b. is_lt (rows_cmp a b)) (ranks_by values_cmp_total (λ (r : ShownState). r.values)) rows sorted i j e (omega arith) inside in
    let differ : alike x y ≡ false = apart_from_distinct alike rows i j e apart below inside in
    let less : rows_cmp x y ≡ Less = before (rows_cmp x y) (rows_cmp y x) (values_cmp_total.antisymm y.values x.values) far differ in
    rw (get_or-map (λ (r : ShownState). r.values) rows i e d (omega arith), get_or-map (λ (r : ShownState). r.values) rows j e d inside) less

-- rows of a list among which is what each row shows, sorted, and no two alike
pub shows_once : (relations : List RelationState) (list : ListState) (rows sorted : List ShownState) → All (IsShown relations list) rows
    → ((k : ℕ) → k < length list.rows → Contains (values_of rows) (state_at relations list k).values)
    → IsPermutation rows sorted → IsSorted rows_cmp sorted → IsDistinct alike sorted → ShowsOnce relations list sorted
shows_once relations list rows sorted some all moved rising apart = record {
  some = All-permutation (IsShown relations list) rows sorted moved some;
  rising = sorted_rise sorted rising apart;
  all = All-map (Contains (values_of sorted)) (shown_values relations list) list.rows
      (All-from_get_or (λ (row : List TupleRef). Contains (values_of sorted) (shown_values relations list row)) list.rows []
      (λ k within. Contains-permutation (values_of rows) (values_of sorted) (state_at relations list k).values (IsPermutation-map (λ (r : ShownState). r.values) rows sorted moved) (all k within)));
}
