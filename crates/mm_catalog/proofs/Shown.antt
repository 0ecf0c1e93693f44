-- The rows that a relation shows, where one comes in or goes out.
use Rattle.std.proofs.Common.{◌≡◌, ℕ, zero, suc, ◌<◌, Bool, List, [], ◌∷◌, ◌++◌, Some, refl, sym, ap, ◌∙◌, arith, length, map, filter, get_or}
use Rattle.std.specs.List.{All}
use Rattle.std.specs.Option.{option_cmp, option_and_then, option_map_or}
use Rattle.std.specs.Ordering.{is_lt, is_gt, ordering_reverse}
use Rattle.std.specs.declared.cmp.Ordering.{Ordering}
use Rattle.std.specs.declared.cmp.Ordering.TheVariants.{Less}
use Rattle.std.specs.FinMap.{get, insert}
use Rattle.std.proofs.lemmas.List.{map-append}
use Rattle.std.proofs.lemmas.List.Elements.{All-contains_itself, All-filter}
use Rattle.common_lemmas.proofs.Orders.{then-Equal}
use Rattle.common_lemmas.proofs.Filters.{filter-map, filter_agree_on}
use Rattle.part_raw.proofs.Tuples.{get-insert_same, held_tuple}
use Rattle.part_raw.specs.declared.tuple_ref.TupleRef.{TupleRef}
use Rattle.mm_index.specs.Order.{insert_placed}
use Rattle.plain_tables.specs.Tables.{key_cmp, with_row}
use Rattle.plain_tables.specs.Values.{value_cmp}
use Rattle.plain_tables.specs.declared.value.Value.{Value}
use Rattle.plain_tables.proofs.Rows.{key_cmp_total}
use Rattle.mm_relation.specs.Rows.{Row}
use Rattle.mm_relation.specs.Changes.{IsInserted}
use Rattle.mm_relation.specs.Reading.{Keys}
use Rattle.mm_relation.specs.State.{tree_list, RelationState, IsKept, HasKey}
use Rattle.mm_relation.proofs.KeyOrder.{same_elsewhere}
use Rattle.mm_catalog.specs.Seen.{row_values, values_of, rows_of}
use Rattle.mm_catalog.proofs.Keyed.{place_beside, keys_inserted}
use Rattle.mm_catalog.proofs.Kept.{row_more}
use Rattle.mm_catalog.proofs.Lists.{map_agree_on}

-- what is made of the elements that pass is what passes of what is made of them
map_filter : {A B : Type 0} (f g : A → B) (p : A → Bool) (test : B → Bool) (xs : List A) → All (λ x. f x ≡ g x) xs → All (λ x. p x ≡ test (g x)) xs → map f (filter p xs) ≡ filter test (map g xs)
map_filter f g p test xs same told =
    map_agree_on f g (filter p xs) (All-filter p (λ x. f x ≡ g x) xs same)
    ∙ ap (map g) (filter_agree_on p (λ x. test (g x)) xs told) ∙ sym (filter-map test g xs)

turned : (o : Ordering) → is_gt o ≡ is_lt (ordering_reverse o)
turned Less = refl
turned o = refl

-- rows are ordered by their keys
pub compared : (keys : Keys) (width : ℕ) (t u : Row) → 0 < width → key_cmp (row_values keys width t) (row_values keys width u) ≡ value_cmp t.key u.key
unfolding row_values
compared keys zero t u some = absurd (omega arith)
compared keys (suc width) t u some = then-Equal (value_cmp t.key u.key)

module _ (old new : RelationState) (kept : IsKept old) (now : IsKept new) (r : TupleRef) (row : Row) (inserted : IsInserted old new r row) (absent : HasKey old.rows row.key → ⊥) (keys : Keys) (some : 0 < length old.schema.columns) where
  abbrev width : ℕ
  width = length old.schema.columns

  abbrev before : TupleRef → List Value
  before = values_of keys width old.rows

  abbrev after : TupleRef → List Value
  after = values_of keys width new.rows

  there : (k : ℕ) (d : TupleRef) → k < length (tree_list old.by_key) → get (insert old.rows r row) (get_or (tree_list old.by_key) k d) ≡ get old.rows (get_or (tree_list old.by_key) k d)
  there k d l = same_elsewhere old.rows (tree_list old.by_key) r row kept.keyed inserted.free (get_or (tree_list old.by_key) k d) (All-contains_itself (tree_list old.by_key) k d l)

  same_values : All (λ q. after q ≡ before q) (tree_list old.by_key)
  unfolding values_of
  same_values = λ k d l.
      ap (λ o. option_map_or (row_values keys width) o []) (ap (λ rows. get rows (get_or (tree_list old.by_key) k d)) inserted.rows ∙ there k d l)

  row_after : after r ≡ row_values keys width row
  unfolding values_of
  row_after = ap (λ o. option_map_or (row_values keys width) o []) (ap (λ rows. get rows r) inserted.rows ∙ get-insert_same old.rows r row)

  -- a row's place beside the new one is the order of the two
  placed : (k : ℕ) (d : TupleRef) → k < length (tree_list old.by_key) → place_beside old.rows r row (get_or (tree_list old.by_key) k d) ≡ key_cmp (before (get_or (tree_list old.by_key) k d)) (row_values keys width row)
  unfolding values_of
  placed k d l =
      let q = get_or (tree_list old.by_key) k d in
      let found = held_tuple old.rows q (kept.keyed.lists.held k d l) in
      ap (λ o. option_cmp value_cmp (option_and_then (λ (t : Row). Some t.key) o) (Some row.key)) (there k d l ∙ found.1)
      ∙ sym (compared keys width found.0 row some)
      ∙ ap (λ o. key_cmp (option_map_or (row_values keys width) o []) (row_values keys width row)) (sym found.1)

  -- the rows are those before, with this one at its place
  pub rows_inserted : rows_of keys (record new { schema = old.schema }) ≡ with_row (row_values keys width row) (rows_of keys old)
  unfolding rows_of insert_placed
  rows_inserted =
      ap (map after) (keys_inserted old new kept now r row (row_more old new r row inserted) absent)
      ∙ map-append after (filter (λ q. is_lt (place_beside old.rows r row q)) (tree_list old.by_key)) (r ∷ filter (λ q. is_gt (place_beside old.rows r row q)) (tree_list old.by_key))
      ∙ ap (λ ys. ys ++ after r ∷ map after (filter (λ q. is_gt (place_beside old.rows r row q)) (tree_list old.by_key)))
      (map_filter after before (λ q. is_lt (place_beside old.rows r row q)) (λ s. is_lt (key_cmp s (row_values keys width row))) (tree_list old.by_key) same_values
      (λ k d l. ap is_lt (placed k d l)))
      ∙ ap (λ v. filter (λ s. is_lt (key_cmp s (row_values keys width row))) (map before (tree_list old.by_key)) ++ v ∷ map after (filter (λ q. is_gt (place_beside old.rows r row q)) (tree_list old.by_key))) row_after
      ∙ ap (λ ys. filter (λ s. is_lt (key_cmp s (row_values keys width row))) (map before (tree_list old.by_key)) ++ row_values keys width row ∷ ys)
      (map_filter after before (λ q. is_gt (place_beside old.rows r row q)) (λ s. is_lt (key_cmp (row_values keys width row) s)) (tree_list old.by_key) same_values
      (λ k d l. ap is_gt (placed k d l) ∙ turned (key_cmp (before (get_or (tree_list old.by_key) k d)) (row_values keys width row))
      ∙ ap is_lt (sym (key_cmp_total.antisymm (row_values keys width row) (before (get_or (tree_list old.by_key) k d))))))
