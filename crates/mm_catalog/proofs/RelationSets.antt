-- A relation in some of whose rows cells are set: the order of its keys, its links, and what it shows.
use Rattle.std.proofs.Common.{◌≡◌, ◌≢◌, ℕ, ◌+◌, ◌-◌, ◌*◌, ◌≤◌, Bool, true, false, cond, List, [], Option, Some, None, IsSome, IsTrue, is_some, refl, sym, ap, ◌∙◌, subst, arith, length, map, inl, inr, get_or}
use Rattle.std.specs.List.{All, AllPairs, Contains, count_by, slice_get, sum_by}
use Rattle.std.specs.Option.{option_and_then, option_cmp, option_map, option_map_or}
use Rattle.std.specs.Ordering.{then_cmp, on}
use Rattle.std.specs.FinMap.{get}
use Rattle.std.specs.declared.cmp.Ordering.TheVariants.{Less}
use Rattle.std.proofs.lemmas.Bool.{cases_lt}
use Rattle.std.proofs.lemmas.List.Elements.{All-contains}
use Rattle.std.proofs.lemmas.Simd.{map-map}
use Rattle.std.proofs.lemmas.Option.{same_Some}
use Rattle.common_lemmas.proofs.Counts.{count_by-flat_map}
use Rattle.part_raw.proofs.Tuples.{held_tuple}
use Rattle.part_raw.specs.declared.tuple_ref.TupleRef.{TupleRef}
use Rattle.plain_tables.specs.Doing.{assigned}
use Rattle.plain_tables.specs.Tables as plain
use Rattle.plain_tables.specs.Values.{value_cmp}
use Rattle.plain_tables.specs.declared.resolved.Assignment.{Assignment}
use Rattle.plain_tables.specs.declared.value.Value.{Value}
use Rattle.mm_relation.proofs.Setting.{column_there, with_cells-key}
use Rattle.mm_relation.specs.Changes.{IsChanged}
use Rattle.mm_relation.specs.Order.{column_cmp, column_cmp_total}
use Rattle.mm_relation.specs.Reading.{Keys, cell_value, key_at, row_value, value_at}
use Rattle.mm_relation.specs.Settings.{with_cells}
use Rattle.mm_relation.specs.State.{tree_list, RelationState, IsCurrent, IsKept, no_keys}
use Rattle.mm_relation.specs.Rows.{Row}
use Rattle.mm_catalog.specs.Assigned.{CellSet, links_at, row_links_at, set_links}
use Rattle.mm_catalog.specs.Cells.{IsLinkOrNull}
use Rattle.mm_catalog.specs.Linked.{HasLinksOrNulls, Linked, relation_links, row_links, target_at}
use Rattle.mm_catalog.specs.Seen.{row_values, rows_of, values_of}
use Rattle.mm_catalog.proofs.Rising.{rising_same}
use Rattle.mm_catalog.proofs.RowSets.{AreApart, row_linked, row_links_set, values_set}
use Rattle.mm_catalog.proofs.SumsApart.{sum_changed, sum_shifted}
use Rattle.mm_catalog.proofs.Lists.{map_agree_on}
use Rattle.mm_relation.proofs.Listings.{rising_apart}
use Rattle.mm_relation.proofs.Setting.{among_or_not}

-- a row that can be read has a cell for each column behind the key
pub row_wide : (keys : Keys) (s : RelationState) → IsCurrent keys s → (r : TupleRef) (row : Row) → get s.rows r ≡ Some row → length s.targets ≤ length row.cells + 1
row_wide keys s current r row at = elim (cases_lt 1 (length s.targets)) [
  | inl some ↦
      let column = length s.targets - 1 in
      let read : IsSome (value_at keys column s.rows r) =
      subst (λ o. IsSome (option_and_then (row_value keys column) o)) (sym at) (current.readable r row at column (omega arith)) in
      let within = column_there keys s.rows r row at column (omega (arith, some)) read in
      omega (arith, within, some)
  | inr few ↦ omega (arith, few)
]

module _ (b a : RelationState) (rs : List TupleRef) (sets : List CellSet) (changed : IsChanged b a rs sets) where
  key_set : (o : Option Row) → option_and_then (λ (t : Row). Some t.key) (option_map (with_cells sets) o) ≡ option_and_then (λ (t : Row). Some t.key) o
  key_set None = refl
  key_set (Some t) = ap (λ k. Some k) (with_cells-key sets t)

  -- each row has the key that it had
  pub keys_set : (r : TupleRef) → key_at a.rows r ≡ key_at b.rows r
  keys_set r = elim (among_or_not rs r) [
    | inl h ↦ ap (option_and_then (λ (t : Row). Some t.key)) (changed.rows.changed r h) ∙ key_set (get b.rows r)
    | inr never ↦ ap (option_and_then (λ (t : Row). Some t.key)) (changed.rows.others r never)
  ]

  held_set : (o : Option Row) → is_some (option_map (with_cells sets) o) ≡ is_some o
  held_set None = refl
  held_set (Some t) = refl

  -- the same rows are held
  pub held_same : (r : TupleRef) → is_some (get a.rows r) ≡ is_some (get b.rows r)
  held_same r = elim (among_or_not rs r) [
    | inl h ↦ ap is_some (changed.rows.changed r h) ∙ held_set (get b.rows r)
    | inr never ↦ ap is_some (changed.rows.others r never)
  ]

  module _ (was : IsKept b) (now : IsKept a) where
    -- they stand in the same order
    pub by_key_set : (tree_list a.by_key) ≡ (tree_list b.by_key)
    by_key_set =
        let keys : key_at b.rows ≡ key_at a.rows = λ i r. sym (keys_set r) i in
        rising_same (column_cmp no_keys 0 a.rows) (column_cmp_total no_keys 0 a.rows) (tree_list a.by_key) (tree_list b.by_key) now.keyed.rising
        (subst (λ (key : TupleRef → Option Value). AllPairs (λ p q. then_cmp (on key (option_cmp value_cmp)) (on key (option_cmp value_cmp)) p q ≡ Less) (tree_list b.by_key)) keys was.keyed.rising)
        (λ q h. was.keyed.lists.listed q (sym (held_same q) ∙ All-contains (λ r. IsSome (get a.rows r)) (tree_list a.by_key) q now.keyed.lists.held h))
        (λ q h. now.keyed.lists.listed q (held_same q ∙ All-contains (λ r. IsSome (get b.rows r)) (tree_list b.by_key) q was.keyed.lists.held h))

    module _ (held : All (λ r. IsSome (get b.rows r)) rs) (once : AllPairs (λ q r. q ≢ r) rs) (apart : AreApart (length b.targets) sets) (wide : (r : TupleRef) (row : Row) → get b.rows r ≡ Some row → length b.targets ≤ length row.cells + 1) where
      held_at : (r : TupleRef) → Contains rs r → (row : Row) × (get b.rows r ≡ Some row)
      held_at r h = held_tuple b.rows r (All-contains (λ q. IsSome (get b.rows q)) rs r held h)

      set_at : (r : TupleRef) (row : Row) → Contains rs r → get b.rows r ≡ Some row → get a.rows r ≡ Some (with_cells sets row)
      set_at r row h at = changed.rows.changed r h ∙ ap (option_map (with_cells sets)) at

      -- ---- the links

      module _ (test : Linked → Bool) where
        abbrev before : TupleRef → ℕ
        before r = count_by test (option_map_or (row_links b.targets) (get b.rows r) [])

        abbrev after : TupleRef → ℕ
        after r = count_by test (option_map_or (row_links b.targets) (get a.rows r) [])

        abbrev gone : TupleRef → ℕ
        gone r = count_by test (option_map_or (row_links_at b.targets sets) (get b.rows r) [])

        links_shifted : (r : TupleRef) → Contains rs r → after r + gone r ≡ before r + count_by test (set_links b.targets sets)
        links_shifted r h =
            let row = held_at r h in
            let one = row_links_set test b.targets sets row.0 apart (wide r row.0 row.1) in
            let had : before r ≡ count_by test (row_links b.targets row.0) = ap (λ o. count_by test (option_map_or (row_links b.targets) o [])) row.1 in
            let has : after r ≡ count_by test (row_links b.targets (with_cells sets row.0)) = ap (λ o. count_by test (option_map_or (row_links b.targets) o [])) (set_at r row.0 h row.1) in
            let lost : gone r ≡ count_by test (row_links_at b.targets sets row.0) = ap (λ o. count_by test (option_map_or (row_links_at b.targets sets) o [])) row.1 in
            omega (arith, one, had, has, lost)

        -- the links of the cells come, and those that were there go
        pub links_set : count_by test (relation_links a) + count_by test (links_at b sets rs) ≡ count_by test (relation_links b) + length rs * count_by test (set_links b.targets sets)
        unfolding relation_links links_at
        links_set =
            let listed : count_by test (relation_links a) ≡ sum_by after (tree_list b.by_key) =
            count_by-flat_map test (λ r. option_map_or (row_links a.targets) (get a.rows r) []) (tree_list a.by_key)
            ∙ (λ i. sum_by (λ r. count_by test (option_map_or (row_links (changed.keeps.targets i)) (get a.rows r) [])) (by_key_set i)) in
            let was_listed : count_by test (relation_links b) ≡ sum_by before (tree_list b.by_key) =
            count_by-flat_map test (λ r. option_map_or (row_links b.targets) (get b.rows r) []) (tree_list b.by_key) in
            let lost : count_by test (links_at b sets rs) ≡ sum_by gone rs =
            count_by-flat_map test (λ r. option_map_or (row_links_at b.targets sets) (get b.rows r) []) rs in
            let whole = sum_changed before after (tree_list b.by_key) rs
            (rising_apart (column_cmp no_keys 0 b.rows) (column_cmp_total no_keys 0 b.rows) (tree_list b.by_key) was.keyed.rising) once
            (λ r h. was.keyed.lists.listed r (All-contains (λ q. IsSome (get b.rows q)) rs r held h))
            (λ r never. ap (λ o. count_by test (option_map_or (row_links b.targets) o [])) (changed.rows.others r never)) in
            let shifted = sum_shifted before after gone (count_by test (set_links b.targets sets)) rs links_shifted in
            omega (arith, listed, was_listed, lost, whole, shifted)

      -- a row has links or nulls still
      pub linked_set : All (λ s. IsLinkOrNull (target_at b.targets s.0.0) s.1) sets → ((r : TupleRef) (row : Row) → get b.rows r ≡ Some row → HasLinksOrNulls b.targets row) → (r : TupleRef) (row : Row) → get a.rows r ≡ Some row → HasLinksOrNulls a.targets row
      linked_set linked before r row at =
          subst (λ targets. HasLinksOrNulls targets row) (sym changed.keeps.targets)
          (elim (among_or_not rs r) [
            | inl h ↦
                let old = held_at r h in
                subst (HasLinksOrNulls b.targets) (same_Some (with_cells sets old.0) row (sym (set_at r old.0 h old.1) ∙ at))
                (row_linked b.targets sets old.0 apart (wide r old.0 old.1) linked (before r old.0 old.1))
            | inr never ↦ before r row (sym (changed.rows.others r never) ∙ at)
          ])

      -- ---- what it shows

      module _ (keys : Keys) (width : length b.targets ≡ length b.schema.columns) (assignments : List Assignment) (few : length sets ≡ length assignments) (each : (k : ℕ) (x : Assignment) (s : CellSet) → slice_get assignments k ≡ Some x → slice_get sets k ≡ Some s → (s.0 ≡ x.column) × (cell_value keys s.0.0 s.1 ≡ Some x.value)) (picks : plain.Row → Bool) where
        abbrev shown : TupleRef → plain.Row
        shown r = values_of keys (length b.schema.columns) b.rows r

        abbrev assigned_if : plain.Row → plain.Row
        assigned_if row = cond (picks row) (assigned assignments row) row

        shown_at : (r : TupleRef) (row : Row) → get b.rows r ≡ Some row → shown r ≡ row_values keys (length b.schema.columns) row
        unfolding values_of
        shown_at r row at = ap (λ o. option_map_or (row_values keys (length b.schema.columns)) o []) at

        shown_after : (r : TupleRef) (row : Row) → get a.rows r ≡ Some row → values_of keys (length b.schema.columns) a.rows r ≡ row_values keys (length b.schema.columns) row
        unfolding values_of
        shown_after r row at = ap (λ o. option_map_or (row_values keys (length b.schema.columns)) o []) at

        picked_shows : (r : TupleRef) → Contains rs r → IsTrue (picks (shown r)) → values_of keys (length b.schema.columns) a.rows r ≡ assigned_if (shown r)
        picked_shows r h picked =
            let row = held_at r h in
            shown_after r (with_cells sets row.0) (set_at r row.0 h row.1)
            ∙ values_set keys (length b.schema.columns) assignments sets row.0 few (subst (λ n. AreApart n sets) width apart) (subst (λ n. n ≤ length row.0.cells + 1) width (wide r row.0 row.1)) each
            ∙ ap (assigned assignments) (sym (shown_at r row.0 row.1))
            ∙ ap (λ x. cond x (assigned assignments (shown r)) (shown r)) (sym picked)

        others_show : (r : TupleRef) → (Contains rs r → ⊥) → (IsTrue (picks (shown r)) → Contains rs r) → values_of keys (length b.schema.columns) a.rows r ≡ assigned_if (shown r)
        unfolding values_of
        others_show r never only =
            ap (λ o. option_map_or (row_values keys (length b.schema.columns)) o []) (changed.rows.others r never)
            ∙ elim (picks (shown r)) as (λ x. picks (shown r) ≡ x → shown r ≡ cond x (assigned assignments (shown r)) (shown r)) [
              | true ↦ λ e. absurd (never (only e))
              | false ↦ λ e. refl
            ] refl

        -- it shows the values that are assigned in the rows that are picked
        pub rows_set : ((r : TupleRef) → IsSome (get b.rows r) → (Contains rs r → IsTrue (picks (shown r))) × (IsTrue (picks (shown r)) → Contains rs r)) → rows_of keys a ≡ map assigned_if (rows_of keys b)
        unfolding rows_of
        rows_set told =
            (λ i. map (values_of keys (length (changed.keeps.schema i).columns) a.rows) (by_key_set i))
            ∙ map_agree_on (values_of keys (length b.schema.columns) a.rows) (λ r. assigned_if (shown r)) (tree_list b.by_key)
            (λ k d l.
            let r = get_or (tree_list b.by_key) k d in
            let there = told r (was.keyed.lists.held k d l) in
            elim (among_or_not rs r) [
              | inl among ↦ picked_shows r among (there.0 among)
              | inr never ↦ others_show r never there.1
            ])
            ∙ sym (map-map assigned_if shown (tree_list b.by_key))
