-- The cells of a row, and what the row shows, links and holds by them.
use Rattle.std.proofs.Common.{◌≡◌, ◌≢◌, ℕ, zero, suc, ◌+◌, ◌-◌, ◌<◌, cond, List, ◌∷◌, Option, Some, None, IsSome, is_some, refl, sym, ap, ◌∙◌, subst, arith, length, map, inl, inr}
use Rattle.std.specs.List.{All, slice_get, range_with_len}
use Rattle.std.specs.Option.{option_and_then, option_map}
use Rattle.std.specs.FinMap.{get}
use Rattle.std.proofs.lemmas.Bool.{cases_eq, cases_lt, ne_eqb}
use Rattle.std.proofs.lemmas.List.{length-map}
use Rattle.std.proofs.lemmas.List.FromFn.{length-range_with_len}
use Rattle.std.proofs.lemmas.Option.{none-some, same_Some, slice_get_within, slice_get_past, slice_get-map}
use Rattle.common_lemmas.proofs.Places.{slice_get-inside}
use Rattle.part_raw.specs.declared.tuple_ref.TupleRef.{TupleRef}
use Rattle.plain_tables.specs.declared.value.Value.{Value}
use Rattle.plain_tables.specs.declared.value.Value.TheVariants.{Null}
use Rattle.mm_relation.specs.Rows.{Row}
use Rattle.mm_relation.specs.declared.row.Cell.{Cell}
use Rattle.mm_relation.specs.declared.row.Cell.TheVariants.{Held, Link}
use Rattle.mm_relation.specs.Changes.{new_row}
use Rattle.mm_relation.specs.Reading.{Keys, cell_value, row_value, key_at, link_of, link_in}
use Rattle.mm_relation.specs.State.{RelationState, IsReadable, linked_keys}
use Rattle.mm_catalog.specs.Seen.{or_null, row_values}
use Rattle.mm_catalog.specs.Linked.{target_at, link_at, row_links, HasLinksOrNulls}
use Rattle.mm_catalog.specs.Counted.{IsHeldIn, LeadIntoCounted}
use Rattle.mm_catalog.specs.Cells.{target_in, read_in, IsCellOf, NamesNone, AreCellsOf}
use Rattle.mm_catalog.proofs.Lists.{same_by_get}
use Rattle.mm_catalog.proofs.RowLinks.{All-filter_map, link_parts}

-- ---- the cell of a value

pub linked_cell : (relations : List RelationState) (target : Option ℕ) (value : Value) (table : ℕ) (s : RelationState) (to : TupleRef) → target ≡ Some table → slice_get relations table ≡ Some s → key_at s.rows to ≡ Some value → IsCellOf relations target value (Link to)
linked_cell relations target value table s to leads there named = record {
  read =
      ap (λ o. read_in relations o (Link to)) leads ∙ ap (option_and_then (λ (t : RelationState). key_at t.rows to)) there ∙ named;
  linked = λ v _ e. cc;
}

pub names_none : (relations : List RelationState) (target : Option ℕ) (value : Value) (table : ℕ) (s : RelationState) → target ≡ Some table → slice_get relations table ≡ Some s → value ≢ Null → ((r : TupleRef) → key_at s.rows r ≢ Some value) → NamesNone relations target value
names_none relations target value table s leads there some absent = record {
  some = some;
  relation = s;
  there = ap (target_in relations) leads ∙ there;
  absent = λ h. absent h.0 h.1;
}

-- ---- a row of cells

pub row_value-behind : (keys : Keys) (column : ℕ) (t : Row) → 0 < column → row_value keys column t ≡ option_and_then (cell_value keys column) (slice_get t.cells (column - 1))
row_value-behind keys column t behind =
    ap (λ b. cond b (Some t.key) (option_and_then (cell_value keys column) (slice_get t.cells (column - 1)))) (ne_eqb column 0 (λ e. absurd (omega (arith, e, behind))))

link_in-behind : (column : ℕ) (t : Row) → 0 < column → link_in column t ≡ option_and_then link_of (slice_get t.cells (column - 1))
link_in-behind column t behind =
    ap (λ b. cond b None (option_and_then link_of (slice_get t.cells (column - 1)))) (ne_eqb column 0 (λ e. absurd (omega (arith, e, behind))))

-- what a cell reads as is its value under the keys that links lead to
pub read_value : (relations : List RelationState) (targets : List (Option ℕ)) (column : ℕ) (cell : Cell) → cell_value (linked_keys targets relations) column cell ≡ read_in relations (target_at targets column) cell
read_value relations targets column (Held value) = refl
read_value relations targets column (Link to) = refl

module _ (relations : List RelationState) (targets : List (Option ℕ)) (key : Value) (values : List Value) (cells : List Cell) (are : AreCellsOf relations targets values cells) (wide : length targets ≡ length values + 1) where
  abbrev keys : Keys
  keys = linked_keys targets relations

  abbrev row : Row
  row = new_row key cells

  -- the cell of a column behind the key
  cell_at : (column : ℕ) (value : Value) → 0 < column → slice_get values (column - 1) ≡ Some value → (cell : Cell) × (slice_get cells (column - 1) ≡ Some cell) × IsCellOf relations (target_at targets column) value cell
  cell_at column value behind at =
      let cell = slice_get-inside cells (column - 1) (omega (arith, are.count, slice_get_within values (column - 1) value at)) in
      let there : (column - 1) + 1 ≡ column = omega (arith, behind) in
      (cell.0, cell.1, subst (λ n. IsCellOf relations (target_at targets n) value cell.0) there (are.each (column - 1) value cell.0 at cell.1))

  read_at : (column : ℕ) (value : Value) → 0 < column → slice_get values (column - 1) ≡ Some value → row_value keys column row ≡ Some value
  read_at column value behind at =
      let cell = cell_at column value behind at in
      row_value-behind keys column row behind ∙ ap (option_and_then (cell_value keys column)) cell.1 ∙ read_value relations targets column cell.0 ∙ cell.2.read

  shown_at : (column : ℕ) (value : Value) → slice_get (key ∷ values) column ≡ Some value → row_value keys column row ≡ Some value
  shown_at zero value at = at
  shown_at (suc column) value at =
      read_at (suc column) value (omega arith) (ap (slice_get values) (omega arith) ∙ at)

  pub cells_readable : IsReadable keys (length targets) row
  cells_readable column within =
      let value = slice_get-inside (key ∷ values) column (omega (arith, within, wide)) in
      ap is_some (shown_at column value.0 value.1)

  pub cells_shown : row_values keys (length targets) row ≡ key ∷ values
  unfolding row_values
  cells_shown =
      same_by_get (map shown (range_with_len 0 (length targets))) (key ∷ values) (λ i. elim (cases_lt i (length targets)) [
        | inl below ↦
            let value = slice_get-inside (key ∷ values) i (omega (arith, below, wide)) in
            slice_get-map shown (range_with_len 0 (length targets)) i ∙ ap (option_map shown) (range_at 0 (length targets) i i below (omega arith))
            ∙ ap (λ o. Some (or_null o)) (shown_at i value.0 value.1) ∙ sym value.1
        | inr above ↦
            slice_get_past (map shown (range_with_len 0 (length targets))) i (omega (arith, above, length-map (range_with_len 0 (length targets)) shown, length-range_with_len 0 (length targets)))
            ∙ sym (slice_get_past (key ∷ values) i (omega (arith, above, wide)))
      ])
    where
      shown : ℕ → Value
      shown = λ column. or_null (row_value keys column row)

      range_at : (a n i k : ℕ) → i < n → a + i ≡ k → slice_get (range_with_len a n) i ≡ Some k
      range_at a zero i k h e = absurd (omega arith)
      range_at a (suc n) zero k h e = ap (λ m. Some m) (omega (arith, e))
      range_at a (suc n) (suc i) k h e = range_at (a + 1) n i k (omega arith) (omega (arith, e))

  -- a column of the row
  value_behind : (column : ℕ) (cell : Cell) → slice_get cells (column - 1) ≡ Some cell → (value : Value) × (slice_get values (column - 1) ≡ Some value)
  value_behind column cell at = slice_get-inside values (column - 1) (omega (arith, are.count, slice_get_within cells (column - 1) cell at))

  pub cells_linked : HasLinksOrNulls targets row
  cells_linked column value behind leads at =
      let v = value_behind column (Held value) at in
      let cell = cell_at column v.0 behind v.1 in
      let same : cell.0 ≡ Held value = same_Some cell.0 (Held value) (sym cell.1 ∙ at) in
      cell.2.linked value leads same

  held_link : LeadIntoCounted relations targets → (column table : ℕ) (to : TupleRef) → target_at targets column ≡ Some table → link_in column row ≡ Some to → IsHeldIn relations (table, to)
  held_link counted column table to leads links =
      elim (cases_eq column 0) [
        | inl first ↦ absurd (none-some to (ap (λ n. link_in n row) (sym first) ∙ links))
        | inr other ↦
            let behind : 0 < column = omega (arith, other) in
            let cell = linked_cell (slice_get cells (column - 1)) refl (sym (link_in-behind column row behind) ∙ links) in
            let v = value_behind column (Link to) cell in
            let there = cell_at column v.0 behind v.1 in
            let same : there.0 ≡ Link to = same_Some there.0 (Link to) (sym there.1 ∙ cell) in
            let read : read_in relations (target_at targets column) (Link to) ≡ Some v.0 = ap (read_in relations (target_at targets column)) (sym same) ∙ there.2.read in
            held_by (slice_get relations table) refl v.0 (ap (λ o. read_in relations o (Link to)) (sym leads) ∙ read)
      ]
    where
      linked_cell : (o : Option Cell) → slice_get cells (column - 1) ≡ o → option_and_then link_of o ≡ Some to → slice_get cells (column - 1) ≡ Some (Link to)
      linked_cell None e f = absurd (none-some to f)
      linked_cell (Some (Held value)) e f = absurd (none-some to f)
      linked_cell (Some (Link q)) e f = e ∙ ap (λ r. Some (Link r)) (same_Some q to f)

      held_row : (o : Option Row) (v : Value) → option_and_then (λ (t : Row). Some t.key) o ≡ Some v → IsSome o
      held_row None v e = absurd (none-some v e)
      held_row (Some t) v e = refl

      held_by : (o : Option RelationState) → slice_get relations table ≡ o → (v : Value) → option_and_then (λ s. key_at s.rows to) o ≡ Some v → IsHeldIn relations (table, to)
      held_by None e v f = absurd (none-some v f)
      held_by (Some s) e v f = (s, e, held_row (get s.rows to) v f, counted column table s leads e)

  -- the rows that its links name are there
  pub cells_held : LeadIntoCounted relations targets → All (IsHeldIn relations) (row_links targets row)
  unfolding row_links
  cells_held counted =
      All-filter_map (IsHeldIn relations) (link_at targets row) (range_with_len 0 (length targets))
      (λ column link _ e. let parts = link_parts targets row column link e in held_link counted column link.0 link.1 parts.0 parts.1)
