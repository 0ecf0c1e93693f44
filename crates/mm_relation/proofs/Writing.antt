-- Cells that are written into one row, one after another.
use Rattle.std.proofs.Common.{◌≡◌, ◌∷◌, ◌-◌, ◌≤◌, ◌<◌, ◌∙◌, suc, List, Some, IsSome, is_some, ap, sym, subst, length, arith}
use Rattle.std.specs.Prelude.{slice_set}
use Rattle.std.specs.List.{All}
use Rattle.std.specs.FinMap.{get, insert}
use Rattle.std.proofs.lemmas.List.{length-set, nil_from_length}
use Rattle.std.proofs.lemmas.Option.{same_Some}
use Rattle.part_raw.specs.declared.tuple_ref.TupleRef.{TupleRef}
use Rattle.part_raw.specs.Store.{Tuples}
use Rattle.part_raw.proofs.Tuples.{get-insert_same, held_tuple, insert-twice, insert-itself}
use Rattle.plain_tables.specs.declared.numbers.ColumnNumber.{ColumnNumber}
use Rattle.mm_relation.specs.declared.row.Cell.{Cell}
use Rattle.mm_relation.specs.Rows.{Row}
use Rattle.mm_relation.specs.Settings.{with_cells}

-- the row has a cell in each of these columns
abbrev pub HasColumns : Tuples Row → TupleRef → List (ColumnNumber × Cell) → Type 0
HasColumns rows r sets = (row : Row) → get rows r ≡ Some row → All (λ s. (0 < s.0.0) × (s.0.0 ≤ length row.cells)) sets

module _ (rows : Tuples Row) (r : TupleRef) (sets : List (ColumnNumber × Cell)) where
  pub none_written : length sets ≡ 0 → (row : Row) → get rows r ≡ Some row → rows ≡ insert rows r (with_cells sets row)
  none_written none row found = subst (λ ss. rows ≡ insert rows r (with_cells ss row)) (sym (nil_from_length sets none)) (sym (insert-itself rows r row found))

  module _ (set : ColumnNumber × Cell) (rest : List (ColumnNumber × Cell)) (split : sets ≡ set ∷ rest) where
    first_there : HasColumns rows r sets → HasColumns rows r (set ∷ rest)
    first_there columns = subst (HasColumns rows r) split columns

    pub first_column : HasColumns rows r sets → (row : Row) → get rows r ≡ Some row → (0 < set.0.0) × (set.0.0 ≤ length row.cells)
    first_column columns row found = first_there columns row found 0 set (omega arith)

    -- the first is written
    module _ (cell : Cell) (next : Tuples Row) (written : (row : Row) → get rows r ≡ Some row → next ≡ insert rows r (record row { cells = slice_set row.cells (set.0.0 - 1) cell })) where
      row_now : (row : Row) → get rows r ≡ Some row → get next r ≡ Some (record row { cells = slice_set row.cells (set.0.0 - 1) cell })
      row_now row found = ap (λ m. get m r) (written row found) ∙ get-insert_same rows r (record row { cells = slice_set row.cells (set.0.0 - 1) cell })

      pub still_held : IsSome (get rows r) → IsSome (get next r)
      still_held held = let found = held_tuple rows r held in ap is_some (row_now found.0 found.1)

      pub other_columns : IsSome (get rows r) → HasColumns rows r sets → HasColumns next r rest
      other_columns held columns row now = λ k d l.
          let found = held_tuple rows r held in
          let here = first_there columns found.0 found.1 (suc k) d (omega (arith, l)) in
          let same = same_Some _ row (sym (row_now found.0 found.1) ∙ now) in
          (here.0, omega (arith, here.1, length-set found.0.cells (set.0.0 - 1) cell, ap (λ (x : Row). length x.cells) same))

      -- and then the others
      pub all_written : cell ≡ set.1 → (new : Tuples Row) → ((row : Row) → get next r ≡ Some row → new ≡ insert next r (with_cells rest row)) → (row : Row) → get rows r ≡ Some row → new ≡ insert rows r (with_cells sets row)
      all_written is new others row found =
          let one : Cell → Row = λ x. record row { cells = slice_set row.cells (set.0.0 - 1) x } in
          others (one cell) (row_now row found)
          ∙ ap (λ m. insert m r (with_cells rest (one cell))) (written row found)
          ∙ insert-twice rows r (one cell) (with_cells rest (one cell))
          ∙ ap (insert rows r) (ap (λ x. with_cells rest (one x)) is ∙ ap (λ ss. with_cells ss row) (sym split))
