-- The rows that a store of cells holds, as contracts see them.
use Rattle.std.proofs.Common.{◌≡◌, ℕ, zero, suc, ◌+◌, ◌-◌, ◌<◌, ◌≤◌, List, [], ◌∷◌, length, get_or, Option, Some, None, IsSome, is_some, IfSome, refl, sym, ap, ◌∙◌, subst, arith, inl, inr}
use Rattle.std.specs.Prelude.{if◌then◌else◌, Result, Ok, Err, OnOk, OnErr, slice_get, slice_set}
use Rattle.std.proofs.Math.Dec.{eqb-suc-zero}
use Rattle.std.specs.Option.{option_map, option_and_then}
use Rattle.std.specs.FinMap.{get, insert, remove, empty}
use Rattle.std.proofs.lemmas.List.{length-set}
use Rattle.std.proofs.lemmas.Option.{same_Some, slice_get_within, slice_get-get_or}
use Rattle.common_lemmas.proofs.Options.{is_some-Some, is_some-option_map, and_then-Some}
use Rattle.part_raw.specs.declared.tuple_ref.TupleRef.{TupleRef}
use Rattle.part_raw.specs.Store.{Tuples, Store, with_cells}
use Rattle.part_raw.proofs.Lookup.{same_or_other}
use Rattle.part_raw.proofs.Mapped.{get-mapped}
use Rattle.part_raw.proofs.Tuples.{get-insert_same, get-insert_other, get-remove_same, get-remove_other, held_at_first}
use Rattle.plain_tables.specs.declared.value.Value.{Value}
use Rattle.mm_relation.specs.declared.row.Cell.{Cell}
use Rattle.mm_relation.specs.declared.row.Cell.TheVariants.{Held}
use Rattle.mm_relation.specs.Rows.{Row, row_of, rows_in, key_in, StartsWithKey}
use Rattle.mm_relation.specs.Reading.{Keys, cell_value, row_value, value_at, key_at}

-- a cell for each column, of which the first holds the key
abbrev pub IsWhole : ℕ → List Cell → Type 0
IsWhole width cells = (length cells ≡ width) × StartsWithKey cells

abbrev pub AreWhole : ℕ → Tuples (List Cell) → Type 0
AreWhole width tuples = (r : TupleRef) (cells : List Cell) → get tuples r ≡ Some cells → IsWhole width cells

not_some : {X : Type 0} {x : X} {o : Option X} → o ≡ None → o ≡ Some x → ⊥
not_some none some = absurd (cc)

pub whole_none : (width : ℕ) → AreWhole width empty
whole_none width r cells found = absurd (not_some (held_at_first r) found)

module _ (width : ℕ) (tuples : Tuples (List Cell)) (r : TupleRef) (whole : AreWhole width tuples) where
  pub whole_with : (cells : List Cell) → IsWhole width cells → AreWhole width (insert tuples r cells)
  whole_with cells is q others found = elim (same_or_other q r) [
    | inl same ↦
        let here : cells ≡ others = same_Some cells others (sym (get-insert_same tuples r cells) ∙ ap (get (insert tuples r cells)) (sym same) ∙ found) in
        subst (IsWhole width) here is
    | inr other ↦ whole q others (sym (get-insert_other tuples r q cells other) ∙ found)
  ]

  pub whole_without : AreWhole width (remove tuples r)
  whole_without q cells found = elim (same_or_other q r) [
    | inl same ↦ absurd (not_some (ap (get (remove tuples r)) same ∙ get-remove_same tuples r) found)
    | inr other ↦ whole q cells (sym (get-remove_other tuples r q other) ∙ found)
  ]

-- in a store that may be another
pub whole_either : {E : Type 0} (before now other : Store Cell) (result : Result (Unit {0}) E) → OnOk result (now ≡ other) → OnErr result (now ≡ before) → AreWhole other.width other.tuples → AreWhole before.width before.tuples → AreWhole now.width now.tuples
whole_either before now other (Ok x) ok err there whole = subst (λ (s : Store Cell). AreWhole s.width s.tuples) (sym ok) there
whole_either before now other (Err e) ok err there whole = subst (λ (s : Store Cell). AreWhole s.width s.tuples) (sym err) whole

module _ (tuples : Tuples (List Cell)) (r : TupleRef) where
  -- the same references hold rows as hold tuples
  pub held_alike : is_some (get tuples r) ≡ is_some (get (rows_in tuples) r)
  held_alike = sym (ap is_some (get-mapped (λ r. row_of) tuples r) ∙ is_some-option_map row_of (get tuples r))

  -- the tuple of a row that is held
  pub tuple_under : IsSome (get (rows_in tuples) r) → (cells : List Cell) × (get tuples r ≡ Some cells)
  tuple_under held = is_some-Some (get tuples r) (held_alike ∙ held)

  pub row_under : (cells : List Cell) → get tuples r ≡ Some cells → get (rows_in tuples) r ≡ Some (row_of cells)
  row_under cells found = get-mapped (λ r. row_of) tuples r ∙ ap (option_map row_of) found

  pub column_above : (column : ℕ) → ((row : Row) → get (rows_in tuples) r ≡ Some row → (0 < column) × (column ≤ length row.cells)) → IsSome (get (rows_in tuples) r) → 0 < column
  column_above column asked held = let found = tuple_under held in (asked (row_of found.0) (row_under found.0 found.1)).0

-- the first cell isn't set, so the key stays
pub starts_still : (cells : List Cell) (column : ℕ) (cell : Cell) → 0 < column → StartsWithKey cells → StartsWithKey (slice_set cells column cell)
starts_still cells zero cell above starts = absurd (omega (arith, above))
starts_still cells (suc column) cell above starts = (starts.0, slice_set starts.1 column cell, ap (λ (all : List Cell). slice_set all (suc column) cell) starts.2)

before_suc : (n : ℕ) → suc n - 1 ≡ n
before_suc n = omega arith

-- a cell of a row is set where it stands among all
pub row_set : (cells : List Cell) (column : ℕ) (cell : Cell) → 0 < column → StartsWithKey cells
    → row_of (slice_set cells column cell) ≡ record (row_of cells) { cells = slice_set (row_of cells).cells (column - 1) cell }
row_set cells zero cell above starts = absurd (omega (arith, above))
row_set cells (suc column) cell above starts =
    subst (λ (k : ℕ). row_of (slice_set cells (suc column) cell) ≡ record (row_of cells) { cells = slice_set (row_of cells).cells k cell }) (sym (before_suc column))
    (subst (λ (all : List Cell). row_of (slice_set all (suc column) cell) ≡ record (row_of all) { cells = slice_set (row_of all).cells column cell }) (sym starts.2) refl)

-- the columns of a row are one more than its cells
pub columns_of : (cells : List Cell) → StartsWithKey cells → length (row_of cells).cells + 1 ≡ length cells
columns_of [] starts = absurd (cc)
columns_of (first ∷ rest) starts = omega arith

-- what a column has is read off the list of all cells
pub value_of_cells : (keys : Keys) (column : ℕ) (cells : List Cell) → StartsWithKey cells → row_value keys column (row_of cells) ≡ option_and_then (cell_value keys column) (slice_get cells column)
value_of_cells keys zero cells starts = subst (λ (all : List Cell). row_value keys 0 (row_of all) ≡ option_and_then (cell_value keys 0) (slice_get all 0)) (sym starts.2) refl
value_of_cells keys (suc column) cells starts =
    let t = row_of cells in
    ap (λ b. if b then Some t.key else option_and_then (cell_value keys (suc column)) (slice_get t.cells (suc column - 1))) (eqb-suc-zero column)
    ∙ ap (λ k. option_and_then (cell_value keys (suc column)) (slice_get t.cells k)) (before_suc column)
    ∙ subst (λ (all : List Cell). option_and_then (cell_value keys (suc column)) (slice_get (row_of all).cells column) ≡ option_and_then (cell_value keys (suc column)) (slice_get all (suc column))) (sym starts.2) refl

-- a column that can be read is one of the cells, and that cell tells its value
module _ (keys : Keys) (column : ℕ) (cells : List Cell) (starts : StartsWithKey cells) (readable : IsSome (row_value keys column (row_of cells))) where
  pub column_there : column < length cells
  column_there =
      let there = and_then-Some (cell_value keys column) (slice_get cells column) (subst IsSome (value_of_cells keys column cells starts) readable) in
      slice_get_within cells column there.0 there.1

  pub value_there : (d cell : Cell) → get_or cells column d ≡ cell → row_value keys column (row_of cells) ≡ cell_value keys column cell
  value_there d cell is = value_of_cells keys column cells starts ∙ ap (option_and_then (cell_value keys column)) (slice_get-get_or cells column d column_there ∙ ap (λ x. Some x) is)

-- the row of these cells is read where it is held
pub read_there : (keys : Keys) (column : ℕ) (rows : Tuples Row) (r : TupleRef) (cells : List Cell) → get rows r ≡ Some (row_of cells) → value_at keys column rows r ≡ row_value keys column (row_of cells)
read_there keys column rows r cells shown = ap (option_and_then (row_value keys column)) shown

no_cells : {x : Cell} {rest : List Cell} → [] ≡ x ∷ rest → ⊥
no_cells e = let l = ap length e in omega (arith, l)

-- the key is in the first cell
pub key_seen : (rows : Tuples Row) (r : TupleRef) (cells : List Cell) (d : Cell) (key : Value) → get rows r ≡ Some (row_of cells) → StartsWithKey cells → get_or cells 0 d ≡ Held key → key_at rows r ≡ Some key
key_seen rows r cells d key shown starts first = ap (option_and_then (λ t. Some t.key)) shown ∙ here cells first starts
  where
    here : (cells : List Cell) → get_or cells 0 d ≡ Held key → StartsWithKey cells → Some (row_of cells).key ≡ Some key
    here [] e starts = absurd (no_cells starts.2)
    here (cell ∷ rest) e starts = ap (λ (x : Cell). Some (key_in x)) e

-- a cell of a tuple is another
module _ (before now : Store Cell) (r : TupleRef) (column : ℕ) (cell : Cell) (told : IfSome (get before.tuples r) (λ cells. now ≡ with_cells before r (slice_set cells column cell))) (held : IsSome (get (rows_in before.tuples) r)) where
  abbrev was : (cells : List Cell) × (get before.tuples r ≡ Some cells)
  was = tuple_under before.tuples r held

  pub cell_set : now ≡ with_cells before r (slice_set was.0 column cell)
  cell_set = subst (λ (o : Option (List Cell)). IfSome o (λ cells. now ≡ with_cells before r (slice_set cells column cell))) was.1 told

  -- the cells that are written
  abbrev pub cells_set : List Cell
  cells_set = slice_set was.0 column cell

  module _ (whole : AreWhole before.width before.tuples) (above : 0 < column) where
    pub cells_set-whole : IsWhole before.width cells_set
    cells_set-whole = let all = whole r was.0 was.1 in (length-set was.0 column cell ∙ all.0, starts_still was.0 column cell above all.1)

    pub cells_set-row : (row : Row) → get (rows_in before.tuples) r ≡ Some row → row_of cells_set ≡ record row { cells = slice_set row.cells (column - 1) cell }
    cells_set-row row found =
        let same : row_of was.0 ≡ row = same_Some _ _ (sym (row_under before.tuples r was.0 was.1) ∙ found) in
        row_set was.0 column cell above (whole r was.0 was.1).1 ∙ ap (λ (x : Row). record x { cells = slice_set x.cells (column - 1) cell }) same

-- a column of a row that is held is one of the store's
pub column_within : (s : Store Cell) (r : TupleRef) (whole : AreWhole s.width s.tuples) (column : ℕ) → ((row : Row) → get (rows_in s.tuples) r ≡ Some row → (0 < column) × (column ≤ length row.cells)) → IsSome (get (rows_in s.tuples) r) → column < s.width
column_within s r whole column asked held =
    let found = tuple_under s.tuples r held in
    let was = whole r found.0 found.1 in
    let inside = asked (row_of found.0) (row_under s.tuples r found.0 found.1) in
    omega (arith, inside.1, columns_of found.0 was.1, was.0)
