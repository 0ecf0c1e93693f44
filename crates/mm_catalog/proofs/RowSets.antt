-- A row of which cells are set: its links, and what it shows.
use Rattle.std.proofs.Common.{◌≡◌, ◌≢◌, ℕ, zero, suc, ◌+◌, ◌-◌, ◌<◌, ◌≤◌, ◌==◌, Bool, true, false, cond, List, [], ◌∷◌, Option, Some, None, IsSome, refl, sym, ap, ◌∙◌, subst, arith, length, map, set, length-set, inl, inr}
use Rattle.std.specs.List.{All, AllPairs, cons_option, count_by, filter_map, range_with_len, slice_get}
use Rattle.std.specs.Option.{option_and_then, option_map, option_map_or}
use Rattle.std.proofs.lemmas.Bool.{cases_eq, ne_eqb}
use Rattle.std.proofs.lemmas.List.{length-map}
use Rattle.std.proofs.lemmas.List.FromFn.{length-range_with_len, get_or-range_with_len}
use Rattle.std.proofs.lemmas.List.Sums.{sum_by-cons}
use Rattle.std.proofs.lemmas.Option.{none-some, same_Some, slice_get-get_or, slice_get-map, slice_get_within}
use Rattle.common_lemmas.proofs.Places.{slice_get-set_other, slice_get_set}
use Rattle.part_raw.specs.declared.tuple_ref.TupleRef.{TupleRef}
use Rattle.plain_tables.specs.Doing.{assigned}
use Rattle.plain_tables.specs.declared.numbers.ColumnNumber.{ColumnNumber}
use Rattle.plain_tables.specs.declared.resolved.Assignment.{Assignment}
use Rattle.plain_tables.specs.declared.value.Value.{Value}
use Rattle.mm_relation.specs.declared.row.Cell.{Cell}
use Rattle.mm_relation.specs.declared.row.Cell.TheVariants.{Held}
use Rattle.mm_relation.specs.Rows.{Row}
use Rattle.mm_relation.specs.Reading.{Keys, cell_value, link_of, row_value}
use Rattle.mm_relation.specs.Settings.{with_cells}
use Rattle.mm_catalog.specs.Assigned.{CellSet, row_links_at, set_link, set_links}
use Rattle.mm_catalog.specs.Cells.{IsLinkOrNull}
use Rattle.mm_catalog.specs.Linked.{Linked, HasLinksOrNulls, link_at, row_links, target_at}
use Rattle.mm_catalog.specs.Seen.{or_null, row_values}
use Rattle.lin_hash.proofs.Placed.{one_if}
use Rattle.mm_catalog.proofs.Lists.{same_by_get}
use Rattle.mm_relation.proofs.Setting.{not_first}

-- cells behind the key, in columns of so many, and no two in one
pub record AreApart (width : ℕ) (sets : List CellSet) : Type 0 where
  pub behind : All (λ s. 0 < s.0.0) sets
  pub within : All (λ s. s.0.0 < width) sets
  pub apart : AllPairs (λ s t. s.0.0 ≡ t.0.0 → ⊥) sets

pub rest_apart : (width : ℕ) (s : CellSet) (sets : List CellSet) → AreApart width (s ∷ sets) → AreApart width sets
rest_apart width s sets h = record {
  behind = λ k d l. h.behind (suc k) d (omega arith);
  within = λ k d l. h.within (suc k) d (omega arith);
  apart = λ i j d b l. h.apart (suc i) (suc j) d (omega arith) (omega arith);
}

-- the row with one cell set
abbrev pub with_cell : CellSet → Row → Row
with_cell s row = record row { cells = set row.cells (s.0.0 - 1) s.1 }

-- ---- lists with one change

abbrev pub counted : (Linked → Bool) → Option Linked → ℕ
counted test o = option_map_or (λ link. one_if (test link)) o 0

count_first : (test : Linked → Bool) (o : Option Linked) (links : List Linked) → count_by test (cons_option o links) ≡ counted test o + count_by test links
count_first test None links = omega arith
count_first test (Some link) links = sum_by-cons (λ y. cond (test y) 1 0) link links

filter_same : (f g : ℕ → Option Linked) (xs : List ℕ) → ((j y : ℕ) → slice_get xs j ≡ Some y → f y ≡ g y) → filter_map f xs ≡ filter_map g xs
filter_same f g [] same = refl
filter_same f g (x ∷ xs) same =
    ap (λ (o : Option Linked). cons_option o (filter_map f xs)) (same 0 x refl) ∙ ap (cons_option (g x)) (filter_same f g xs (λ j. same (suc j)))

counted_apart : (test : Linked → Bool) (f g : ℕ → Option Linked) (xs : List ℕ) (k x : ℕ) → slice_get xs k ≡ Some x → ((j y : ℕ) → j ≢ k → slice_get xs j ≡ Some y → f y ≡ g y) → count_by test (filter_map f xs) + counted test (g x) ≡ count_by test (filter_map g xs) + counted test (f x)
counted_apart test f g [] k x at same = absurd (none-some x at)
counted_apart test f g (y ∷ xs) zero x at same =
    let left = count_first test (f y) (filter_map f xs) in
    let right = count_first test (g y) (filter_map g xs) in
    let rest : count_by test (filter_map f xs) ≡ count_by test (filter_map g xs) = ap (count_by test) (filter_same f g xs (λ j z. same (suc j) z (omega arith))) in
    let one : counted test (f y) ≡ counted test (f x) = ap (λ z. counted test (f z)) (same_Some y x at) in
    let other : counted test (g y) ≡ counted test (g x) = ap (λ z. counted test (g z)) (same_Some y x at) in
    omega (arith, left, right, rest, one, other)
counted_apart test f g (y ∷ xs) (suc k) x at same =
    let left = count_first test (f y) (filter_map f xs) in
    let right = count_first test (g y) (filter_map g xs) in
    let rest = counted_apart test f g xs k x at (λ j z other. same (suc j) z (omega (arith, other))) in
    let one : counted test (f y) ≡ counted test (g y) = ap (counted test) (same 0 y (omega arith) refl) in
    omega (arith, left, right, rest, one)

-- a range has each number at its place
range_get : (n k : ℕ) → k < n → slice_get (range_with_len 0 n) k ≡ Some k
range_get n k l =
    slice_get-get_or (range_with_len 0 n) k k (omega (arith, l, length-range_with_len 0 n))
    ∙ ap (λ m. Some m) (let at = get_or-range_with_len 0 n k k l in let same : 0 + k ≡ k = omega arith in at ∙ same)

range_place : (n k m : ℕ) → slice_get (range_with_len 0 n) k ≡ Some m → m ≡ k
range_place n k m e =
    let within = slice_get_within (range_with_len 0 n) k m e in
    same_Some m k (sym e ∙ range_get n k (omega (arith, within, length-range_with_len 0 n)))

-- ---- one cell

-- a cell beside the one that is set
cell_beside : (row : Row) (s : CellSet) (column : ℕ) → 0 < column → 0 < s.0.0 → column ≢ s.0.0 → slice_get (set row.cells (s.0.0 - 1) s.1) (column - 1) ≡ slice_get row.cells (column - 1)
cell_beside row s column some behind other = slice_get-set_other row.cells (s.0.0 - 1) (column - 1) s.1 (λ e. other (omega (arith, e, some, behind)))

-- what is made of a cell beside it is as it was
beside_same : {A : Type 0} (row : Row) (s : CellSet) (column : ℕ) (f : Cell → Option A) (other : Option A) → 0 < s.0.0 → column ≢ s.0.0 → cond (column == 0) other (option_and_then f (slice_get (set row.cells (s.0.0 - 1) s.1) (column - 1))) ≡ cond (column == 0) other (option_and_then f (slice_get row.cells (column - 1)))
beside_same {A} row s column f other behind differs =
    elim (column == 0) as (λ b. (column == 0) ≡ b → cond b other (option_and_then f (slice_get (set row.cells (s.0.0 - 1) s.1) (column - 1))) ≡ cond b other (option_and_then f (slice_get row.cells (column - 1)))) [
      | true ↦ λ g. refl
      | false ↦ λ g. ap (option_and_then f) (cell_beside row s column (not_first column g) behind differs)
    ] refl

-- and of the one that is set what is made of it
itself_set : {A : Type 0} (row : Row) (s : CellSet) (f : Cell → Option A) (other : Option A) → 0 < s.0.0 → s.0.0 ≤ length row.cells → cond (s.0.0 == 0) other (option_and_then f (slice_get (set row.cells (s.0.0 - 1) s.1) (s.0.0 - 1))) ≡ f s.1
itself_set {A} row s f other behind within =
    let later : (s.0.0 == 0) ≡ false = ne_eqb s.0.0 0 (λ e. absurd (omega (arith, e, behind))) in
    ap (λ (b : Bool). cond b other (option_and_then f (slice_get (set row.cells (s.0.0 - 1) s.1) (s.0.0 - 1)))) later
    ∙ ap (option_and_then f) (slice_get_set row.cells (s.0.0 - 1) s.1 (omega (arith, behind, within)))

link_beside : (targets : List (Option ℕ)) (row : Row) (s : CellSet) (column : ℕ) → 0 < s.0.0 → column ≢ s.0.0 → link_at targets (with_cell s row) column ≡ link_at targets row column
link_beside targets row s column behind differs =
    ap (λ (o : Option TupleRef). option_and_then (λ (table : ℕ). option_map (λ (to : TupleRef). (table, to)) o) (target_at targets column))
    (beside_same row s column link_of None behind differs)

link_itself : (targets : List (Option ℕ)) (row : Row) (s : CellSet) → 0 < s.0.0 → s.0.0 ≤ length row.cells → link_at targets (with_cell s row) s.0.0 ≡ set_link targets s
link_itself targets row s behind within =
    ap (λ (o : Option TupleRef). option_and_then (λ (table : ℕ). option_map (λ (to : TupleRef). (table, to)) o) (target_at targets s.0.0))
    (itself_set row s link_of None behind within)

-- ---- the links

-- as the cell is set its link comes, and the one that was there goes
links_one : (test : Linked → Bool) (targets : List (Option ℕ)) (row : Row) (s : CellSet) → 0 < s.0.0 → s.0.0 < length targets → s.0.0 ≤ length row.cells → count_by test (row_links targets (with_cell s row)) + counted test (link_at targets row s.0.0) ≡ count_by test (row_links targets row) + counted test (set_link targets s)
unfolding row_links
links_one test targets row s behind wide within =
    let whole = counted_apart test (link_at targets (with_cell s row)) (link_at targets row) (range_with_len 0 (length targets)) s.0.0 s.0.0 (range_get (length targets) s.0.0 wide)
    (λ j y other at. let same = range_place (length targets) j y at in link_beside targets row s y behind (λ e. other (sym same ∙ e))) in
    let come : counted test (link_at targets (with_cell s row) s.0.0) ≡ counted test (set_link targets s) = ap (counted test) (link_itself targets row s behind within) in
    omega (arith, whole, come)

-- the columns of other cells have the links that they had
links_at_beside : (targets : List (Option ℕ)) (row : Row) (s : CellSet) (sets : List CellSet) → 0 < s.0.0 → All (λ t. t.0.0 ≢ s.0.0) sets → row_links_at targets sets (with_cell s row) ≡ row_links_at targets sets row
unfolding row_links_at
links_at_beside targets row s [] behind others = refl
links_at_beside targets row s (t ∷ sets) behind others =
    ap (λ (o : Option Linked). cons_option o (filter_map (λ (u : CellSet). link_at targets (with_cell s row) u.0.0) sets)) (link_beside targets row s t.0.0 behind (others 0 t (omega arith)))
    ∙ ap (cons_option (link_at targets row t.0.0)) (links_at_beside targets row s sets behind (λ k d l. others (suc k) d (omega arith)))

-- as cells are set their links come, and those that were there go
pub row_links_set : (test : Linked → Bool) (targets : List (Option ℕ)) (sets : List CellSet) (row : Row) → AreApart (length targets) sets → length targets ≤ length row.cells + 1 → count_by test (row_links targets (with_cells sets row)) + count_by test (row_links_at targets sets row) ≡ count_by test (row_links targets row) + count_by test (set_links targets sets)
unfolding row_links_at set_links
row_links_set test targets [] row apart wide = refl
row_links_set test targets (s ∷ sets) row apart wide =
    let behind = apart.behind 0 s (omega arith) in
    let within = apart.within 0 s (omega arith) in
    let rest = row_links_set test targets sets (with_cell s row) (rest_apart (length targets) s sets apart) (omega (arith, wide, length-set row.cells (s.0.0 - 1) s.1)) in
    let one = links_one test targets row s behind within (omega (arith, within, wide)) in
    let same : count_by test (row_links_at targets sets (with_cell s row)) ≡ count_by test (row_links_at targets sets row) =
    ap (count_by test) (links_at_beside targets row s sets behind (λ k d l e. apart.apart 0 (suc k) d (omega arith) (omega arith) (sym e))) in
    let gone = count_first test (link_at targets row s.0.0) (row_links_at targets sets row) in
    let come = count_first test (set_link targets s) (set_links targets sets) in
    omega (arith, rest, one, same, gone, come)

-- ---- links or nulls

cell_linked : (targets : List (Option ℕ)) (row : Row) (s : CellSet) → 0 < s.0.0 → s.0.0 ≤ length row.cells → IsLinkOrNull (target_at targets s.0.0) s.1 → HasLinksOrNulls targets row → HasLinksOrNulls targets (with_cell s row)
cell_linked targets row s behind within linked before column value some leads at =
    elim (cases_eq column s.0.0) [
      | inl e ↦
          let cell : s.1 ≡ Held value = same_Some s.1 (Held value) (sym (slice_get_set row.cells (s.0.0 - 1) s.1 (omega (arith, behind, within))) ∙ ap (λ n. slice_get (set row.cells (s.0.0 - 1) s.1) (n - 1)) (sym e) ∙ at) in
          linked value (subst (λ n. IsSome (target_at targets n)) e leads) cell
      | inr other ↦ before column value some leads (sym (cell_beside row s column some behind other) ∙ at)
    ]

pub row_linked : (targets : List (Option ℕ)) (sets : List CellSet) (row : Row) → AreApart (length targets) sets → length targets ≤ length row.cells + 1 → All (λ s. IsLinkOrNull (target_at targets s.0.0) s.1) sets → HasLinksOrNulls targets row → HasLinksOrNulls targets (with_cells sets row)
row_linked targets [] row apart wide linked before = before
row_linked targets (s ∷ sets) row apart wide linked before =
    let behind = apart.behind 0 s (omega arith) in
    let within = apart.within 0 s (omega arith) in
    row_linked targets sets (with_cell s row) (rest_apart (length targets) s sets apart) (omega (arith, wide, length-set row.cells (s.0.0 - 1) s.1)) (λ k d l. linked (suc k) d (omega arith))
    (cell_linked targets row s behind (omega (arith, within, wide)) (linked 0 s (omega arith)) before)

-- ---- the values

module _ (keys : Keys) (width : ℕ) (row : Row) (s : CellSet) (value : Value) (behind : 0 < s.0.0) (wide : s.0.0 < width) (within : s.0.0 ≤ length row.cells) (reads : cell_value keys s.0.0 s.1 ≡ Some value) where
  abbrev now : ℕ → Value
  now column = or_null (row_value keys column (with_cell s row))

  abbrev was : ℕ → Value
  was column = or_null (row_value keys column row)

  abbrev range : List ℕ
  range = range_with_len 0 width

  value_here : slice_get (map now range) s.0.0 ≡ Some value
  value_here =
      slice_get-map now range s.0.0 ∙ ap (option_map now) (range_get width s.0.0 wide)
      ∙ ap (λ (o : Option Value). Some (or_null o)) (itself_set row s (cell_value keys s.0.0) (Some row.key) behind within ∙ reads)

  value_alike : (k : ℕ) → k ≢ s.0.0 → (o : Option ℕ) → slice_get range k ≡ o → option_map now o ≡ option_map was o
  value_alike k other None e = refl
  value_alike k other (Some m) e =
      let place = range_place width k m e in
      ap (λ (v : Option Value). Some (or_null v)) (beside_same row s m (cell_value keys m) (Some row.key) behind (λ same. other (sym place ∙ same)))

  value_beside : (k : ℕ) → k ≢ s.0.0 → slice_get (map now range) k ≡ slice_get (map was range) k
  value_beside k other = slice_get-map now range k ∙ value_alike k other (slice_get range k) refl ∙ sym (slice_get-map was range k)

  value_at : (k : ℕ) → slice_get (map now range) k ≡ slice_get (set (map was range) s.0.0 value) k
  value_at k = elim (cases_eq k s.0.0) [
    | inl e ↦
        let long : length (map was range) ≡ width = length-map range was ∙ length-range_with_len 0 width in
        ap (slice_get (map now range)) e ∙ value_here ∙ sym (slice_get_set (map was range) s.0.0 value (omega (arith, wide, long)))
        ∙ ap (slice_get (set (map was range) s.0.0 value)) (sym e)
    | inr other ↦ value_beside k other ∙ sym (slice_get-set_other (map was range) s.0.0 k value other)
  ]

  -- a row with one cell set shows its value in the column
  values_one : row_values keys width (with_cell s row) ≡ set (row_values keys width row) s.0.0 value
  unfolding row_values
  values_one = same_by_get (map now range) (set (map was range) s.0.0 value) value_at

-- a row with cells set shows the values that are assigned
pub values_set : (keys : Keys) (width : ℕ) (assignments : List Assignment) (sets : List CellSet) (row : Row) → length sets ≡ length assignments → AreApart width sets → width ≤ length row.cells + 1 → ((k : ℕ) (a : Assignment) (s : CellSet) → slice_get assignments k ≡ Some a → slice_get sets k ≡ Some s → (s.0 ≡ a.column) × (cell_value keys s.0.0 s.1 ≡ Some a.value)) → row_values keys width (with_cells sets row) ≡ assigned assignments (row_values keys width row)
values_set keys width [] [] row few apart wide each = refl
values_set keys width (a ∷ assignments) (s ∷ sets) row few apart wide each =
    let behind = apart.behind 0 s (omega arith) in
    let within = apart.within 0 s (omega arith) in
    let first = each 0 a s refl refl in
    values_set keys width assignments sets (with_cell s row) (omega arith) (rest_apart width s sets apart) (omega (arith, wide, length-set row.cells (s.0.0 - 1) s.1)) (λ k. each (suc k))
    ∙ ap (assigned assignments)
    (values_one keys width row s a.value behind within (omega (arith, within, wide)) first.1
    ∙ ap (λ (n : ColumnNumber). set (row_values keys width row) n.0 a.value) first.0)
values_set keys width assignments sets row few apart wide each = absurd (omega arith)
