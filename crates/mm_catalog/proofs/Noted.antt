-- What stands in the cells of rows, one after another.
use Rattle.std.proofs.Common.{◌≡◌, ◌≢◌, ℕ, zero, suc, ◌+◌, ◌-◌, ◌*◌, ◌<◌, ◌≤◌, List, [], ◌∷◌, ◌++◌, Option, Some, None, IsSome, refl, sym, ap, ◌∙◌, append_assoc, arith, length, length-append, length-set, map, set, take, drop, get_or, inl, inr}
use Rattle.std.specs.Prelude.{Result, Ok, Err, OnErr, OnOk}
use Rattle.std.specs.List.{All, Contains, cons_option, filter_map, flat_map, slice_get}
use Rattle.std.specs.Option.{option_map, option_map_or}
use Rattle.std.specs.FinMap.{get}
use Rattle.std.proofs.Math.Seq.{drop-append_seam, take-append_seam}
use Rattle.std.proofs.lemmas.Bool.{cases_eq}
use Rattle.std.proofs.lemmas.List.{drop-drop, take-append-drop}
use Rattle.std.proofs.lemmas.List.Elements.{All-cons}
use Rattle.std.proofs.lemmas.Option.{none-some, same_Some}
use Rattle.common_lemmas.proofs.Elements.{All-flat_map}
use Rattle.common_lemmas.proofs.Options.{option_map_some}
use Rattle.common_lemmas.proofs.Places.{slice_get-inside, slice_get-set_other, slice_get_set}
use Rattle.part_raw.specs.declared.tuple_ref.TupleRef.{TupleRef}
use Rattle.part_raw.proofs.Tuples.{held_tuple}
use Rattle.plain_tables.specs.declared.resolved.Assignment.{Assignment}
use Rattle.mm_relation.specs.Rows.{Row}
use Rattle.mm_relation.specs.Settings.{with_cells}
use Rattle.mm_relation.specs.State.{RelationState}
use Rattle.mm_relation.specs.declared.row.Cell.{Cell}
use Rattle.mm_catalog.specs.Assigned.{CellSet}
use Rattle.mm_catalog.specs.ChangedBack.{cells_of_row}
use Rattle.mm_catalog.specs.Noted.{cell_to, cells_at, cells_to}
use Rattle.mm_catalog.proofs.Lists.{same_by_get}
use Rattle.mm_catalog.proofs.RowLinks.{All-filter_map}
use Rattle.mm_catalog.proofs.SetLinks.{filter_map_more, flat_map_more}

pub none_to : (row : Row) → cells_to [] row ≡ []
unfolding cells_to
none_to row = refl

pub to_more : (assignments : List Assignment) (row : Row) (i : ℕ) (d : Assignment) (x : CellSet) → i < length assignments → cell_to row (get_or assignments i d) ≡ Some x → cells_to (take (i + 1) assignments) row ≡ cells_to (take i assignments) row ++ x ∷ []
unfolding cells_to
to_more assignments row i d x l e =
    filter_map_more (cell_to row) assignments i d l ∙ ap (λ (o : Option CellSet). filter_map (cell_to row) (take i assignments) ++ cons_option o []) e

pub none_at : (s : RelationState) (assignments : List Assignment) → cells_at s assignments [] ≡ []
unfolding cells_at
none_at s assignments = refl

pub at_more : (s : RelationState) (assignments : List Assignment) (rs : List TupleRef) (i : ℕ) (d : TupleRef) (row : Row) → i < length rs → get s.rows (get_or rs i d) ≡ Some row → cells_at s assignments (take (i + 1) rs) ≡ cells_at s assignments (take i rs) ++ cells_to assignments row
unfolding cells_at
at_more s assignments rs i d row l e =
    flat_map_more (λ r. option_map_or (cells_to assignments) (get s.rows r) []) rs i d l
    ∙ ap (λ o. flat_map (λ r. option_map_or (cells_to assignments) (get s.rows r) []) (take i rs) ++ option_map_or (cells_to assignments) o []) e

-- ---- the list that they are noted in

-- what holds anyway holds where there is an error
pub on_err : {B E P : Type 0} (r : Result B E) → P → OnErr r P
on_err (Ok x) holds = tt
on_err (Err e) holds = holds

module _ {A : Type 0} (xs : List A) where
  -- what stood first stays so
  pub still_first : (more ys : List A) → take (length (xs ++ more)) ys ≡ xs ++ more → take (length xs) ys ≡ xs
  still_first more ys same =
      let rest = drop (length (xs ++ more)) ys in
      ap (take (length xs)) (sym (take-append-drop (length (xs ++ more)) ys) ∙ ap (λ zs. zs ++ rest) same ∙ append_assoc xs more rest) ∙ take-append_seam xs (more ++ rest)

  pub first_of : (more ys : List A) → ys ≡ xs ++ more → take (length xs) ys ≡ xs
  first_of more ys same = ap (take (length xs)) same ∙ take-append_seam xs more

  -- the list is as it was where there is a refusal, else what came stands behind
  pub list_more : {B E : Type 0} (r : Result B E) (mid ys : List A) → take (length xs) mid ≡ xs → OnOk r (ys ≡ mid) → OnOk r (ys ≡ xs ++ drop (length xs) mid)
  list_more (Ok x) mid ys first same = same ∙ sym (take-append-drop (length xs) mid) ∙ ap (λ zs. zs ++ drop (length xs) mid) first
  list_more (Err e) mid ys first same = tt

  pub list_kept : {B E : Type 0} (r : Result B E) (mid ys : List A) (start : ℕ) → start ≡ length xs → take (length xs) mid ≡ xs → OnErr r (ys ≡ take start mid) → OnErr r (ys ≡ xs)
  list_kept (Ok x) mid ys start is first cut = tt
  list_kept (Err e) mid ys start is first cut = cut ∙ ap (λ n. take n mid) is ∙ first

-- ---- the cells of one row

module _ (row : Row) where
  pub first_to : (a : Assignment) (assignments : List Assignment) (cell : Cell) → slice_get row.cells (a.column.0 - 1) ≡ Some cell → cells_to (a ∷ assignments) row ≡ (a.column, cell) ∷ cells_to assignments row
  unfolding cells_to
  first_to a assignments cell at = ap (λ (o : Option Cell). cons_option (option_map (λ x. (a.column, x)) o) (filter_map (cell_to row) assignments)) at

  -- the cell behind the key in a column
  cell_in : (a : Assignment) → 0 < a.column.0 → a.column.0 ≤ length row.cells → (cell : Cell) × (slice_get row.cells (a.column.0 - 1) ≡ Some cell)
  cell_in a behind within = slice_get-inside row.cells (a.column.0 - 1) (omega (arith, behind, within))

  -- there is one for each assignment, in its column
  pub columns_to : (assignments : List Assignment) → All (λ a. 0 < a.column.0) assignments → All (λ a. a.column.0 ≤ length row.cells) assignments → map (λ (c : CellSet). c.0) (cells_to assignments row) ≡ map (λ (a : Assignment). a.column) assignments
  columns_to [] behind within = ap (map (λ (c : CellSet). c.0)) (none_to row)
  columns_to (a ∷ assignments) behind within =
      let cell = cell_in a (behind 0 a (omega arith)) (within 0 a (omega arith)) in
      ap (map (λ (c : CellSet). c.0)) (first_to a assignments cell.0 cell.1)
      ∙ ap (λ cs. a.column ∷ cs) (columns_to assignments (λ k d l. behind (suc k) d (omega arith)) (λ k d l. within (suc k) d (omega arith)))

  -- a row that differs at most in these columns is the row again once they are set back
  pub set_back : (assignments : List Assignment) → All (λ a. 0 < a.column.0) assignments → All (λ a. a.column.0 ≤ length row.cells) assignments → (now : Row) → now.key ≡ row.key → length now.cells ≡ length row.cells
      → ((i : ℕ) → All (λ a. a.column.0 ≢ i + 1) assignments → slice_get now.cells i ≡ slice_get row.cells i) → with_cells (cells_to assignments row) now ≡ row
  set_back [] behind within now key long same =
      let cells = same_by_get now.cells row.cells (λ i. same i (λ k d l. absurd (omega (arith, l)))) in
      ap (λ cs. with_cells cs now) (none_to row) ∙ (λ i. record { key = key i; cells = cells i })
  set_back (a ∷ assignments) behind within now key long same =
      let some = behind 0 a (omega arith) in
      let inside = within 0 a (omega arith) in
      let cell = cell_in a some inside in
      let next : Row = record now { cells = set now.cells (a.column.0 - 1) cell.0 } in
      let still : (i : ℕ) → All (λ b. b.column.0 ≢ i + 1) assignments → slice_get next.cells i ≡ slice_get row.cells i =
      (λ i others. elim (cases_eq i (a.column.0 - 1)) [
        | inl e ↦
            ap (slice_get next.cells) e ∙ slice_get_set now.cells (a.column.0 - 1) cell.0 (omega (arith, some, inside, long)) ∙ sym cell.1 ∙ ap (slice_get row.cells) (sym e)
        | inr other ↦
            slice_get-set_other now.cells (a.column.0 - 1) i cell.0 other
            ∙ same i (All-cons (λ b. b.column.0 ≢ i + 1) a assignments (λ e. other (omega (arith, e))) others)
      ]) in
      ap (λ cs. with_cells cs now) (first_to a assignments cell.0 cell.1)
      ∙ set_back assignments (λ k d l. behind (suc k) d (omega arith)) (λ k d l. within (suc k) d (omega arith)) next key (length-set now.cells (a.column.0 - 1) cell.0 ∙ long) still

pub length_with : (sets : List CellSet) (row : Row) → length (with_cells sets row).cells ≡ length row.cells
length_with [] row = refl
length_with (s ∷ sets) row = length_with sets (record row { cells = set row.cells (s.0.0 - 1) s.1 }) ∙ length-set row.cells (s.0.0 - 1) s.1

-- ---- those of rows

module _ (s : RelationState) (assignments : List Assignment) where
  pub next_at : (r : TupleRef) (refs : List TupleRef) (row : Row) → get s.rows r ≡ Some row → cells_at s assignments (r ∷ refs) ≡ cells_to assignments row ++ cells_at s assignments refs
  unfolding cells_at
  next_at r refs row at = ap (λ o. option_map_or (cells_to assignments) o [] ++ flat_map (λ q. option_map_or (cells_to assignments) (get s.rows q) []) refs) at

  module _ (long : (r : TupleRef) (row : Row) → get s.rows r ≡ Some row → length (cells_to assignments row) ≡ length assignments) where
    pub count_at : (refs : List TupleRef) → All (λ r. IsSome (get s.rows r)) refs → length (cells_at s assignments refs) ≡ length refs * length assignments
    count_at [] held = ap length (none_at s assignments) ∙ (let none : 0 ≡ 0 * length assignments = omega arith in none)
    count_at (r ∷ refs) held =
        let row = held_tuple s.rows r (held 0 r (omega arith)) in
        let rest = count_at refs (λ k d l. held (suc k) d (omega arith)) in
        let both = ap length (next_at r refs row.0 row.1) ∙ length-append (cells_to assignments row.0) (cells_at s assignments refs) in
        omega (arith, both, rest, long r row.0 row.1)

    -- the cells of one of them
    pub row_of_at : (refs : List TupleRef) → All (λ r. IsSome (get s.rows r)) refs → (k : ℕ) (r : TupleRef) (row : Row) → slice_get refs k ≡ Some r → get s.rows r ≡ Some row → cells_of_row (length assignments) (cells_at s assignments refs) k ≡ cells_to assignments row
    row_of_at [] held k r row at here = absurd (none-some r at)
    row_of_at (q ∷ refs) held zero r row at here =
        let first = next_at q refs row (ap (get s.rows) (same_Some q r at) ∙ here) in
        let start : 0 * length assignments ≡ 0 = omega arith in
        ap (λ m. take (length assignments) (drop m (cells_at s assignments (q ∷ refs)))) start ∙ ap (take (length assignments)) first
        ∙ ap (λ m. take m (cells_to assignments row ++ cells_at s assignments refs)) (sym (long r row here)) ∙ take-append_seam (cells_to assignments row) (cells_at s assignments refs)
    row_of_at (q ∷ refs) held (suc k) r row at here =
        let first = held_tuple s.rows q (held 0 q (omega arith)) in
        let w = length assignments in
        let more : suc k * w ≡ w + k * w = omega arith in
        ap (λ m. take w (drop m (cells_at s assignments (q ∷ refs)))) more
        ∙ ap (take w) (sym (drop-drop (k * w) w (cells_at s assignments (q ∷ refs)))
        ∙ ap (drop (k * w)) (ap (drop w) (next_at q refs first.0 first.1) ∙ ap (λ m. drop m (cells_to assignments first.0 ++ cells_at s assignments refs)) (sym (long q first.0 first.1)) ∙ drop-append_seam (cells_to assignments first.0) (cells_at s assignments refs)))
        ∙ row_of_at refs (λ j d l. held (suc j) d (omega arith)) k r row at here

  pub all_at : (P : CellSet → Type 0) → ((a : Assignment) (c : CellSet) → Contains assignments a → c.0 ≡ a.column → P c) → (refs : List TupleRef) → All P (cells_at s assignments refs)
  unfolding cells_at cells_to
  all_at P each refs =
      All-flat_map P (λ r. option_map_or (λ row. filter_map (cell_to row) assignments) (get s.rows r) []) refs (λ k d l. of_one (get s.rows (get_or refs k d)))
    where
      of_one : (o : Option Row) → All P (option_map_or (λ row. filter_map (cell_to row) assignments) o [])
      of_one None = λ k d l. absurd (omega (arith, l))
      of_one (Some row) =
          All-filter_map P (cell_to row) assignments
          (λ a c among e. let cell = option_map_some (λ x. (a.column, x)) (slice_get row.cells (a.column.0 - 1)) c e in each a c among (ap (λ (x : CellSet). x.0) (sym cell.2)))
