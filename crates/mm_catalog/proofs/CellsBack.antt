-- Rows whose cells are set to what they were, as a map of rows, and what can be read of them.
use Rattle.std.proofs.Common.{◌≡◌, ◌≢◌, ℕ, zero, suc, ◌+◌, ◌-◌, ◌*◌, ◌<◌, ◌≤◌, ◌==◌, Bool, true, false, cond, List, [], ◌∷◌, Option, Some, None, refl, sym, ap, ◌∙◌, subst, arith, length, set, length-set, take, drop}
use Rattle.std.specs.List.{All, AllPairs, Contains, slice_get}
use Rattle.std.specs.Option.{option_and_then, option_map, option_map_or}
use Rattle.std.specs.FinMap.{get, insert}
use Rattle.std.proofs.lemmas.Bool.{ne_eqb}
use Rattle.std.proofs.lemmas.List.{drop-drop}
use Rattle.std.proofs.lemmas.List.Elements.{All-contains}
use Rattle.std.proofs.lemmas.Option.{none-some, same_Some, slice_get-get_or}
use Rattle.common_lemmas.proofs.Elements.{Contains-cons, Contains-head}
use Rattle.common_lemmas.proofs.Pairs.{AllPairs-head, AllPairs-tail}
use Rattle.common_lemmas.proofs.Places.{slice_get-set_other, slice_get_set}
use Rattle.part_raw.specs.Store.{Tuples}
use Rattle.part_raw.specs.declared.tuple_ref.TupleRef.{TupleRef}
use Rattle.part_raw.proofs.Tuples.{get-insert_other, get-insert_same, same_tuples}
use Rattle.mm_relation.specs.Reading.{Keys, cell_value, link_of, row_value}
use Rattle.mm_relation.specs.Rows.{Row}
use Rattle.mm_relation.specs.Settings.{with_cells}
use Rattle.mm_catalog.specs.Assigned.{CellSet, set_link}
use Rattle.mm_catalog.specs.ChangedBack.{cells_of_row}
use Rattle.mm_catalog.specs.Linked.{link_at, target_at}
use Rattle.mm_catalog.specs.Outline.{is_among, with_row_cells}
use Rattle.mm_catalog.proofs.LinksHeld.{Contains-at}
use Rattle.mm_catalog.proofs.Outlined.{among_contains, none_among}
use Rattle.mm_catalog.proofs.RowSets.{AreApart, rest_apart}

-- ---- the cells of a row

pub cells_beside : (sets : List CellSet) (row : Row) (column : ℕ) → 0 < column → All (λ s. 0 < s.0.0) sets → All (λ s. s.0.0 ≢ column) sets → slice_get (with_cells sets row).cells (column - 1) ≡ slice_get row.cells (column - 1)
cells_beside [] row column some behind others = refl
cells_beside (s ∷ sets) row column some behind others =
    cells_beside sets (record row { cells = set row.cells (s.0.0 - 1) s.1 }) column some (λ k d l. behind (suc k) d (omega arith)) (λ k d l. others (suc k) d (omega arith))
    ∙ slice_get-set_other row.cells (s.0.0 - 1) (column - 1) s.1 (λ e. others 0 s (omega arith) (omega (arith, e, some, behind 0 s (omega arith))))

-- each cell that is set is there then
pub cell_there : (width : ℕ) (sets : List CellSet) (row : Row) → AreApart width sets → width ≤ length row.cells + 1 → (k : ℕ) (s : CellSet) → slice_get sets k ≡ Some s → slice_get (with_cells sets row).cells (s.0.0 - 1) ≡ Some s.1
cell_there width [] row apart wide k s at = absurd (none-some s at)
cell_there width (t ∷ sets) row apart wide zero s at =
    let same : t ≡ s = same_Some t s at in
    let behind = apart.behind 0 t (omega arith) in
    let within = apart.within 0 t (omega arith) in
    subst (λ (u : CellSet). slice_get (with_cells (t ∷ sets) row).cells (u.0.0 - 1) ≡ Some u.1) same
    (cells_beside sets (record row { cells = set row.cells (t.0.0 - 1) t.1 }) t.0.0 behind (rest_apart width t sets apart).behind (λ k d l e. apart.apart 0 (suc k) d (omega arith) (omega arith) (sym e))
    ∙ slice_get_set row.cells (t.0.0 - 1) t.1 (omega (arith, behind, within, wide)))
cell_there width (t ∷ sets) row apart wide (suc k) s at =
    cell_there width sets (record row { cells = set row.cells (t.0.0 - 1) t.1 }) (rest_apart width t sets apart) (omega (arith, wide, length-set row.cells (t.0.0 - 1) t.1)) k s at

module _ (width : ℕ) (sets : List CellSet) (row : Row) (apart : AreApart width sets) (wide : width ≤ length row.cells + 1) (s : CellSet) (among : Contains sets s) where
  there : slice_get (with_cells sets row).cells (s.0.0 - 1) ≡ Some s.1
  there = cell_there width sets row apart wide among.0 s (slice_get-get_or sets among.0 s among.1 ∙ ap (λ (x : CellSet). Some x) (among.2))

  later : (s.0.0 == 0) ≡ false
  later = ne_eqb s.0.0 0 (λ e. let behind = All-contains (λ (x : CellSet). 0 < x.0.0) sets s apart.behind among in absurd (omega (arith, e, behind)))

  pub value_there : (keys : Keys) → row_value keys s.0.0 (with_cells sets row) ≡ cell_value keys s.0.0 s.1
  value_there keys =
      ap (λ (b : Bool). cond b (Some (with_cells sets row).key) (option_and_then (cell_value keys s.0.0) (slice_get (with_cells sets row).cells (s.0.0 - 1)))) later
      ∙ ap (option_and_then (cell_value keys s.0.0)) there

  pub link_there : (targets : List (Option ℕ)) → link_at targets (with_cells sets row) s.0.0 ≡ set_link targets s
  link_there targets =
      ap (λ (o : Option TupleRef). option_and_then (λ (table : ℕ). option_map (λ (to : TupleRef). (table, to)) o) (target_at targets s.0.0))
      (ap (λ (b : Bool). cond b None (option_and_then link_of (slice_get (with_cells sets row).cells (s.0.0 - 1)))) later ∙ ap (option_and_then link_of) there)

-- ---- the rows

module _ (rows : Tuples Row) (width : ℕ) where
  next : (refs : List TupleRef) (cells : List CellSet) (r q : TupleRef) → q ≢ r → get (with_row_cells (r ∷ refs) width cells rows) q ≡ get (with_row_cells refs width (drop width cells) rows) q
  next refs cells r q other =
      let rest = with_row_cells refs width (drop width cells) rows in
      elim (get rows r) as (λ o. get (option_map_or (λ row. insert rest r (with_cells (take width cells) row)) o rest) q ≡ get rest q) [
        | None ↦ refl
        | Some row ↦ get-insert_other rest r q (with_cells (take width cells) row) other
      ]

  pub cells_other : (refs : List TupleRef) (cells : List CellSet) (q : TupleRef) → (Contains refs q → ⊥) → get (with_row_cells refs width cells rows) q ≡ get rows q
  cells_other [] cells q other = refl
  cells_other (r ∷ refs) cells q other =
      next refs cells r q (λ same. other (subst (Contains (r ∷ refs)) (sym same) (Contains-head r refs)))
      ∙ cells_other refs (drop width cells) q (λ there. other (Contains-cons r refs q there))

  pub cells_among : (refs : List TupleRef) (cells : List CellSet) → AllPairs (λ q r. q ≢ r) refs → (k : ℕ) (q : TupleRef) → slice_get refs k ≡ Some q → get (with_row_cells refs width cells rows) q ≡ option_map (with_cells (cells_of_row width cells k)) (get rows q)
  cells_among [] cells once k q at = absurd (none-some q at)
  cells_among (r ∷ refs) cells once zero q at =
      let rest = with_row_cells refs width (drop width cells) rows in
      let fresh : get rest r ≡ get rows r = cells_other refs (drop width cells) r (λ there. All-contains (λ x. r ≢ x) refs r (AllPairs-head (λ x y. x ≢ y) r refs once) there refl) in
      subst (λ x. get (with_row_cells (r ∷ refs) width cells rows) x ≡ option_map (with_cells (take width cells)) (get rows x)) (same_Some r q at)
      (elim (get rows r) as (λ o. get rest r ≡ o → get (option_map_or (λ row. insert rest r (with_cells (take width cells) row)) o rest) r ≡ option_map (with_cells (take width cells)) o) [
        | None ↦ λ e. e
        | Some row ↦ λ e. get-insert_same rest r (with_cells (take width cells) row)
      ] fresh)
      ∙ (let start : 0 ≡ 0 * width = omega arith in ap (λ m. option_map (with_cells (take width (drop m cells))) (get rows q)) start)
  cells_among (r ∷ refs) cells once (suc k) q at =
      next refs cells r q (λ same. All-contains (λ x. r ≢ x) refs q (AllPairs-head (λ x y. x ≢ y) r refs once) (Contains-at refs k q at) (sym same))
      ∙ cells_among refs (drop width cells) (AllPairs-tail (λ x y. x ≢ y) r refs once) k q at
      ∙ ap (λ cs. option_map (with_cells (take width cs)) (get rows q)) (drop-drop (k * width) width cells)
      ∙ (let more : width + k * width ≡ suc k * width = omega arith in ap (λ m. option_map (with_cells (take width (drop m cells))) (get rows q)) more)

  -- rows of which just these have their cells
  pub cells_are : (refs : List TupleRef) (cells : List CellSet) (all : Tuples Row) → AllPairs (λ q r. q ≢ r) refs → ((k : ℕ) (r : TupleRef) → slice_get refs k ≡ Some r → get all r ≡ option_map (with_cells (cells_of_row width cells k)) (get rows r))
      → ((r : TupleRef) → (Contains refs r → ⊥) → get all r ≡ get rows r) → with_row_cells refs width cells rows ≡ all
  cells_are refs cells all once changed others = same_tuples (with_row_cells refs width cells rows) all (λ q. by_member q (is_among refs q) refl)
    where
      by_member : (q : TupleRef) (among : Bool) → is_among refs q ≡ among → get (with_row_cells refs width cells rows) q ≡ get all q
      by_member q true e =
          let there = among_contains refs q e in
          let at = slice_get-get_or refs there.0 q there.1 ∙ ap (λ x. Some x) there.2 in
          cells_among refs cells once there.0 q at ∙ sym (changed there.0 q at)
      by_member q false e = cells_other refs cells q (none_among refs q e) ∙ sym (others q (none_among refs q e))
