-- Cells that are set in rows.
use Rattle.std.proofs.Common.{◌≡◌, ◌≢◌, ◌≤◌, ◌<◌, ◌-◌, ◌==◌, ◌++◌, ℕ, zero, suc, true, false, cond, List, [], ◌∷◌, Option, Some, None, IsSome, is_some, refl, sym, ap, ◌∙◌, arith, subst, length, take, get_or, ◌⊎◌, inl, inr}
use Rattle.std.specs.Prelude.{slice_get, slice_set}
use Rattle.std.specs.Bool.{Decides}
use Rattle.std.specs.List.{All, Contains, AllPairs}
use Rattle.std.specs.Ordering.{eq_by_cmp}
use Rattle.std.specs.Cmp.{eq_by_cmp_equiv}
use Rattle.std.specs.Option.{option_and_then, option_map}
use Rattle.std.specs.FinMap.{get, insert}
use Rattle.std.proofs.lemmas.Bool.{cases_eq, eqb-true}
use Rattle.std.proofs.lemmas.List.{length-set, length-take-le, get_or_default, get_or-take, get_or-set_same, get_or-set_other}
use Rattle.std.proofs.lemmas.List.Elements.{Contains-append_left, Contains-append_right, Contains-append_cases}
use Rattle.std.proofs.lemmas.Map.Made.{length-le_from_is_member, is_member-Decides, IsDistinct-from_AllPairs}
use Rattle.std.proofs.lemmas.Option.{slice_get_within, slice_get-get_or}
use Rattle.common_lemmas.proofs.Elements.{Contains-cons, Contains-cons_cases}
use Rattle.common_lemmas.proofs.Options.{and_then-Some}
use Rattle.part_raw.specs.declared.tuple_ref.TupleRef.{TupleRef}
use Rattle.part_raw.specs.Store.{Tuples}
use Rattle.part_raw.specs.TupleRefs.{ref_cmp}
use Rattle.part_raw.proofs.Refs.{ref_cmp_total}
use Rattle.part_raw.proofs.Tuples.{same_ref_self, same_ref_true, get-insert_same, get-insert_other}
use Rattle.part_raw.proofs.Lookup.{same_or_other}
use Rattle.plain_tables.specs.declared.numbers.ColumnNumber.{ColumnNumber}
use Rattle.mm_relation.specs.Rows.{Row}
use Rattle.mm_relation.specs.declared.row.Cell.{Cell}
use Rattle.mm_relation.specs.Reading.{Keys, cell_value, row_value, value_at}
use Rattle.mm_relation.specs.Settings.{with_cells, CellsSet, CanSet}

-- references that repeat nothing are no more than those that they are among
pub no_more : (xs ys : List TupleRef) → AllPairs (λ q r. q ≢ r) xs → ((r : TupleRef) → Contains xs r → Contains ys r) → length xs ≤ length ys
no_more xs ys once inside =
    length-le_from_is_member (eq_by_cmp_equiv ref_cmp_total) xs ys (IsDistinct-from_AllPairs decides xs once)
    (λ q e. (is_member-Decides decides ys q).1 (inside q ((is_member-Decides decides xs q).0 e)))
  where
    decides : (a b : TupleRef) → Decides (eq_by_cmp ref_cmp a b) (a ≡ b)
    decides a b = (same_ref_true a b, λ e. subst (λ x. eq_by_cmp ref_cmp a x ≡ true) e (same_ref_self a))

-- a list has a reference, or hasn't
pub among_or_not : (xs : List TupleRef) (r : TupleRef) → Contains xs r ⊎ (Contains xs r → ⊥)
among_or_not [] r = inr (λ h. absurd (omega (arith, h.1)))
among_or_not (x ∷ xs) r = elim (same_or_other r x) [
  | inl same ↦ inl (0, omega arith, sym same)
  | inr other ↦ elim (among_or_not xs r) [
    | inl there ↦ inl (Contains-cons x xs r there)
    | inr never ↦ inr (λ h. elim (Contains-cons_cases x xs r h) [
      | inl same ↦ other same
      | inr there ↦ never there
    ])
  ]
]

-- no reference stands among those before it
pub not_before : (xs : List TupleRef) (i : ℕ) (d : TupleRef) → i < length xs → AllPairs (λ q r. q ≢ r) xs → Contains (take i xs) (get_or xs i d) → ⊥
not_before xs i d inside once h =
    let n : length (take i xs) ≡ i = length-take-le i xs (omega arith) in
    once h.0 i d (omega (arith, h.1)) inside
    (get_or_default xs h.0 d (get_or xs i d) (omega (arith, h.1)) ∙ sym (get_or-take i xs h.0 (get_or xs i d) (omega (arith, h.1))) ∙ h.2)

-- the key stays
pub with_cells-key : (sets : List (ColumnNumber × Cell)) (t : Row) → (with_cells sets t).key ≡ t.key
with_cells-key [] t = refl
with_cells-key (s ∷ rest) t = with_cells-key rest (record t { cells = slice_set t.cells (s.0.0 - 1) s.1 })

pub not_first : (c : ℕ) → (c == 0) ≡ false → 0 < c
not_first zero g = cc
not_first (suc c) g = omega arith

module _ (keys : Keys) (c : ℕ) where
  -- the value of a cell that was set, or of one beside it
  cell_with : (cells : List Cell) (s : ColumnNumber × Cell) → 0 < c → 0 < s.0.0 → IsSome (cell_value keys s.0.0 s.1) → IsSome (option_and_then (cell_value keys c) (slice_get cells (c - 1))) → IsSome (option_and_then (cell_value keys c) (slice_get (slice_set cells (s.0.0 - 1) s.1) (c - 1)))
  cell_with cells s inside beside readable before =
      let there = and_then-Some (cell_value keys c) (slice_get cells (c - 1)) before in
      let within : c - 1 < length cells = slice_get_within cells (c - 1) there.0 there.1 in
      let kept : length (slice_set cells (s.0.0 - 1) s.1) ≡ length cells = length-set cells (s.0.0 - 1) s.1 in
      let now : slice_get (slice_set cells (s.0.0 - 1) s.1) (c - 1) ≡ Some (get_or (slice_set cells (s.0.0 - 1) s.1) (c - 1) s.1) = slice_get-get_or (slice_set cells (s.0.0 - 1) s.1) (c - 1) s.1 (omega arith) in
      elim (cases_eq c s.0.0) [
        | inl same ↦
            let at : get_or (slice_set cells (s.0.0 - 1) s.1) (c - 1) s.1 ≡ s.1 = ap (λ k. get_or (slice_set cells (s.0.0 - 1) s.1) (k - 1) s.1) same ∙ get_or-set_same cells (s.0.0 - 1) s.1 s.1 (omega arith) in
            subst (λ o. IsSome (option_and_then (cell_value keys c) o)) (sym (now ∙ ap (λ x. Some x) at)) (subst (λ k. IsSome (cell_value keys k s.1)) (sym same) readable)
        | inr other ↦
            let differ : c - 1 ≢ s.0.0 - 1 = (λ e. other (omega arith)) in
            let at : get_or (slice_set cells (s.0.0 - 1) s.1) (c - 1) s.1 ≡ get_or cells (c - 1) s.1 = get_or-set_other cells (s.0.0 - 1) (c - 1) s.1 s.1 differ in
            subst (λ o. IsSome (option_and_then (cell_value keys c) o)) (slice_get-get_or cells (c - 1) s.1 within ∙ ap (λ x. Some x) (sym at) ∙ sym now) before
      ]

  one_with : (t : Row) (s : ColumnNumber × Cell) → 0 < s.0.0 → IsSome (cell_value keys s.0.0 s.1) → IsSome (row_value keys c t) → IsSome (row_value keys c (record t { cells = slice_set t.cells (s.0.0 - 1) s.1 }))
  one_with t s beside readable before =
      elim (c == 0) as (λ b. (c == 0) ≡ b → IsSome (cond b (Some t.key) (option_and_then (cell_value keys c) (slice_get t.cells (c - 1)))) → IsSome (cond b (Some t.key) (option_and_then (cell_value keys c) (slice_get (slice_set t.cells (s.0.0 - 1) s.1) (c - 1))))) [
        | true ↦ λ g h. refl
        | false ↦ λ g h. cell_with t.cells s (not_first c g) beside readable h
      ] refl before

  -- a column that can be read still can once cells that can be read are set
  pub row_with : (sets : List (ColumnNumber × Cell)) (t : Row) → All (λ s. 0 < s.0.0) sets → All (λ s. IsSome (cell_value keys s.0.0 s.1)) sets → IsSome (row_value keys c t) → IsSome (row_value keys c (with_cells sets t))
  row_with [] t beside readable before = before
  row_with (s ∷ rest) t beside readable before =
      row_with rest (record t { cells = slice_set t.cells (s.0.0 - 1) s.1 }) (λ k d l. beside (suc k) d (omega arith)) (λ k d l. readable (suc k) d (omega arith))
      (one_with t s (beside 0 s (omega arith)) (readable 0 s (omega arith)) before)

-- a column with a value is among the cells
pub column_there : (keys : Keys) (rows : Tuples Row) (r : TupleRef) (t : Row) → get rows r ≡ Some t → (c : ℕ) → 0 < c → IsSome (value_at keys c rows r) → c ≤ length t.cells
column_there keys rows r t found c beside read =
    let here : IsSome (row_value keys c t) = subst (λ o. IsSome (option_and_then (row_value keys c) o)) found read in
    let not_key : (c == 0) ≡ false = later c beside in
    let there = and_then-Some (cell_value keys c) (slice_get t.cells (c - 1)) (subst (λ b. IsSome (cond b (Some t.key) (option_and_then (cell_value keys c) (slice_get t.cells (c - 1))))) not_key here) in
    let within : c - 1 < length t.cells = slice_get_within t.cells (c - 1) there.0 there.1 in
    omega arith
  where
    later : (n : ℕ) → 0 < n → (n == 0) ≡ false
    later n l = elim (n == 0) as (λ b. (n == 0) ≡ b → b ≡ false) [
      | true ↦ λ e. let none : n ≡ 0 = eqb-true n 0 e in absurd (omega (arith, none, l))
      | false ↦ λ e. refl
    ] refl

-- nothing is set at first
pub none_set : (rows : Tuples Row) (sets : List (ColumnNumber × Cell)) → CellsSet rows rows [] sets
none_set rows sets = record { changed = λ q h. absurd (omega (arith, h.1)); others = λ q h. refl }

-- one row more
pub one_set : (old now : Tuples Row) (rs : List TupleRef) (sets : List (ColumnNumber × Cell)) (r : TupleRef) (t : Row) → CellsSet old now rs sets → (Contains rs r → ⊥) → get old r ≡ Some t → CellsSet old (insert now r (with_cells sets t)) (rs ++ (r ∷ [])) sets
one_set old now rs sets r t before fresh found = record {
  changed = λ q h. elim (same_or_other q r) [
    | inl same ↦ ap (get (insert now r (with_cells sets t))) same ∙ get-insert_same now r (with_cells sets t) ∙ ap (option_map (with_cells sets)) (sym found ∙ ap (get old) (sym same))
    | inr other ↦ get-insert_other now r q (with_cells sets t) other ∙ before.changed q (elim (Contains-append_cases rs (r ∷ []) q h) [
      | inl there ↦ there
      | inr last ↦ elim (Contains-cons_cases r [] q last) [
        | inl same ↦ absurd (other same)
        | inr none ↦ absurd (omega (arith, none.1))
      ]
    ])
  ];
  others = λ q h.
      let other : q ≢ r = (λ e. h (Contains-append_right rs (r ∷ []) q (0, omega arith, sym e))) in
      get-insert_other now r q (with_cells sets t) other ∙ before.others q (λ m. h (Contains-append_left rs (r ∷ []) q m));
}

-- the rows as they were, where they are held now
module _ (keys : Keys) (old now : Tuples Row) (rs : List TupleRef) (sets : List (ColumnNumber × Cell)) (can : CanSet keys old sets) (set : CellsSet old now rs sets) where
  from_mapped : (f : Row → Row) (o : Option Row) → IsSome (option_map f o) → (t : Row) × (o ≡ Some t)
  from_mapped f None h = absurd (cc)
  from_mapped f (Some t) h = (t, refl)

  -- a column with a value in each row still has one
  pub still_read : (c : ℕ) → ((q : TupleRef) → IsSome (get old q) → IsSome (value_at keys c old q)) → (q : TupleRef) → IsSome (get now q) → IsSome (value_at keys c now q)
  still_read c before q held = elim (among_or_not rs q) [
    | inl there ↦
        let found = from_mapped (with_cells sets) (get old q) (subst IsSome (set.changed q there) held) in
        let read : IsSome (row_value keys c found.0) = subst (λ o. IsSome (option_and_then (row_value keys c) o)) found.1 (before q (ap is_some found.1)) in
        subst (λ o. IsSome (option_and_then (row_value keys c) o)) (sym (set.changed q there ∙ ap (option_map (with_cells sets)) found.1)) (row_with keys c sets found.0 can.not_the_key can.cells read)
    | inr never ↦ subst (λ o. IsSome (option_and_then (row_value keys c) o)) (sym (set.others q never)) (before q (subst IsSome (set.others q never) held))
  ]

  pub can_still : CanSet keys now sets
  can_still = record { not_the_key = can.not_the_key; cells = can.cells; columns = λ k d l q held. still_read _ (can.columns k d l) q held }
