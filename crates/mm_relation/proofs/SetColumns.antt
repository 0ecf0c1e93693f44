-- A row with cells set, under the indexes on columns that are set and under the others.
use Rattle.std.proofs.Common.{◌≡◌, ◌≢◌, ◌≤◌, ◌<◌, ◌-◌, ◌==◌, ℕ, zero, suc, true, false, cond, List, [], ◌∷◌, Some, refl, sym, ap, ◌∙◌, arith, subst, map, length, get_or, inl, inr}
use Rattle.std.specs.Prelude.{slice_get, slice_set}
use Rattle.std.specs.List.{All, Contains, list_any}
use Rattle.std.specs.Option.{option_and_then}
use Rattle.std.specs.FinMap.{get, insert, len}
use Rattle.std.proofs.lemmas.Bool.{or_parts, eq-eqb}
use Rattle.std.proofs.lemmas.List.Elements.{All-map}
use Rattle.part_raw.specs.declared.tuple_ref.TupleRef.{TupleRef}
use Rattle.part_raw.specs.Store.{Tuples}
use Rattle.part_raw.proofs.Tuples.{get-insert_same, get-insert_other}
use Rattle.part_raw.proofs.Lookup.{same_or_other}
use Rattle.plain_tables.specs.declared.numbers.ColumnNumber.{ColumnNumber}
use Rattle.mm_relation.specs.Rows.{Row}
use Rattle.mm_relation.specs.declared.row.Cell.{Cell}
use Rattle.mm_relation.specs.declared.index.IndexOn.{IndexOn}
use Rattle.mm_relation.specs.Reading.{Keys, cell_value, row_value, value_at, key_at}
use Rattle.mm_relation.specs.State.{IsKeyed}
use Rattle.mm_relation.specs.Settings.{with_cells, CanSet, sets_column}
use Rattle.mm_relation.specs.Indexes.{Indexes, Gain, Lose, Serve, Serves, HaveRoom, CanRead, IsColumn, seen, declaration_of, room_in, sure, Where, Awaits, Gains, Loses, LosesSet, AwaitsSet, GainsSet, LoseSet, AwaitSet, GainSet}
use Rattle.mm_relation.proofs.Loops.{same_mapped}
use Rattle.mm_relation.proofs.Replacing.{await_now, served_now}
use Rattle.mm_relation.proofs.Serving.{agrees_in, from_where, column_at, gains_declared, loses_declared}
use Rattle.mm_relation.proofs.Setting.{not_first, with_cells-key}
use Rattle.common_lemmas.proofs.Elements.{All-from_map}
use Rattle.common_lemmas.proofs.Places.{slice_get-set_other}
use Rattle.std.proofs.lemmas.List.Elements.{All-cons, All-nil}

module _ (keys : Keys) (c : ℕ) where
  beside_one : (t : Row) (s : ColumnNumber × Cell) → 0 < s.0.0 → (s.0.0 == c) ≡ false → row_value keys c (record t { cells = slice_set t.cells (s.0.0 - 1) s.1 }) ≡ row_value keys c t
  beside_one t s not_key other =
      elim (c == 0) as (λ b. (c == 0) ≡ b → cond b (Some t.key) (option_and_then (cell_value keys c) (slice_get (slice_set t.cells (s.0.0 - 1) s.1) (c - 1))) ≡ cond b (Some t.key) (option_and_then (cell_value keys c) (slice_get t.cells (c - 1)))) [
        | true ↦ λ e. refl
        | false ↦ λ e.
            let here : 0 < c = not_first c e in
            let apart : c ≢ s.0.0 = (λ f. let same : (s.0.0 == c) ≡ true = eq-eqb s.0.0 c (sym f) in cc) in
            let places : c - 1 ≢ s.0.0 - 1 = (λ f. apart (omega arith)) in
            ap (option_and_then (cell_value keys c)) (slice_get-set_other t.cells (s.0.0 - 1) (c - 1) s.1 places)
      ] refl

  -- a column that is not set has the value that it had
  value_beside : (sets : List (ColumnNumber × Cell)) (t : Row) → All (λ s. 0 < s.0.0) sets → sets_column sets c ≡ false → row_value keys c (with_cells sets t) ≡ row_value keys c t
  value_beside [] t not_key none = refl
  value_beside (s ∷ rest) t not_key none =
      let parts = or_parts (s.0.0 == c) (list_any (λ x. x.0.0 == c) rest) none in
      value_beside rest (record t { cells = slice_set t.cells (s.0.0 - 1) s.1 }) (λ k d l. not_key (suc k) d (omega (arith, l))) parts.1
      ∙ beside_one t s (not_key 0 s (omega arith)) parts.0

-- an index by itself
contains_one : {A : Type 0} (x y : A) → Contains (x ∷ []) y → x ≡ y
contains_one x y (zero, l, e) = e
contains_one x y (suc k, l, e) = absurd (omega (arith, l))

pairs_one : {A : Type 0} (P : A → A → Type 0) (x y : A) → P x y → (k : ℕ) (d : A) → k < length (x ∷ []) → P (get_or (x ∷ []) k d) (get_or (y ∷ []) k d)
pairs_one P x y h zero d l = h
pairs_one P x y h (suc k) d l = absurd (omega (arith, l))

module _ (keys : Keys) (rows : Tuples Row) (list : List TupleRef) (all : Indexes) (r : TupleRef) (t : Row) (sets : List (ColumnNumber × Cell)) (keyed : IsKeyed rows list) (read : CanRead keys rows all) (can : CanSet keys rows sets) (found : get rows r ≡ Some t) (few : len rows ≤ 16777216) where
  abbrev now : Tuples Row
  now = insert rows r (with_cells sets t)

  -- what is read beside the cells that are set
  same_beside : (c : ℕ) → sets_column sets c ≡ false → (q : TupleRef) → value_at keys c now q ≡ value_at keys c rows q
  same_beside c none q = elim (same_or_other q r) [
    | inl same ↦ ap (value_at keys c now) same ∙ ap (option_and_then (row_value keys c)) (get-insert_same rows r (with_cells sets t)) ∙ value_beside keys c sets t can.not_the_key none ∙ sym (ap (option_and_then (row_value keys c)) found) ∙ sym (ap (value_at keys c rows) same)
    | inr other ↦ ap (option_and_then (row_value keys c)) (get-insert_other rows r q (with_cells sets t) other)
  ]

  same_keys : (q : TupleRef) → key_at now q ≡ key_at rows q
  same_keys q = elim (same_or_other q r) [
    | inl same ↦ ap (key_at now) same ∙ ap (option_and_then (λ x. Some x.key)) (get-insert_same rows r (with_cells sets t)) ∙ ap (λ v. Some v) (with_cells-key sets t) ∙ sym (ap (option_and_then (λ x. Some x.key)) found) ∙ sym (ap (key_at rows) same)
    | inr other ↦ ap (option_and_then (λ x. Some x.key)) (get-insert_other rows r q (with_cells sets t) other)
  ]

  module _ (old : IndexOn) (column : IsColumn all old.column.0) (serves : Serves keys rows list (seen old)) (room : sure 1 1 old.index ≤ room_in old.index) where
    read_one : CanRead keys rows (old ∷ [])
    read_one c q here held = read c q (subst (IsColumn all) (contains_one old.column.0 c here) column) held

    serve_one : Serve keys rows list (old ∷ [])
    serve_one = All-cons (Serves keys rows list) (seen old) [] serves (All-nil (Serves keys rows list))

    room_one : HaveRoom 1 (old ∷ [])
    room_one = let Has : IndexOn → Type 0 = λ on. sure 1 1 on.index ≤ room_in on.index in All-cons Has old [] room (All-nil Has)

    module _ (mid : IndexOn) (loses : Loses keys rows r old mid) where
      lose_one : Lose keys rows r (old ∷ []) (mid ∷ [])
      lose_one = record { count = refl; at = pairs_one (Loses keys rows r) old mid loses }

      awaits_again : Awaits keys now r mid
      awaits_again = await_now keys rows list (old ∷ []) r t sets keyed read_one serve_one can found (mid ∷ []) lose_one few room_one 0 mid (omega arith)

      serves_again : (new : IndexOn) → Gains keys now r mid new → Serves keys now list (seen new)
      serves_again new gains =
          let gain : Gain keys now r (mid ∷ []) (new ∷ []) = record { count = refl; at = pairs_one (Gains keys now r) mid new gains } in
          served_now keys rows list (old ∷ []) r t sets keyed read_one serve_one can found (mid ∷ []) lose_one few room_one (new ∷ []) gain 0 (seen new) (omega arith)

    awaits_set : (mid : IndexOn) → LosesSet keys rows r sets old mid → AwaitsSet keys now r sets mid
    awaits_set mid loses =
        elim (sets_column sets old.column.0) as (λ b. sets_column sets old.column.0 ≡ b → Where b (Loses keys rows r old mid) (mid ≡ old) → AwaitsSet keys now r sets mid) [
          | true ↦ λ e h. λ is. awaits_again mid h
          | false ↦ λ e h. λ is. let set : sets_column sets old.column.0 ≡ true = ap (λ (x : IndexOn). sets_column sets x.column.0) (sym h) ∙ is in absurd (cc)
        ] refl loses

    serves_set : (mid new : IndexOn) → LosesSet keys rows r sets old mid → GainsSet keys now r sets mid new → Serves keys now list (seen new)
    serves_set mid new loses gains =
        elim (sets_column sets old.column.0) as (λ b. sets_column sets old.column.0 ≡ b → Where b (Loses keys rows r old mid) (mid ≡ old) → Serves keys now list (seen new)) [
          | true ↦ λ e h.
              let set : sets_column sets mid.column.0 ≡ true = ap (λ (c : ColumnNumber). sets_column sets c.0) h.0 ∙ e in
              serves_again mid h new (subst (λ b. Where b (Gains keys now r mid new) (new ≡ mid)) set gains)
          | false ↦ λ e h.
              let beside : sets_column sets mid.column.0 ≡ false = ap (λ (x : IndexOn). sets_column sets x.column.0) h ∙ e in
              let same : new ≡ old = subst (λ b. Where b (Gains keys now r mid new) (new ≡ mid)) beside gains ∙ h in
              subst (λ x. Serves keys now list (seen x)) (sym same) (agrees_in keys rows now list (seen old) (λ q _. same_beside old.column.0 e q) (λ q _. same_keys q) serves)
        ] refl loses

  -- all indexes together
  module _ (serves : Serve keys rows list all) (mid : Indexes) (loses : LoseSet keys rows r sets all mid) (room : HaveRoom 1 all) where
    at : All (λ on. Serves keys rows list (seen on)) all
    at = All-from_map (Serves keys rows list) seen all serves

    pub await_set : AwaitSet keys now r sets mid
    await_set = λ k d l. let inside : k < length all = omega (arith, loses.count, l) in
        awaits_set (get_or all k d) (column_at all k d inside) (at k d inside) (room k d inside) (get_or mid k d) (loses.at k d inside)

    pub served_set : (new : Indexes) → GainSet keys now r sets mid new → Serve keys now list new
    served_set new gains = All-map (Serves keys now list) seen new (λ k d l.
        let inside : k < length all = omega (arith, loses.count, gains.count, l) in
        serves_set (get_or all k d) (column_at all k d inside) (at k d inside) (room k d inside) (get_or mid k d) (get_or new k d) (loses.at k d inside) (gains.at k d (omega (arith, gains.count, l))))

-- the declarations stay
module _ (keys : Keys) (rows now : Tuples Row) (r : TupleRef) (sets : List (ColumnNumber × Cell)) where
  module _ (old mid new : Indexes) (loses : LoseSet keys rows r sets old mid) (gains : GainSet keys now r sets mid new) where
    pub declared_set : map declaration_of new ≡ map declaration_of old
    declared_set =
        same_mapped declaration_of mid new gains.count (λ k d l. from_where (sets_column sets (get_or mid k d).column.0) (gains_declared keys now r (get_or mid k d) (get_or new k d)) (λ h. ap declaration_of h) (gains.at k d l))
        ∙ same_mapped declaration_of old mid loses.count (λ k d l. from_where (sets_column sets (get_or old k d).column.0) (loses_declared keys rows r (get_or old k d) (get_or mid k d)) (λ h. ap declaration_of h) (loses.at k d l))
