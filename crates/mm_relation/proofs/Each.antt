-- Cells set in one row after another.
use Rattle.std.proofs.Common.{◌≡◌, ◌≢◌, ◌≤◌, ◌<◌, ◌+◌, ◌-◌, ◌++◌, ℕ, suc, List, [], ◌∷◌, Some, IsSome, is_some, sym, ap, ◌∙◌, arith, subst, map, length, take, get_or}
use Rattle.std.specs.List.{All, AllPairs, Contains}
use Rattle.std.specs.Option.{option_and_then}
use Rattle.std.specs.FinMap.{get, insert, len}
use Rattle.std.proofs.Math.Seq.{take-suc}
use Rattle.part_raw.specs.declared.tuple_ref.TupleRef.{TupleRef}
use Rattle.part_raw.specs.Store.{Tuples}
use Rattle.part_raw.proofs.Tuples.{held_tuple}
use Rattle.plain_tables.specs.declared.numbers.ColumnNumber.{ColumnNumber}
use Rattle.mm_relation.specs.Rows.{Row}
use Rattle.mm_relation.specs.declared.row.Cell.{Cell}
use Rattle.mm_relation.specs.declared.numbers.DeclaredIndex.{DeclaredIndex}
use Rattle.mm_relation.specs.Reading.{Keys, cell_value, row_value, value_at}
use Rattle.mm_relation.specs.State.{IsKeyed, IsReadable}
use Rattle.mm_relation.specs.Settings.{with_cells, pile, piled, CanSet, CellsSet}
use Rattle.mm_relation.specs.Indexes.{Indexes, CanRead, IsColumn, declaration_of}
use Rattle.mm_relation.proofs.Setting.{not_before, one_set, still_read}

-- as many rows under the same list
pub as_few : (old now : Tuples Row) (list : List TupleRef) → IsKeyed old list → IsKeyed now list → len old ≤ 16777216 → len now ≤ 16777216
as_few old now list before after few =
    let old_count : length list ≡ len old = before.lists.count in
    let new_count : length list ≡ len now = after.lists.count in
    omega arith

-- the pile for one row lies on that for the rest
pub pile_split : (n i : ℕ) (sets : List (ColumnNumber × Cell)) → i < n → pile (n - i) sets ≡ piled sets (pile (n - (i + 1)) sets)
pile_split n i sets inside =
    let one : n - i ≡ suc (n - (i + 1)) = omega arith in
    ap (λ m. pile m sets) one

-- what can be read while cells are set
pub read_now : (keys : Keys) (old now : Tuples Row) (rs : List TupleRef) (sets : List (ColumnNumber × Cell)) (all new : Indexes) → CanSet keys old sets → CellsSet old now rs sets → map declaration_of new ≡ map declaration_of all → CanRead keys old all → CanRead keys now new
read_now keys old now rs sets all new can set declared read c q column held =
    let before : IsColumn all c = subst (λ ds. Contains (map (λ (x : DeclaredIndex). x.column.0) ds) c) declared column in
    still_read keys old now rs sets can set c (λ p h. read c p before h) q held

module _ (old now : Tuples Row) (rs : List TupleRef) (sets : List (ColumnNumber × Cell)) (i : ℕ) (r : TupleRef) (inside : i < length rs) (at : get_or rs i r ≡ r) (once : AllPairs (λ p q. p ≢ q) rs) (held : All (λ q. IsSome (get old q)) rs) (set : CellsSet old now (take i rs) sets) where
  fresh : Contains (take i rs) r → ⊥
  fresh h = not_before rs i r inside once (subst (Contains (take i rs)) (sym at) h)

  same : get now r ≡ get old r
  same = set.others r fresh

  pub held_now : IsSome (get now r)
  held_now = subst IsSome (sym same) (subst (λ q. IsSome (get old q)) at (held i r inside))

  pub set_next : (next : Tuples Row) → ((t : Row) → get now r ≡ Some t → next ≡ insert now r (with_cells sets t)) → CellsSet old next (take (i + 1) rs) sets
  set_next next row =
      let found = held_tuple now r held_now in
      let count : i + 1 ≡ suc i = omega arith in
      let split : take (i + 1) rs ≡ take i rs ++ (r ∷ []) = ap (λ n. take n rs) count ∙ take-suc rs i r inside ∙ ap (λ q. take i rs ++ (q ∷ [])) at in
      rw (row found.0 found.1, split) (one_set old now (take i rs) sets r found.0 set fresh (sym same ∙ found.1))

-- where each row can be read, so it can once cells that can be read are set
module _ (keys : Keys) (width : ℕ) (old : Tuples Row) (sets : List (ColumnNumber × Cell)) (before : (q : TupleRef) (u : Row) → get old q ≡ Some u → IsReadable keys width u) where
  value_before : (c : ℕ) → c < width → (q : TupleRef) → IsSome (get old q) → IsSome (value_at keys c old q)
  value_before c l q h =
      let found = held_tuple old q h in
      subst (λ o. IsSome (option_and_then (row_value keys c) o)) (sym found.1) (before q found.0 found.1 c l)

  pub can_set : All (λ s. s.0.0 < width) sets → All (λ s. 0 < s.0.0) sets → All (λ s. IsSome (cell_value keys s.0.0 s.1)) sets → CanSet keys old sets
  can_set within beside cells = record { not_the_key = beside; cells = cells; columns = λ k d l. value_before _ (within k d l) }

  pub readable_set : CanSet keys old sets → (now : Tuples Row) (rs : List TupleRef) → CellsSet old now rs sets → (q : TupleRef) (u : Row) → get now q ≡ Some u → IsReadable keys width u
  readable_set can now rs set q u e = λ c l. subst (λ o. IsSome (option_and_then (row_value keys c) o)) e (still_read keys old now rs sets can set c (value_before c l) q (ap is_some e))
