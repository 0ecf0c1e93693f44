-- A row with cells set, under all indexes: it goes out of each and comes in again, and keeps its key and its reference.
use Rattle.std.proofs.Common.{◌≡◌, ◌≤◌, ◌+◌, ℕ, List, Some, IsSome, is_some, refl, sym, ap, ◌∙◌, arith, subst, map, get_or, length, ◌<◌, inl, inr}
use Rattle.std.specs.List.{Contains}
use Rattle.std.specs.Option.{option_and_then}
use Rattle.std.specs.FinMap.{get, insert, remove, len}
use Rattle.part_raw.specs.declared.tuple_ref.TupleRef.{TupleRef}
use Rattle.part_raw.specs.Store.{Tuples}
use Rattle.part_raw.proofs.Tuples.{get-insert_same, get-insert_other, get-remove_same, get-remove_other, len-remove_held, same_tuples}
use Rattle.part_raw.proofs.Lookup.{same_or_other}
use Rattle.mm_index.specs.Order.{remove_by}
use Rattle.plain_tables.specs.declared.numbers.ColumnNumber.{ColumnNumber}
use Rattle.mm_relation.specs.Rows.{Row}
use Rattle.mm_relation.specs.declared.row.Cell.{Cell}
use Rattle.mm_relation.specs.declared.index.Index.{Index}
use Rattle.mm_relation.specs.declared.index.Index.TheVariants.{Tree, Hash}
use Rattle.mm_relation.specs.declared.numbers.DeclaredIndex.{DeclaredIndex}
use Rattle.mm_relation.specs.Reading.{Keys, row_value}
use Rattle.mm_relation.specs.Order.{column_cmp}
use Rattle.mm_relation.specs.State.{IsKeyed, no_keys}
use Rattle.mm_relation.specs.Settings.{with_cells, CanSet}
use Rattle.mm_relation.specs.Indexes.{Indexes, Await, Gain, Lose, LosesAs, Serve, HaveRoom, CoversIn, Cover, CanRead, CanReadRow, IsColumn, sure, room_in}
use Rattle.mm_relation.proofs.KeyOrder.{keyed_again, keyed_without, bag_without, not_taken, still_held}
use Rattle.mm_relation.proofs.Changing.{awaits, served_with, served_without}
use Rattle.mm_relation.proofs.Serving.{lose_declared}
use Rattle.mm_relation.proofs.Setting.{with_cells-key, row_with}

-- an index out of which a row goes has room as before
room_out : (keys : Keys) (rows : Tuples Row) (r : TupleRef) (c : ℕ) (old mid : Index) → LosesAs keys rows r c old mid → sure 1 1 old ≤ room_in old → sure 1 1 mid ≤ room_in mid
room_out keys rows r c (Tree t) (Tree u) loses room = omega (arith, loses.room, room)
room_out keys rows r c (Hash h) (Hash g) loses room = omega (arith, loses.room, room)
room_out keys rows r c was is loses room = absurd loses

-- and memory for its node
covers_out : (keys : Keys) (rows : Tuples Row) (r : TupleRef) (c : ℕ) (old mid : Index) → LosesAs keys rows r c old mid → CoversIn r mid
covers_out keys rows r c (Tree t) (Tree u) loses = tt
covers_out keys rows r c (Hash h) (Hash g) loses = loses.covered
covers_out keys rows r c was is loses = absurd loses

module _ (keys : Keys) (rows : Tuples Row) (list : List TupleRef) (all : Indexes) (r : TupleRef) (t : Row) (sets : List (ColumnNumber × Cell)) (keyed : IsKeyed rows list) (read : CanRead keys rows all) (serves : Serve keys rows list all) (can : CanSet keys rows sets) (found : get rows r ≡ Some t) where
  held : IsSome (get rows r)
  held = ap is_some found

  again : insert (remove rows r) r (with_cells sets t) ≡ insert rows r (with_cells sets t)
  again = same_tuples (insert (remove rows r) r (with_cells sets t)) (insert rows r (with_cells sets t)) (λ q.
      elim (same_or_other q r) [
        | inl same ↦ ap (get (insert (remove rows r) r (with_cells sets t))) same ∙ get-insert_same (remove rows r) r (with_cells sets t) ∙ sym (get-insert_same rows r (with_cells sets t)) ∙ sym (ap (get (insert rows r (with_cells sets t))) same)
        | inr other ↦ get-insert_other (remove rows r) r q (with_cells sets t) other ∙ get-remove_other rows r q other ∙ sym (get-insert_other rows r q (with_cells sets t) other)
      ])

  pub keyed_now : IsKeyed (insert rows r (with_cells sets t)) list
  keyed_now = keyed_again rows list r t (with_cells sets t) keyed found (with_cells-key sets t)

  -- the key's list without the row
  abbrev rest : List TupleRef
  rest = remove_by (column_cmp no_keys 0 rows) r list

  keyed_less : IsKeyed (remove rows r) rest
  keyed_less = keyed_without rows list r keyed held rest refl

  module _ (mid : Indexes) (loses : Lose keys rows r all mid) where
    column_before : (c : ℕ) → IsColumn mid c → IsColumn all c
    column_before c column = subst (λ ds. Contains (map (λ (x : DeclaredIndex). x.column.0) ds) c) (lose_declared keys rows r all mid loses) column

    read_less : CanRead keys (remove rows r) mid
    read_less c q column there =
        subst (λ o. IsSome (option_and_then (row_value keys c) o)) (sym (get-remove_other rows r q (not_taken rows list r keyed held q there)))
        (read c q (column_before c column) (still_held rows list r keyed held q there))

    serves_less : Serve keys (remove rows r) rest mid
    serves_less = served_without keys rows list all keyed read serves r held rest mid (bag_without rows list r keyed held rest refl) keyed_less loses

    row_read : CanReadRow keys (with_cells sets t) mid
    row_read c column =
        row_with keys c sets t can.not_the_key can.cells
        (subst (λ o. IsSome (option_and_then (row_value keys c) o)) found (read c r (column_before c column) held))

    room_less : HaveRoom 1 all → HaveRoom 1 mid
    room_less room = λ k d l.
        let inside : k < length all = omega (arith, loses.count, l) in
        room_out keys rows r _ (get_or all k d).index (get_or mid k d).index (loses.at k d inside).1 (room k d inside)

    covers_less : Cover r mid
    covers_less = λ k d l.
        let inside : k < length all = omega (arith, loses.count, l) in
        covers_out keys rows r _ (get_or all k d).index (get_or mid k d).index (loses.at k d inside).1

    module _ (few : len rows ≤ 16777216) (room : HaveRoom 1 all) where
      await_again : Await keys (insert (remove rows r) r (with_cells sets t)) r mid
      await_again =
          let fewer : len (remove rows r) + 1 ≡ len rows = len-remove_held rows r held in
          awaits keys (remove rows r) rest mid keyed_less read_less serves_less r (with_cells sets t) (get-remove_same rows r) row_read
          (omega arith) (rw again keyed_now.keys_differ) (room_less room) covers_less

      pub await_now : Await keys (insert rows r (with_cells sets t)) r mid
      await_now = subst (λ now. Await keys now r mid) again await_again

      pub served_now : (new : Indexes) → Gain keys (insert rows r (with_cells sets t)) r mid new → Serve keys (insert rows r (with_cells sets t)) list new
      served_now new gains =
          subst (λ now. Serve keys now list new) again
          (served_with keys (remove rows r) rest mid keyed_less read_less serves_less r (with_cells sets t) (get-remove_same rows r) row_read
          list new (rw again keyed_now.keys_differ) (bag_without rows list r keyed held rest refl) await_again
          (subst (λ now. Gain keys now r mid new) (sym again) gains))
