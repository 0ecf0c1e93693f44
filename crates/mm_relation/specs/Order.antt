-- The order of a tree on a column.
use Rattle.std.specs.Prelude.{◌≡◌, ℕ, ◌-◌, ◌==◌, true, false, List, Option, Some, None, IsSome}
use Rattle.std.proofs.Common.{zero, suc, ◌<◌, arith, cond, refl, ap}
use Rattle.std.specs.Option.{option_cmp, option_and_then}
use Rattle.std.specs.Ordering.{then_cmp, on, ordering_then}
use Rattle.std.specs.declared.cmp.Ordering.{Ordering}
use Rattle.std.specs.declared.cmp.Ordering.TheVariants.{Less, Equal, Greater}
use Rattle.std.specs.Cmp.{IsTotalOrder}
use Rattle.std.specs.Cmp.Lexicographic.{options_total}
use Rattle.std.proofs.lemmas.Cmp.{then_total, on_total}
use Rattle.std.specs.FinMap as map
use Rattle.common_lemmas.proofs.Options.{some_from_then}
use Rattle.part_raw.specs.declared.tuple_ref.TupleRef.{TupleRef}
use Rattle.part_raw.specs.Store.{Tuples}
use Rattle.mm_index.specs.Order.{IsStrictOver, IsRising}
use Rattle.mm_index.proofs.Listed.{IsRising-agree}
use Rattle.plain_tables.specs.declared.value.Value.{Value}
use Rattle.plain_tables.specs.Values.{value_cmp, value_cmp_total}
use Rattle.plain_tables.proofs.Values.{value_cmp-exact}
use Rattle.mm_relation.specs.Rows.{Row}
use Rattle.mm_relation.specs.declared.row.Cell.{Cell}
use Rattle.mm_relation.specs.declared.row.Cell.TheVariants.{Held, Link}
use Rattle.mm_relation.specs.Reading.{Keys, value_at, key_at, AgreeOnLinks, row_value, cell_value}
use Rattle.std.specs.Prelude.{slice_get}

-- no two rows that are held have one key
pub record KeysDiffer (tuples : Tuples Row) : Type 0 where
  pub apart : (a b : TupleRef) → IsSome (map.get tuples a) → IsSome (map.get tuples b) → key_at tuples a ≡ key_at tuples b → a ≡ b

-- by the values in a column, then by the keys
abbrev pub column_cmp : Keys → ℕ → Tuples Row → TupleRef → TupleRef → Ordering
column_cmp keys column tuples =
    then_cmp (on (value_at keys column tuples) (option_cmp value_cmp)) (on (key_at tuples) (option_cmp value_cmp))

-- a row's value in a column and its key, as they were read
pub record IsRead (keys : Keys) (column : ℕ) (tuples : Tuples Row) (r : TupleRef) (v k : Value) : Type 0 where
  pub value : value_at keys column tuples r ≡ Some v
  pub key : key_at tuples r ≡ Some k

pub column_cmp_total : (keys : Keys) (column : ℕ) (tuples : Tuples Row) → IsTotalOrder (column_cmp keys column tuples)
column_cmp_total keys column tuples =
    then_total (on_total (value_at keys column tuples) (options_total value_cmp_total)) (on_total (key_at tuples) (options_total value_cmp_total))

pub option_exact : (x y : Option Value) → option_cmp value_cmp x y ≡ Equal → x ≡ y
option_exact None None e = refl
option_exact None (Some y) e = cc
option_exact (Some x) None e = cc
option_exact (Some x) (Some y) e = ap (λ v. Some v) ((value_cmp-exact x y).0 e)

then_equal : (o p : Ordering) → ordering_then o p ≡ Equal → p ≡ Equal
then_equal Less p e = cc
then_equal Equal p e = e
then_equal Greater p e = cc

pub held_from_value : (keys : Keys) (column : ℕ) (tuples : Tuples Row) (r : TupleRef) → IsSome (value_at keys column tuples r) → IsSome (map.get tuples r)
held_from_value keys column tuples r h = some_from_then (row_value keys column) (map.get tuples r) h

-- a total order that tells the members of a set apart is strict over it
pub strict_from_total : {A : Type 0} (covers : A → Type 0) (cmp : A → A → Ordering) → IsTotalOrder cmp → ((a b : A) → covers a → covers b → cmp a b ≡ Equal → a ≡ b) → IsStrictOver covers cmp
strict_from_total covers cmp total apart = record {
  antisymm = λ a b _ _. total.antisymm a b;
  trans = λ a b c _ _ _ h k. total.trans a b c h k;
  strict = apart;
}

pub column_cmp_strict : (keys : Keys) (column : ℕ) (tuples : Tuples Row) → KeysDiffer tuples → IsStrictOver (λ r. IsSome (value_at keys column tuples r)) (column_cmp keys column tuples)
column_cmp_strict keys column tuples differ =
    strict_from_total (λ r. IsSome (value_at keys column tuples r)) (column_cmp keys column tuples) (column_cmp_total keys column tuples)
    (λ a b p q e.
    differ.apart a b (held_from_value keys column tuples a p) (held_from_value keys column tuples b q)
    (option_exact (key_at tuples a) (key_at tuples b) (then_equal (option_cmp value_cmp (value_at keys column tuples a) (value_at keys column tuples b)) (option_cmp value_cmp (key_at tuples a) (key_at tuples b)) e)))

-- the value in a column is the same under keys that agree
pub value_at-agree : (keys others : Keys) (column : ℕ) (tuples : Tuples Row) → AgreeOnLinks tuples keys others → (r : TupleRef) → value_at others column tuples r ≡ value_at keys column tuples r
value_at-agree keys others column tuples agree r =
    elim (map.get tuples r) as (λ o. map.get tuples r ≡ o → option_and_then (row_value others column) o ≡ option_and_then (row_value keys column) o) [
      | None ↦ λ e. refl
      | Some t ↦ λ e.
          elim (column == 0) as (λ b. (column == 0) ≡ b → cond b (Some t.key) (option_and_then (cell_value others column) (slice_get t.cells (column - 1))) ≡ cond b (Some t.key) (option_and_then (cell_value keys column) (slice_get t.cells (column - 1)))) [
            | true ↦ λ g. refl
            | false ↦ λ g. elim (slice_get t.cells (column - 1)) as (λ o. slice_get t.cells (column - 1) ≡ o → option_and_then (cell_value others column) o ≡ option_and_then (cell_value keys column) o) [
              | None ↦ λ f. refl
              | Some cell ↦ same_cell r t (not_key column g) e cell
            ] refl
          ] refl
    ] refl
  where
    not_key : (c : ℕ) → (c == 0) ≡ false → 0 < c
    not_key zero g = cc
    not_key (suc c) g = omega arith

    same_cell : (r : TupleRef) (t : Row) → 0 < column → map.get tuples r ≡ Some t → (cell : Cell) → slice_get t.cells (column - 1) ≡ Some cell → cell_value others column cell ≡ cell_value keys column cell
    same_cell r t g e (Held value) f = refl
    same_cell r t g e (Link to) f = agree column to (r, t, g, e, f)

-- keys that agree on the links of the rows give the same order on every list
abbrev pub OrdersAlike : Type 0
OrdersAlike = (keys others : Keys) (column : ℕ) (tuples : Tuples Row) (list : List TupleRef) → AgreeOnLinks tuples keys others → IsRising (column_cmp keys column tuples) list → IsRising (column_cmp others column tuples) list

pub orders_alike : OrdersAlike
orders_alike keys others column tuples list agree rising =
    IsRising-agree (column_cmp keys column tuples) (column_cmp others column tuples) list
    (λ p q _ _. let vp = value_at-agree keys others column tuples agree p in let vq = value_at-agree keys others column tuples agree q in
    rw (vp, vq) refl) rising
