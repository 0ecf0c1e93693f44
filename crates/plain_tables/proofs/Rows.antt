-- Rows of a table: that they still rise, and are at most one more, where a row is put in.
use Rattle.std.proofs.Common.{◌≡◌, ◌+◌, ◌<◌, ◌≤◌, ℕ, zero, suc, true, false, length, take, set, map, arith, List, [], ◌∷◌, ◌++◌, length-append, inl, inr, refl, sym, ◌⊎◌}
use Rattle.std.specs.List.{All, AllPairs, filter}
use Rattle.std.specs.declared.cmp.Ordering.{Ordering}
use Rattle.std.specs.declared.cmp.Ordering.TheVariants.{Less, Equal, Greater}
use Rattle.std.specs.Ordering.{is_eq, is_lt}
use Rattle.std.specs.Cmp.{IsTotalOrder, on_total}
use Rattle.std.proofs.lemmas.Bool.{false≢true}
use Rattle.std.proofs.lemmas.Cmp.{lists_total}
use Rattle.std.proofs.lemmas.List.Elements.{All-cons, All-filter, All-append, All-weaker, filter_passes}
use Rattle.std.proofs.lemmas.List.Kept.{AllPairs-cons, AllPairs-filter}
use Rattle.common_lemmas.proofs.Orders.{is_lt-Less}
use Rattle.plain_tables.specs.Values.{value_cmp_total}
use Rattle.plain_tables.specs.Tables.{Row, key_cmp, AreRising, with_row}
use Rattle.plain_tables.specs.declared.value.Value.{Value}
use Rattle.common_lemmas.proofs.Pairs.{AllPairs-append, AllPairs-map}
use Rattle.common_lemmas.proofs.Filters.{length-filter_apart}

-- ---- an element put in

module _ {X : Type 0} (cmp : X → X → Ordering) (total : IsTotalOrder cmp) (x : X) where
  abbrev below : List X → List X
  below xs = filter (λ y. is_lt (cmp y x)) xs

  abbrev above : List X → List X
  above xs = filter (λ y. is_lt (cmp x y)) xs

  all_below : (xs : List X) → All (λ y. cmp y x ≡ Less) (below xs)
  all_below xs =
      All-weaker (λ y. is_lt (cmp y x) ≡ true) (λ y. cmp y x ≡ Less) (λ y. is_lt-Less (cmp y x))
      (below xs) (filter_passes (λ y. is_lt (cmp y x)) xs)

  all_above : (xs : List X) → All (λ y. cmp x y ≡ Less) (above xs)
  all_above xs =
      All-weaker (λ y. is_lt (cmp x y) ≡ true) (λ y. cmp x y ≡ Less) (λ y. is_lt-Less (cmp x y))
      (above xs) (filter_passes (λ y. is_lt (cmp x y)) xs)

  -- an element below this one is below it and those above it
  below_rest : (xs : List X) (y : X) → cmp y x ≡ Less → All (λ z. cmp y z ≡ Less) (x ∷ above xs)
  below_rest xs y h =
      All-cons (λ z. cmp y z ≡ Less) x (above xs) h
      (All-weaker (λ z. cmp x z ≡ Less) (λ z. cmp y z ≡ Less) (λ z. total.trans y x z h) (above xs) (all_above xs))

  -- elements that rise still do with one between those below it and those above it
  pub inserted_rise : (xs : List X) → AllPairs (λ y z. cmp y z ≡ Less) xs → AllPairs (λ y z. cmp y z ≡ Less) (below xs ++ x ∷ above xs)
  inserted_rise xs rise =
      let R : X → X → Type 0 = λ y z. cmp y z ≡ Less in
      AllPairs-append R (below xs) (x ∷ above xs)
      (AllPairs-filter R (λ y. is_lt (cmp y x)) xs rise)
      (AllPairs-cons R x (above xs) (all_above xs) (AllPairs-filter R (λ y. is_lt (cmp x y)) xs rise))
      (All-weaker (λ y. R y x) (λ y. All (R y) (x ∷ above xs)) (below_rest xs) (below xs) (all_below xs))

-- ---- rows in the order of their keys

pub key_cmp_total : IsTotalOrder key_cmp
key_cmp_total = on_total (take 1) (lists_total value_cmp_total)

-- where one row is below another, that one isn't below the first
pub key_cmp-one_way : (r s : Row) → is_lt (key_cmp r s) ≡ true → is_lt (key_cmp s r) ≡ false
key_cmp-one_way r s h = rw (key_cmp_total.antisymm s r, is_lt-Less (key_cmp r s) h) refl

-- rows of other keys are below or above
pub apart_by_key : (o : Ordering) (r s : Row) → key_cmp r s ≡ o → is_eq o ≡ false
    → (is_lt (key_cmp r s) ≡ true) ⊎ (is_lt (key_cmp s r) ≡ true)
apart_by_key Less r s same other = inl (rw same refl)
apart_by_key Equal r s same other = absurd (false≢true (sym other))
apart_by_key Greater r s same other = inr (rw (key_cmp_total.antisymm s r, same) refl)

pub with_row-rises : (row : Row) (rows : List Row) → AreRising rows → AreRising (with_row row rows)
with_row-rises row rows rise = inserted_rise key_cmp key_cmp_total row rows rise

pub length-with_row : (row : Row) (rows : List Row) → length (with_row row rows) ≤ length rows + 1
length-with_row row rows =
    let apart = length-filter_apart (λ r. is_lt (key_cmp r row)) (λ r. is_lt (key_cmp row r)) (λ r. key_cmp-one_way r row) rows in
    rw length-append (omega arith)

pub All-with_row : (P : Row → Type 0) (row : Row) (rows : List Row) → P row → All P rows → All P (with_row row rows)
All-with_row P row rows h all =
    All-append P (filter (λ r. is_lt (key_cmp r row)) rows) (row ∷ filter (λ r. is_lt (key_cmp row r)) rows)
    (All-filter (λ r. is_lt (key_cmp r row)) P rows all)
    (All-cons P row (filter (λ r. is_lt (key_cmp row r)) rows) h (All-filter (λ r. is_lt (key_cmp row r)) P rows all))

-- ---- rows changed, none of them in its key

-- a value in another place than the first leaves the key
pub key_stays : (row : Row) (place : ℕ) (v : Value) → 0 < place → take 1 (set row place v) ≡ take 1 row
key_stays [] place v h = refl
key_stays (x ∷ row) zero v h = absurd (omega arith)
key_stays (x ∷ row) (suc place) v h = refl

pub map_rises : (f : Row → Row) (rows : List Row) → ((row : Row) → take 1 (f row) ≡ take 1 row) → AreRising rows → AreRising (map f rows)
map_rises f rows same rise =
    AllPairs-map f (λ r s. key_cmp r s ≡ Less) (λ r s. key_cmp r s ≡ Less) (λ r s h. rw (same r, same s) h) rows rise
