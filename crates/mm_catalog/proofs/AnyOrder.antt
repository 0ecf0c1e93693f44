-- Rows that all come in leave the same table in whatever order they do.
use Rattle.std.proofs.Common.{◌≡◌, ℕ, ◌+◌, ◌≤◌, not, Bool, true, false, List, [], ◌∷◌, ◌⊎◌, Some, None, refl, sym, ap, ◌∙◌, subst, arith, length, set, get_or, inl, inr}
use Rattle.std.specs.Prelude.{Ok, nat_le, if◌then◌else◌}
use Rattle.std.specs.List.{All, Contains, count_by, filter, list_all, slice_get}
use Rattle.std.specs.List.Sorted.{IsPermutation}
use Rattle.std.specs.Ordering.{is_eq, is_lt}
use Rattle.std.proofs.lemmas.Bool.{false_from_ne_true, lt-leb}
use Rattle.std.proofs.lemmas.Cmp.{tied_itself}
use Rattle.std.proofs.lemmas.List.{set-set}
use Rattle.std.proofs.lemmas.List.Elements.{All-contains, All-contains_itself, All-head, All-tail, All-weaker, Contains-append_left, Contains-append_right}
use Rattle.std.proofs.lemmas.List.Folds.{list_any_none}
use Rattle.std.proofs.lemmas.List.Sorted.{All-permutation, Contains-permutation, IsPermutation-sym, length_permutation, sum_by-IsPermutation}
use Rattle.std.proofs.lemmas.List.Sums.{sum_by-cons}
use Rattle.std.proofs.lemmas.Option.{slice_get_within}
use Rattle.common_lemmas.proofs.Counts.{one, count_by-member}
use Rattle.common_lemmas.proofs.Elements.{AllZip-set, Contains-cons, Contains-cons_cases, Contains-filter, Contains-head, All-from_list_all}
use Rattle.common_lemmas.proofs.Places.{set_itself, slice_get_set}
use Rattle.common_lemmas.proofs.Tests.{fails_where_none}
use Rattle.plain_tables.specs.Tables.{Table, Row, AreRising, key_cmp, has_key_of, with_row}
use Rattle.plain_tables.specs.Databases.{Database}
use Rattle.plain_tables.specs.Doing.{insert, left_with, goes_on, loaded, load_effect, load}
use Rattle.plain_tables.specs.Effects.{Effect, Changed, Refused, grown_by}
use Rattle.plain_tables.specs.References.{Reference, is_held, references}
use Rattle.plain_tables.specs.declared.command.Limits.{Limits}
use Rattle.plain_tables.specs.declared.numbers.TableNumber.{TableNumber}
use Rattle.plain_tables.specs.declared.refusal.Refusal.{Refusal}
use Rattle.plain_tables.specs.declared.refusal.Refusal.TheVariants.{KeyExists, NoReferencedRow, TableFull}
use Rattle.plain_tables.specs.declared.schema.Column.{Column}
use Rattle.plain_tables.proofs.Held.{KeepsKey, keeps_itself, held_stays}
use Rattle.plain_tables.proofs.Rows.{key_cmp_total, apart_by_key, with_row-rises, length-with_row, All-with_row}
use Rattle.plain_tables.proofs.Sound.{with_row-keeps}
use Rattle.mm_catalog.proofs.Rising.{rising_same}
use Rattle.mm_catalog.proofs.Anywhere.{all_pass}

-- ---- keys

abbrev pub has_key : Row → Row → Bool
has_key key row = is_eq (key_cmp row key)

-- a row beside one of its rows with another key
pub member_with : (row : Row) (rows : List Row) → Contains (with_row row rows) row
member_with row rows =
    Contains-append_right (filter (λ r. is_lt (key_cmp r row)) rows) (row ∷ filter (λ r. is_lt (key_cmp row r)) rows) row
    (Contains-head row (filter (λ r. is_lt (key_cmp row r)) rows))

pub other_with : (row : Row) (rows : List Row) (x : Row) → Contains rows x → is_eq (key_cmp x row) ≡ false → Contains (with_row row rows) x
other_with row rows x there apart =
    let below = filter (λ r. is_lt (key_cmp r row)) rows in
    let above = filter (λ r. is_lt (key_cmp row r)) rows in
    elim (apart_by_key (key_cmp x row) x row refl apart) [
      | inl less ↦ Contains-append_left below (row ∷ above) x (Contains-filter (λ r. is_lt (key_cmp r row)) rows x there less)
      | inr more ↦
          Contains-append_right below (row ∷ above) x
          (Contains-cons row above x (Contains-filter (λ r. is_lt (key_cmp row r)) rows x there more))
    ]

-- the rows of a table with a row more are that row and those that were there
abbrev IsOneOf : Row → List Row → Row → Type 0
IsOneOf row rows x = (x ≡ row) ⊎ Contains rows x

from_with : (row : Row) (rows : List Row) → All (IsOneOf row rows) (with_row row rows)
from_with row rows = All-with_row (IsOneOf row rows) row rows (inl refl) (λ k d l. inr (All-contains_itself rows k d l))

-- ---- rows put in

-- the rows with others put in, one after the other
pub put_in : List Row → List Row → List Row
put_in [] held = held
put_in (row ∷ rows) held = put_in rows (with_row row held)

-- Rows that all come into a table of so many rows at most: no two have one key, and no row of the table has one of theirs.
pub record AllNew (most : ℕ) (held rows : List Row) : Type 0 where
  pub room : length held + length rows ≤ most
  pub apart : (key : Row) → count_by (has_key key) rows ≤ 1
  pub fresh : All (λ row. has_key_of row held ≡ false) rows

module _ (most : ℕ) (held : List Row) (row : Row) (rows : List Row) (h : AllNew most held (row ∷ rows)) where
  count_rest : (key : Row) → count_by (has_key key) (row ∷ rows) ≡ one (has_key key) row + count_by (has_key key) rows
  count_rest key = sum_by-cons (one (has_key key)) row rows

  -- none of the others has the key of the first
  pub others_apart : All (λ r. is_eq (key_cmp row r) ≡ false) rows
  others_apart = λ k d l. false_from_ne_true (is_eq (key_cmp row (get_or rows k d))) (λ e.
      let r = get_or rows k d in
      let first : one (has_key r) row ≡ 1 = rw e refl in
      let some = count_by-member (has_key r) rows r (All-contains_itself rows k d l) (ap is_eq (tied_itself key_cmp_total r)) in
      omega (arith, first, some, count_rest r, h.apart r))

  pub first_new : has_key_of row held ≡ false
  first_new = All-head (λ r. has_key_of r held ≡ false) row rows h.fresh

  pub rest_new : AllNew most (with_row row held) rows
  rest_new = record {
    room = omega (arith, h.room, length-with_row row held);
    apart = λ key. omega (arith, h.apart key, count_rest key);
    fresh = λ k d l.
        let r = get_or rows k d in
        list_any_none (λ s. is_eq (key_cmp s r)) (with_row row held)
        (All-with_row (λ s. is_eq (key_cmp s r) ≡ false) row held (others_apart k d l)
        (fails_where_none (λ s. is_eq (key_cmp s r)) held (All-tail (λ q. has_key_of q held ≡ false) row rows h.fresh k d l)));
  }

pub put_in-rises : (rows held : List Row) → AreRising held → AreRising (put_in rows held)
unfolding put_in
put_in-rises [] held rise = rise
put_in-rises (row ∷ rows) held rise = put_in-rises rows (with_row row held) (with_row-rises row held rise)

pub from_put_in : (rows held : List Row) (x : Row) → Contains (put_in rows held) x → Contains held x ⊎ Contains rows x
unfolding put_in
from_put_in [] held x there = inl there
from_put_in (row ∷ rows) held x there =
    elim (from_put_in rows (with_row row held) x there) [
      | inr later ↦ inr (Contains-cons row rows x later)
      | inl now ↦ elim (All-contains (IsOneOf row held) (with_row row held) x (from_with row held) now) [
        | inl same ↦ inr (subst (Contains (row ∷ rows)) (sym same) (Contains-head row rows))
        | inr before ↦ inl before
      ]
    ]

pub in_put_in : (most : ℕ) (rows held : List Row) (x : Row) → AllNew most held rows → Contains held x ⊎ Contains rows x → Contains (put_in rows held) x
unfolding put_in
in_put_in most [] held x new (inl there) = there
in_put_in most [] held x new (inr there) = absurd (omega (arith, there.1))
in_put_in most (row ∷ rows) held x new (inl there) =
    let apart = All-contains (λ s. is_eq (key_cmp s row) ≡ false) held x (fails_where_none (λ s. is_eq (key_cmp s row)) held (first_new most held row rows new)) there in
    in_put_in most rows (with_row row held) x (rest_new most held row rows new) (inl (other_with row held x there apart))
in_put_in most (row ∷ rows) held x new (inr there) =
    let rest = rest_new most held row rows new in
    elim (Contains-cons_cases row rows x there) [
      | inl same ↦ in_put_in most rows (with_row row held) x rest (inl (subst (Contains (with_row row held)) (sym same) (member_with row held)))
      | inr later ↦ in_put_in most rows (with_row row held) x rest (inr later)
    ]

-- ---- another order

module _ (most : ℕ) (held rows others : List Row) (moved : IsPermutation rows others) (new : AllNew most held rows) where
  pub others_new : AllNew most held others
  others_new = record {
    room = omega (arith, new.room, length_permutation rows others moved);
    apart = λ key. omega (arith, new.apart key, sum_by-IsPermutation (one (has_key key)) rows others moved);
    fresh = All-permutation (λ row. has_key_of row held ≡ false) rows others moved new.fresh;
  }

  either : (xs ys : List Row) → IsPermutation xs ys → (x : Row) → Contains held x ⊎ Contains xs x → Contains held x ⊎ Contains ys x
  either xs ys swapped x (inl there) = inl there
  either xs ys swapped x (inr there) = inr (Contains-permutation xs ys x swapped there)

  pub same_rows : AreRising held → put_in others held ≡ put_in rows held
  same_rows rise =
      rising_same key_cmp key_cmp_total (put_in others held) (put_in rows held) (put_in-rises others held rise) (put_in-rises rows held rise)
      (λ x there. in_put_in most rows held x new (either others rows (IsPermutation-sym rows others moved) x (from_put_in others held x there)))
      (λ x there. in_put_in most others held x others_new (either rows others moved x (from_put_in rows held x there)))

-- ---- loads of them

all_still : {X : Type 0} (p q : X → Bool) → ((x : X) → p x ≡ true → q x ≡ true) → (xs : List X) → list_all p xs ≡ true → list_all q xs ≡ true
all_still p q still xs all = all_pass q xs (All-weaker (λ x. p x ≡ true) (λ x. q x ≡ true) still xs (All-from_list_all p xs all))

-- the rows that each of these names are there
abbrev pub AllHeld : Database → List Column → List Row → Type 0
AllHeld tables columns rows = All (λ row. list_all (is_held tables) (references columns row) ≡ true) rows

module _ (limits : Limits) (n : TableNumber) where
  -- what is held is held with a row more
  still_held : (tables : Database) (table : Table) (row : Row) → slice_get tables n.0 ≡ Some table → has_key_of row table.rows ≡ false
      → (r : Reference) → is_held tables r ≡ true → is_held (set tables n.0 (grown_by row table)) r ≡ true
  still_held tables table row there fresh r =
      let keeps : KeepsKey r table (grown_by row table) = (refl, λ named held. with_row-keeps row table.rows (λ s. is_eq (key_cmp s (r.1 ∷ []))) fresh held) in
      held_stays r tables (set tables n.0 (grown_by row table)) (AllZip-set (KeepsKey r) (keeps_itself r) tables n.0 table (grown_by row table) there keeps)

  -- the row comes in
  taken_in : (tables : Database) (table : Table) (row : Row) (rows : List Row) → slice_get tables n.0 ≡ Some table
      → list_all (is_held tables) (references table.columns row) ≡ true → AllNew limits.rows table.rows (row ∷ rows)
      → insert limits tables n row ≡ record { database = set tables n.0 (grown_by row table); outcome = Changed 1 }
  taken_in tables table row rows there held new =
      let refused : Refusal → Effect = λ why. record { database = tables; outcome = Refused why } in
      let grown : Effect = record { database = set tables n.0 (grown_by row table); outcome = Changed 1 } in
      let by_checks : Bool → Bool → Bool → Effect = λ has all full.
      if has then refused (KeyExists None) else (if not all then refused (NoReferencedRow None) else (if full then refused (TableFull None) else grown)) in
      let split : insert limits tables n row ≡ by_checks (has_key_of row table.rows) (list_all (is_held tables) (references table.columns row)) (nat_le limits.rows (length table.rows)) = rw there refl in
      let under : nat_le limits.rows (length table.rows) ≡ false = lt-leb limits.rows (length table.rows) (omega (arith, new.room)) in
      split ∙ (λ i. by_checks (first_new limits.rows table.rows row rows new i) (held i) (under i))

  pub all_taken_in : (tables : Database) (table : Table) (k : ℕ) (rows : List Row) → slice_get tables n.0 ≡ Some table → AllHeld tables table.columns rows
      → AllNew limits.rows table.rows rows
      → loaded limits tables n k rows ≡ Ok (set tables n.0 (record table { rows = put_in rows table.rows }))
  unfolding put_in
  all_taken_in tables table k [] there held new = ap Ok (sym (set_itself tables n.0 table there))
  all_taken_in tables table k (row ∷ rows) there held new =
      let grown = grown_by row table in
      let next = set tables n.0 grown in
      let IsHeldIn : Database → Row → Type 0 = λ d r. list_all (is_held d) (references table.columns r) ≡ true in
      let still = still_held tables table row there (first_new limits.rows table.rows row rows new) in
      let rest : AllHeld next table.columns rows = All-weaker (IsHeldIn tables) (IsHeldIn next) (λ r. all_still (is_held tables) (is_held next) still (references table.columns r)) rows
      (All-tail (IsHeldIn tables) row rows held) in
      ap (λ (e : Effect). goes_on (λ d. loaded limits d n (k + 1) rows) (left_with k e.database e.outcome)) (taken_in tables table row rows there (All-head (IsHeldIn tables) row rows held) new)
      ∙ all_taken_in next grown (k + 1) rows (slice_get_set tables n.0 grown (slice_get_within tables n.0 table there)) rest (rest_new limits.rows table.rows row rows new)
      ∙ ap Ok (set-set tables n.0 grown (record table { rows = put_in rows (with_row row table.rows) }))

  -- so a load of them is one of them in any order
  pub load_in_any_order : (tables : Database) (table : Table) (rows others : List Row) → slice_get tables n.0 ≡ Some table → AllHeld tables table.columns rows
      → AreRising table.rows → AllNew limits.rows table.rows rows → IsPermutation rows others
      → load limits tables n others ≡ load limits tables n rows
  load_in_any_order tables table rows others there held rise new moved =
      let with_all : List Row → Database = λ all. set tables n.0 (record table { rows = all }) in
      let others_held : AllHeld tables table.columns others = All-permutation (λ row. list_all (is_held tables) (references table.columns row) ≡ true) rows others moved held in
      ap (load_effect tables others) (all_taken_in tables table 1 others there others_held (others_new limits.rows table.rows rows others moved new))
      ∙ (λ i. record {
        database = with_all (same_rows limits.rows table.rows rows others moved new rise i);
        outcome = Changed (length_permutation rows others moved i);
      })
      ∙ sym (ap (load_effect tables rows) (all_taken_in tables table 1 rows there held new))
