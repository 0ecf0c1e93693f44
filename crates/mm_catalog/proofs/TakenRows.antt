-- Rows that are taken one by one from values that stand one behind the other.
use Rattle.std.proofs.Common.{◌≡◌, ℕ, ◌+◌, ◌-◌, ◌<◌, ◌≤◌, List, [], ◌∷◌, ◌++◌, length, length-append, length-drop, drop, take, get_or, refl, sym, ap, ◌∙◌, subst, arith, add-one}
use Rattle.std.proofs.Math.Seq.{drop-cons}
use Rattle.std.proofs.lemmas.List.{drop-drop, length-take}
use Rattle.std.proofs.lemmas.Slice.{drop-put_mid}
use borrow.Rule.Slice.PartMut.{mid_of, post_of, put_mid}
use Rattle.plain_tables.specs.RowLists.{RiseTo, rows_between}
use Rattle.plain_tables.specs.Tables.{Row}
use Rattle.plain_tables.specs.declared.value.Value.{Value}
use Rattle.plain_tables.proofs.RowLists.{rise-most, rows-length}
use Rattle.mm_catalog.specs.LoadOrder.{first_row}
use Rattle.mm_catalog.proofs.Lists.{whole}

drop_more : (n m : ℕ) (values : List Value) → n ≤ m → drop (m - n) (drop n values) ≡ drop m values
drop_more n m values least = drop-drop (m - n) n values ∙ ap (λ (k : ℕ). drop k values) (omega arith)

-- rows stay where the values from their start on stay
rows_stay : (start : ℕ) (ends : List ℕ) (last : ℕ) (values others : List Value) → RiseTo start ends last → drop start others ≡ drop start values → rows_between start ends others ≡ rows_between start ends values
rows_stay start [] last values others rise same = refl
rows_stay start (end ∷ ends) last values others rise same =
    let behind : drop end others ≡ drop end values = sym (drop_more start end others rise.0) ∙ ap (drop (end - start)) same ∙ drop_more start end values rise.0 in
    (λ i. take (end - start) (same i) ∷ rows_stay end ends last values others rise.1 behind i)

-- there are as many as ends from a place on
pub left-length : (start place : ℕ) (ends : List ℕ) (values : List Value) → length (rows_between start (drop place ends) values) ≡ length ends - place
left-length start place ends values = rows-length start (drop place ends) values ∙ length-drop place ends

-- These rows are left from a place on, and the first of them ends here.
module _ (start place : ℕ) (ends : List ℕ) (values : List Value) (rows : List Row) (end : ℕ) (are : rows_between start (drop place ends) values ≡ rows) (some : 0 < length rows) (rise : RiseTo start (drop place ends) (length values)) (at : end ≡ get_or ends place end) where
  there : place < length ends
  there = let count = ap (λ (rs : List Row). length rs) are in omega (arith, left-length start place ends values, count, some)

  split : drop place ends ≡ end ∷ drop (place + 1) ends
  split = drop-cons ends place end there ∙ (λ i. sym at i ∷ drop (sym (add-one place) i) ends)

  these : rows ≡ take (end - start) (drop start values) ∷ rows_between end (drop (place + 1) ends) values
  these = sym are ∙ ap (λ (es : List ℕ). rows_between start es values) split

  pub next_first : first_row rows ≡ take (end - start) (drop start values)
  next_first = ap first_row these

  rises : RiseTo start (end ∷ drop (place + 1) ends) (length values)
  rises = subst (λ (es : List ℕ). RiseTo start es (length values)) split rise

  pub next_within : (start ≤ end) × (end ≤ length values)
  next_within = (rises.0, rise-most end (drop (place + 1) ends) (length values) rises.1)

  -- the others are left where what stood between has changed, in a list that is written back whole
  pub next_rest : (all : List Value) → all ≡ values → (now : List Value) → length now ≡ length (mid_of start (end - start) all) → (size : ℕ) → length values ≡ size → (past : List Value)
      → rows_between end (drop (place + 1) ends) (take size (put_mid start (end - start) all now ++ past)) ≡ drop 1 rows
  next_rest all same now as_long size are_so_many past =
      let changed : List Value = put_mid start (end - start) all now in
      let within = next_within in
      let long = ap (λ (vs : List Value). length vs) same in
      let part : length now ≡ length (take (end - start) (drop start all)) = as_long in
      let count : length now ≡ end - start = omega (arith, part, length-take (end - start) (drop start all), length-drop start all, within.0, within.1, long) in
      let front = length-append (take start all) (now ++ post_of start (end - start) all) in
      let back = length-append now (post_of start (end - start) all) in
      let behind : length (post_of start (end - start) all) ≡ length all - start - (end - start) = length-drop (end - start) (drop start all) ∙ ap (λ (k : ℕ). k - (end - start)) (length-drop start all) in
      let kept : length changed ≡ size = omega (arith, front, back, behind, count, length-take start all, within.0, within.1, long, are_so_many) in
      let stays : drop end changed ≡ drop end values =
      drop-put_mid start (end - start) all now end (omega (arith, within.0)) (omega (arith, within.0, within.1, long)) count ∙ ap (drop end) same in
      ap (rows_between end (drop (place + 1) ends)) (whole changed past size kept)
      ∙ rows_stay end (drop (place + 1) ends) (length values) values changed rises.1 stays ∙ sym (ap (drop 1) these)
