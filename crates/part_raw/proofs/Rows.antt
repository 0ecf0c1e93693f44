-- Rows among the places of a partition: what becomes of each slot's row where the places of one are written or emptied.
use Rattle.std.proofs.Common.{◌≡◌, ◌≢◌, ◌⊎◌, ℕ, zero, suc, ◌+◌, ◌-◌, ◌*◌, ◌/◌, ◌%◌, ◌<◌, ◌≤◌, true, List, [], ◌∷◌, ◌++◌, map, length, get_or, set, take, drop, Option, Some, None, is_some, IsSome, refl, sym, ap, ◌∙◌, inl, inr, arith, subst}
use Rattle.std.proofs.lemmas.Bool.{cases_eq, cases_lt, true≢false}
use Rattle.std.proofs.lemmas.List.{length-append, get_or_append_left, get_or-append_right, length-set, length-map, length-take, length-drop, length-replicate, get_or-set_same, get_or-set_other, get_or-take, get_or-drop, get_or-map, get_or-replicate, get_or_past, drop-drop, ext_get_or, map-append, take_more, take_all}
use Rattle.std.proofs.lemmas.Nat.{row_fits, div-add-mod', div_below, mod_below}
use Rattle.std.proofs.Math.ListN.{replicate}
use Rattle.std.proofs.Math.Nat.{zero-mul, suc-mul, mul-le-mul_right}
use Rattle.common_lemmas.proofs.Options.{none_from_is_some}
use Rattle.part_raw.specs.Rows.{window, IsRun, put_before, row_of, rows_of, slots_of, rows_in, put_run, clear_run, IsLaid}
use Rattle.part_raw.specs.Layout.{IsVacant}
use Rattle.part_raw.proofs.Slots.{held_within}

-- a place of another slot lies before the places of this one or behind them
pub apart : (width other slot i : ℕ) → other ≢ slot → i < width → (other * width + i < slot * width) ⊎ (slot * width + width ≤ other * width + i)
apart width other slot i differs small =
    elim (cases_lt other slot) [
      | inl before ↦ let m = mul-le-mul_right {m = suc other} {n = slot} width (omega arith) in let e = suc-mul other width in inl (omega (arith, m, e))
      | inr past ↦ let m = mul-le-mul_right {m = suc slot} {n = other} width (omega arith) in let e = suc-mul slot width in inr (omega (arith, m, e))
    ]

module _ {T : Type 0} where
  -- ---- the values of some places

  pub row_of-somes : (row : List T) → row_of (map Some row) ≡ Some row
  unfolding row_of
  row_of-somes [] = refl
  row_of-somes (x ∷ row) = rw (row_of-somes row) refl

  pub somes-row_of : (places : List (Option T)) (row : List T) → row_of places ≡ Some row → places ≡ map Some row
  unfolding row_of
  somes-row_of [] row e = cc
  somes-row_of (None ∷ rest) row e = absurd (cc)
  somes-row_of (Some x ∷ rest) row e =
      elim (row_of rest) as (λ o. row_of rest ≡ o → Some x ∷ rest ≡ map Some row) [
        | None ↦ λ e'. absurd (let h = rw e' at e in cc)
        | Some tail ↦ λ e'. let h = rw e' at e in let ih = somes-row_of rest tail e' in cc
      ] refl

  pub row_of-none : (places : List (Option T)) → 0 < length places → get_or places 0 None ≡ None → row_of places ≡ None
  unfolding row_of
  row_of-none [] some e = absurd (omega arith)
  row_of-none (None ∷ rest) some e = refl
  row_of-none (Some x ∷ rest) some e = absurd (cc)

  -- ---- the rows of the slots

  pub length-rows_of : (width count : ℕ) (places : List (Option T)) → length (rows_of width count places) ≡ count
  unfolding rows_of
  length-rows_of width zero places = refl
  length-rows_of width (suc count) places = ap suc (length-rows_of width count (drop width places))

  pub rows_of-get : (width count slot : ℕ) (places : List (Option T)) → slot < count → get_or (rows_of width count places) slot None ≡ row_of (window (slot * width) width places)
  unfolding rows_of
  rows_of-get width zero slot places within = absurd (omega arith)
  rows_of-get width (suc count) zero places within = ap (λ k. row_of (window k width places)) (sym (zero-mul width))
  rows_of-get width (suc count) (suc slot) places within =
      rows_of-get width count slot (drop width places) (omega arith)
      ∙ ap (λ l. row_of (take width l)) (drop-drop (slot * width) width places)
      ∙ ap (λ k. row_of (window k width places)) (let e = suc-mul slot width in omega (arith, e))

  -- ---- a partition has all slots or none

  pub slots_of-some : (places : List (Option T)) → 0 < length places → slots_of places ≡ 256
  slots_of-some [] some = absurd (omega (arith, some))
  slots_of-some (x ∷ places) some = refl

  pub length-rows_in : (width : ℕ) (places : List (Option T)) → 0 < length places → length (rows_in width places) ≡ 256
  length-rows_in width places some = length-rows_of width (slots_of places) places ∙ slots_of-some places some

  pub most-rows_in : (width : ℕ) (places : List (Option T)) → length (rows_in width places) ≤ 256
  most-rows_in width [] = let none : List (Option T) = [] in omega (arith, length-rows_of width 0 none)
  most-rows_in width (x ∷ places) = omega (arith, length-rows_in width (x ∷ places) (omega arith))

  pub rows_in-get : (width slot : ℕ) (places : List (Option T)) → 0 < length places → slot < 256 → get_or (rows_in width places) slot None ≡ row_of (window (slot * width) width places)
  rows_in-get width slot places some within = rows_of-get width (slots_of places) slot places (omega (arith, slots_of-some places some, within))

  -- what has a slot has places
  pub rows_in-some : (width : ℕ) (places : List (Option T)) → 0 < length (rows_in width places) → 0 < length places
  rows_in-some width [] some = let none : List (Option T) = [] in absurd (omega (arith, some, length-rows_of width 0 none))
  rows_in-some width (x ∷ places) some = omega arith

  pub rows_in-none : (width : ℕ) (places : List (Option T)) → (0 < length (rows_in width places) → ⊥) → places ≡ []
  rows_in-none width [] without = refl
  rows_in-none width (x ∷ places) without = absurd (without (omega (arith, length-rows_in width (x ∷ places) (omega arith))))

  pub rows_in-held : (width slot : ℕ) (places : List (Option T)) → IsSome (get_or (rows_in width places) slot None) → 0 < length places
  rows_in-held width slot [] held = rows_in-some width [] (omega (arith, held_within (rows_in width []) slot held))
  rows_in-held width slot (x ∷ places) held = omega arith

  -- ---- windows

  pub window_same : (at count : ℕ) (places others : List (Option T)) → length others ≡ length places
      → ((i : ℕ) → i < count → get_or others (at + i) None ≡ get_or places (at + i) None) → window at count others ≡ window at count places
  window_same at count places others long same =
      let l = length-take count (drop at others) in let l' = length-take count (drop at places) in let d = length-drop at others in let d' = length-drop at places in
      ext_get_or None (window at count others) (window at count places) (omega (arith, l, l', d, d', long))
      (λ i within.
      let small : i < count = omega (arith, l, within) in
      get_or-take count (drop at others) i None small ∙ get_or-drop at others i None ∙ same i small
      ∙ sym (get_or-take count (drop at places) i None small ∙ get_or-drop at places i None))

  pub window_is : (at : ℕ) (places : List (Option T)) (row : List T) → at + length row ≤ length places
      → ((i : ℕ) → i < length row → get_or places (at + i) None ≡ get_or (map Some row) i None) → window at (length row) places ≡ map Some row
  window_is at places row within is =
      let l = length-take (length row) (drop at places) in let d = length-drop at places in let m = length-map row Some in
      ext_get_or None (window at (length row) places) (map Some row) (omega (arith, l, d, m, within))
      (λ i below.
      let small : i < length row = omega (arith, l, below) in
      get_or-take (length row) (drop at places) i None small ∙ get_or-drop at places i None ∙ is i small)

  pub window-get : (at count i : ℕ) (places : List (Option T)) → i < count → get_or (window at count places) i None ≡ get_or places (at + i) None
  window-get at count i places small = get_or-take count (drop at places) i None small ∙ get_or-drop at places i None

  -- ---- a run is written, and emptied

  pub length-put_run : (places : List (Option T)) (from : ℕ) (row : List T) → length (put_run places from row) ≡ length places
  unfolding put_run
  length-put_run places from [] = refl
  length-put_run places from (x ∷ row) = length-set (put_run places (suc from) row) from (Some x) ∙ length-put_run places (suc from) row

  pub put_run-outside : (places : List (Option T)) (from : ℕ) (row : List T) (k : ℕ) → (k < from) ⊎ (from + length row ≤ k) → get_or (put_run places from row) k None ≡ get_or places k None
  unfolding put_run
  put_run-outside places from [] k away = refl
  put_run-outside places from (x ∷ row) k (inl before) =
      get_or-set_other (put_run places (suc from) row) from k (Some x) None (omega arith) ∙ put_run-outside places (suc from) row k (inl (omega arith))
  put_run-outside places from (x ∷ row) k (inr past) =
      get_or-set_other (put_run places (suc from) row) from k (Some x) None (omega arith) ∙ put_run-outside places (suc from) row k (inr (omega arith))

  pub put_run-inside : (places : List (Option T)) (from : ℕ) (row : List T) (i k : ℕ) → from + length row ≤ length places → i < length row → k ≡ from + i
      → get_or (put_run places from row) k None ≡ get_or (map Some row) i None
  unfolding put_run
  put_run-inside places from [] i k within small at = absurd (omega arith)
  put_run-inside places from (x ∷ row) zero k within small at =
      let same : k ≡ from = omega (arith, at) in
      ap (λ j. get_or (set (put_run places (suc from) row) from (Some x)) j None) same
      ∙ get_or-set_same (put_run places (suc from) row) from (Some x) None (omega (arith, length-put_run places (suc from) row, within))
  put_run-inside places from (x ∷ row) (suc i) k within small at =
      get_or-set_other (put_run places (suc from) row) from k (Some x) None (omega (arith, at)) ∙ put_run-inside places (suc from) row i k (omega (arith, within)) (omega arith) (omega (arith, at))

  -- the places before the row, its values, and the places behind it
  pub put_run-spliced : (places : List (Option T)) (from : ℕ) (row : List T) (count : ℕ) → count ≡ length row → from + count ≤ length places
      → put_run places from row ≡ take from places ++ (map Some row ++ drop (from + count) places)
  put_run-spliced places from row count long within =
      let before = length-take from places in let behind = length-drop (from + count) places in let m = length-map row Some in
      let j = length-append (take from places) (map Some row ++ drop (from + count) places) in let l = length-append (map Some row) (drop (from + count) places) in
      let put = length-put_run places from row in
      ext_get_or None (put_run places from row) (take from places ++ (map Some row ++ drop (from + count) places)) (omega (arith, before, behind, m, j, l, put, long, within))
      (λ k below.
      elim (cases_lt k from) [
        | inl small ↦
            put_run-outside places from row k (inl small) ∙ sym (get_or-take from places k None small)
            ∙ sym (get_or_append_left (take from places) (map Some row ++ drop (from + count) places) None k (omega (arith, before, small, within)))
        | inr past ↦
            sym (get_or-append_right (take from places) (map Some row ++ drop (from + count) places) from k None (omega (arith, before, within)) past
            ∙ elim (cases_lt (k - from) (length row)) [
              | inl inside ↦
                  get_or_append_left (map Some row) (drop (from + count) places) None (k - from) (omega (arith, m, inside))
                  ∙ sym (put_run-inside places from row (k - from) k (omega (arith, long, within)) inside (omega (arith, past)))
              | inr after ↦
                  get_or-append_right (map Some row) (drop (from + count) places) (length row) (k - from) None m after
                  ∙ get_or-drop (from + count) places (k - from - length row) None
                  ∙ ap (λ j. get_or places j None) (omega (arith, long, past, after))
                  ∙ sym (put_run-outside places from row k (inr (omega (arith, past, after))))
            ])
      ])

  -- the last value of a row may be written first
  pub put_run-last : (places : List (Option T)) (from : ℕ) (row : List T) (x : T) → put_run (set places (from + length row) (Some x)) from row ≡ put_run places from (row ++ x ∷ [])
  unfolding put_run
  put_run-last places from [] x = ap (λ k. set places k (Some x)) (omega arith)
  put_run-last places from (y ∷ row) x =
      ap (λ l. set l from (Some y)) (ap (λ k. put_run (set places k (Some x)) (suc from) row) (omega arith) ∙ put_run-last places (suc from) row x)

  pub put_run-none : (places : List (Option T)) (from : ℕ) → put_run places from [] ≡ places
  unfolding put_run
  put_run-none places from = refl

  pub clear_run-none : (places : List (Option T)) (from : ℕ) → clear_run places from 0 ≡ places
  unfolding clear_run
  clear_run-none places from = refl

  pub clear_run-more : (places : List (Option T)) (from count : ℕ) → set (clear_run places from count) (from + count) None ≡ clear_run places from (count + 1)
  unfolding clear_run
  clear_run-more places from count = let e : suc count ≡ count + 1 = omega arith in ap (clear_run places from) e

  pub length-clear_run : (places : List (Option T)) (from count : ℕ) → length (clear_run places from count) ≡ length places
  unfolding clear_run
  length-clear_run places from zero = refl
  length-clear_run places from (suc count) = length-set (clear_run places from count) (from + count) None ∙ length-clear_run places from count

  pub clear_run-outside : (places : List (Option T)) (from count k : ℕ) → (k < from) ⊎ (from + count ≤ k) → get_or (clear_run places from count) k None ≡ get_or places k None
  unfolding clear_run
  clear_run-outside places from zero k away = refl
  clear_run-outside places from (suc count) k (inl before) =
      get_or-set_other (clear_run places from count) (from + count) k None None (omega arith) ∙ clear_run-outside places from count k (inl before)
  clear_run-outside places from (suc count) k (inr past) =
      get_or-set_other (clear_run places from count) (from + count) k None None (omega arith) ∙ clear_run-outside places from count k (inr (omega arith))

  pub clear_run-inside : (places : List (Option T)) (from count i k : ℕ) → from + count ≤ length places → i < count → k ≡ from + i → get_or (clear_run places from count) k None ≡ None
  unfolding clear_run
  clear_run-inside places from zero i k within small at = absurd (omega arith)
  clear_run-inside places from (suc count) i k within small at =
      elim (cases_eq k (from + count)) [
        | inl same ↦
            ap (λ j. get_or (set (clear_run places from count) (from + count) None) j None) same
            ∙ get_or-set_same (clear_run places from count) (from + count) None None (omega (arith, length-clear_run places from count, within))
        | inr other ↦
            get_or-set_other (clear_run places from count) (from + count) k None None other
            ∙ clear_run-inside places from count i k (omega (arith, within)) (omega (arith, at)) at
      ]

  -- ---- one slot changes

  pub row_within : (width slot : ℕ) (places : List (Option T)) → IsLaid width places → slot < 256 → slot * width + width ≤ length places
  row_within width slot places laid in_range =
      let m = row_fits slot width 256 width in_range (omega arith) in omega (arith, m, laid.count)

  -- the places of one slot hold another row, or none, and all others are as they were
  pub record SlotChanges (width slot : ℕ) (places new : List (Option T)) (row : Option (List T)) : Type 0 where
    pub long : length new ≡ length places
    pub outside : (k : ℕ) → (k < slot * width) ⊎ (slot * width + width ≤ k) → get_or new k None ≡ get_or places k None
    pub row_is : row_of (window (slot * width) width new) ≡ row
    pub whole : (i : ℕ) → i < width → is_some (get_or new (slot * width + i) None) ≡ is_some row

  module _ (width slot : ℕ) (places new : List (Option T)) (row : Option (List T)) (in_range : slot < 256) (laid : IsLaid width places) (c : SlotChanges width slot places new row) where
    some' : 0 < length new
    some' = omega (arith, c.long, laid.some)

    other_row : (other : ℕ) → other < 256 → other ≢ slot → get_or (rows_in width new) other None ≡ get_or (rows_in width places) other None
    other_row other within differs =
        rows_in-get width other new some' within
        ∙ ap row_of (window_same (other * width) width places new c.long (λ i small. c.outside (other * width + i) (apart width other slot i differs small)))
        ∙ sym (rows_in-get width other places laid.some within)

    this_row : get_or (rows_in width new) slot None ≡ row
    this_row = rows_in-get width slot new some' in_range ∙ c.row_is

    pub rows-changed : rows_in width new ≡ set (rows_in width places) slot row
    rows-changed =
        let l = length-rows_in width new some' in let l' = length-rows_in width places laid.some in let s = length-set (rows_in width places) slot row in
        ext_get_or None (rows_in width new) (set (rows_in width places) slot row) (l ∙ sym (s ∙ l'))
        (λ k below.
        let within : k < 256 = omega (arith, l, below) in
        elim (cases_eq k slot) [
          | inl same ↦
              ap (λ j. get_or (rows_in width new) j None) same ∙ this_row
              ∙ sym (ap (λ j. get_or (set (rows_in width places) slot row) j None) same ∙ get_or-set_same (rows_in width places) slot row None (omega (arith, l', in_range)))
          | inr differs ↦ other_row k within differs ∙ sym (get_or-set_other (rows_in width places) slot k row None differs)
        ])

    pub laid-changed : IsLaid width new
    laid-changed = record {
      some = some';
      count = c.long ∙ laid.count;
      whole = λ k i within small.
          elim (cases_eq k slot) [
            | inl same ↦
                ap (λ j. is_some (get_or new (j * width + i) None)) same ∙ c.whole i small
                ∙ sym (ap (λ j. is_some (get_or (rows_in width new) j None)) same ∙ ap is_some this_row)
            | inr differs ↦
                ap is_some (c.outside (k * width + i) (apart width k slot i differs small)) ∙ laid.whole k i within small
                ∙ sym (ap is_some (other_row k within differs))
          ];
    }

  -- ---- the three changes

  somes_at : (row : List T) (i : ℕ) → i < length row → is_some (get_or (map Some row) i None) ≡ true
  somes_at [] i small = absurd (omega arith)
  somes_at (x ∷ row) zero small = refl
  somes_at (x ∷ row) (suc i) small = somes_at row i (omega arith)

  pub put-changes : (slot : ℕ) (places : List (Option T)) (row : List T) → slot < 256 → IsLaid (length row) places
      → SlotChanges (length row) slot places (put_run places (slot * length row) row) (Some row)
  put-changes slot places row in_range laid =
      let at = slot * length row in
      let fits = row_within (length row) slot places laid in_range in
      record {
        long = length-put_run places (slot * length row) row;
        outside = put_run-outside places (slot * length row) row;
        row_is = ap row_of (window_is (slot * length row) (put_run places (slot * length row) row) row (omega (arith, length-put_run places (slot * length row) row, fits))
            (λ i small. put_run-inside places (slot * length row) row i (slot * length row + i) fits small refl)) ∙ row_of-somes row;
        whole = λ i small. ap is_some (put_run-inside places (slot * length row) row i (slot * length row + i) fits small refl) ∙ somes_at row i small;
      }

  pub clear-changes : (width slot : ℕ) (places : List (Option T)) → 0 < width → slot < 256 → IsLaid width places
      → SlotChanges width slot places (clear_run places (slot * width) width) None
  clear-changes width slot places wide in_range laid =
      let fits = row_within width slot places laid in_range in
      let new : List (Option T) = clear_run places (slot * width) width in
      let l = length-take width (drop (slot * width) (clear_run places (slot * width) width)) in let d = length-drop (slot * width) (clear_run places (slot * width) width) in let c = length-clear_run places (slot * width) width in
      record {
        long = c;
        outside = clear_run-outside places (slot * width) width;
        row_is = row_of-none (window (slot * width) width new) (omega (arith, l, d, c, fits, wide))
            (window-get (slot * width) width 0 new wide ∙ clear_run-inside places (slot * width) width 0 (slot * width + 0) fits wide refl);
        whole = λ i small. ap is_some (clear_run-inside places (slot * width) width i (slot * width + i) fits small refl);
      }

  pub exchange-changes : (width slot column : ℕ) (places : List (Option T)) (row : List T) (x : T) → slot < 256 → column < width → IsLaid width places
      → get_or (rows_in width places) slot None ≡ Some row
      → SlotChanges width slot places (set (set places (slot * width + column) None) (slot * width + column) (Some x)) (Some (set row column x))
  exchange-changes width slot column places row x in_range small laid held =
      let at : ℕ = slot * width + column in
      let new : List (Option T) = set (set places (slot * width + column) None) (slot * width + column) (Some x) in
      let was : window (slot * width) width places ≡ map Some row = somes-row_of _ row (sym (rows_in-get width slot places laid.some in_range) ∙ held) in
      let fits = row_within width slot places laid in_range in
      let s = length-set (set places (slot * width + column) None) (slot * width + column) (Some x) in let s' = length-set places (slot * width + column) None in
      let long : length new ≡ length places = s ∙ s' in
      let l = length-take width (drop (slot * width) places) in let d = length-drop (slot * width) places in let m = length-map row Some in
      let e = ap length was in
      let wide : length row ≡ width = omega (arith, l, d, m, e, fits) in
      let cells : (i : ℕ) → i < width → get_or new (slot * width + i) None ≡ get_or (map Some (set row column x)) i None = λ i below.
      elim (cases_eq i column) [
        | inl same ↦
            ap (λ j. get_or new (slot * width + j) None) same
            ∙ get_or-set_same (set places (slot * width + column) None) (slot * width + column) (Some x) None (omega (arith, s', fits, small))
            ∙ sym (get_or-map Some (set row column x) column x None (omega (arith, length-set row column x, wide, small)) ∙ ap Some (get_or-set_same row column x x (omega (arith, wide, small))))
            ∙ ap (λ j. get_or (map Some (set row column x)) j None) (sym same)
        | inr differs ↦
            get_or-set_other (set places (slot * width + column) None) (slot * width + column) (slot * width + i) (Some x) None (omega (arith, differs))
            ∙ get_or-set_other places (slot * width + column) (slot * width + i) None None (omega (arith, differs))
            ∙ sym (window-get (slot * width) width i places below) ∙ ap (λ p. get_or p i None) was
            ∙ get_or-map Some row i x None (omega (arith, wide, below)) ∙ ap Some (sym (get_or-set_other row column i x x differs))
            ∙ sym (get_or-map Some (set row column x) i x None (omega (arith, length-set row column x, wide, below)))
      ] in
      let wide' : length (set row column x) ≡ width = length-set row column x ∙ wide in
      record {
        long = long;
        outside = λ k away. get_or-set_other (set places (slot * width + column) None) (slot * width + column) k (Some x) None (beside width slot column k small away)
            ∙ get_or-set_other places (slot * width + column) k None None (beside width slot column k small away);
        row_is = ap row_of (ap (λ w. window (slot * width) w new) (sym wide')
            ∙ window_is (slot * width) new (set row column x) (omega (arith, wide', long, fits)) (λ i below. cells i (omega (arith, wide', below)))) ∙ row_of-somes (set row column x);
        whole = λ i below. ap is_some (cells i below) ∙ somes_at (set row column x) i (omega (arith, wide', below));
      }
    where
      beside : (width slot column k : ℕ) → column < width → (k < slot * width) ⊎ (slot * width + width ≤ k) → k ≢ slot * width + column
      beside width slot column k small (inl before) = omega arith
      beside width slot column k small (inr past) = omega arith

  -- ---- empty places

  pub laid-empty : (width : ℕ) (places : List (Option T)) → 0 < width → places ≡ replicate (256 * width) None → IsLaid width places × IsVacant (rows_in width places)
  laid-empty width places wide is =
      let long : length places ≡ 256 * width = ap length is ∙ length-replicate (256 * width) None in
      let some : 0 < length places = omega (arith, long, wide) in
      let none : (k : ℕ) → get_or places k None ≡ None = λ k. ap (λ l. get_or l k None) is ∙ empty_at (256 * width) k in
      let rows : (slot : ℕ) → get_or (rows_in width places) slot None ≡ None = λ slot.
      elim (cases_lt slot 256) [
        | inl within ↦
            let m = row_fits slot width 256 width within (omega arith) in
            let l = length-take width (drop (slot * width) places) in let d = length-drop (slot * width) places in
            rows_in-get width slot places some within ∙ row_of-none (window (slot * width) width places) (omega (arith, l, d, m, long, wide))
            (window-get (slot * width) width 0 places wide ∙ none (slot * width + 0))
        | inr past ↦ get_or_past (rows_in width places) slot None (omega (arith, past, length-rows_in width places some))
      ] in (
        record { some = some; count = long; whole = λ slot i within small. ap is_some (none (slot * width + i)) ∙ sym (ap is_some (rows slot)) },
        record { count = length-rows_in width places some; empty = rows },
      )
    where
      empty_at : (n k : ℕ) → ◌≡◌ {A = Option T} (get_or (replicate n None) k None) None
      empty_at zero k = refl
      empty_at (suc n) zero = refl
      empty_at (suc n) (suc k) = empty_at n k

  pub empty-laid : (width : ℕ) (places : List (Option T)) → 0 < width → IsLaid width places → IsVacant (rows_in width places) → places ≡ replicate (256 * width) None
  empty-laid width places wide laid vacant =
      ext_get_or None places (replicate (256 * width) None) (laid.count ∙ sym (length-replicate (256 * width) None))
      (λ k below.
      let in_places : k < 256 * width = omega (arith, below, laid.count) in
      let slot : k / width < 256 = div_below k width 256 wide in_places in
      let place = div-add-mod' k width in
      ap (λ j. get_or places j None) (sym place)
      ∙ none_from_is_some _ (laid.whole (k / width) (k % width) slot (mod_below k width wide) ∙ ap is_some (vacant.empty (k / width)))
      ∙ sym (get_or-replicate (256 * width) k None None in_places))

  -- ---- a row is read, value by value

  held_in : (places : List (Option T)) (i : ℕ) → IsSome (row_of places) → i < length places → IsSome (get_or places i None)
  unfolding row_of
  held_in [] i held small = absurd (omega arith)
  held_in (None ∷ rest) i held small = absurd (true≢false (sym held))
  held_in (Some x ∷ rest) zero held small = refl
  held_in (Some x ∷ rest) (suc i) held small = held_in rest i (behind x (row_of rest) held) (omega arith)
    where
      behind : (x : T) (o : Option (List T)) → IsSome (put_before x o) → IsSome o
      behind x None h = h
      behind x (Some row) h = refl

  pub length-window : (at count : ℕ) (places : List (Option T)) → at + count ≤ length places → length (window at count places) ≡ count
  length-window at count places within = let l = length-take count (drop at places) in let d = length-drop at places in omega (arith, l, d, within)

  -- the next place of a row that is read in part
  pub held_next : (at count i : ℕ) (places : List (Option T)) → at + count ≤ length places → IsSome (row_of (window at count places)) → i < count
      → IsSome (get_or (clear_run places at i) (at + i) None)
  held_next at count i places within held small =
      ap is_some (clear_run-outside places at i (at + i) (inr (omega arith)) ∙ sym (window-get at count i places small))
      ∙ held_in (window at count places) i held (omega (arith, length-window at count places within, small))

  -- one value more is read
  pub row_more : (at count i : ℕ) (places now : List (Option T)) (row : List T) (x : T) → at + count ≤ length places → i < count → now ≡ clear_run places at i
      → map Some row ≡ take i (window at count places) → get_or now (at + i) None ≡ Some x → map Some (row ++ x ∷ []) ≡ take (i + 1) (window at count places)
  row_more at count i places now row x within small is row_is read =
      let here : get_or (window at count places) i None ≡ Some x =
      window-get at count i places small ∙ sym (clear_run-outside places at i (at + i) (inr (omega arith))) ∙ ap (λ l. get_or l (at + i) None) (sym is) ∙ read in
      map-append Some row (x ∷ []) ∙ ap (λ l. l ++ Some x ∷ []) row_is ∙ ap (λ o. take i (window at count places) ++ o ∷ []) (sym here)
      ∙ sym (take_more (window at count places) i None (omega (arith, length-window at count places within, small)))

  -- how many values are read
  pub row_length : (at count i : ℕ) (places : List (Option T)) (row : List T) → at + count ≤ length places → i ≤ count → map Some row ≡ take i (window at count places) → length row ≡ i
  row_length at count i places row within small row_is =
      let e = ap length row_is in let m = length-map row Some in let l = length-take i (window at count places) in
      omega (arith, e, m, l, length-window at count places within, small)

  -- all values are read
  pub row_whole : (at count i : ℕ) (places : List (Option T)) (row : List T) → at + count ≤ length places → count ≤ i → map Some row ≡ take i (window at count places) → row_of (window at count places) ≡ Some row
  row_whole at count i places row within all row_is =
      ap row_of (sym (row_is ∙ take_all i (window at count places) (omega (arith, length-window at count places within, all)))) ∙ row_of-somes row

  -- ---- the slots of a partition

  -- an empty slot's places are empty
  pub empty_places : (width slot : ℕ) (places : List (Option T)) → IsLaid width places → slot < 256 → get_or (rows_in width places) slot None ≡ None
      → (i : ℕ) → i < width → get_or places (slot * width + i) None ≡ None
  empty_places width slot places laid in_range empty i small = none_from_is_some _ (laid.whole slot i in_range small ∙ ap is_some empty)

  -- a slot that holds a row is one of the partition's
  pub slot_within : (width slot : ℕ) (places : List (Option T)) → IsSome (get_or (rows_in width places) slot None) → slot < 256
  slot_within width slot places held =
      elim (cases_lt slot 256) [
        | inl within ↦ within
        | inr past ↦ absurd (true≢false (sym held ∙ ap is_some (get_or_past (rows_in width places) slot None (omega (arith, past, most-rows_in width places)))))
      ]

  pub held_row : (width slot : ℕ) (places : List (Option T)) → IsSome (get_or (rows_in width places) slot None) → IsSome (row_of (window (slot * width) width places))
  held_row width slot places held = subst IsSome (rows_in-get width slot places (rows_in-held width slot places held) (slot_within width slot places held)) held

  -- the places of a slot that holds a row are a run
  pub row_places : (width slot : ℕ) (places : List (Option T)) (row : List T) → get_or (rows_in width places) slot None ≡ Some row → window (slot * width) width places ≡ map Some row
  row_places width slot places row held =
      somes-row_of _ row (sym (rows_in-get width slot places (rows_in-held width slot places (ap is_some held)) (slot_within width slot places (ap is_some held))) ∙ held)

  pub run_of_row : (width slot : ℕ) (places : List (Option T)) (row : List T) → IsLaid width places → get_or (rows_in width places) slot None ≡ Some row → IsRun places (slot * width) width
  run_of_row width slot places row laid held =
      (row_within width slot places laid (slot_within width slot places (ap is_some held)), (row, row_places width slot places row held))

  -- what a run shows is the slot's row
  pub row_of_run : (width slot : ℕ) (places : List (Option T)) (row : List T) → 0 < length places → slot < 256 → window (slot * width) width places ≡ map Some row → get_or (rows_in width places) slot None ≡ Some row
  row_of_run width slot places row some in_range shown = rows_in-get width slot places some in_range ∙ ap row_of shown ∙ row_of-somes row

  -- a row has a value for each place of its slot
  pub row_wide : (width slot : ℕ) (places : List (Option T)) (row : List T) → IsLaid width places → get_or (rows_in width places) slot None ≡ Some row → length row ≡ width
  row_wide width slot places row laid held =
      let e = ap length (row_places width slot places row held) in let m = length-map row Some in
      let fits = row_within width slot places laid (slot_within width slot places (ap is_some held)) in
      omega (arith, e, m, length-window (slot * width) width places fits)

  -- the value at a place of a slot that holds a row
  pub value_at_place : (width slot column : ℕ) (places : List (Option T)) (row : List T) (x : T) → column < width → IsLaid width places → get_or (rows_in width places) slot None ≡ Some row
      → get_or places (slot * width + column) None ≡ Some x → x ≡ get_or row column x
  value_at_place width slot column places row x small laid held read =
      let same : Some x ≡ Some (get_or row column x) =
      sym read ∙ sym (window-get (slot * width) width column places small) ∙ ap (λ p. get_or p column None) (row_places width slot places row held)
      ∙ get_or-map Some row column x None (omega (arith, row_wide width slot places row laid held, small)) in
      cc
