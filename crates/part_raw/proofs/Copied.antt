-- Places that are copied row by row: where a row is written value by value, where it is emptied again, and where all rows
-- of two blocks are the same.
use Rattle.std.proofs.Common.{◌≡◌, ℕ, ◌+◌, ◌-◌, ◌*◌, ◌/◌, ◌%◌, ◌<◌, ◌≤◌, suc, true, false, List, [], ◌∷◌, ◌++◌, length, get_or, set, take, Option, Some, None, is_some, IsSome, refl, sym, ap, ◌∙◌, inl, inr, arith, below_more}
use Rattle.std.proofs.lemmas.Bool.{cases_lt}
use Rattle.std.proofs.lemmas.List.{set_comm, get_or-set_same, get_or-set_other, length-take, take_more, ext_get_or}
use Rattle.std.proofs.lemmas.Nat.{div-add-mod', div_below, mod_below}
use Rattle.std.proofs.Math.ListN.{replicate}
use Rattle.part_raw.specs.Layout.{is_set, ChangesBit, IsPartition}
use Rattle.part_raw.specs.Rows.{window, row_of, rows_in, put_run, clear_run, IsLaid}
use Rattle.part_raw.proofs.Rows.{length-put_run, put_run-outside, put_run-inside, length-clear_run, clear_run-outside, clear_run-inside, window_is, window-get, row_of-somes, row_places, empty_places, laid-empty}
use Rattle.part_raw.proofs.RowSteps.{rows-put_wide}
use Rattle.part_raw.proofs.Slots.{IsPartition-set, IsPartition-vacant}

module _ {T : Type 0} where
  put_run-more : (places : List (Option T)) (from : ℕ) (row : List T) (x : T) → set (put_run places from row) (from + length row) (Some x) ≡ put_run places from (row ++ x ∷ [])
  unfolding put_run
  put_run-more places from [] x = ap (λ k. set places k (Some x)) (omega arith)
  put_run-more places from (y ∷ row) x =
      let behind : from + suc (length row) ≡ suc from + length row = omega arith in
      ap (λ k. set (set (put_run places (suc from) row) from (Some y)) k (Some x)) behind
      ∙ set_comm (put_run places (suc from) row) from (suc from + length row) (Some y) (Some x) (omega arith)
      ∙ ap (λ l. set l from (Some y)) (put_run-more places (suc from) row x)

  -- one value more of a row is written
  pub put_run-next : (places : List (Option T)) (from : ℕ) (row : List T) (i : ℕ) (x d : T) → i < length row → x ≡ get_or row i d
      → set (put_run places from (take i row)) (from + i) (Some x) ≡ put_run places from (take (i + 1) row)
  put_run-next places from row i x d within is =
      let long : length (take i row) ≡ i = omega (arith, length-take i row, within) in
      ap (λ k. set (put_run places from (take i row)) (from + k) (Some x)) (sym long) ∙ put_run-more places from (take i row) x
      ∙ ap (λ y. put_run places from (take i row ++ y ∷ [])) is ∙ ap (put_run places from) (sym (take_more row i d within))

  -- the places of a row that was written hold it
  pub put_run-held : (places : List (Option T)) (from : ℕ) (row : List T) (count : ℕ) → count ≡ length row → from + length row ≤ length places
      → IsSome (row_of (window from count (put_run places from row)))
  put_run-held places from row count long within =
      let l = length-put_run places from row in
      ap (λ n. is_some (row_of (window from n (put_run places from row)))) long
      ∙ ap is_some (ap row_of (window_is from (put_run places from row) row (omega (arith, l, within)) (λ i small. put_run-inside places from row i (from + i) within small refl)) ∙ row_of-somes row)

  -- a row that was written into empty places is emptied again
  pub put_run-cleared : (places : List (Option T)) (from : ℕ) (row : List T) (count : ℕ) → count ≡ length row → from + length row ≤ length places
      → ((i : ℕ) → i < length row → get_or places (from + i) None ≡ None) → clear_run (put_run places from row) from count ≡ places
  put_run-cleared places from row count long within empty =
      let put : List (Option T) = put_run places from row in
      let p = length-put_run places from row in let c = length-clear_run (put_run places from row) from count in
      ext_get_or None (clear_run (put_run places from row) from count) places (c ∙ p)
      (λ k below.
      elim (cases_lt k from) [
        | inl before ↦ clear_run-outside put from count k (inl before) ∙ put_run-outside places from row k (inl before)
        | inr past ↦
            elim (cases_lt k (from + count)) [
              | inl inside ↦
                  let at : k ≡ from + (k - from) = omega (arith, past) in
                  clear_run-inside put from count (k - from) k (omega (arith, p, long, within)) (omega (arith, past, inside)) at
                  ∙ sym (ap (λ j. get_or places j None) at ∙ empty (k - from) (omega (arith, past, inside, long)))
              | inr behind ↦ clear_run-outside put from count k (inr behind) ∙ put_run-outside places from row k (inr (omega (arith, behind, long)))
            ]
      ])

  -- a place of a slot is told by the slot's row
  same_place : (width slot i : ℕ) (places others : List (Option T)) (o : Option (List T)) → IsLaid width places → IsLaid width others → slot < 256 → i < width
      → get_or (rows_in width places) slot None ≡ o → get_or (rows_in width others) slot None ≡ o → get_or places (slot * width + i) None ≡ get_or others (slot * width + i) None
  same_place width slot i places others None laid laid' in_range small row row' =
      empty_places width slot places laid in_range row i small ∙ sym (empty_places width slot others laid' in_range row' i small)
  same_place width slot i places others (Some values) laid laid' in_range small row row' =
      sym (window-get (slot * width) width i places small) ∙ ap (λ l. get_or l i None) (row_places width slot places values row ∙ sym (row_places width slot others values row'))
      ∙ window-get (slot * width) width i others small

  -- two blocks whose slots have the same rows are the same
  pub same_rows : (width : ℕ) (places others : List (Option T)) → 0 < width → IsLaid width places → IsLaid width others
      → ((slot : ℕ) → slot < 256 → get_or (rows_in width places) slot None ≡ get_or (rows_in width others) slot None) → places ≡ others
  same_rows width places others wide laid laid' rows =
      ext_get_or None places others (laid.count ∙ sym laid'.count)
      (λ k below.
      let in_range : k / width < 256 = div_below k width 256 wide (omega (arith, below, laid.count)) in
      let place = div-add-mod' k width in
      ap (λ j. get_or places j None) (sym place)
      ∙ same_place width (k / width) (k % width) places others _ laid laid' in_range (mod_below k width wide) (rows (k / width) in_range) refl
      ∙ ap (λ j. get_or others j None) place)

  -- a block has the rows of the first slots of another, and no more
  pub record RowsCopied (width : ℕ) (words : List ℕ) (copy block : List (Option T)) (count : ℕ) : Type 0 where
    pub laid : IsLaid width copy
    pub bits : IsPartition words (rows_in width copy)
    pub same : (k : ℕ) → k < count → get_or (rows_in width copy) k None ≡ get_or (rows_in width block) k None
    pub empty : (k : ℕ) → count ≤ k → get_or (rows_in width copy) k None ≡ None

  pub copied_none : (width : ℕ) (words : List ℕ) (copy block : List (Option T)) → 0 < width → copy ≡ replicate (256 * width) None
      → ((slot : ℕ) → slot < 256 → is_set words slot ≡ false) → RowsCopied width words copy block 0
  copied_none width words copy block wide is clear =
      let new = laid-empty width copy wide is in
      record { laid = new.0; bits = IsPartition-vacant words (rows_in width copy) clear new.1; same = λ k below. absurd (omega (arith, below)); empty = λ k past. new.1.empty k }

  module _ (width : ℕ) (words : List ℕ) (copy block : List (Option T)) (slot : ℕ) (is : RowsCopied width words copy block slot) where
    -- the next slot holds no row
    pub copied_bare : get_or (rows_in width block) slot None ≡ None → RowsCopied width words copy block (slot + 1)
    copied_bare bare = record {
      laid = is.laid;
      bits = is.bits;
      same = below_more _ _ is.same (is.empty slot (omega arith) ∙ sym bare);
      empty = λ k past. is.empty k (omega (arith, past));
    }

    -- the row of the next slot is copied
    pub copied_row : (words' : List ℕ) (row : List T) → slot < 256 → length row ≡ width → get_or (rows_in width block) slot None ≡ Some row → ChangesBit words words' slot true
        → RowsCopied width words' (put_run copy (slot * width) row) block (slot + 1)
    copied_row words' row in_range wide held changes =
        let put = rows-put_wide width copy slot row wide in_range is.laid in
        record {
          laid = put.0;
          bits = rw put.1 (IsPartition-set words words' (rows_in width copy) slot (Some row) in_range is.bits changes);
          same = below_more _ _
              (λ k below. ap (λ l. get_or l k None) put.1 ∙ get_or-set_other (rows_in width copy) slot k (Some row) None (omega (arith, below)) ∙ is.same k below)
              (ap (λ l. get_or l slot None) put.1 ∙ get_or-set_same (rows_in width copy) slot (Some row) None (omega (arith, is.bits.count, in_range)) ∙ sym held);
          empty = λ k past. ap (λ l. get_or l k None) put.1 ∙ get_or-set_other (rows_in width copy) slot k (Some row) None (omega (arith, past)) ∙ is.empty k (omega (arith, past));
        }
