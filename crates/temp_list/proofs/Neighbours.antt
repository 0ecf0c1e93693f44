-- Neighbours in a list along which the places of a probe never fall: what one of them tells of the others.
use Rattle.std.proofs.Common.{◌≡◌, ◌≢◌, ◌≤◌, ◌<◌, ◌+◌, ◌-◌, ℕ, true, List, ◌++◌, length, take, drop, get_or, inl, inr, refl, sym, ap, ◌∙◌, subst, arith, append_assoc, Ordering}
use Rattle.std.specs.List.{All, AllWithin}
use Rattle.std.specs.declared.cmp.Ordering.TheVariants.{Less, Equal, Greater}
use Rattle.std.specs.Ordering.{is_eq, is_ge, ordering_index}
use Rattle.std.proofs.lemmas.Bool.{cases_order, false≢true}
use Rattle.std.proofs.lemmas.List.{length-append, length-take, length-take-le, length-drop, get_or-take, get_or-drop, get_or_default, take-take, take_rest}
use Rattle.std.proofs.lemmas.List.Elements.{All-take, All-drop, filter_passes}
use Rattle.std.proofs.lemmas.List.Kept.{IsNonDecreasingBy-filter}
use Rattle.std.proofs.Math.Seq.{take-add, take-append-add, drop-append_seam}
use Rattle.common_lemmas.proofs.Filters.{filter_take}
use Rattle.common_lemmas.proofs.Orders.{Greater-above}
use Rattle.mm_index.specs.Range.{NeverFalls, in_range, from_range}
use Rattle.temp_list.proofs.Searches.{filter_inner}

module _ {A : Type 0} (place : A → Ordering) (xs : List A) (in_order : NeverFalls place xs) where
  -- where none stands below the range, those before one that is in it are
  equal_below : (o p : Ordering) → o ≢ Less → p ≡ Equal → ordering_index o ≤ ordering_index p → o ≡ Equal
  equal_below Less p n e h = absurd (n refl)
  equal_below Equal p n e h = refl
  equal_below Greater Equal n e h = absurd (omega arith)
  equal_below Greater p n e h = cc

  pub equal_until : All (λ r. place r ≢ Less) xs → (at : ℕ) (d : A) → at < length xs → place (get_or xs at d) ≡ Equal → AllWithin (λ r. place r ≡ Equal) xs 0 (at + 1)
  equal_until begun at d within e i c l m =
      equal_below (place (get_or xs i c)) (place (get_or xs at c)) (begun i c (omega arith)) (ap place (get_or_default xs at c d within) ∙ e)
      (in_order i at c (omega arith) within)

  -- and those behind one that is above it are above it
  pub above_from : (at : ℕ) (d : A) → at < length xs → place (get_or xs at d) ≡ Greater → AllWithin (λ r. place r ≡ Greater) xs at (length xs)
  above_from at d within e i c l m =
      Greater-above (place (get_or xs i c)) (place (get_or xs at c)) (ap place (get_or_default xs at c d within) ∙ e) (in_order at i c l m)

  -- k of them were found, and then up to m more were taken
  module _ (k m : ℕ) where
    abbrev taken : List A
    taken = take m (drop k xs)

    taken_at : (i : ℕ) (d : A) → i < length taken → get_or taken i d ≡ get_or xs (k + i) d
    taken_at i d l = get_or-take m (drop k xs) i d (omega (arith, length-take m (drop k xs))) ∙ get_or-drop k xs i d

    pub taken_all : (P : A → Type 0) → All P xs → All P taken
    taken_all P h = All-take P m (drop k xs) (All-drop P k xs h)

    pub taken_in_order : NeverFalls place taken
    taken_in_order i j d l h =
        rw (taken_at i d (omega arith), taken_at j d h) (in_order (k + i) (k + j) d (omega arith) (omega (arith, length-take m (drop k xs), length-drop k xs)))

    -- of which n are in the range
    module _ (n : ℕ) (few : n ≤ length taken) (found : AllWithin (λ r. place r ≡ Equal) xs 0 k) (more : AllWithin (λ r. place r ≡ Equal) taken 0 n) where
      pub found_more : AllWithin (λ r. place r ≡ Equal) xs 0 (k + n)
      found_more i d l h =
          elim (cases_order i k) [
            | inl same ↦ at_least i d (omega arith) h
            | inr (inl before) ↦ found i d l before
            | inr (inr after) ↦ at_least i d (omega arith) h
          ]
        where
          at_least : (i : ℕ) (d : A) → k ≤ i → i < k + n → place (get_or xs i d) ≡ Equal
          at_least i d l h =
              let there : k + (i - k) ≡ i = omega arith in
              subst (λ (j : ℕ). place (get_or xs j d) ≡ Equal) there
              (ap place (sym (taken_at (i - k) d (omega arith))) ∙ more (i - k) d (omega arith) (omega arith))

      -- where these are fewer than were to be taken, the range ends with them
      pub range_found : AllWithin (λ r. place r ≡ Greater) taken n (length taken) → n < m → in_range place xs ≡ take (k + n) xs
      range_found above fewer =
          filter_take (λ r. is_eq (place r)) xs (k + n) (λ i d l h. ap is_eq (found_more i d l h)) (λ i d l h. ap is_eq (behind i d l h))
        where
          behind : AllWithin (λ r. place r ≡ Greater) xs (k + n) (length xs)
          behind i d l h =
              let inside : n < length taken = omega (arith, length-take m (drop k xs), length-drop k xs) in
              above_from (k + n) d (omega arith) (ap place (sym (taken_at n d inside)) ∙ above n d (omega arith) inside) i d l h

-- ---- what was taken, behind a list
module _ {A : Type 0} (xs before out rest : List A) (k m start : ℕ) (begins : start ≡ length before) (added : out ≡ before ++ take m rest) (left : rest ≡ drop k xs) where
  pub slice_taken : take (length out - start) (drop start out) ≡ take m (drop k xs)
  slice_taken =
      take_rest out start ∙ ap (λ (n : ℕ). drop n out) begins ∙ ap (λ (ys : List A). drop (length before) ys) added ∙ drop-append_seam before (take m rest)
      ∙ ap (λ (ys : List A). take m ys) left

  pub kept_taken : (old : List A) (n : ℕ) → k ≤ length xs → n ≤ m → before ≡ old ++ take k xs → take (start + n) out ≡ old ++ take (k + n) xs
  kept_taken old n within few found =
      let whole : out ≡ old ++ take (k + m) xs =
      added ∙ ap (λ (ys : List A). before ++ take m ys) left ∙ ap (λ (ys : List A). ys ++ take m (drop k xs)) found ∙ append_assoc old (take k xs) (take m (drop k xs))
      ∙ ap (λ (ys : List A). old ++ ys) (sym (take-add k m xs))
      in
      let count : start + n ≡ length old + (k + n) = omega (arith, begins, ap (λ (ys : List A). length ys) found, length-append old (take k xs), length-take-le k xs within) in
      ap (λ (ys : List A). take (start + n) ys) whole ∙ ap (λ (j : ℕ). take j (old ++ take (k + m) xs)) count
      ∙ take-append-add old (take (k + m) xs) (k + n) ∙ ap (λ (ys : List A). old ++ ys) (take-take (k + n) (k + m) xs (omega arith))

-- ---- what does not stand below the range
module _ {A : Type 0} (place : A → Ordering) (xs : List A) where
  not_below : (o : Ordering) → is_ge o ≡ true → o ≢ Less
  not_below o h e = false≢true (sym (ap is_ge e) ∙ h)

  within_range : (o : Ordering) → is_eq o ≡ true → is_ge o ≡ true
  within_range Equal e = refl
  within_range o e = cc

  pub from_begun : All (λ r. place r ≢ Less) (from_range place xs)
  from_begun i d l = not_below (place (get_or (from_range place xs) i d)) (filter_passes (λ r. is_ge (place r)) xs i d l)

  pub from_in_order : NeverFalls place xs → NeverFalls place (from_range place xs)
  from_in_order h = IsNonDecreasingBy-filter (λ r. ordering_index (place r)) (λ r. is_ge (place r)) xs h

  pub in_range_from : in_range place (from_range place xs) ≡ in_range place xs
  in_range_from = filter_inner (λ r. is_eq (place r)) (λ r. is_ge (place r)) xs (λ k d l. within_range (place (get_or xs k d)))
