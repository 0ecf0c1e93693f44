-- The binary search for the first element that does not stand below.
use Rattle.std.proofs.Common.{◌≡◌, ◌≢◌, ℕ, ◌+◌, ◌<◌, ◌≤◌, true, false, List, length, get_or, sym, ap, ◌∙◌, arith, Ordering}
use Rattle.std.specs.List.{AllWithin}
use Rattle.std.specs.declared.cmp.Ordering.TheVariants.{Less, Equal, Greater}
use Rattle.std.specs.Ordering.{ordering_index, is_lt, is_eq}
use Rattle.std.proofs.lemmas.Bool.{false≢true}
use Rattle.std.proofs.lemmas.List.{get_or_default}
use Rattle.common_lemmas.proofs.Orders.{is_lt-Less, Greater-from_neither, not_Equal, Less-below, Greater-above}
use Rattle.mm_index.specs.Range.{NeverFalls}

-- what stands before low is below, and what stands from high on is not
pub record IsHalved {A : Type 0} (place : A → Ordering) (xs : List A) (low high : ℕ) : Type 0 where
  pub ordered : low ≤ high
  pub within : high ≤ length xs
  pub below : AllWithin (λ r. place r ≡ Less) xs 0 low
  pub not_below : AllWithin (λ r. place r ≢ Less) xs high (length xs)

-- a place below, and one that is not
as_low : (o p : Ordering) → is_lt p ≡ true → ordering_index o ≤ ordering_index p → o ≡ Less
as_low o p e h = Less-below o p (is_lt-Less p e) h

not_low : (o p : Ordering) → is_lt p ≡ false → ordering_index p ≤ ordering_index o → o ≢ Less
not_low o p e h low = false≢true (sym e ∙ ap is_lt (Less-below p o low h))

module _ {A : Type 0} (place : A → Ordering) (xs : List A) (in_order : NeverFalls place xs) (low high middle : ℕ) (halved : IsHalved place xs low high) (from : low ≤ middle) (upto : middle < high) where
  within : middle < length xs
  within = let h : high ≤ length xs = halved.within in omega arith

  pub IsHalved-low : (c : A) → is_lt (place (get_or xs middle c)) ≡ true → IsHalved place xs (middle + 1) high
  IsHalved-low c e = record {
    ordered = omega arith;
    within = halved.within;
    below = λ k d z n.
        as_low (place (get_or xs k d)) (place (get_or xs middle d)) (rw (get_or_default xs middle d c within) e)
        (in_order k middle d (omega arith) within);
    not_below = halved.not_below;
  }

  pub IsHalved-high : (c : A) → is_lt (place (get_or xs middle c)) ≡ false → IsHalved place xs low middle
  IsHalved-high c e = record {
    ordered = from;
    within = omega (arith, within);
    below = halved.below;
    not_below = λ k d z n.
        not_low (place (get_or xs k d)) (place (get_or xs middle d)) (rw (get_or_default xs middle d c within) e) (in_order middle k d z n);
  }

-- what stands from first on is in the range, up to end
pub record IsPassed {A : Type 0} (place : A → Ordering) (xs : List A) (first end : ℕ) : Type 0 where
  pub from_first : first ≤ end
  pub within : end ≤ length xs
  pub equal : AllWithin (λ r. place r ≡ Equal) xs first end

module _ {A : Type 0} (place : A → Ordering) (xs : List A) (first end : ℕ) (passed : IsPassed place xs first end) (c : A) where
  -- the rest stands above
  pub above_passed : NeverFalls place xs → AllWithin (λ r. place r ≢ Less) xs first (length xs) → is_eq (place (get_or xs end c)) ≡ false → AllWithin (λ r. place r ≡ Greater) xs end (length xs)
  above_passed in_order not_below e = λ k d l m.
      let inside : end < length xs = omega arith in
      Greater-above (place (get_or xs k d)) (place (get_or xs end d))
      (Greater-from_neither (place (get_or xs end d)) (not_below end d passed.from_first inside) (not_Equal _ (rw (get_or_default xs end d c inside) e))) (in_order end k d l m)
