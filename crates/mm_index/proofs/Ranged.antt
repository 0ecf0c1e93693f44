-- The part of a list in a probe's range, by the places where it begins and ends.
use Rattle.std.proofs.Common.{◌≡◌, ◌≢◌, ℕ, ◌+◌, ◌-◌, ◌≤◌, Bool, true, false, List, [], ◌++◌, length, take, drop, refl, sym, ap, ◌∙◌, arith, Ordering}
use Rattle.std.specs.List.{filter, All, AllWithin}
use Rattle.std.specs.declared.cmp.Ordering.TheVariants.{Less, Equal, Greater}
use Rattle.std.specs.Ordering.{is_eq, is_ge}
use Rattle.std.proofs.lemmas.List.{take-append-drop, get_or-drop, length-drop}
use Rattle.std.proofs.lemmas.List.Elements.{filter-append}
use Rattle.mm_index.specs.Range.{in_range, from_range}
use Rattle.common_lemmas.proofs.Filters.{filter_all, filter_take, filter_drop, filter_second, filter_none}
use Rattle.common_lemmas.proofs.Elements.{All-take_within}

is_ge-not_Less : (o : Ordering) → o ≢ Less → is_ge o ≡ true
is_ge-not_Less Less h = absurd (h refl)
is_ge-not_Less o h = refl

pub from_range_split : {A : Type 0} (place : A → Ordering) (bs cs : List A) → All (λ r. place r ≡ Less) bs → All (λ r. place r ≢ Less) cs → from_range place (bs ++ cs) ≡ cs
from_range_split place bs cs below not_below =
    filter_second (λ r. is_ge (place r)) bs cs (λ k d l. ap is_ge (below k d l)) (λ k d l. is_ge-not_Less _ (not_below k d l))

module _ {A : Type 0} (place : A → Ordering) (xs : List A) (first : ℕ) (below : AllWithin (λ r. place r ≡ Less) xs 0 first) where
  pub from_range_at : AllWithin (λ r. place r ≢ Less) xs first (length xs) → from_range place xs ≡ drop first xs
  from_range_at not_below =
      filter_drop (λ r. is_ge (place r)) xs first (λ k d l m. ap is_ge (below k d l m)) (λ k d l m. is_ge-not_Less _ (not_below k d l m))

  pub in_range_at : (end : ℕ) → first ≤ end → end ≤ length xs → AllWithin (λ r. place r ≡ Equal) xs first end → AllWithin (λ r. place r ≡ Greater) xs end (length xs) → in_range place xs ≡ take (end - first) (drop first xs)
  in_range_at end l m equal above =
      let test : A → Bool = λ r. is_eq (place r) in
      let n : length (drop first xs) ≡ length xs - first = length-drop first xs in
      let back : filter test (drop first xs) ≡ take (end - first) (drop first xs) =
      filter_take test (drop first xs) (end - first)
      (λ k d z b. rw get_or-drop (ap is_eq (equal (first + k) d (omega arith) (omega arith))))
      (λ k d z b. rw get_or-drop (ap is_eq (above (first + k) d (omega arith) (omega arith))))
      in
      let front : filter test (take first xs) ≡ [] =
      filter_none test (take first xs) (All-take_within (λ r. test r ≡ false) xs first (λ k d z b. ap is_eq (below k d z b))) in
      ap (filter test) (sym (take-append-drop first xs)) ∙ filter-append test (take first xs) (drop first xs) ∙ rw (front, back) refl

-- a range that has all has the whole list
pub from_range_all : {A : Type 0} (xs : List A) → from_range (λ r. Equal) xs ≡ xs
from_range_all xs = filter_all (λ r. true) xs (λ k d l. refl)
