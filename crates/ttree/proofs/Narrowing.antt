-- A search among the items of a node narrows down.
use Rattle.std.proofs.Common.{◌≡◌, ℕ, ◌+◌, ◌<◌, ◌≤◌, List, length, get_or, arith, Ordering}
use Rattle.std.specs.List.{AllWithin}
use Rattle.std.specs.declared.cmp.Ordering.TheVariants.{Less, Greater}
use Rattle.std.proofs.lemmas.List.{get_or_default}
use Rattle.common_lemmas.proofs.Orders.{Less-below, Greater-above}
use Rattle.mm_index.specs.Range.{NeverFalls}
use Rattle.ttree.specs.Searching.{IsCut}

module _ {A : Type 0} (place : A → Ordering) (xs : List A) (in_order : NeverFalls place xs) (m : ℕ) (within : m < length xs) (c : A) where
  pub below_at : place (get_or xs m c) ≡ Less → AllWithin (λ r. place r ≡ Less) xs 0 (m + 1)
  below_at e = λ k d z n.
      Less-below (place (get_or xs k d)) (place (get_or xs m d)) (rw (get_or_default xs m d c within) e) (in_order k m d (omega arith) within)

  pub above_at : place (get_or xs m c) ≡ Greater → AllWithin (λ r. place r ≡ Greater) xs m (length xs)
  above_at e = λ k d z n.
      Greater-above (place (get_or xs k d)) (place (get_or xs m d)) (rw (get_or_default xs m d c within) e) (in_order m k d z n)

  module _ (low high : ℕ) (cut : IsCut place xs low high) where
    pub IsCut-low : m < high → place (get_or xs m c) ≡ Less → IsCut place xs (m + 1) high
    IsCut-low l e = record { ordered = omega arith; within = cut.within; below = below_at e; above = cut.above }

    pub IsCut-high : low ≤ m → place (get_or xs m c) ≡ Greater → IsCut place xs low m
    IsCut-high l e = record { ordered = l; within = omega arith; below = cut.below; above = above_at e }
