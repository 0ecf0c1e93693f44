-- How often a probe was asked, over some calls.
use Rattle.std.proofs.Common.{ℕ, ◌+◌, ◌-◌, ◌≤◌, arith, Ordering}
use Rattle.mm_index.proofs.Asked.{IsOnlyAsked-trans}
use Rattle.ttree.specs.Shape.{binary_digits}
use Rattle.ttree.specs.Searching.{IsAskedAtMost}
use Rattle.ttree.proofs.Digits.{digits-le}

module _ {P R : Type 0} (is_sound : P → Type 0) (can_place : P → R → Type 0) (place : P → R → Ordering) (asked : P → ℕ) (p q r : P) where
  -- one after the other
  pub asked_then : (m n k : ℕ) → m + n ≤ k → IsAskedAtMost m is_sound can_place place asked p q → IsAskedAtMost n is_sound can_place place asked q r → IsAskedAtMost k is_sound can_place place asked p r
  asked_then m n k l h i = record {
    only = IsOnlyAsked-trans is_sound can_place place asked p q r h.only i.only;
    most = omega (arith, h.most, i.most);
  }

  -- down some levels, and then among all items of a node but its least
  pub asked_among : (levels n most : ℕ) → n ≤ most → IsAskedAtMost levels is_sound can_place place asked p q → IsAskedAtMost (binary_digits (n - 1)) is_sound can_place place asked q r
      → IsAskedAtMost (levels + binary_digits most) is_sound can_place place asked p r
  asked_among levels n most few h i = asked_then levels (binary_digits (n - 1)) (levels + binary_digits most) (omega (arith, digits-le (n - 1) most (omega (arith, few)))) h i
