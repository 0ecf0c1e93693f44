-- A probe that is asked again and again is only asked.
use Rattle.std.proofs.Common.{◌≡◌, ℕ, ◌+◌, ◌≤◌, true, false, cond, ltb, refl, ◌∙◌, arith, Ordering}
use Rattle.std.proofs.lemmas.Grind.{common_steps}
use Rattle.mm_index.specs.Asking.{counted, IsOnlyAsked}

counted-ge : (n : ℕ) → n ≤ counted n
counted-ge n = elim (ltb n 18446744073709551615) as (λ b. n ≤ cond b (n + 1) n) [ true ↦ omega arith | false ↦ omega arith ]

pub counted-le : (n : ℕ) → counted n ≤ n + 1
counted-le n = elim (ltb n 18446744073709551615) as (λ b. cond b (n + 1) n ≤ n + 1) [ true ↦ omega arith | false ↦ omega arith ]

-- one more is asked at least once, however often before
pub counted-mono : (m n : ℕ) → m ≤ n → counted m ≤ counted n
counted-mono m n h = grind (arith, common_steps)

module _ {P R : Type 0} (is_sound : P → Type 0) (can_place : P → R → Type 0) (place : P → R → Ordering) (asked : P → ℕ) where
  pub IsOnlyAsked-refl : (p : P) → IsOnlyAsked is_sound can_place place asked p p
  IsOnlyAsked-refl p = record { sound = λ h. h; answers = refl; may_ask = λ r h. h; count = omega arith }

  pub IsOnlyAsked-trans : (p q r : P) → IsOnlyAsked is_sound can_place place asked p q → IsOnlyAsked is_sound can_place place asked q r → IsOnlyAsked is_sound can_place place asked p r
  IsOnlyAsked-trans p q r h k = record {
    sound = λ s. k.sound (h.sound s);
    answers = k.answers ∙ h.answers;
    may_ask = λ a m. k.may_ask a (h.may_ask a m);
    count = omega (arith, h.count, k.count);
  }

  -- one call of `place`, by its clauses
  pub IsOnlyAsked-once : (p q : P) → is_sound q → place q ≡ place p → ((r : R) → can_place p r → can_place q r) → asked q ≡ counted (asked p) → IsOnlyAsked is_sound can_place place asked p q
  IsOnlyAsked-once p q s e m n = record { sound = λ _. s; answers = e; may_ask = m; count = omega (arith, counted-ge (asked p)) }
