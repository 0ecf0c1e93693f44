-- The number of binary digits, and what a halving leaves of it.
use Rattle.std.proofs.Common.{◌≡◌, ℕ, ◌+◌, ◌/◌, ◌^◌, ◌<◌, ◌≤◌, length, refl, subst, arith}
use Rattle.std.specs.Int.Digits.{digits_of}
use Rattle.std.proofs.lemmas.Int.Digits.{length-digits_of_step, length-digits_of-le, number_lt, number_digits_of, all_below_base_digits_of}
use Rattle.ttree.specs.Shape.{binary_digits}

below_power : (n : ℕ) → n < 2 ^ binary_digits n
unfolding binary_digits
below_power n =
    subst (λ m. m < 2 ^ length (digits_of 2 n)) (number_digits_of 2 n (omega arith)) (number_lt 2 (digits_of 2 n) (all_below_base_digits_of 2 n (omega arith)))

-- more items have no fewer digits
pub digits-le : (m n : ℕ) → m ≤ n → binary_digits m ≤ binary_digits n
unfolding binary_digits
digits-le m n l = length-digits_of-le 2 (binary_digits n) m (omega arith) (omega (arith, below_power n))

one_more : (n : ℕ) → 0 < n → binary_digits n ≡ binary_digits (n / 2) + 1
unfolding binary_digits
one_more n some = length-digits_of_step 2 n (omega arith) some

-- at most half of some have one digit fewer
pub digits-half : (m n : ℕ) → 0 < n → m ≤ n / 2 → binary_digits m + 1 ≤ binary_digits n
digits-half m n some half = omega (arith, digits-le m (n / 2) half, one_more n some)

-- one more than half of them has
pub digits-next : (n : ℕ) → 0 < n → binary_digits n ≡ 1 + binary_digits (n / 2)
digits-next n some = omega (arith, one_more n some)

pub digits-zero : binary_digits 0 ≡ 0
unfolding binary_digits
digits-zero = refl
