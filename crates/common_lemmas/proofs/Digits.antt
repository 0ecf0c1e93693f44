-- Digits: the number that digits write, as it is read from the left.
use Rattle.std.proofs.Common.{◌≡◌, ℕ, ◌+◌, ◌-◌, ◌*◌, ◌<◌, ◌≤◌, List, length, get_or, take, true, false, arith}
use Rattle.std.specs.Int.{IsInRange}
use Rattle.std.specs.Char.{digit_value, is_ascii_digit}
use Rattle.std.specs.Str.Parse.{AllDigits, digits_value}
use Rattle.std.proofs.lemmas.Bool.Decides.{nat_tests}
use Rattle.std.proofs.lemmas.Str.Parse.{digit_at, digits_value-take-le}
use Rattle.std.proofs.lemmas.Int.Digits.{digits_value_more, digits_push}
use Rattle.std.proofs.lemmas.List.{take_more}

digit-is : (c : ℕ) → is_ascii_digit c ≡ true → (digit_value c ≡ c - 48) × (digit_value c < 10)
digit-is c h = (grind (arith, nat_tests), grind (arith, nat_tests))

in_range-digit : (c : ℕ) → IsInRange 48 57 c → is_ascii_digit c ≡ true
in_range-digit c h = grind (arith, nat_tests)

pub not-digits : (ds : List ℕ) (i : ℕ) → i < length ds → is_ascii_digit (get_or ds i 0) ≡ false → AllDigits 10 ds → ⊥
not-digits ds i within other all =
    let digit : is_ascii_digit (get_or ds i 0) ≡ true = in_range-digit (get_or ds i 0) (digit_at ds i all within) in cc

pub more-digits : (ds : List ℕ) (i : ℕ) → i < length ds → is_ascii_digit (get_or ds i 0) ≡ true → AllDigits 10 (take i ds)
    → AllDigits 10 (take (i + 1) ds)
more-digits ds i within digit all =
    rw (take_more ds i 0 within) (digits_push 10 (take i ds) (get_or ds i 0) all (digit-is (get_or ds i 0) digit).1)

pub more-value : (ds : List ℕ) (i value : ℕ) → i < length ds → is_ascii_digit (get_or ds i 0) ≡ true → value ≡ digits_value 10 (take i ds)
    → value * 10 + (get_or ds i 0 - 48) ≡ digits_value 10 (take (i + 1) ds)
more-value ds i value within digit e = omega (arith, digits_value_more 10 ds i within, (digit-is (get_or ds i 0) digit).0)

-- The digits so far write no more than all of them.
pub grows : (ds : List ℕ) (i value : ℕ) → i < length ds → is_ascii_digit (get_or ds i 0) ≡ true → value ≡ digits_value 10 (take i ds)
    → value * 10 + (get_or ds i 0 - 48) ≤ digits_value 10 ds
grows ds i value within digit e = omega (arith, more-value ds i value within digit e, digits_value-take-le 10 ds (i + 1) (omega arith))
