-- Lemmas on fields: what is read in them is what the definitions say.
use Rattle.std.proofs.Common.{◌≡◌, ◌^◌, ℕ, List, Bool, true, false, Some, None, refl, length, ◌≤◌}
use Rattle.std.specs.Prelude.{ℤ, pos, negsuc, FitsSigned, nat_lt}
use Rattle.std.specs.Int.{w64}
use Rattle.std.specs.Str.{all_ascii_digits}
use Rattle.std.specs.Str.Parse.{IsNumeral, digits_value}
use Rattle.std.proofs.lemmas.Str.Parse.{IsNumeralModel, numerals_by_value, tells_all_ascii_digits}
use Rattle.plain_tables.specs.CsvReading.{digits_of, has_64_bits, integer_of, is_numeral, number_of}
use Rattle.std.specs.Str.{IsUtf8, is_utf8}
use Rattle.std.proofs.lemmas.Bool.{and_parts, le-ltb, lt-ltb, ltb-true}
use Rattle.std.proofs.lemmas.Str.{IsUtf8-from_is_utf8, is_utf8-from_IsUtf8}
use Rattle.plain_tables.specs.CsvReading.{text_of}
use Rattle.plain_tables.specs.declared.value.Value.TheVariants as value

-- ---- integers

-- digits as the library tells them
told : IsNumeralModel (λ ds. all_ascii_digits ds ≡ true) (digits_value 10)
told = numerals_by_value (λ ds. all_ascii_digits ds ≡ true) tells_all_ascii_digits

pub numeral-is : (ds : List ℕ) → is_numeral ds ≡ true → IsNumeral 10 ds
numeral-is ds is =
    let (some, all) = and_parts (nat_lt 0 (length ds)) (all_ascii_digits ds) is in (ltb-true 0 (length ds) some, told.to ds all)

pub is-numeral : (ds : List ℕ) → IsNumeral 10 ds → is_numeral ds ≡ true
is-numeral ds (some, all) = rw (lt-ltb 0 (length ds) some, told.from ds all) refl

pub fits-has : (z : ℤ) → FitsSigned w64 z → has_64_bits z ≡ true
fits-has (pos n) fits = lt-ltb n (2 ^ 63) fits.sfits
fits-has (negsuc n) fits = lt-ltb n (2 ^ 63) fits.sfits

-- The field is digits behind a minus or none, and what they say has 64 bits.
abbrev pub SaysInteger : List ℕ → Type 0
SaysInteger field = IsNumeral 10 (digits_of field) × FitsSigned w64 (number_of field)

pub integer-there : (field : List ℕ) → SaysInteger field → integer_of field ≡ Some (number_of field)
integer-there field (numeral, fits) = rw (is-numeral (digits_of field) numeral, fits-has (number_of field) fits) refl

-- ---- texts

pub text-there : (field : List ℕ) → length field ≤ 1024 → IsUtf8 field → text_of field ≡ Some (value.Text field)
text-there field short utf8 = rw (is_utf8-from_IsUtf8 field utf8, le-ltb 1024 (length field) short) refl

pub text-wild : (field : List ℕ) → ¬ (IsUtf8 field) → text_of field ≡ None
text-wild field wild = by (is_utf8 field) refl
  where
    by : (b : Bool) → is_utf8 field ≡ b → text_of field ≡ None
    by true is = absurd (wild (IsUtf8-from_is_utf8 field is))
    by false is = rw is refl
