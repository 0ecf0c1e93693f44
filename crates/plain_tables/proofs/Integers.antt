-- Integers: characters spell at most one, and so at most one value.
use Rattle.std.proofs.Common.{◌≡◌, ℕ, ◌<◌, List, ◌∷◌, ◌⊎◌, inl, inr, refl, sym, ◌∙◌, ap, arith, subst}
use Rattle.std.specs.Prelude.{ℤ, pos, neg_ℤ}
use Rattle.std.specs.Char.{digit_value}
use Rattle.std.specs.Str.Parse.{IsNumeral, digits_value}
use lib.Chars.{codes}
use Rattle.plain_tables.specs.Spelling.{IsInteger, IsSymbol, Literal, text_literal}
use Rattle.plain_tables.specs.declared.value.Value.{Value}
use Rattle.plain_tables.specs.declared.value.Value.TheVariants.{Null, Int, Text}
use Rattle.plain_tables.proofs.Texts.{text_literal-one}

-- no digit is a minus
minus-no_numeral : (digits : List ℕ) → IsNumeral 10 (45 ∷ digits) → ⊥
minus-no_numeral digits numeral = omega (arith, numeral.1.0)

pub IsInteger-only : (characters : List ℕ) (y z : ℤ) → IsInteger characters y → IsInteger characters z → z ≡ y
IsInteger-only characters y z (fits, (digits, numeral, inl (e, value))) (fits', (digits', numeral', inl (e', value'))) =
    let same : digits' ≡ digits = cc in value' ∙ (ap (λ ds. pos (digits_value 10 ds)) same ∙ sym value)
IsInteger-only characters y z (fits, (digits, numeral, inl (e, value))) (fits', (digits', numeral', inr (e', value'))) =
    let minus : digits ≡ 45 ∷ digits' = sym e ∙ e' in absurd (minus-no_numeral digits' (rw minus at numeral))
IsInteger-only characters y z (fits, (digits, numeral, inr (e, value))) (fits', (digits', numeral', inl (e', value'))) =
    let minus : digits' ≡ 45 ∷ digits = sym e' ∙ e in absurd (minus-no_numeral digits (rw minus at numeral'))
IsInteger-only characters y z (fits, (digits, numeral, inr (e, value))) (fits', (digits', numeral', inr (e', value'))) =
    let same : digits' ≡ digits = cc in value' ∙ (ap (λ ds. neg_ℤ (pos (digits_value 10 ds))) same ∙ sym value)

null-no_text : (text : List ℕ) → codes "null" ≡ text_literal text → ⊥
null-no_text text e = cc

-- an integer begins with a digit or a minus, and so with no quote mark and no letter
integer-first : (c : ℕ) (characters : List ℕ) (z : ℤ) → IsInteger (c ∷ characters) z → (digit_value c < 10) ⊎ (c ≡ 45)
integer-first c characters z (fits, (digits, numeral, inl (e, value))) =
    let whole : IsNumeral 10 (c ∷ characters) = subst (λ ds. IsNumeral 10 ds) (sym e) numeral in inl whole.1.0
integer-first c characters z (fits, (digits, numeral, inr (e, value))) = inr cc

integer-no_text : (c : ℕ) (characters : List ℕ) (z : ℤ) → c ≡ 39 → IsInteger (c ∷ characters) z → ⊥
integer-no_text c characters z e is = elim (integer-first c characters z is) [
  | inl digit ↦ let mark : digit_value 39 < 10 = rw e at digit in omega (arith, mark)
  | inr minus ↦ omega arith
]

integer-no_null : (z : ℤ) → IsInteger (codes "null") z → ⊥
integer-no_null z is = elim (integer-first 110 _ z is) [
  | inl digit ↦ omega (arith, digit)
  | inr minus ↦ omega arith
]

pub Literal-only : (characters : List ℕ) (v w : Value) → IsSymbol characters (Literal v) → IsSymbol characters (Literal w) → w ≡ v
Literal-only characters Null Null is is' = refl
Literal-only characters Null (Int z) is is' = absurd (integer-no_null z (rw is at is'))
Literal-only characters (Int y) Null is is' = absurd (integer-no_null y (rw is' at is))
Literal-only characters Null (Text t) is is' = absurd (null-no_text t (sym is ∙ is'))
Literal-only characters (Text s) Null is is' = absurd (null-no_text s (sym is' ∙ is))
Literal-only characters (Int y) (Int z) is is' = ap Int (IsInteger-only characters y z is is')
Literal-only characters (Int y) (Text t) is is' = absurd (integer-no_text 39 _ y refl (rw is' at is))
Literal-only characters (Text s) (Int z) is is' = absurd (integer-no_text 39 _ z refl (rw is at is'))
Literal-only characters (Text s) (Text t) is is' = ap Text (text_literal-one t s (sym is' ∙ is))
