-- Lemmas on fields that need no quotes.
use Rattle.std.proofs.Common.{◌≡◌, ◌∙◌, ◌++◌, ◌∷◌, [], ◌+◌, ◌<◌, ◌%◌, ◌^◌, ℕ, List, true, false, refl, sym, ap, suc, length, append_assoc, arith}
use Rattle.std.proofs.lemmas.Bool.{and_parts, ne_eqb, or_left, or_parts}
use Rattle.std.proofs.lemmas.Fmt.{decimal_by_steps}
use Rattle.std.proofs.lemmas.List.Folds.{list_any-append}
use Rattle.std.specs.List.{flat_map, list_all, list_any}
use Rattle.std.specs.Fmt.{decimal, signed_decimal}
use Rattle.std.specs.Char.{is_ascii_digit}
use Rattle.std.specs.Prelude.{◌==◌}
use Rattle.std.specs.Prelude.{ℤ, pos, negsuc, FitsSigned}
use Rattle.std.specs.Int.{w64}
use Rattle.plain_tables.specs.Csv.{calls_for_quotes, field_text, joined, needs_quotes, record_text}
use Rattle.plain_tables.specs.Names.{IsName, is_letter, is_word_character}

-- ---- integers

digit-plain : (n : ℕ) → calls_for_quotes (48 + n) ≡ false
digit-plain n =
    rw (ne_eqb (48 + n) 44 (λ e. omega (arith, e)), ne_eqb (48 + n) 34 (λ e. omega (arith, e)), ne_eqb (48 + n) 13 (λ e. omega (arith, e)), ne_eqb (48 + n) 10 (λ e. omega (arith, e))) refl

pub decimal-plain : (n : ℕ) → n < 2 ^ 64 → needs_quotes (decimal n) ≡ false
decimal-plain n =
    decimal_by_steps (λ n ds. needs_quotes ds ≡ false)
    (λ n lt. rw (digit-plain n) refl)
    (λ n ds ge plain. rw (list_any-append calls_for_quotes ds ((48 + n % 10) ∷ []), plain, digit-plain (n % 10)) refl)
    n

pub integer-plain : (z : ℤ) → FitsSigned w64 z → needs_quotes (signed_decimal z) ≡ false
integer-plain (pos n) fits = decimal-plain n (omega (arith, fits))
integer-plain (negsuc n) fits = decimal-plain (suc n) (omega (arith, fits))

-- ---- names

apart : (c k : ℕ) → is_word_character c ≡ true → is_word_character k ≡ false → (c == k) ≡ false
apart c k is isn't = ne_eqb c k (λ e. let clash : true ≡ false = sym is ∙ ap is_word_character e ∙ isn't in cc clash)

character-plain : (c : ℕ) → is_word_character c ≡ true → calls_for_quotes c ≡ false
character-plain c is = rw (apart c 44 is refl, apart c 34 is refl, apart c 13 is refl, apart c 10 is refl) refl

characters-plain : (cs : List ℕ) → list_all is_word_character cs ≡ true → needs_quotes cs ≡ false
characters-plain [] all = refl
characters-plain (c ∷ cs) all =
    let (first, others) = and_parts _ _ all in
    rw (character-plain c first, characters-plain cs others) refl

pub name-plain : (name : List ℕ) → IsName name → needs_quotes name ≡ false
name-plain [] is = refl
name-plain (c ∷ cs) is =
    let (letter, others) = and_parts _ _ (and_parts _ _ is).0 in
    rw (character-plain c (or_left (is_letter c) (is_ascii_digit c) letter), characters-plain cs others) refl

-- ---- records

text-plain : (field : List ℕ) → needs_quotes field ≡ false → field_text field ≡ field
text-plain field plain = rw plain refl

others-plain : (fields : List (List ℕ)) → list_any needs_quotes fields ≡ false → flat_map (λ f. 44 ∷ field_text f) fields ≡ flat_map (λ f. 44 ∷ f) fields
others-plain [] plain = refl
others-plain (field ∷ fields) plain =
    let (first, others) = or_parts (needs_quotes field) (list_any needs_quotes fields) plain in
    rw (text-plain field first, others-plain fields others) refl

joined-plain : (field : List ℕ) (fields : List (List ℕ)) → list_any needs_quotes (field ∷ fields) ≡ false
    → joined (field ∷ fields) ++ 10 ∷ [] ≡ field ++ (flat_map (λ f. 44 ∷ f) fields ++ 10 ∷ [])
joined-plain field fields plain =
    let (first, others) = or_parts (needs_quotes field) (list_any needs_quotes fields) plain in
    rw (text-plain field first, others-plain fields others) (append_assoc field (flat_map (λ f. 44 ∷ f) fields) (10 ∷ []))

pub record-plain : (field : List ℕ) (fields : List (List ℕ)) → list_any needs_quotes (field ∷ fields) ≡ false → 0 < length field + length fields
    → record_text (field ∷ fields) ≡ field ++ (flat_map (λ f. 44 ∷ f) fields ++ 10 ∷ [])
record-plain [] [] plain shows = absurd (omega (arith, shows))
record-plain [] (other ∷ fields) plain shows = joined-plain [] (other ∷ fields) plain
record-plain (b ∷ field) [] plain shows = joined-plain (b ∷ field) [] plain
record-plain (b ∷ field) (other ∷ fields) plain shows = joined-plain (b ∷ field) (other ∷ fields) plain
