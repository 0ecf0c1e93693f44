-- One bit of the words of a bitmap is set or cleared, or found clear.
use Rattle.std.proofs.Common.{◌≡◌, ◌≢◌, ℕ, ◌+◌, ◌-◌, ◌*◌, ◌/◌, ◌%◌, ◌^◌, ◌<◌, Bool, true, false, List, length, get_or, set, sym, ap, ◌∙◌, inl, inr, arith, w64, bit_or, bit_and}
use Rattle.std.proofs.lemmas.Bool.{cases_eq}
use Rattle.std.proofs.lemmas.List.{get_or-set_same, get_or-set_other}
use Rattle.std.proofs.lemmas.Nat.Bits.{bit_at_set_same, bit_at_set_other, bit_at_clear_same, bit_at_clear_other, bit_at-trailing_ones, bit_at-trailing_zeros, bit_at_ones, bit_at-zero}
use Rattle.std.specs.Prelude.{◌==◌}
use Rattle.std.specs.Int.{bit_at, bit_not, trailing_ones, trailing_zeros}
use Rattle.part_raw.specs.Layout.{is_set, ChangesBit}

-- the word of the slot is replaced by one in which the bit of the slot alone differs
change_word : (words : List ℕ) (slot word : ℕ) (bit : Bool) → slot / 64 < length words
    → (bit_at word (slot % 64) == 1) ≡ bit
    → ((i : ℕ) → i < 64 → i ≢ slot % 64 → bit_at word i ≡ bit_at (get_or words (slot / 64) 0) i)
    → ChangesBit words (set words (slot / 64) word) slot bit
change_word words slot word bit within changed others =
    record {
      changed = ap (λ n. bit_at n (slot % 64) == 1) (get_or-set_same words (slot / 64) word 0 within) ∙ changed;
      others = λ other in_range differs.
          elim (cases_eq (other / 64) (slot / 64)) [
            | inl same ↦
                let apart : other % 64 ≢ slot % 64 = λ e. differs (omega arith) in
                ap (λ k. bit_at (get_or (set words (slot / 64) word) k 0) (other % 64) == 1) same
                ∙ ap (λ n. bit_at n (other % 64) == 1) (get_or-set_same words (slot / 64) word 0 within)
                ∙ ap (λ n. n == 1) (others (other % 64) (omega arith) apart)
                ∙ ap (λ k. bit_at (get_or words k 0) (other % 64) == 1) (sym same)
            | inr other_word ↦ ap (λ n. bit_at n (other % 64) == 1) (get_or-set_other words (slot / 64) (other / 64) word 0 other_word)
          ];
    }

pub set_bit : (words : List ℕ) (slot : ℕ) → slot / 64 < length words
    → ChangesBit words (set words (slot / 64) (bit_or (get_or words (slot / 64) 0) (1 * 2 ^ (slot % 64) % 2 ^ 64))) slot true
set_bit words slot within =
    let place : slot % 64 < 64 = omega arith in
    change_word words slot _ true within
    (ap (λ n. n == 1) (bit_at_set_same w64 (get_or words (slot / 64) 0) (slot % 64) place))
    (λ i small differs. bit_at_set_other w64 (get_or words (slot / 64) 0) (slot % 64) place i differs)

pub clear_bit : (words : List ℕ) (slot : ℕ) → slot / 64 < length words
    → ChangesBit words (set words (slot / 64) (bit_and (get_or words (slot / 64) 0) (bit_not w64 (1 * 2 ^ (slot % 64) % 2 ^ 64)))) slot false
clear_bit words slot within =
    let place : slot % 64 < 64 = omega arith in
    change_word words slot _ false within
    (ap (λ n. n == 1) (bit_at_clear_same w64 (get_or words (slot / 64) 0) (slot % 64) place))
    (λ i small differs. bit_at_clear_other w64 (get_or words (slot / 64) 0) (slot % 64) place i small differs)

-- the first clear bit of a word is that of a slot
pub clear_slot : (words : List ℕ) (i : ℕ) → get_or words i 0 + 1 < 2 ^ 64 → i < 4
    → (i * 64 + trailing_ones w64 (get_or words i 0) < 256) × (is_set words (i * 64 + trailing_ones w64 (get_or words i 0)) ≡ false)
clear_slot words i below in_range =
    let found = bit_at-trailing_ones w64 (get_or words i 0) below in
    let place : trailing_ones w64 (get_or words i 0) < 64 = found.0 in
    at (trailing_ones w64 (get_or words i 0)) place found.1
  where
    at : (t : ℕ) → t < 64 → bit_at (get_or words i 0) t ≡ 0 → (i * 64 + t < 256) × (is_set words (i * 64 + t) ≡ false)
    at t small clear =
        let word : (i * 64 + t) / 64 ≡ i = omega arith in
        let place : (i * 64 + t) % 64 ≡ t = omega arith in
        (omega arith, ap (λ k. bit_at (get_or words k 0) ((i * 64 + t) % 64) == 1) word ∙ ap (λ k. bit_at (get_or words i 0) k == 1) place ∙ ap (λ n. n == 1) clear)

-- the bits of the words before this one are set, and this word is all ones: one word more
pub full_words : (words : List ℕ) (i : ℕ) → ((slot : ℕ) → slot / 64 < i → is_set words slot ≡ true) → get_or words i 0 ≡ 2 ^ 64 - 1
    → (slot : ℕ) → slot / 64 < i + 1 → is_set words slot ≡ true
full_words words i before full slot within =
    elim (cases_eq (slot / 64) i) [
      | inl same ↦
          ap (λ k. bit_at (get_or words k 0) (slot % 64) == 1) same
          ∙ ap (λ n. bit_at n (slot % 64) == 1) full
          ∙ ap (λ n. n == 1) (bit_at_ones 64 (slot % 64) (omega arith))
      | inr other ↦ before slot (omega arith)
    ]

-- the first set bit of a word is that of a slot
pub set_slot : (words : List ℕ) (i : ℕ) → 0 < get_or words i 0 → get_or words i 0 < 2 ^ 64 → i < 4
    → (i * 64 + trailing_zeros w64 (get_or words i 0) < 256) × (is_set words (i * 64 + trailing_zeros w64 (get_or words i 0)) ≡ true)
set_slot words i some below in_range =
    let found = bit_at-trailing_zeros w64 (get_or words i 0) some below in
    at (trailing_zeros w64 (get_or words i 0)) found.0 found.1
  where
    at : (t : ℕ) → t < 64 → bit_at (get_or words i 0) t ≡ 1 → (i * 64 + t < 256) × (is_set words (i * 64 + t) ≡ true)
    at t small one =
        let word : (i * 64 + t) / 64 ≡ i = omega arith in
        let place : (i * 64 + t) % 64 ≡ t = omega arith in
        (omega arith, ap (λ k. bit_at (get_or words k 0) ((i * 64 + t) % 64) == 1) word ∙ ap (λ k. bit_at (get_or words i 0) k == 1) place ∙ ap (λ n. n == 1) one)

-- the bits of the words before this one are clear, and this word is 0: one word more
pub clear_words : (words : List ℕ) (i : ℕ) → ((slot : ℕ) → slot / 64 < i → is_set words slot ≡ false) → get_or words i 0 ≡ 0
    → (slot : ℕ) → slot / 64 < i + 1 → is_set words slot ≡ false
clear_words words i before none slot within =
    elim (cases_eq (slot / 64) i) [
      | inl same ↦
          ap (λ k. bit_at (get_or words k 0) (slot % 64) == 1) same
          ∙ ap (λ n. bit_at n (slot % 64) == 1) none
          ∙ ap (λ n. n == 1) (bit_at-zero (slot % 64))
      | inr other ↦ before slot (omega arith)
    ]
