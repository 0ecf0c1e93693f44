-- A set of slots, as one comes into it or goes out, and as there is memory for more.
use Rattle.std.proofs.Common.{◌≡◌, ◌≢◌, ℕ, zero, suc, ◌+◌, ◌*◌, ◌/◌, ◌%◌, ◌^◌, ◌<◌, ◌≤◌, Bool, true, false, List, [], ◌∷◌, ◌++◌, length, get_or, set, take, refl, sym, ap, ◌∙◌, inl, inr, arith, w64, bit_or, bit_and}
use Rattle.std.proofs.lemmas.Bool.{cases_eq, true≢false}
use Rattle.std.proofs.lemmas.List.{get_or-set_same, get_or-set_other, get_or_default, take_all}
use Rattle.std.proofs.lemmas.Nat.Bits.{bit_at_set_same, bit_at_set_other, bit_at_clear_same, bit_at_clear_other, bit_at-zero}
use Rattle.std.specs.Prelude.{◌==◌, if◌then◌else◌, min, max, replicate}
use Rattle.std.specs.Int.{bit_at, bit_not}
use Rattle.mm_relation.specs.Rows.{has_slot, ChangesSlot}
use Rattle.mm_relation.specs.Slots.{HasNoSlot, LieWithin}

-- the word of the slot is replaced by one in which the bit of the slot alone differs
change_word : (words : List ℕ) (slot word : ℕ) (bit : Bool) → slot / 64 < length words
    → (bit_at word (slot % 64) == 1) ≡ bit
    → ((i : ℕ) → i < 64 → i ≢ slot % 64 → bit_at word i ≡ bit_at (get_or words (slot / 64) 0) i)
    → ChangesSlot words (set words (slot / 64) word) slot bit
change_word words slot word bit within changed others =
    record {
      changed = ap (λ n. bit_at n (slot % 64) == 1) (get_or-set_same words (slot / 64) word 0 within) ∙ changed;
      others = λ other differs.
          elim (cases_eq (other / 64) (slot / 64)) [
            | inl same ↦
                let apart : other % 64 ≢ slot % 64 = λ e. differs (omega arith) in
                ap (λ k. bit_at (get_or (set words (slot / 64) word) k 0) (other % 64) == 1) same
                ∙ ap (λ n. bit_at n (other % 64) == 1) (get_or-set_same words (slot / 64) word 0 within)
                ∙ ap (λ n. n == 1) (others (other % 64) (omega arith) apart)
                ∙ ap (λ k. bit_at (get_or words k 0) (other % 64) == 1) (sym same)
            | inr other_word ↦ ap (λ n. bit_at n (other % 64) == 1) (get_or-set_other words (slot / 64) (other / 64) word 0 other_word)
          ];
    }

pub set_slot : (words : List ℕ) (slot word : ℕ) → slot / 64 < length words → word ≡ get_or words (slot / 64) word
    → ChangesSlot words (set words (slot / 64) (bit_or word (1 * 2 ^ (slot % 64) % 2 ^ 64))) slot true
set_slot words slot word within read =
    let place : slot % 64 < 64 = omega arith in
    change_word words slot _ true within
    (ap (λ n. n == 1) (bit_at_set_same w64 word (slot % 64) place))
    (λ i small differs. bit_at_set_other w64 word (slot % 64) place i differs ∙ ap (λ n. bit_at n i) (read ∙ get_or_default words (slot / 64) word 0 within))

pub clear_slot : (words : List ℕ) (slot word : ℕ) → slot / 64 < length words → word ≡ get_or words (slot / 64) word
    → ChangesSlot words (set words (slot / 64) (bit_and word (bit_not w64 (1 * 2 ^ (slot % 64) % 2 ^ 64)))) slot false
clear_slot words slot word within read =
    let place : slot % 64 < 64 = omega arith in
    change_word words slot _ false within
    (ap (λ n. n == 1) (bit_at_clear_same w64 word (slot % 64) place))
    (λ i small differs. bit_at_clear_other w64 word (slot % 64) place i small differs ∙ ap (λ n. bit_at n i) (read ∙ get_or_default words (slot / 64) word 0 within))

no_word : (k : ℕ) → ◌≡◌ {A = ℕ} (get_or [] k 0) 0
no_word zero = refl
no_word (suc k) = refl

-- the set of no words has no slot
pub no_slot : HasNoSlot []
no_slot slot = ap (λ word. bit_at word (slot % 64) == 1) (no_word (slot / 64)) ∙ ap (λ n. n == 1) (bit_at-zero (slot % 64))

-- words of no bits behind the others add no slot
zeros : (m k : ℕ) → ◌≡◌ {A = ℕ} (get_or (replicate m 0) k 0) 0
zeros zero k = no_word k
zeros (suc m) zero = refl
zeros (suc m) (suc k) = zeros m k

words_added : (words : List ℕ) (m k : ℕ) → get_or (words ++ replicate m 0) k 0 ≡ get_or words k 0
words_added [] m k = zeros m k ∙ sym (no_word k)
words_added (word ∷ rest) m zero = refl
words_added (word ∷ rest) m (suc k) = words_added rest m k

pub slots_resized : (words after : List ℕ) (n m : ℕ) (done : Bool) → length words ≤ n → after ≡ (if done then take n words ++ replicate m 0 else words) → (slot : ℕ) → has_slot after slot ≡ has_slot words slot
slots_resized words after n m true long e slot =
    ap (λ it. has_slot it slot) (e ∙ ap (λ it. it ++ replicate m 0) (take_all n words long)) ∙ ap (λ word. bit_at word (slot % 64) == 1) (words_added words m (slot / 64))
slots_resized words after n m false long e slot = ap (λ it. has_slot it slot) e

-- ---- the words that the slots are in

pub none_within : (from to : ℕ) → LieWithin [] from to
none_within from to slot is_in = absurd (true≢false (sym is_in ∙ no_slot slot))

pub empty_within : (words : List ℕ) (from to : ℕ) → HasNoSlot words → LieWithin words from to
empty_within words from to none slot is_in = absurd (true≢false (sym is_in ∙ none slot))

pub within_same : (words after : List ℕ) (from to : ℕ) → ((slot : ℕ) → has_slot after slot ≡ has_slot words slot) → LieWithin words from to → LieWithin after from to
within_same words after from to same within slot is_in = within slot (sym (same slot) ∙ is_in)

pub within_out : (words after : List ℕ) (from to slot : ℕ) → ChangesSlot words after slot false → LieWithin words from to → LieWithin after from to
within_out words after from to slot goes within other is_in = elim (cases_eq other slot) [
  | inl same ↦ absurd (true≢false (sym is_in ∙ ap (has_slot after) same ∙ goes.changed))
  | inr differs ↦ within other (sym (goes.others other differs) ∙ is_in)
]

pub within_in : (words after : List ℕ) (from to slot : ℕ) → ChangesSlot words after slot true → LieWithin words from to → LieWithin after (min from (slot / 64)) (max to (slot / 64 + 1))
within_in words after from to slot comes within other is_in = elim (cases_eq other slot) [
  | inl same ↦ (omega (arith, ap (λ n. n / 64) same), omega (arith, ap (λ n. n / 64) same))
  | inr differs ↦ let there = within other (sym (comes.others other differs) ∙ is_in) in (omega (arith, there.0), omega (arith, there.1))
]
