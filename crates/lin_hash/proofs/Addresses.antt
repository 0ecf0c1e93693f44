-- What a split changes in the buckets of the hashes.
use Rattle.std.proofs.Common.{◌≡◌, ◌≢◌, ℕ, ◌+◌, ◌*◌, ◌%◌, ◌/◌, ◌<◌, ◌≤◌, ◌⊎◌, inl, inr, refl, sym, ◌∙◌, arith, lit<}
use Rattle.std.proofs.Math.Arith.{mod-mul}
use Rattle.std.proofs.Math.Nat.{mod-lt}
use Rattle.std.proofs.lemmas.Bool.{cases_lt, lt-ltb, le-ltb}
use Rattle.lin_hash.specs.Address.{bucket_by}

-- the long modulus leads to the same bucket as the short one, or to the bucket that was split off it
pub long_or_short : (h short : ℕ) → 0 < short → (h % (2 * short) ≡ h % short) ⊎ (h % (2 * short) ≡ short + h % short)
long_or_short h short pos =
    let digits : h % (2 * short) ≡ (h / short % 2) * short + h % short = mod-mul h (lit< tt) pos in
    let two : h / short % 2 < 2 = mod-lt (h / short) (lit< tt) in
    elim (cases_lt (h / short % 2) 1) [
      | inl none ↦ let z : h / short % 2 ≡ 0 = omega arith in inl (digits ∙ (rw z (omega arith)))
      | inr one ↦ let o : h / short % 2 ≡ 1 = omega arith in inr (digits ∙ (rw o (omega arith)))
    ]

-- the two cases of an address
pub bucket_by-below : (short mark h : ℕ) → h % short < mark → bucket_by short mark h ≡ h % (2 * short)
bucket_by-below short mark h l = rw (lt-ltb (h % short) mark l) refl

pub bucket_by-from : (short mark h : ℕ) → mark ≤ h % short → bucket_by short mark h ≡ h % short
bucket_by-from short mark h l = rw (le-ltb (h % short) mark l) refl

pub bucket_by-lt : (short mark h : ℕ) → 0 < short → mark ≤ short → bucket_by short mark h < short + mark
bucket_by-lt short mark h pos within =
    let r : h % short < short = mod-lt h pos in
    elim (cases_lt (h % short) mark) [
      | inl below ↦
          elim (long_or_short h short pos) [
            | inl same ↦ rw (bucket_by-below short mark h below) (omega arith)
            | inr upper ↦ rw (bucket_by-below short mark h below) (omega arith)
          ]
      | inr from ↦ rw (bucket_by-from short mark h from) (omega arith)
    ]

module _ (short mark h : ℕ) (pos : 0 < short) (within : mark < short) where
  -- a split moves the mark on by one: the entries of the bucket at the mark stay, or go to the last bucket
  pub bucket_by-kept : bucket_by short mark h ≡ mark → h % (2 * short) ≢ short + mark → bucket_by short (mark + 1) h ≡ mark
  bucket_by-kept e ne =
      let r : h % short < short = mod-lt h pos in
      elim (cases_lt (h % short) mark) [
        | inl below ↦
            let b = bucket_by-below short mark h below in
            elim (long_or_short h short pos) [ inl same ↦ absurd (omega arith) | inr upper ↦ absurd (omega arith) ]
        | inr from ↦
            let f = bucket_by-from short mark h from in
            let next = bucket_by-below short (mark + 1) h (omega arith) in
            elim (long_or_short h short pos) [ inl same ↦ omega arith | inr upper ↦ absurd (ne (omega arith)) ]
      ]

  pub bucket_by-moved : h % (2 * short) ≡ short + mark → bucket_by short (mark + 1) h ≡ short + mark
  bucket_by-moved e =
      let r : h % short < short = mod-lt h pos in
      elim (long_or_short h short pos) [
        | inl same ↦ absurd (omega arith)
        | inr upper ↦ bucket_by-below short (mark + 1) h (omega arith) ∙ e
      ]

  -- the other entries stay where they are, whether the mark moves on or back
  pub bucket_by-next : h % short ≢ mark → bucket_by short (mark + 1) h ≡ bucket_by short mark h
  bucket_by-next ne =
      elim (cases_lt (h % short) mark) [
        | inl below ↦ bucket_by-below short (mark + 1) h (omega arith) ∙ sym (bucket_by-below short mark h below)
        | inr from ↦ bucket_by-from short (mark + 1) h (omega arith) ∙ sym (bucket_by-from short mark h from)
      ]

  -- where the short modulus leads to the mark
  pub bucket_by-at : h % short ≡ mark → bucket_by short mark h ≡ mark
  bucket_by-at e = bucket_by-from short mark h (omega arith) ∙ e

  pub bucket_by-at_next : h % short ≡ mark → (bucket_by short (mark + 1) h ≡ mark) ⊎ (bucket_by short (mark + 1) h ≡ short + mark)
  bucket_by-at_next e =
      let next = bucket_by-below short (mark + 1) h (omega arith) in
      elim (long_or_short h short pos) [ inl same ↦ inl (omega arith) | inr upper ↦ inr (omega arith) ]

  -- which entries stand in the bucket at the mark and in the last one after a split
  pub short-from_next : (bucket_by short (mark + 1) h ≡ mark) ⊎ (bucket_by short (mark + 1) h ≡ short + mark) → h % short ≡ mark
  short-from_next e =
      let r : h % short < short = mod-lt h pos in
      let one : (bucket_by short (mark + 1) h ≢ mark) → (bucket_by short (mark + 1) h ≢ short + mark) → ⊥ =
      λ a b. elim e [ inl x ↦ a x | inr x ↦ b x ] in
      elim (cases_lt (h % short) mark) [
        | inl below ↦
            let n = bucket_by-below short (mark + 1) h (omega arith) in
            elim (long_or_short h short pos) [
              | inl same ↦ absurd (one (omega arith) (omega arith))
              | inr upper ↦ absurd (one (omega arith) (omega arith))
            ]
        | inr from ↦
            elim (cases_lt mark (h % short)) [
              | inl above ↦ let n = bucket_by-from short (mark + 1) h (omega arith) in absurd (one (omega arith) (omega arith))
              | inr upto ↦ omega arith
            ]
      ]

-- where all buckets of a level were split, the next level begins
pub bucket_by-up : (short h : ℕ) → 0 < short → bucket_by short short h ≡ bucket_by (2 * short) 0 h
bucket_by-up short h pos = bucket_by-below short short h (mod-lt h pos) ∙ sym (bucket_by-from (2 * short) 0 h (omega arith))
