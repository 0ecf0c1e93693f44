-- Texts: how long the literal of a text is, and that its characters are one text's alone.
use Rattle.std.proofs.Common.{◌≡◌, ℕ, suc, ◌+◌, List, [], ◌∷◌, ◌++◌, length, drop, Bool, true, false, cond, IsFalse, refl, sym, arith, append_assoc}
use Rattle.std.specs.Prelude.{◌==◌}
use Rattle.std.specs.List.{flat_map}
use Rattle.std.proofs.lemmas.Bool.{eqb-false}
use Rattle.plain_tables.specs.Spelling.{doubled, text_literal}
use Rattle.plain_tables.specs.Reading.{text_length}

-- the list doesn't begin with a quote mark
abbrev pub NoMarkFirst : List ℕ → Type 0
NoMarkFirst [] = Unit {0}
NoMarkFirst (c ∷ cs) = IsFalse (c == 39)

-- ---- how long the literal of a text is

pub two_more : (n : ℕ) → 2 + n ≡ suc (suc n)
two_more n = omega arith

pub one_more : (n : ℕ) → 1 + n ≡ suc n
one_more n = omega arith

pub text_length-plain : (c : ℕ) (cs : List ℕ) → (c == 39) ≡ false → text_length (c ∷ cs) ≡ 1 + text_length cs
text_length-plain c [] plain = refl
text_length-plain c (d ∷ cs) plain = rw plain refl

text_length-more : (c : ℕ) (cs more : List ℕ) (b : Bool) → (c == 39) ≡ b → text_length more ≡ length cs + 1
    → text_length (doubled c ++ more) ≡ length (doubled c ++ cs) + 1
text_length-more c cs more true mark long = rw (mark, mark, long) (omega arith)
text_length-more c cs more false plain long = rw (plain, text_length-plain c more plain, long) (omega arith)

-- Behind the first quote mark of a text's literal stand its characters, and the mark that closes it.
pub text_length-literal : (text rest : List ℕ) → NoMarkFirst rest
    → text_length (flat_map doubled text ++ 39 ∷ rest) ≡ length (flat_map doubled text) + 1
text_length-literal [] [] free = refl
text_length-literal [] (c ∷ rest) free = rw free refl
text_length-literal (c ∷ text) rest free =
    rw append_assoc (text_length-more c (flat_map doubled text) (flat_map doubled text ++ 39 ∷ rest) (c == 39) refl (text_length-literal text rest free))

-- ---- what stands behind a text

behind_mark-free : (c d : ℕ) (cs : List ℕ) (b : Bool) → (d == 39) ≡ b → NoMarkFirst (drop (text_length cs) cs)
    → NoMarkFirst (drop (cond b (2 + text_length cs) 1) (c ∷ d ∷ cs))
behind_mark-free c d cs true mark free = rw two_more free
behind_mark-free c d cs false plain free = plain

behind_either-free : (c d : ℕ) (cs : List ℕ) (n : ℕ) (b : Bool) → NoMarkFirst (drop n (c ∷ d ∷ cs))
    → NoMarkFirst (drop (text_length (d ∷ cs)) (d ∷ cs)) → NoMarkFirst (drop (cond b n (1 + text_length (d ∷ cs))) (c ∷ d ∷ cs))
behind_either-free c d cs n true mark plain = mark
behind_either-free c d cs n false mark plain = rw one_more plain

-- What stands behind the mark that closes a text begins with no further mark.
pub behind_text-free : (cs : List ℕ) → NoMarkFirst (drop (text_length cs) cs)
behind_text-free [] = tt
behind_text-free (c ∷ []) = tt
behind_text-free (c ∷ d ∷ cs) =
    behind_either-free c d cs (cond (d == 39) (2 + text_length cs) 1) (c == 39)
    (behind_mark-free c d cs (d == 39) refl (behind_text-free cs)) (behind_text-free (d ∷ cs))

-- ---- the characters of a text's literal are one text's alone

pub doubled-one : (c d : ℕ) (xs ys : List ℕ) (b b' : Bool) → (c == 39) ≡ b → (d == 39) ≡ b' → doubled c ++ xs ≡ doubled d ++ ys
    → (c ≡ d) × (xs ≡ ys)
doubled-one c d xs ys true true p q e =
    let both : 39 ∷ c ∷ xs ≡ 39 ∷ d ∷ ys = rw (p, q) at e in (cc, cc)
doubled-one c d xs ys true false p q e =
    let both : 39 ∷ c ∷ xs ≡ d ∷ ys = rw (p, q) at e in absurd (eqb-false d 39 q cc)
doubled-one c d xs ys false true p q e =
    let both : c ∷ xs ≡ 39 ∷ d ∷ ys = rw (p, q) at e in absurd (eqb-false c 39 p cc)
doubled-one c d xs ys false false p q e =
    let both : c ∷ xs ≡ d ∷ ys = rw (p, q) at e in (cc, cc)

closed-no_more : (c : ℕ) (xs : List ℕ) (b : Bool) → (c == 39) ≡ b → 39 ∷ [] ≡ doubled c ++ (xs ++ 39 ∷ []) → ⊥
closed-no_more c xs true p e = let both : 39 ∷ [] ≡ 39 ∷ c ∷ (xs ++ 39 ∷ []) = rw p at e in cc
closed-no_more c xs false p e = let both : 39 ∷ [] ≡ c ∷ (xs ++ 39 ∷ []) = rw p at e in absurd (eqb-false c 39 p cc)

behind_mark-one : (s t : List ℕ) → flat_map doubled s ++ 39 ∷ [] ≡ flat_map doubled t ++ 39 ∷ [] → s ≡ t
behind_mark-one [] [] e = refl
behind_mark-one [] (d ∷ t) e = absurd (closed-no_more d (flat_map doubled t) (d == 39) refl (rw append_assoc at e))
behind_mark-one (c ∷ s) [] e = absurd (closed-no_more c (flat_map doubled s) (c == 39) refl (rw append_assoc at (sym e)))
behind_mark-one (c ∷ s) (d ∷ t) e =
    let parts = doubled-one c d _ _ (c == 39) (d == 39) refl refl (rw (append_assoc (doubled c), append_assoc (doubled d)) at e) in
    let others : s ≡ t = behind_mark-one s t parts.1 in λ i. parts.0 i ∷ others i

-- Law: the characters of a text's literal are one text's alone.
pub text_literal-one : (s t : List ℕ) → text_literal s ≡ text_literal t → s ≡ t
text_literal-one s t e = behind_mark-one s t cc
