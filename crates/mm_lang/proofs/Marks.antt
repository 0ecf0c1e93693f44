-- Marks: quote marks in texts, doubled and made one again.
use Rattle.std.proofs.Common.{◌≡◌, ◌≢◌, ℕ, suc, ◌+◌, ◌<◌, List, [], ◌∷◌, ◌++◌, length, get_or, drop, drop-cons, add-one, Bool, true, false, refl, sym, ◌∙◌, ap, arith, append_assoc}
use Rattle.std.specs.Prelude.{Option, Some, None, Result, Ok, Err, ◌==◌}
use Rattle.std.specs.List.{flat_map}
use Rattle.std.specs.Option.{MatchOption}
use Rattle.std.specs.Result.{MatchResult, result_ok}
use Rattle.std.specs.Str.{IsUtf8, IsValidUpTo, valid_up_to}
use Rattle.std.specs.declared.str.Utf8Error.{Utf8Error}
use Rattle.std.proofs.lemmas.Bool.{eqb-true}
use Rattle.std.proofs.lemmas.List.Concat.{flat_map-append}
use denote.Bor.{Bor}
use Rattle.plain_tables.proofs.Texts.{text_length-plain}
use Rattle.plain_tables.specs.Spelling.{doubled}
use Rattle.plain_tables.specs.Reading.{text_length}
use Rattle.plain_tables.proofs.Texts.{doubled-one}

-- ---- how far a text goes

other-test : (c : ℕ) (b : Bool) → (c == 39) ≡ b → c ≢ 39 → b ≡ false
other-test c true e other = absurd (other (eqb-true c 39 e))
other-test c false e other = refl

part-at : (cs : List ℕ) (i : ℕ) → i < length cs → drop i cs ≡ get_or cs i 0 ∷ drop (i + 1) cs
part-at cs i inside = rw add-one (drop-cons cs i 0 inside)

pub quoted-other : (cs : List ℕ) (i : ℕ) → i < length cs → get_or cs i 0 ≢ 39 → text_length (drop i cs) ≡ 1 + text_length (drop (i + 1) cs)
quoted-other cs i inside other = ap text_length (part-at cs i inside) ∙ text_length-plain (get_or cs i 0) (drop (i + 1) cs) (other-test _ _ refl other)

two-marks : (c d : ℕ) (cs : List ℕ) → c ≡ 39 → d ≡ 39 → text_length (c ∷ d ∷ cs) ≡ 2 + text_length cs
two-marks c d cs first second = rw (first, second) refl

pub quoted-two : (cs : List ℕ) (i : ℕ) → i + 1 < length cs → get_or cs i 0 ≡ 39 → get_or cs (i + 1) 0 ≡ 39
    → text_length (drop i cs) ≡ 2 + text_length (drop (i + 2) cs)
quoted-two cs i inside first second =
    let two : i + 1 + 1 ≡ i + 2 = omega arith in
    let next : drop (i + 1) cs ≡ get_or cs (i + 1) 0 ∷ drop (i + 2) cs = rw (← two) (part-at cs (i + 1) inside) in
    ap text_length (part-at cs i (omega arith) ∙ ap (λ l. get_or cs i 0 ∷ l) next) ∙ two-marks _ _ (drop (i + 2) cs) first second

-- ---- texts without quote marks

abbrev pub HasNoMark : List ℕ → Type 0
HasNoMark xs = (i : ℕ) → i < length xs → get_or xs i 0 ≢ 39

doubled-other : (c : ℕ) → c ≢ 39 → doubled c ≡ c ∷ []
doubled-other c other = rw (other-test c (c == 39) refl other) refl

pub doubled-none : (xs : List ℕ) → HasNoMark xs → flat_map doubled xs ≡ xs
doubled-none [] none = refl
doubled-none (c ∷ cs) none =
    let first : doubled c ≡ c ∷ [] = doubled-other c (none 0 (omega arith)) in
    let others : flat_map doubled cs ≡ cs = doubled-none cs (λ i inside. none (suc i) (omega arith)) in
    rw (first, others) refl

-- ---- a mark behind a part without one

pub doubled-step : (line written marked part behind rest whole : List ℕ) → written ≡ line ++ part → marked ≡ written ++ 39 ∷ 39 ∷ []
    → rest ≡ part ++ 39 ∷ behind → HasNoMark part → line ++ flat_map doubled rest ≡ whole → marked ++ flat_map doubled behind ≡ whole
doubled-step line written marked part behind rest whole e f g none so =
    let split : flat_map doubled rest ≡ part ++ 39 ∷ 39 ∷ flat_map doubled behind =
    ap (λ r. flat_map doubled r) g ∙ (flat_map-append doubled part (39 ∷ behind) ∙ ap (λ p. p ++ 39 ∷ 39 ∷ flat_map doubled behind) (doubled-none part none)) in
    let all : line ++ (part ++ 39 ∷ 39 ∷ flat_map doubled behind) ≡ whole = ap (λ r. line ++ r) (sym split) ∙ so in
    rw (f, e) (simp append_assoc all)

pub doubled-last : (line written rest whole : List ℕ) → written ≡ line ++ rest → HasNoMark rest → line ++ flat_map doubled rest ≡ whole
    → written ≡ whole
doubled-last line written rest whole e none so = e ∙ (ap (λ r. line ++ r) (sym (doubled-none rest none)) ∙ so)

pub undoubled-step : (whole text written marked part behind rest more : List ℕ) → written ≡ text ++ part → marked ≡ written ++ 39 ∷ []
    → rest ≡ part ++ 39 ∷ behind → HasNoMark part → behind ≡ 39 ∷ more → whole ≡ flat_map doubled text ++ rest
    → whole ≡ flat_map doubled marked ++ more
undoubled-step whole text written marked part behind rest more e f g none h so =
    let first : flat_map doubled marked ≡ flat_map doubled text ++ (part ++ 39 ∷ 39 ∷ []) =
    rw (f, e, flat_map-append doubled (text ++ part) (39 ∷ []), flat_map-append doubled text part, doubled-none part none) (append_assoc (flat_map doubled text) part (39 ∷ 39 ∷ [])) in
    so ∙ rw (g, h, first) (simp append_assoc)

pub undoubled-last : (whole text written rest : List ℕ) → written ≡ text ++ rest → HasNoMark rest → whole ≡ flat_map doubled text ++ rest
    → whole ≡ flat_map doubled written
undoubled-last whole text written rest e none so =
    so ∙ sym (ap (λ t. flat_map doubled t) e ∙ (flat_map-append doubled text rest ∙ ap (λ r. flat_map doubled text ++ r) (doubled-none rest none)))

-- ---- a mark that isn't doubled

doubled-empty : (c : ℕ) (xs : List ℕ) (b : Bool) → (c == 39) ≡ b → [] ≡ doubled c ++ xs → ⊥
doubled-empty c xs true e empty = let both : [] ≡ 39 ∷ c ∷ xs = rw e at empty in cc
doubled-empty c xs false e empty = let both : [] ≡ c ∷ xs = rw e at empty in cc

doubled-first : (c : ℕ) (xs behind : List ℕ) (b : Bool) → (c == 39) ≡ b → doubled c ++ xs ≡ 39 ∷ behind
    → ((more : List ℕ) → behind ≢ 39 ∷ more) → ⊥
doubled-first c xs behind true e same single =
    let both : 39 ∷ c ∷ xs ≡ 39 ∷ behind = rw e at same in
    let mark : c ≡ 39 = eqb-true c 39 e in
    let rest : behind ≡ c ∷ xs = cc in
    single xs (rest ∙ ap (λ d. d ∷ xs) mark)
doubled-first c xs behind false e same single =
    let both : c ∷ xs ≡ 39 ∷ behind = rw e at same in
    let mark : c ≡ 39 = cc in
    let test : (39 == 39) ≡ false = ap (λ d. d == 39) (sym mark) ∙ e in cc

single-mark : (done text behind : List ℕ) → flat_map doubled text ≡ flat_map doubled done ++ 39 ∷ behind
    → ((more : List ℕ) → behind ≢ 39 ∷ more) → ⊥
single-mark [] [] behind same single = cc
single-mark [] (c ∷ text) behind same single = doubled-first c (flat_map doubled text) behind (c == 39) refl same single
single-mark (d ∷ done) [] behind same single =
    doubled-empty d (flat_map doubled done ++ 39 ∷ behind) (d == 39) refl (rw append_assoc at same)
single-mark (d ∷ done) (c ∷ text) behind same single =
    let parts : (c ≡ d) × (flat_map doubled text ≡ flat_map doubled done ++ 39 ∷ behind) =
    doubled-one c d _ _ (c == 39) (d == 39) refl refl (rw (append_assoc (doubled d)) at same) in
    single-mark done text behind parts.1 single

pub undoubled-none : (whole text part behind rest : List ℕ) → rest ≡ part ++ 39 ∷ behind → HasNoMark part
    → ((more : List ℕ) → behind ≢ 39 ∷ more) → whole ≡ flat_map doubled text ++ rest
    → (other : List ℕ) → whole ≡ flat_map doubled other → ⊥
undoubled-none whole text part behind rest g none single so other is =
    let done : flat_map doubled (text ++ part) ≡ flat_map doubled text ++ part =
    flat_map-append doubled text part ∙ ap (λ p. flat_map doubled text ++ p) (doubled-none part none) in
    let same : flat_map doubled text ++ rest ≡ flat_map doubled (text ++ part) ++ 39 ∷ behind =
    rw (g, done) (sym (append_assoc (flat_map doubled text) part (39 ∷ behind))) in
    single-mark (text ++ part) other behind (sym is ∙ (so ∙ same)) single

-- ---- the marks around a text

pub ok-text : (bytes : List ℕ) (r : Result (Bor (List ℕ)) Utf8Error) (text : Bor (List ℕ))
    → MatchResult r (λ s. (s.now ≡ bytes) × IsUtf8 bytes) (λ e. (IsUtf8 bytes → ⊥) × IsValidUpTo bytes (valid_up_to e))
    → result_ok r ≡ Some text → text.now ≡ bytes
ok-text bytes (Ok s) text cases e = let same : s ≡ text = cc in ap (λ t. t.now) (sym same) ∙ cases.0
ok-text bytes (Err x) text cases e = cc

pub both-marks : (characters behind : List ℕ) (r : Option (Bor (List ℕ))) → characters ≡ 39 ∷ behind
    → MatchOption r ((front : List ℕ) → behind ≢ front ++ 39 ∷ []) (λ x. behind ≡ x.now ++ 39 ∷ [])
    → MatchOption r (IsUtf8 characters → (inner : List ℕ) → characters ≡ 39 ∷ (inner ++ 39 ∷ []) → ⊥) (λ inner. characters ≡ 39 ∷ (inner.now ++ 39 ∷ []))
both-marks characters behind None e not = λ utf8 inner f. not inner (let both : 39 ∷ behind ≡ 39 ∷ (inner ++ 39 ∷ []) = sym e ∙ f in cc)
both-marks characters behind (Some x) e is = e ∙ ap (λ l. 39 ∷ l) is
