-- UTF-8: what stands on either side of an ASCII character.
use Rattle.std.proofs.Common.{◌≡◌, ℕ, ◌+◌, ◌<◌, List, [], ◌∷◌, ◌++◌, length, drop, get_or, refl, sym, arith, subst, append_assoc, length-append}
use Rattle.std.specs.Str.{IsUtf8}
use Rattle.std.proofs.Math.Seq.{take-append_seam, drop-append_seam, get_or-append_seam}
use Rattle.std.proofs.lemmas.Str.{IsUtf8-take, IsUtf8-drop, IsUtf8-from_ascii, IsCharBoundary-before_ascii, IsCharBoundary-after_ascii}
use Rattle.std.proofs.lemmas.Str.Ascii.{IsAscii-nil, IsAscii-cons}

within : (xs : List ℕ) (c : ℕ) (ys : List ℕ) → length xs < length (xs ++ c ∷ ys)
within xs c ys = omega (arith, length-append xs (c ∷ ys))

small : (xs : List ℕ) (c : ℕ) (ys : List ℕ) → c < 128 → get_or (xs ++ c ∷ ys) (length xs) 0 < 128
small xs c ys ascii = subst (λ n. n < 128) (sym (get_or-append_seam xs c ys 0)) ascii

pub utf8-before : (xs : List ℕ) (c : ℕ) (ys : List ℕ) → c < 128 → IsUtf8 (xs ++ c ∷ ys) → IsUtf8 xs
utf8-before xs c ys ascii utf8 =
    let part = IsUtf8-take (xs ++ c ∷ ys) (length xs) utf8 (IsCharBoundary-before_ascii (xs ++ c ∷ ys) (length xs) (within xs c ys) (small xs c ys ascii)) in
    rw take-append_seam at part

one_later : (xs : List ℕ) (c : ℕ) (ys : List ℕ) → drop (length xs + 1) (xs ++ c ∷ ys) ≡ ys
one_later xs c ys =
    let long : length (xs ++ c ∷ []) ≡ length xs + 1 = omega (arith, length-append xs (c ∷ [])) in
    let seam : drop (length (xs ++ c ∷ [])) ((xs ++ c ∷ []) ++ ys) ≡ ys = rw drop-append_seam refl in
    subst (λ n. drop n (xs ++ c ∷ ys) ≡ ys) long (subst (λ zs. drop (length (xs ++ c ∷ [])) zs ≡ ys) (append_assoc xs (c ∷ []) ys) seam)

pub utf8-behind : (xs : List ℕ) (c : ℕ) (ys : List ℕ) → c < 128 → IsUtf8 (xs ++ c ∷ ys) → IsUtf8 ys
utf8-behind xs c ys ascii utf8 =
    let part = IsUtf8-drop (xs ++ c ∷ ys) (length xs + 1) utf8 (IsCharBoundary-after_ascii (xs ++ c ∷ ys) (length xs) utf8 (within xs c ys) (small xs c ys ascii)) in
    subst IsUtf8 (one_later xs c ys) part

-- a quote mark
pub mark-utf8 : IsUtf8 (39 ∷ [])
mark-utf8 = IsUtf8-from_ascii (39 ∷ []) (IsAscii-cons 39 [] (omega arith) IsAscii-nil)
