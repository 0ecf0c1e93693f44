-- Numbering: numbers that go up by one, and the numbers of holes so far.
use Rattle.std.proofs.Common.{◌≡◌, ℕ, zero, suc, ◌+◌, ◌<◌, List, [], ◌∷◌, ◌++◌, length, map, take, set, refl, sym, ap, ◌∙◌, arith, length-append, append-nil, Bool, true, false, cond}
use Rattle.std.specs.List.{flat_map, range_with_len}
use Rattle.std.proofs.lemmas.List.{take_more_set, map-append}
use Rattle.std.proofs.lemmas.List.Concat.{flat_map-append}
use Rattle.mm_lang.specs.Statements.{AreFrom}

range-append : (a m n b : ℕ) → a + m ≡ b → range_with_len a (m + n) ≡ range_with_len a m ++ range_with_len b n
range-append a zero n b e =
    let none : zero + n ≡ n = omega arith in
    let same : a ≡ b = omega arith in
    rw none (ap (λ k. range_with_len k n) same)
range-append a (suc m) n b e =
    let more : suc m + n ≡ suc (m + n) = omega arith in
    rw more (ap (λ l. a ∷ l) (range-append (a + 1) m n b (omega arith)))

-- Numbers that go up from one, and others that go up from the next.
pub from-append : (first next : ℕ) (xs ys : List ℕ) → AreFrom first xs → next ≡ first + length xs → AreFrom next ys → AreFrom first (xs ++ ys)
from-append first next xs ys left e right =
    let long : length (xs ++ ys) ≡ length xs + length ys = length-append xs ys in
    let both : xs ++ ys ≡ range_with_len first (length xs) ++ range_with_len next (length ys) = ap (λ l. l ++ ys) left ∙ ap (λ l. range_with_len first (length xs) ++ l) right in
    both ∙ (sym (range-append first (length xs) (length ys) next (sym e)) ∙ ap (range_with_len first) (sym long))

-- what a step adds where a hole takes the next number, and where none does
pub one-more : (next then : ℕ) (numbers : List ℕ) (hole : Bool) → numbers ≡ cond hole (next ∷ []) [] → hole ≡ true → then ≡ next + 1
    → AreFrom next numbers × (then ≡ next + length numbers)
one-more next then numbers hole e is f = rw (e, is) (refl, f)

pub no-more : (next then : ℕ) (numbers : List ℕ) (hole : Bool) → numbers ≡ cond hole (next ∷ []) [] → hole ≡ false → then ≡ next
    → AreFrom next numbers × (then ≡ next + length numbers)
no-more next then numbers hole e is f = rw (e, is) (refl, omega arith)

-- the numbers in the first elements, once the next of these is put there
pub numbers-so_far : {X Y : Type 0} (numbers : Y → List ℕ) (slot : X → Y) (xs : List X) (i : ℕ) (y : X) → i < length xs
    → flat_map numbers (map slot (take (i + 1) (set xs i y))) ≡ flat_map numbers (map slot (take i xs)) ++ numbers (slot y)
numbers-so_far numbers slot xs i y within =
    ap (λ l. flat_map numbers (map slot l)) (take_more_set xs i y within)
    ∙ (ap (flat_map numbers) (map-append slot (take i xs) (y ∷ []))
    ∙ (flat_map-append numbers (map slot (take i xs)) (slot y ∷ [])
    ∙ ap (λ l. flat_map numbers (map slot (take i xs)) ++ l) (append-nil (numbers (slot y)))))

-- the numbers so far, and the next one, once one more element is numbered
pub further : (first next then : ℕ) (so_far numbers all : List ℕ) → all ≡ so_far ++ numbers → AreFrom first so_far → next ≡ first + length so_far
    → AreFrom next numbers × (then ≡ next + length numbers) → AreFrom first all × (then ≡ first + length all)
further first next then so_far numbers all e from f (more, g) =
    rw e (from-append first next so_far numbers from f more, omega (arith, length-append so_far numbers))
