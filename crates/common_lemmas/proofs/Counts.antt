-- How many elements pass a test.
use Rattle.std.proofs.Common.{ℕ, Bool, List, [], ap, arith, cond, false, get_or, length, map, refl, sym, true, ◌+◌, ◌<◌, ◌∙◌, ◌∷◌, ◌≡◌, ◌≤◌}
use Rattle.std.proofs.lemmas.List.Sums.{get_or-le-sum_by, sum_by-append, sum_by-cons}
use Rattle.std.specs.List.{Contains, count_by, flat_map, sum_by}
use Rattle.common_lemmas.proofs.Elements.{Contains-cons}

-- what one element adds to a count
abbrev pub one : {X : Type 0} → (X → Bool) → X → ℕ
one test x = cond (test x) 1 0

pub count_by-true : {X : Type 0} (xs : List X) → count_by (λ x. true) xs ≡ length xs
count_by-true [] = refl
count_by-true (x ∷ xs) = let rest = count_by-true xs in sum_by-cons (λ y. 1) x xs ∙ omega (arith, rest)

-- an element that passes is counted
pub count_by-member : {X : Type 0} (test : X → Bool) (xs : List X) (x : X) → Contains xs x → test x ≡ true → 0 < count_by test xs
count_by-member test xs x h e =
    let at : one test (get_or xs h.0 x) ≤ count_by test xs = get_or-le-sum_by (one test) xs h.0 x h.1 in
    let passes : one test (get_or xs h.0 x) ≡ 1 = rw (h.2, e) refl in
    omega arith

-- and something passes that is counted
pub member-from_count_by : {X : Type 0} (test : X → Bool) (xs : List X) → 0 < count_by test xs → (x : X) × Contains xs x × (test x ≡ true)
member-from_count_by test [] h = absurd (omega arith)
member-from_count_by {X} test (x ∷ xs) h =
    let sum : count_by test (x ∷ xs) ≡ one test x + count_by test xs = sum_by-cons (one test) x xs in
    elim (test x) as (λ b. test x ≡ b → (y : X) × Contains (x ∷ xs) y × (test y ≡ true)) [
      | true ↦ λ e. (x, (0, omega arith, refl), e)
      | false ↦ λ e.
          let none : one test x ≡ 0 = rw e refl in
          let rest = member-from_count_by test xs (omega (arith, h)) in
          (rest.0, Contains-cons x xs rest.0 rest.1, rest.2)
    ] refl

pub count_by-map : {X Y : Type 0} (test : Y → Bool) (f : X → Y) (xs : List X) → count_by test (map f xs) ≡ count_by (λ x. test (f x)) xs
count_by-map test f [] = refl
count_by-map test f (x ∷ xs) =
    sum_by-cons (one test) (f x) (map f xs) ∙ ap (λ n. one test (f x) + n) (count_by-map test f xs)
    ∙ sym (sum_by-cons (λ y. one test (f y)) x xs)

-- of lists joined end to end
pub count_by-flat_map : {X Y : Type 0} (test : Y → Bool) (f : X → List Y) (xs : List X)
    → count_by test (flat_map f xs) ≡ sum_by (λ x. count_by test (f x)) xs
count_by-flat_map test f [] = refl
count_by-flat_map test f (x ∷ xs) =
    sum_by-append (one test) (f x) (flat_map f xs)
    ∙ ap (λ n. count_by test (f x) + n) (count_by-flat_map test f xs)
    ∙ sym (sum_by-cons (λ y. count_by test (f y)) x xs)
