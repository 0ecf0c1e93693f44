-- The first element of a list that passes a test, where the list grows.
use Rattle.std.proofs.Common.{◌≡◌, ℕ, zero, suc, ◌<◌, ◌+◌, Bool, true, false, not, cond, ◌||◌, List, [], ◌∷◌, ◌++◌, Some, None, is_some, refl, sym, ap, ◌∙◌, arith, length, map, take, length-append}
use Rattle.std.specs.List.{find, list_any, position, prefix_len}
use Rattle.std.specs.Prelude.{nat_lt}
use Rattle.std.proofs.lemmas.List.{length-map}
use Rattle.std.proofs.lemmas.Bool.{false≢true, cond-true, lt-ltb}

pub is_some-find : {A : Type 0} (p : A → Bool) (xs : List A) → is_some (find p xs) ≡ list_any p xs
is_some-find p [] = refl
is_some-find p (x ∷ xs) =
    let rest = is_some-find p xs in
    elim (p x) as (λ b. is_some (cond b (Some x) (find p xs)) ≡ (b || list_any p xs)) [ true ↦ refl | false ↦ rest ]

-- what is found in front is found
pub found-front : {A : Type 0} (p : A → Bool) (xs : List A) (n : ℕ) → is_some (find p (take n xs)) ≡ true → is_some (find p xs) ≡ true
found-front p [] zero h = h
found-front p [] (suc n) h = h
found-front p (x ∷ xs) zero h = absurd (false≢true h)
found-front p (x ∷ xs) (suc n) h =
    elim (p x) as (λ b. is_some (cond b (Some x) (find p (take n xs))) ≡ true → is_some (cond b (Some x) (find p xs)) ≡ true) [
      | true ↦ λ e. refl
      | false ↦ λ e. found-front p xs n e
    ] h

prefix-found : {A : Type 0} (p : A → Bool) (xs ys : List A) → list_any p xs ≡ true → (prefix_len (λ x. not (p x)) (xs ++ ys) ≡ prefix_len (λ x. not (p x)) xs) × (prefix_len (λ x. not (p x)) xs < length xs)
prefix-found p [] ys h = absurd (false≢true h)
prefix-found p (x ∷ xs) ys h =
    elim (p x) as (λ b. (b || list_any p xs) ≡ true → (cond (not b) (1 + prefix_len (λ y. not (p y)) (xs ++ ys)) 0 ≡ cond (not b) (1 + prefix_len (λ y. not (p y)) xs) 0) × (cond (not b) (1 + prefix_len (λ y. not (p y)) xs) 0 < suc (length xs))) [
      | true ↦ λ e. (refl, omega arith)
      | false ↦ λ e. let rest = prefix-found p xs ys e in (ap (λ n. 1 + n) rest.0, omega (arith, rest.1))
    ] h

-- it is found at the same place where more stands behind
pub position-found : {A : Type 0} (p : A → Bool) (xs ys : List A) → list_any p xs ≡ true → position p (xs ++ ys) ≡ position p xs
position-found p xs ys h =
    let first = prefix-found p xs ys h in
    let n = prefix_len (λ x. not (p x)) xs in
    let more : n < length (xs ++ ys) = omega (arith, first.1, length-append xs ys) in
    ap (λ m. cond (nat_lt m (length (xs ++ ys))) (Some m) None) first.0
    ∙ cond-true (nat_lt n (length (xs ++ ys))) (Some n) None (lt-ltb n (length (xs ++ ys)) more)
    ∙ sym (cond-true (nat_lt n (length xs)) (Some n) None (lt-ltb n (length xs) first.1))

prefix-map : {A B : Type 0} (p : B → Bool) (f : A → B) (xs : List A) → prefix_len p (map f xs) ≡ prefix_len (λ x. p (f x)) xs
prefix-map p f [] = refl
prefix-map p f (x ∷ xs) = ap (λ n. cond (p (f x)) (1 + n) 0) (prefix-map p f xs)

pub position-map : {A B : Type 0} (p : B → Bool) (f : A → B) (xs : List A) → position p (map f xs) ≡ position (λ x. p (f x)) xs
position-map p f xs =
    ap (λ m. cond (nat_lt m (length (map f xs))) (Some m) None) (prefix-map (λ y. not (p y)) f xs)
    ∙ ap (λ l. cond (nat_lt (prefix_len (λ x. not (p (f x))) xs) l) (Some (prefix_len (λ x. not (p (f x))) xs)) None) (length-map xs f)
