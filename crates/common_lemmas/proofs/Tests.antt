-- Tests of the elements: what passes in a list, and the first that does.
use Rattle.std.proofs.Common.{Bool, List, None, Some, [], ap, arith, cond, false, inl, inr, is_some, length, map, not, refl, subst, suc, sym, true, ℕ, ◌&&◌, ◌+◌, ◌<◌, ◌∙◌, ◌∷◌, ◌≡◌, ◌⊎◌}
use Rattle.std.proofs.lemmas.Bool.{cases_Bool, cond-true, cond_both, false≢true, lt-ltb, ltb-true, or_cases, or_parts, or_right}
use Rattle.std.proofs.lemmas.List.Elements.{All-cons, All-head, All-nil, All-tail}
use Rattle.std.proofs.lemmas.List.Folds.{find_at}
use Rattle.std.proofs.lemmas.Option.{cond_some, none-some, same_Some}
use Rattle.std.specs.List.{All, filter, find, list_all, list_any, position, position_or_len, prefix_len, slice_get}
use Rattle.std.specs.Prelude.{nat_lt, ◌||◌}

pub and_false : (a : Bool) → (a && false) ≡ false
and_false true = refl
and_false false = refl

pub and_true : (a : Bool) → (a && true) ≡ a
and_true true = refl
and_true false = refl

pub or_true : (a : Bool) → (a || true) ≡ true
or_true true = refl
or_true false = refl

pub or_false : (a : Bool) → (a || false) ≡ a
or_false true = refl
or_false false = refl

-- where none passes, each fails
pub fails_where_none : {X : Type 0} (p : X → Bool) (xs : List X) → list_any p xs ≡ false → All (λ x. p x ≡ false) xs
fails_where_none p [] h = All-nil (λ x. p x ≡ false)
fails_where_none p (x ∷ xs) h =
    let parts = or_parts (p x) (list_any p xs) h in
    All-cons (λ z. p z ≡ false) x xs parts.0 (fails_where_none p xs parts.1)

-- where none is found, each fails
pub fails_where_not_found : {X : Type 0} (p : X → Bool) (xs : List X) → is_some (find p xs) ≡ false → All (λ x. p x ≡ false) xs
fails_where_not_found p [] h = All-nil (λ x. p x ≡ false)
fails_where_not_found p (x ∷ xs) h =
    elim (cases_Bool (p x)) [
      | inl t ↦ absurd (let absurdity = rw t at h in cc)
      | inr f ↦ All-cons (λ z. p z ≡ false) x xs f (fails_where_not_found p xs (rw f at h))
    ]

-- the first place at which a test passes is that of the element found
pub position_found : {X : Type 0} (p : X → Bool) (xs : List X) (place : ℕ) → position p xs ≡ Some place
    → (place < length xs) × (find p xs ≡ slice_get xs place)
position_found p xs place h =
    let i : ℕ = position_or_len p xs in
    let parts = cond_some (nat_lt i (length xs)) i place h in (
      (let below = ltb-true i (length xs) parts.0 in rw (← parts.1) below),
      find_at p xs ∙ ap (slice_get xs) parts.1,
    )

-- what is found passes the test, and holds what all elements hold
pub find_satisfies : {X : Type 0} (P : X → Type 0) (p : X → Bool) (xs : List X) (x : X) → All P xs → find p xs ≡ Some x
    → P x × (p x ≡ true)
find_satisfies P p [] x all h = absurd (none-some x h)
find_satisfies P p (y ∷ xs) x all h =
    elim (cases_Bool (p y)) [
      | inl t ↦
          let same : y ≡ x = same_Some y x (rw t at h) in
          (subst P same (All-head P y xs all), subst (λ z. p z ≡ true) same t)
      | inr f ↦ find_satisfies P p xs x (All-tail P y xs all) (rw f at h)
    ]

-- the first that passes is the first of those that pass
pub find_first : {X : Type 0} (p : X → Bool) (xs : List X) → find p xs ≡ slice_get (filter p xs) 0
find_first p [] = refl
find_first p (x ∷ xs) = elim (cases_Bool (p x)) [ inl t ↦ rw t refl | inr f ↦ rw f (find_first p xs) ]

pub not_found : {X : Type 0} (p : X → Bool) (xs : List X) → All (λ x. p x ≡ false) xs → is_some (find p xs) ≡ false
not_found p [] all = refl
not_found p (x ∷ xs) all =
    rw (All-head (λ y. p y ≡ false) x xs all) (not_found p xs (All-tail (λ y. p y ≡ false) x xs all))

-- one is found where some pass
pub found_where_some : {X : Type 0} (p : X → Bool) (xs : List X) → 0 < length (filter p xs) → is_some (find p xs) ≡ true
found_where_some p [] h = absurd (omega arith)
found_where_some p (x ∷ xs) h =
    elim (cases_Bool (p x)) [ inl t ↦ rw t refl | inr f ↦ rw f (found_where_some p xs (rw f at h)) ]

-- tests that agree
pub any_agree : {X : Type 0} (p q : X → Bool) → ((x : X) → p x ≡ q x) → (xs : List X) → list_any p xs ≡ list_any q xs
any_agree p q same [] = refl
any_agree p q same (x ∷ xs) = rw (same x, any_agree p q same xs) refl

pub all_agree : {X : Type 0} (p q : X → Bool) → ((x : X) → p x ≡ q x) → (xs : List X) → list_all p xs ≡ list_all q xs
all_agree p q same [] = refl
all_agree p q same (x ∷ xs) = rw (same x, all_agree p q same xs) refl

-- all pass both tests where all pass each
pub all_both : {X : Type 0} (p q : X → Bool) (xs : List X) → list_all (λ x. p x && q x) xs ≡ (list_all p xs && list_all q xs)
all_both p q [] = refl
all_both p q (x ∷ xs) =
    elim (cases_Bool (p x)) [
      | inl t ↦ elim (cases_Bool (q x)) [
        | inl u ↦ rw (t, u) (all_both p q xs)
        | inr g ↦ rw (t, g) (sym (and_false (list_all p xs)))
      ]
      | inr f ↦ rw f refl
    ]

pub all_true : {X : Type 0} (xs : List X) → list_all (λ x. true) xs ≡ true
all_true [] = refl
all_true (x ∷ xs) = all_true xs

any_more : {X : Type 0} (p q : X → Bool) (x : X) (xs : List X) → list_any p (filter q xs) ≡ true → list_any p (filter q (x ∷ xs)) ≡ true
any_more p q x xs h =
    cond_both (q x) (x ∷ filter q xs) (filter q xs) (λ ys. list_any p ys ≡ true) (λ t. or_right (p x) (list_any p (filter q xs)) h) (λ f. h)

-- one that passes is among those that pass one of two tests, or among those that pass the other
pub any_of_two : {X : Type 0} (p q r : X → Bool) (xs : List X) → All (λ x. (q x ≡ true) ⊎ (r x ≡ true)) xs → list_any p xs ≡ true
    → (list_any p (filter q xs) ≡ true) ⊎ (list_any p (filter r xs) ≡ true)
any_of_two p q r [] each some = absurd (false≢true some)
any_of_two {X} p q r (x ∷ xs) each some =
    let Either : X → Type 0 = λ z. (q z ≡ true) ⊎ (r z ≡ true) in
    elim (or_cases (p x) (list_any p xs) some) [
      | inl here ↦ elim (All-head Either x xs each) [ inl t ↦ inl (rw (t, here) refl) | inr t ↦ inr (rw (t, here) refl) ]
      | inr later ↦ elim (any_of_two p q r xs (All-tail Either x xs each) later) [
        | inl left ↦ inl (any_more p q x xs left)
        | inr right ↦ inr (any_more p r x xs right)
      ]
    ]

-- a place is found where some pass
pub position_where_some : {X : Type 0} (p : X → Bool) (xs : List X) → list_any p xs ≡ true → (n : ℕ) × (position p xs ≡ Some n)
position_where_some p xs some =
    let n = prefix_len (λ x. not (p x)) xs in
    (n, cond-true (nat_lt n (length xs)) (Some n) None (lt-ltb n (length xs) (within p xs some)))
  where
    within : {X : Type 0} (p : X → Bool) (xs : List X) → list_any p xs ≡ true → prefix_len (λ x. not (p x)) xs < length xs
    within p [] h = absurd (false≢true h)
    within p (x ∷ xs) h =
        elim (p x) as (λ b. (b || list_any p xs) ≡ true → cond (not b) (1 + prefix_len (λ y. not (p y)) xs) 0 < suc (length xs)) [
          | true ↦ λ e. omega arith
          | false ↦ λ e. let rest = within p xs e in omega (arith, rest)
        ] h

pub list_any-map : {X Y : Type 0} (p : Y → Bool) (f : X → Y) (xs : List X) → list_any p (map f xs) ≡ list_any (λ x. p (f x)) xs
list_any-map p f [] = refl
list_any-map p f (x ∷ xs) = ap (λ b. p (f x) || b) (list_any-map p f xs)
