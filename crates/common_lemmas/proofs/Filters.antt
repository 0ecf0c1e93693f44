-- What a filter keeps.
use Rattle.std.proofs.Common.{Bool, List, [], ap, append-nil, arith, drop, false, inl, inr, length, map, not, refl, sym, take, true, ℕ, ◌&&◌, ◌++◌, ◌+◌, ◌∙◌, ◌∷◌, ◌≡◌, ◌≤◌}
use Rattle.std.proofs.lemmas.Bool.{cases_Bool}
use Rattle.std.proofs.lemmas.List.{take-append-drop}
use Rattle.std.proofs.lemmas.List.Elements.{All-head, All-tail, filter-append}
use Rattle.std.specs.List.{All, AllWithin, filter, flat_map}
use Rattle.common_lemmas.proofs.Elements.{All-drop_within, All-take_within}

-- a test that all elements pass keeps all
pub filter_all : {X : Type 0} (p : X → Bool) (xs : List X) → All (λ x. p x ≡ true) xs → filter p xs ≡ xs
filter_all p [] all = refl
filter_all p (x ∷ xs) all =
    rw (All-head (λ y. p y ≡ true) x xs all) (ap (λ ys. x ∷ ys) (filter_all p xs (All-tail (λ y. p y ≡ true) x xs all)))

pub filter_none : {A : Type 0} (p : A → Bool) (xs : List A) → All (λ x. p x ≡ false) xs → filter p xs ≡ []
filter_none p [] h = refl
filter_none p (x ∷ xs) h =
    rw (All-head (λ y. p y ≡ false) x xs h) (filter_none p xs (All-tail (λ y. p y ≡ false) x xs h))

-- the test passes the first part and fails the second, or the other way round
pub filter_first : {A : Type 0} (p : A → Bool) (bs cs : List A) → All (λ x. p x ≡ true) bs → All (λ x. p x ≡ false) cs → filter p (bs ++ cs) ≡ bs
filter_first p bs cs h k = rw (filter-append, filter_all p bs h, filter_none p cs k) (append-nil bs)

pub filter_second : {A : Type 0} (p : A → Bool) (bs cs : List A) → All (λ x. p x ≡ false) bs → All (λ x. p x ≡ true) cs → filter p (bs ++ cs) ≡ cs
filter_second p bs cs h k = rw (filter-append, filter_none p bs h, filter_all p cs k) refl

pub filter_take : {A : Type 0} (p : A → Bool) (xs : List A) (i : ℕ) → AllWithin (λ x. p x ≡ true) xs 0 i → AllWithin (λ x. p x ≡ false) xs i (length xs) → filter p xs ≡ take i xs
filter_take p xs i h k =
    ap (filter p) (sym (take-append-drop i xs))
    ∙ filter_first p (take i xs) (drop i xs) (All-take_within (λ x. p x ≡ true) xs i h) (All-drop_within (λ x. p x ≡ false) xs i k)

pub filter_drop : {A : Type 0} (p : A → Bool) (xs : List A) (i : ℕ) → AllWithin (λ x. p x ≡ false) xs 0 i → AllWithin (λ x. p x ≡ true) xs i (length xs) → filter p xs ≡ drop i xs
filter_drop p xs i h k =
    ap (filter p) (sym (take-append-drop i xs))
    ∙ filter_second p (take i xs) (drop i xs) (All-take_within (λ x. p x ≡ false) xs i h) (All-drop_within (λ x. p x ≡ true) xs i k)

-- none passes of those that don't
pub filter_others : {X : Type 0} (p : X → Bool) (xs : List X) → filter p (filter (λ x. not (p x)) xs) ≡ []
filter_others p [] = refl
filter_others p (x ∷ xs) =
    elim (cases_Bool (p x)) [ inl t ↦ rw t (filter_others p xs) | inr f ↦ rw f (rw f (filter_others p xs)) ]

-- the same test once more keeps the same
pub filter_again : {X : Type 0} (p : X → Bool) (xs : List X) → filter p (filter p xs) ≡ filter p xs
filter_again p [] = refl
filter_again p (x ∷ xs) =
    elim (cases_Bool (p x)) [ inl t ↦ rw t (rw t (ap (λ ys. x ∷ ys) (filter_again p xs))) | inr f ↦ rw f (filter_again p xs) ]

-- the same where the tests agree at each element of this list
pub filter_agree_on : {X : Type 0} (p q : X → Bool) (xs : List X) → All (λ x. p x ≡ q x) xs → filter p xs ≡ filter q xs
filter_agree_on p q [] same = refl
filter_agree_on p q (x ∷ xs) same =
    rw (All-head (λ y. p y ≡ q y) x xs same, filter_agree_on p q xs (All-tail (λ y. p y ≡ q y) x xs same)) refl

pub filter-map : {X Y : Type 0} (p : Y → Bool) (f : X → Y) (xs : List X) → filter p (map f xs) ≡ map f (filter (λ x. p (f x)) xs)
filter-map p f [] = refl
filter-map p f (x ∷ xs) =
    elim (cases_Bool (p (f x))) [ inl t ↦ rw (t, filter-map p f xs) refl | inr n ↦ rw (n, filter-map p f xs) refl ]

pub filter-filter : {X : Type 0} (p q : X → Bool) (xs : List X) → filter p (filter q xs) ≡ filter (λ x. q x && p x) xs
filter-filter p q [] = refl
filter-filter p q (x ∷ xs) =
    elim (cases_Bool (q x)) [
      | inl t ↦ elim (cases_Bool (p x)) [ inl u ↦ rw (t, u, filter-filter p q xs) refl | inr n ↦ rw (t, n, filter-filter p q xs) refl ]
      | inr f ↦ rw (f, filter-filter p q xs) refl
    ]

pub filter-flat_map : {X Y : Type 0} (p : Y → Bool) (f : X → List Y) (xs : List X) → filter p (flat_map f xs) ≡ flat_map (λ x. filter p (f x)) xs
filter-flat_map p f [] = refl
filter-flat_map p f (x ∷ xs) = filter-append p (f x) (flat_map f xs) ∙ ap (λ ys. filter p (f x) ++ ys) (filter-flat_map p f xs)

-- two filters of which no element passes both
pub length-filter_apart : {X : Type 0} (p q : X → Bool) → ((x : X) → p x ≡ true → q x ≡ false) → (xs : List X)
    → length (filter p xs) + length (filter q xs) ≤ length xs
length-filter_apart p q apart [] = omega arith
length-filter_apart p q apart (x ∷ xs) =
    let rest = length-filter_apart p q apart xs in
    elim (cases_Bool (p x)) [
      | inl t ↦ rw (t, apart x t) (omega arith)
      | inr f ↦ elim (cases_Bool (q x)) [ inl t ↦ rw (f, t) (omega arith) | inr g ↦ rw (f, g) (omega arith) ]
    ]
