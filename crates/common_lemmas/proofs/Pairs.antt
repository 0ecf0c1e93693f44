-- Pairs of elements: `AllPairs` of lists made of others.
use Rattle.std.proofs.Common.{List, None, Option, Some, [], ap, arith, get_or, inl, inr, length, map, refl, set, suc, sym, zero, ℕ, ◌++◌, ◌<◌, ◌∙◌, ◌∷◌, ◌≡◌, ◌≢◌}
use Rattle.std.proofs.lemmas.Bool.{cases_eq}
use Rattle.std.proofs.lemmas.List.{get_or-set_other, get_or-set_same, length-set}
use Rattle.std.proofs.lemmas.List.Elements.{All-append, All-cons, All-head, All-map, All-nil, All-tail, All-weaker}
use Rattle.std.proofs.lemmas.List.Kept.{AllPairs-cons}
use Rattle.std.specs.List.{All, AllPairs, cons_option}
use Rattle.common_lemmas.proofs.Elements.{All-append_parts}

pub AllPairs-nil : {X : Type 0} (R : X → X → Type 0) → AllPairs R []
AllPairs-nil R i j d l m = absurd (omega arith)

pub AllPairs-head : {X : Type 0} (R : X → X → Type 0) (x : X) (xs : List X) → AllPairs R (x ∷ xs) → All (R x) xs
AllPairs-head R x xs h k d l = h zero (suc k) d (omega arith) (omega arith)

pub AllPairs-tail : {X : Type 0} (R : X → X → Type 0) (x : X) (xs : List X) → AllPairs R (x ∷ xs) → AllPairs R xs
AllPairs-tail R x xs h i j d l m = h (suc i) (suc j) d (omega arith) (omega arith)

-- one list before another, where each of the first stands so to each of the second
pub AllPairs-append : {X : Type 0} (R : X → X → Type 0) (xs ys : List X)
    → AllPairs R xs → AllPairs R ys → All (λ x. All (R x) ys) xs → AllPairs R (xs ++ ys)
AllPairs-append R [] ys a b c = b
AllPairs-append R (x ∷ xs) ys a b c =
    AllPairs-cons R x (xs ++ ys)
    (All-append (R x) xs ys (AllPairs-head R x xs a) (All-head (λ z. All (R z) ys) x xs c))
    (AllPairs-append R xs ys (AllPairs-tail R x xs a) b (All-tail (λ z. All (R z) ys) x xs c))

-- elements that stand so to each other as those that they are made of do
pub AllPairs-map : {X Y : Type 0} (f : X → Y) (R : X → X → Type 0) (S : Y → Y → Type 0) → ((x y : X) → R x y → S (f x) (f y))
    → (xs : List X) → AllPairs R xs → AllPairs S (map f xs)
AllPairs-map f R S keeps [] h = AllPairs-nil S
AllPairs-map f R S keeps (x ∷ xs) h =
    AllPairs-cons S (f x) (map f xs)
    (All-map (S (f x)) f xs (All-weaker (R x) (λ y. S (f x) (f y)) (keeps x) xs (AllPairs-head R x xs h)))
    (AllPairs-map f R S keeps xs (AllPairs-tail R x xs h))

-- an element in the place of one that f takes to the same
alike_at : {X Y : Type 0} (f : X → Y) (xs : List X) (k : ℕ) (y : X) → k < length xs → ((d : X) → f y ≡ f (get_or xs k d))
    → (i : ℕ) (d : X) → f (get_or (set xs k y) i d) ≡ f (get_or xs i d)
alike_at f xs k y lt same i d =
    elim (cases_eq i k) [
      | inl e ↦ rw e (ap f (get_or-set_same xs k y d lt) ∙ same d)
      | inr ne ↦ ap f (get_or-set_other xs k i y d ne)
    ]

pub AllPairs-set_alike : {X Y : Type 0} (f : X → Y) (xs : List X) (k : ℕ) (y : X) → k < length xs → ((d : X) → f y ≡ f (get_or xs k d))
    → AllPairs (λ a b. f a ≢ f b) xs → AllPairs (λ a b. f a ≢ f b) (set xs k y)
AllPairs-set_alike f xs k y lt same h i j d l m e =
    h i j d l (let n = length-set xs k y in omega arith)
    (sym (alike_at f xs k y lt same i d) ∙ e ∙ alike_at f xs k y lt same j d)

-- pairs of one list and the list behind it, and those of that list
pub AllPairs-across : {X : Type 0} (R : X → X → Type 0) (xs ys : List X) → AllPairs R (xs ++ ys) → All (λ x. All (R x) ys) xs
AllPairs-across R [] ys h = All-nil (λ x. All (R x) ys)
AllPairs-across R (x ∷ xs) ys h =
    All-cons (λ z. All (R z) ys) x xs (All-append_parts (R x) xs ys (AllPairs-head R x (xs ++ ys) h)).1
    (AllPairs-across R xs ys (AllPairs-tail R x (xs ++ ys) h))

pub AllPairs-back : {X : Type 0} (R : X → X → Type 0) (xs ys : List X) → AllPairs R (xs ++ ys) → AllPairs R ys
AllPairs-back R [] ys h = h
AllPairs-back R (x ∷ xs) ys h = AllPairs-back R xs ys (AllPairs-tail R x (xs ++ ys) h)

-- each element stands so to one that comes behind it
pub AllPairs-behind : {X : Type 0} (R : X → X → Type 0) (xs : List X) (y : X) (ys : List X) → AllPairs R (xs ++ y ∷ ys)
    → All (λ x. R x y) xs
AllPairs-behind R [] y ys h = All-nil (λ x. R x y)
AllPairs-behind R (x ∷ xs) y ys h =
    let parts = All-append_parts (R x) xs (y ∷ ys) (AllPairs-head R x (xs ++ y ∷ ys) h) in
    All-cons (λ z. R z y) x xs (All-head (R x) y ys parts.1) (AllPairs-behind R xs y ys (AllPairs-tail R x (xs ++ y ∷ ys) h))

-- pairs of one element more, if there is one
pub pairs_more : {X : Type 0} (R : X → X → Type 0) (o : Option X) (xs : List X) → ((x : X) → o ≡ Some x → All (R x) xs) → AllPairs R xs
    → AllPairs R (cons_option o xs)
pairs_more R None xs one all = all
pairs_more R (Some x) xs one all = AllPairs-cons R x xs (one x refl) all
