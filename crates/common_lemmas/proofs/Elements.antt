-- What holds of each element, of one list or of two side by side, and what a list contains.
use Rattle.std.proofs.Common.{Bool, List, None, Option, Some, [], ap, arith, cond, drop, false, get_or, inl, inr, length, map, refl, set, subst, suc, sym, take, true, zero, ℕ, ◌++◌, ◌+◌, ◌<◌, ◌∙◌, ◌∷◌, ◌≡◌, ◌⊎◌}
use Rattle.std.proofs.lemmas.Bool.{and_parts}
use Rattle.std.proofs.lemmas.List.{get_or-drop, get_or-take, length-drop, length-take}
use Rattle.std.proofs.lemmas.List.Elements.{All-append, All-cons, All-contains, All-contains_itself, All-drop, All-filter, All-head, All-nil, All-tail, All-take, filter_passes}
use Rattle.std.proofs.lemmas.List.FromFn.{get_or-enumerate_from, length-enumerate_from}
use Rattle.std.proofs.lemmas.Option.{get_or_from_slice_get, none-some, same_Some, slice_get-get_or, slice_get_within}
use Rattle.std.specs.List.{All, AllWithin, AllZip, Contains, cons_option, enumerate_from, filter, flat_map, list_all, remove, slice_get}
use Rattle.std.specs.Option.{option_map}
use Rattle.common_lemmas.proofs.Options.{option_map_some}

-- the element at a place
pub All-at : {X : Type 0} (P : X → Type 0) (xs : List X) (n : ℕ) (x : X) → All P xs → slice_get xs n ≡ Some x → P x
All-at P xs n x all there = subst P (get_or_from_slice_get xs n x x there) (all n x (slice_get_within xs n x there))

-- all elements but one
pub All-remove : {X : Type 0} (P : X → Type 0) (xs : List X) (n : ℕ) → All P xs → All P (remove xs n)
All-remove P xs n all = All-append P (take n xs) (drop (suc n) xs) (All-take P n xs all) (All-drop P (suc n) xs all)

-- each of two lists joined end to end, and each of many
pub All-append_parts : {X : Type 0} (P : X → Type 0) (xs ys : List X) → All P (xs ++ ys) → All P xs × All P ys
All-append_parts P [] ys all = (All-nil P, all)
All-append_parts P (x ∷ xs) ys all =
    let parts = All-append_parts P xs ys (All-tail P x (xs ++ ys) all) in
    (All-cons P x xs (All-head P x (xs ++ ys) all) parts.0, parts.1)

-- all elements of lists joined end to end
pub All-flat_map : {X Y : Type 0} (P : Y → Type 0) (f : X → List Y) (xs : List X) → All (λ x. All P (f x)) xs → All P (flat_map f xs)
All-flat_map P f [] all = All-nil P
All-flat_map P f (x ∷ xs) all =
    All-append P (f x) (flat_map f xs) (All-head (λ z. All P (f z)) x xs all)
    (All-flat_map P f xs (All-tail (λ z. All P (f z)) x xs all))

pub All-from_flat_map : {X Y : Type 0} (P : Y → Type 0) (f : X → List Y) (xs : List X) → All P (flat_map f xs) → All (λ x. All P (f x)) xs
All-from_flat_map P f [] all = All-nil (λ x. All P (f x))
All-from_flat_map P f (x ∷ xs) all =
    let parts = All-append_parts P (f x) (flat_map f xs) all in
    All-cons (λ z. All P (f z)) x xs parts.0 (All-from_flat_map P f xs parts.1)

-- all elements with their places
pub All-enumerate : {X : Type 0} (P : ℕ × X → Type 0) (xs : List X) → ((k : ℕ) (x : X) → slice_get xs k ≡ Some x → P (k, x))
    → All P (enumerate_from 0 xs)
All-enumerate P xs h = λ k d l.
    let within : k < length xs = let n = length-enumerate_from 0 xs in omega arith in
    let number : 0 + k ≡ k = omega arith in
    subst P (sym (get_or-enumerate_from 0 xs k d within ∙ ap (λ n. (n, get_or xs k d.1)) number))
    (h k (get_or xs k d.1) (slice_get-get_or xs k d.1 within))

-- one element more, if there is one, and the others
pub All-cons_option : {X : Type 0} (P : X → Type 0) (o : Option X) (xs : List X) → All P (cons_option o xs)
    → ((x : X) → o ≡ Some x → P x) × All P xs
All-cons_option P None xs h = (λ x e. absurd (none-some x e), h)
All-cons_option P (Some y) xs h = (λ x e. subst P (same_Some y x e) (All-head P y xs h), All-tail P y xs h)

-- one element more, if there is one
pub one_more : {X : Type 0} (P : X → Type 0) (o : Option X) (xs : List X) → ((x : X) → o ≡ Some x → P x) → All P xs → All P (cons_option o xs)
one_more P None xs one all = all
one_more P (Some x) xs one all = All-cons P x xs (one x refl) all

-- one more, made of what an option has
pub mapped_more : {X Y : Type 0} (P : Y → Type 0) (f : X → Y) (o : Option X) (ys : List Y) → ((x : X) → o ≡ Some x → P (f x)) → All P ys
    → All P (cons_option (option_map f o) ys)
mapped_more P f o ys one all =
    one_more P (option_map f o) ys
    (λ y same. let from = option_map_some f o y same in subst P from.2 (one from.0 from.1)) all

pub All-from_list_all : {X : Type 0} (p : X → Bool) (xs : List X) → list_all p xs ≡ true → All (λ x. p x ≡ true) xs
All-from_list_all p [] h = All-nil (λ x. p x ≡ true)
All-from_list_all p (x ∷ xs) h =
    let parts = and_parts (p x) (list_all p xs) h in All-cons (λ z. p z ≡ true) x xs parts.0 (All-from_list_all p xs parts.1)

-- what holds of the first i holds of `take i`, and what holds from i on of `drop i`
pub All-take_within : {A : Type 0} (P : A → Type 0) (xs : List A) (i : ℕ) → AllWithin P xs 0 i → All P (take i xs)
All-take_within P xs i h = λ k d l.
    let n = length-take i xs in
    let below : k < i = omega arith in
    subst P (sym (get_or-take i xs k d below)) (h k d (omega arith) below)

pub All-drop_within : {A : Type 0} (P : A → Type 0) (xs : List A) (i : ℕ) → AllWithin P xs i (length xs) → All P (drop i xs)
All-drop_within P xs i h = λ k d l.
    let n = length-drop i xs in
    subst P (sym (get_or-drop i xs k d)) (h (i + k) d (omega arith) (omega arith))

-- a list beside itself, and beside itself with one element changed
pub AllZip-self : {X : Type 0} (R : X → X → Type 0) → ((x : X) → R x x) → (xs : List X) → AllZip R xs xs
AllZip-self R self [] = tt
AllZip-self R self (x ∷ xs) = (self x, AllZip-self R self xs)

pub AllZip-set : {X : Type 0} (R : X → X → Type 0) → ((x : X) → R x x) → (xs : List X) (n : ℕ) (old new : X)
    → slice_get xs n ≡ Some old → R old new → AllZip R xs (set xs n new)
AllZip-set R self [] n old new there h = absurd (none-some old there)
AllZip-set R self (x ∷ xs) zero old new there h =
    (subst (λ y. R y new) (sym (same_Some x old there)) h, AllZip-self R self xs)
AllZip-set R self (x ∷ xs) (suc n) old new there h = (self x, AllZip-set R self xs n old new there h)

-- a list beside what f makes of each of its elements
pub AllZip-map : {X Y : Type 0} (R : X → Y → Type 0) (f : X → Y) → ((x : X) → R x (f x)) → (xs : List X) → AllZip R xs (map f xs)
AllZip-map R f h [] = tt
AllZip-map R f h (x ∷ xs) = (h x, AllZip-map R f h xs)

pub Contains-head : {X : Type 0} (x : X) (xs : List X) → Contains (x ∷ xs) x
Contains-head x xs = (zero, omega arith, refl)

pub Contains-cons : {A : Type 0} (y : A) (ys : List A) (x : A) → Contains ys x → Contains (y ∷ ys) x
Contains-cons y ys x h = (suc h.0, omega (arith, h.1), h.2)

pub Contains-cons_cases : {A : Type 0} (y : A) (ys : List A) (x : A) → Contains (y ∷ ys) x → (x ≡ y) ⊎ Contains ys x
Contains-cons_cases y ys x (zero, l, e) = inl (sym e)
Contains-cons_cases y ys x (suc k, l, e) = inr (k, omega arith, e)

-- what a filter keeps, of the members
pub Contains-filter : {A : Type 0} (p : A → Bool) (xs : List A) (x : A) → Contains xs x → p x ≡ true → Contains (filter p xs) x
Contains-filter p [] x h e = absurd (omega (arith, h.1))
Contains-filter p (y ∷ ys) x (zero, l, f) e = rw (ap p f ∙ e) (0, omega arith, f)
Contains-filter p (y ∷ ys) x (suc k, l, f) e =
    let rest : Contains (filter p ys) x = Contains-filter p ys x (k, omega arith, f) e in
    elim (p y) as (λ b. Contains (cond b (y ∷ filter p ys) (filter p ys)) x) [
      | true ↦ (suc rest.0, omega (arith, rest.1), rest.2)
      | false ↦ rest
    ]

pub Contains-from_filter : {A : Type 0} (p : A → Bool) (xs : List A) (x : A) → Contains (filter p xs) x → Contains xs x × (p x ≡ true)
Contains-from_filter p xs x h = (
  All-contains (Contains xs) (filter p xs) x (All-filter p (Contains xs) xs (All-contains_itself xs)) h,
  All-contains (λ y. p y ≡ true) (filter p xs) x (filter_passes p xs) h,
)

-- the members of a mapped list
pub Contains-map : {A B : Type 0} (f : A → B) (xs : List A) (x : A) → Contains xs x → Contains (map f xs) (f x)
Contains-map f [] x h = absurd (omega (arith, h.1))
Contains-map f (y ∷ ys) x (zero, l, e) = (0, omega arith, ap f e)
Contains-map f (y ∷ ys) x (suc k, l, e) = Contains-cons (f y) (map f ys) (f x) (Contains-map f ys x (k, omega arith, e))

pub Contains-from_map : {A B : Type 0} (f : A → B) (xs : List A) (y : B) → Contains (map f xs) y → (x : A) × Contains xs x × (f x ≡ y)
Contains-from_map f [] y h = absurd (omega (arith, h.1))
Contains-from_map f (x ∷ xs) y (zero, l, e) = (x, (0, omega arith, refl), e)
Contains-from_map f (x ∷ xs) y (suc k, l, e) =
    let rest = Contains-from_map f xs y (k, omega arith, e) in
    (rest.0, Contains-cons x xs rest.0 rest.1, rest.2)

-- what holds of each that f makes
pub All-from_map : {X Y : Type 0} (P : Y → Type 0) (f : X → Y) (xs : List X) → All P (map f xs) → All (λ x. P (f x)) xs
All-from_map P f [] all = All-nil (λ x. P (f x))
All-from_map P f (x ∷ xs) all =
    All-cons (λ z. P (f z)) x xs (All-head P (f x) (map f xs) all) (All-from_map P f xs (All-tail P (f x) (map f xs) all))
