-- What is mapped, and lists joined end to end.
use Rattle.std.proofs.Common.{Bool, List, None, Option, Some, [], ap, arith, false, is_some, length, map, not, refl, suc, true, ℕ, ◌++◌, ◌∙◌, ◌∷◌, ◌≡◌, ◌≤◌}
use Rattle.std.proofs.lemmas.Bool.{false≢true, not-false, or_parts}
use Rattle.std.proofs.lemmas.Grind.{flat_map-append}
use Rattle.std.proofs.lemmas.List.{map-append}
use Rattle.std.proofs.lemmas.List.Elements.{All-head, All-tail}
use Rattle.std.specs.List.{All, cons_option, filter_map, flat_map, list_any}
use Rattle.std.specs.Option.{option_map}

pub map_agree : {X Y : Type 0} (f g : X → Y) → ((x : X) → f x ≡ g x) → (xs : List X) → map f xs ≡ map g xs
map_agree f g same [] = refl
map_agree f g same (x ∷ xs) = rw (same x, map_agree f g same xs) refl

-- one element more, if there is one, and all of them mapped
pub cons_option-map : {X Y : Type 0} (f : X → Y) (o : Option X) (xs : List X) → cons_option (option_map f o) (map f xs) ≡ map f (cons_option o xs)
cons_option-map f None xs = refl
cons_option-map f (Some x) xs = refl

-- maps that agree at each element
pub flat_map_agree : {X Y : Type 0} (f g : X → List Y) (xs : List X) → All (λ x. f x ≡ g x) xs → flat_map f xs ≡ flat_map g xs
flat_map_agree f g [] same = refl
flat_map_agree f g (x ∷ xs) same =
    rw (All-head (λ y. f y ≡ g y) x xs same, flat_map_agree f g xs (All-tail (λ y. f y ≡ g y) x xs same)) refl

pub map-flat_map : {X Y Z : Type 0} (g : Y → Z) (f : X → List Y) (xs : List X) → map g (flat_map f xs) ≡ flat_map (λ x. map g (f x)) xs
map-flat_map g f [] = refl
map-flat_map g f (x ∷ xs) = map-append g (f x) (flat_map f xs) ∙ ap (λ ys. map g (f x) ++ ys) (map-flat_map g f xs)

pub flat_map-flat_map : {X Y Z : Type 0} (g : Y → List Z) (f : X → List Y) (xs : List X)
    → flat_map g (flat_map f xs) ≡ flat_map (λ x. flat_map g (f x)) xs
flat_map-flat_map g f [] = refl
flat_map-flat_map g f (x ∷ xs) =
    flat_map-append g (f x) (flat_map f xs) ∙ ap (λ ys. flat_map g (f x) ++ ys) (flat_map-flat_map g f xs)

length_more : {X : Type 0} (o : Option X) (xs : List X) (n : ℕ) → is_some o ≡ true → length xs ≡ n → length (cons_option o xs) ≡ suc n
length_more None xs n there h = absurd (false≢true there)
length_more (Some x) xs n there h = ap suc h

-- where each gives something, as many are given
pub length-filter_map : {X Y : Type 0} (f : X → Option Y) (xs : List X) (p : X → Bool) → ((x : X) → p x ≡ true → is_some (f x) ≡ true)
    → list_any (λ x. not (p x)) xs ≡ false → length (filter_map f xs) ≡ length xs
length-filter_map f [] p gives h = refl
length-filter_map f (x ∷ xs) p gives h =
    let parts = or_parts (not (p x)) (list_any (λ y. not (p y)) xs) h in
    length_more (f x) (filter_map f xs) (length xs) (gives x (not-false (p x) parts.0)) (length-filter_map f xs p gives parts.1)

-- at most one is given for each
pub length-filter_map_within : {X Y : Type 0} (f : X → Option Y) (xs : List X) → length (filter_map f xs) ≤ length xs
length-filter_map_within f [] = omega arith
length-filter_map_within f (x ∷ xs) = at_most_one_more (f x) (filter_map f xs) (length xs) (length-filter_map_within f xs)
  where
    at_most_one_more : {Y : Type 0} (o : Option Y) (ys : List Y) (n : ℕ) → length ys ≤ n → length (cons_option o ys) ≤ suc n
    at_most_one_more None ys n h = omega (arith, h)
    at_most_one_more (Some y) ys n h = omega (arith, h)
