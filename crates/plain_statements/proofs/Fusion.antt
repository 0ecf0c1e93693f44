-- Fusion: what is picked of a list that is mapped, and what is picked and then mapped.
use Rattle.std.proofs.Common.{◌≡◌, map, List, [], ◌∷◌, refl, ap, ◌∙◌, Option}
use Rattle.std.specs.List.{filter_map, cons_option}
use Rattle.std.specs.Option.{option_map}
use Rattle.common_lemmas.proofs.Maps.{cons_option-map}

-- what is picked of elements and mapped is what is picked as mapped
pub filter_map-same : {X Y Z : Type 0} (g : X → Option Z) (k : X → Option Y) (h : Y → Z) → ((x : X) → g x ≡ option_map h (k x))
    → (xs : List X) → filter_map g xs ≡ map h (filter_map k xs)
filter_map-same g k h same [] = refl
filter_map-same g k h same (x ∷ xs) =
    ap (λ z. cons_option z (filter_map g xs)) (same x) ∙ ap (cons_option (option_map h (k x))) (filter_map-same g k h same xs)
    ∙ cons_option-map h (k x) (filter_map k xs)

pub filter_map-map : {X Y Z : Type 0} (g : Y → Option Z) (f : X → Y) (xs : List X) → filter_map g (map f xs) ≡ filter_map (λ x. g (f x)) xs
filter_map-map g f [] = refl
filter_map-map g f (x ∷ xs) = ap (cons_option (g (f x))) (filter_map-map g f xs)
