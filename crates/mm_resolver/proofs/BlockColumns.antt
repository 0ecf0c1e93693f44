-- Lists of what may be missing.
use Rattle.std.proofs.Common.{◌≡◌, List, [], ◌∷◌, ◌++◌, Option, Some, None, IsSome, is_some, refl, ap, ◌∙◌, map}
use Rattle.std.specs.List.{All}
use Rattle.std.specs.Option.{option_map}
use Rattle.std.proofs.lemmas.List.Elements.{All-nil, All-cons}
use Rattle.std.proofs.lemmas.Option.{none-some}
use Rattle.common_lemmas.proofs.Options.{option_map_some}
use Rattle.plain_tables.specs.CsvReading.{all_of}

-- where none is missing, each is there
pub each_there : {X Y : Type 0} (f : X → Option Y) (xs : List X) (ys : List Y) → all_of (map f xs) ≡ Some ys → All (λ x. IsSome (f x)) xs
each_there f [] ys all = All-nil (λ x. IsSome (f x))
each_there {X = X} {Y = Y} f (x ∷ xs) ys all = by (f x) refl (λ others rest. each_there f xs others rest)
  where
    by : (o : Option Y) → f x ≡ o → ((others : List Y) → all_of (map f xs) ≡ Some others → All (λ z. IsSome (f z)) xs) → All (λ z. IsSome (f z)) (x ∷ xs)
    by None is more = absurd (none-some ys (rw is at all))
    by (Some y) is more =
        let (others, rest, whole) = option_map_some (λ others. y ∷ others) (all_of (map f xs)) ys (rw is at all) in
        All-cons (λ z. IsSome (f z)) x xs (ap is_some is) (more others rest)

-- one more
pub all_more : {X : Type 0} (os : List (Option X)) (xs : List X) (o : Option X) (x : X) → all_of os ≡ Some xs → o ≡ Some x
    → all_of (os ++ o ∷ []) ≡ Some (xs ++ x ∷ [])
all_more [] xs o x all last = let none : xs ≡ [] = cc in rw (last, none) refl
all_more (None ∷ os) xs o x all last = absurd (none-some xs all)
all_more (Some y ∷ os) xs o x all last =
    let (others, rest, whole) = option_map_some (λ others. y ∷ others) (all_of os) xs all in
    ap (option_map (λ zs. y ∷ zs)) (all_more os others o x rest last) ∙ ap (λ zs. Some (zs ++ x ∷ [])) whole
