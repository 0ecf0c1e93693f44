-- Lists, by what they have at each place.
use Rattle.std.proofs.Common.{◌≡◌, ◌≢◌, ℕ, zero, suc, ◌+◌, ◌-◌, ◌<◌, List, [], ◌∷◌, Some, refl, sym, ap, ◌∙◌, subst, arith, length, length-append, map, set, take, drop, get_or, add-one, ◌++◌, ◌≤◌}
use Rattle.std.specs.List.{slice_get, zip, All, AllZip, flat_map}
use Rattle.std.proofs.lemmas.List.Folds.{flat_map-map}
use Rattle.std.proofs.Math.Seq.{take-append_seam}
use Rattle.std.proofs.lemmas.List.{length-drop, length-take, take_all}
use Rattle.std.proofs.lemmas.Option.{none-some, same_Some, slice_get_past, slice_get_within}
use Rattle.std.proofs.lemmas.List.Elements.{All-head, All-tail}

-- lists that have the same at each place are one
pub same_by_get : {A : Type 0} (xs ys : List A) → ((i : ℕ) → slice_get xs i ≡ slice_get ys i) → xs ≡ ys
same_by_get [] [] e = refl
same_by_get [] (y ∷ ys) e = absurd (none-some y (e 0))
same_by_get (x ∷ xs) [] e = absurd (none-some x (sym (e 0)))
same_by_get (x ∷ xs) (y ∷ ys) e =
    ap (λ z. z ∷ xs) (same_Some x y (e 0)) ∙ ap (λ zs. y ∷ zs) (same_by_get xs ys (λ i. e (suc i)))

pub get-zip : {A B : Type 0} (xs : List A) (ys : List B) (i : ℕ) (x : A) (y : B) → slice_get xs i ≡ Some x → slice_get ys i ≡ Some y → slice_get (zip xs ys) i ≡ Some (x, y)
get-zip [] ys i x y e f = absurd (none-some x e)
get-zip (a ∷ xs) [] i x y e f = absurd (none-some y f)
get-zip (a ∷ xs) (b ∷ ys) zero x y e f = ap (λ a. Some (a, b)) (same_Some a x e) ∙ ap (λ b. Some (x, b)) (same_Some b y f)
get-zip (a ∷ xs) (b ∷ ys) (suc i) x y e f = get-zip xs ys i x y e f

pub length-zip : {A B : Type 0} (xs : List A) (ys : List B) → length xs ≡ length ys → length (zip xs ys) ≡ length ys
length-zip [] ys e = e
length-zip (x ∷ xs) [] e = refl
length-zip (x ∷ xs) (y ∷ ys) e = let rest = length-zip xs ys (omega arith) in omega (arith, rest)

pub get-take : {A : Type 0} (xs : List A) (n i : ℕ) → i < n → slice_get (take n xs) i ≡ slice_get xs i
get-take [] zero i h = absurd (omega arith)
get-take [] (suc n) i h = refl
get-take (x ∷ xs) zero i h = absurd (omega arith)
get-take (x ∷ xs) (suc n) zero h = refl
get-take (x ∷ xs) (suc n) (suc i) h = get-take xs n i (omega arith)

pub get-taken : {A : Type 0} (xs : List A) (n k : ℕ) (x : A) → slice_get (take n xs) k ≡ Some x → (k < n) × (slice_get xs k ≡ Some x)
get-taken xs n k x at =
    let within : k < n = omega (arith, slice_get_within (take n xs) k x at, length-take n xs) in
    (within, sym (get-take xs n k within) ∙ at)

-- what stands behind a list of as many elements as are left out
pub get-past : {A : Type 0} (xs ys : List A) (n k : ℕ) → length xs ≡ n → n ≤ k → slice_get (xs ++ drop n ys) k ≡ slice_get ys k
get-past [] ys zero k e h = refl
get-past (x ∷ xs) [] (suc n) (suc k) e h = slice_get_past (xs ++ []) k (omega (arith, length-append xs []))
get-past (x ∷ xs) (y ∷ ys) (suc n) (suc k) e h = get-past xs ys n k (omega arith) (omega arith)
get-past xs ys n k e h = absurd (omega arith)

-- two lists, side by side, under tests that tell each place alike
pub map-zip : {A B C : Type 0} (f g : A × B → C) (xs : List A) (ys : List B) → ((i : ℕ) (a : A) (b : B) → slice_get xs i ≡ Some a → slice_get ys i ≡ Some b → g (a, b) ≡ f (a, b)) → map g (zip xs ys) ≡ map f (zip xs ys)
map-zip f g [] ys same = refl
map-zip f g (a ∷ xs) [] same = refl
map-zip f g (a ∷ xs) (b ∷ ys) same =
    ap (λ z. z ∷ map g (zip xs ys)) (same 0 a b refl refl) ∙ ap (λ zs. f (a, b) ∷ zs) (map-zip f g xs ys (λ i. same (suc i)))

-- two lists, side by side, of which one changes at one place, under tests that tell the other places alike
pub map-zip-set : {A B C : Type 0} (f g : A × B → C) (xs : List A) (ys : List B) (n : ℕ) (x : A) (y : B) → length xs ≡ length ys → slice_get xs n ≡ Some x → ((i : ℕ) (a : A) (b : B) → i ≢ n → slice_get xs i ≡ Some a → slice_get ys i ≡ Some b → g (a, b) ≡ f (a, b)) → map g (zip xs (set ys n y)) ≡ set (map f (zip xs ys)) n (g (x, y))
map-zip-set f g [] ys n x y e at others = absurd (none-some x at)
map-zip-set f g (a ∷ xs) [] n x y e at others = absurd (omega arith)
map-zip-set f g (a ∷ xs) (b ∷ ys) zero x y e at others =
    ap (λ a. g (a, y) ∷ map g (zip xs ys)) (same_Some a x at) ∙ ap (λ zs. g (x, y) ∷ zs) (map-zip f g xs ys (λ i a b p q. others (suc i) a b (omega arith) p q))
map-zip-set f g (a ∷ xs) (b ∷ ys) (suc n) x y e at others =
    ap (λ z. z ∷ map g (zip xs (set ys n y))) (others 0 a b (omega arith) refl refl)
    ∙ ap (λ zs. f (a, b) ∷ zs) (map-zip-set f g xs ys n x y (omega arith) at (λ i a b h p q. others (suc i) a b (omega arith) p q))

-- what is the same of each is the same of all
pub map_agree_on : {A B : Type 0} (f g : A → B) (xs : List A) → All (λ x. f x ≡ g x) xs → map f xs ≡ map g xs
map_agree_on f g [] same = refl
map_agree_on f g (x ∷ xs) same = rw (All-head (λ y. f y ≡ g y) x xs same, map_agree_on f g xs (All-tail (λ y. f y ≡ g y) x xs same)) refl

-- the first behind the first n
pub first_behind : {A : Type 0} (xs : List A) (n : ℕ) (d : A) → n < length xs → slice_get xs n ≡ Some (get_or (drop n xs) 0 d)
first_behind [] n d h = absurd (omega arith)
first_behind (x ∷ xs) zero d h = refl
first_behind (x ∷ xs) (suc n) d h = first_behind xs n d (omega arith)

pub set_first_behind : {A : Type 0} (xs : List A) (n : ℕ) (x : A) → n < length xs → take n xs ++ set (drop n xs) 0 x ≡ set xs n x
set_first_behind [] n x h = absurd (omega arith)
set_first_behind (y ∷ ys) zero x h = refl
set_first_behind (y ∷ ys) (suc n) x h = ap (λ zs. y ∷ zs) (set_first_behind ys n x (omega arith))

-- a list that is written back whole
pub whole : {A : Type 0} (xs ys : List A) (n : ℕ) → length xs ≡ n → take n (xs ++ ys) ≡ xs
whole xs ys n e = ap (λ m. take m (xs ++ ys)) (sym e) ∙ take-append_seam xs ys

-- the next element is the first of what is left
pub get-drop : {A : Type 0} (xs : List A) (n : ℕ) → slice_get xs n ≡ slice_get (drop n xs) 0
get-drop [] zero = refl
get-drop [] (suc n) = refl
get-drop (x ∷ xs) zero = refl
get-drop (x ∷ xs) (suc n) = get-drop xs n

drop-behind : {A : Type 0} (xs : List A) (n : ℕ) → drop 1 (drop n xs) ≡ drop (suc n) xs
drop-behind [] zero = refl
drop-behind [] (suc n) = refl
drop-behind (x ∷ xs) zero = refl
drop-behind (x ∷ xs) (suc n) = drop-behind xs n

drop-one : {A : Type 0} (xs : List A) (n : ℕ) → drop 1 (drop n xs) ≡ drop (n + 1) xs
drop-one xs n = drop-behind xs n ∙ ap (λ k. drop k xs) (sym (add-one n))

-- all that is left
pub rest_whole : {A : Type 0} (xs : List A) (n : ℕ) → take (length xs - n) (drop n xs) ≡ drop n xs
rest_whole xs n = take_all (length xs - n) (drop n xs) (omega (arith, length-drop n xs))

-- where so many elements went, something is left, and then one element less
module _ {A : Type 0} (all : List A) {left : List A} (n : ℕ) (are : left ≡ drop n all) where
  pub drop-some : n < length all → 0 < length left
  drop-some within = let count = ap length are ∙ length-drop n all in omega (arith, count)

  pub drop-next : drop 1 left ≡ drop (n + 1) all
  drop-next = ap (drop 1) are ∙ drop-one all n

-- lists that a function sees alike at each place
pub map_alike : {A B : Type 0} (f : A → B) (xs ys : List A) → length ys ≡ length xs → ((k : ℕ) (x y : A) → slice_get xs k ≡ Some x → slice_get ys k ≡ Some y → f y ≡ f x) → map f ys ≡ map f xs
map_alike f [] [] e same = refl
map_alike f [] (y ∷ ys) e same = absurd (omega (arith, e))
map_alike f (x ∷ xs) [] e same = absurd (omega (arith, e))
map_alike f (x ∷ xs) (y ∷ ys) e same = (λ i. same 0 x y refl refl i ∷ map f ys) ∙ ap (λ l. f x ∷ l) (map_alike f xs ys (omega (arith, e)) (λ k. same (suc k)))

pub flat_map_alike : {A B : Type 0} (f : A → List B) (xs ys : List A) → length ys ≡ length xs → ((k : ℕ) (x y : A) → slice_get xs k ≡ Some x → slice_get ys k ≡ Some y → f y ≡ f x) → flat_map f ys ≡ flat_map f xs
flat_map_alike f xs ys e same = sym (flat_map-map (λ l. l) f ys) ∙ ap (flat_map (λ l. l)) (map_alike f xs ys e same) ∙ flat_map-map (λ l. l) f xs

pub map-zip-all : {A B C : Type 0} (f g : A × B → C) (xs : List A) (ys zs : List B) → length zs ≡ length ys → ((i : ℕ) (a : A) (b d : B) → slice_get xs i ≡ Some a → slice_get ys i ≡ Some b → slice_get zs i ≡ Some d → g (a, d) ≡ f (a, b)) → map g (zip xs zs) ≡ map f (zip xs ys)
map-zip-all f g [] ys zs e same = refl
map-zip-all f g (a ∷ xs) [] [] e same = refl
map-zip-all f g (a ∷ xs) (b ∷ ys) (d ∷ zs) e same =
    ap (λ z. z ∷ map g (zip xs zs)) (same 0 a b d refl refl refl) ∙ ap (λ all. f (a, b) ∷ all) (map-zip-all f g xs ys zs (omega arith) (λ i. same (suc i)))
map-zip-all f g xs ys zs e same = absurd (omega arith)

-- what holds of each place before and after one element is another
pub each_set : {A : Type 0} (P : A → A → Type 0) → ((x : A) → P x x) → (xs : List A) (n : ℕ) (x y : A) → slice_get xs n ≡ Some x → P x y → (k : ℕ) (u v : A) → slice_get xs k ≡ Some u → slice_get (set xs n y) k ≡ Some v → P u v
each_set P itself [] n x y at changed k u v here there = absurd (none-some u here)
each_set P itself (z ∷ xs) zero x y at changed zero u v here there = subst (λ w. P w v) (sym (same_Some z x at) ∙ same_Some z u here) (subst (P x) (same_Some y v there) changed)
each_set P itself (z ∷ xs) zero x y at changed (suc k) u v here there = subst (P u) (same_Some u v (sym here ∙ there)) (itself u)
each_set P itself (z ∷ xs) (suc n) x y at changed zero u v here there = subst (P u) (same_Some u v (sym here ∙ there)) (itself u)
each_set P itself (z ∷ xs) (suc n) x y at changed (suc k) u v here there = each_set P itself xs n x y at changed k u v here there

-- lists whose elements f shows alike, place by place, are shown alike
pub same_shown : {A B : Type 0} (f : A → B) (xs ys : List A) → AllZip (λ x y. f y ≡ f x) xs ys → map f ys ≡ map f xs
same_shown f [] [] h = refl
same_shown f [] (y ∷ ys) h = absurd h
same_shown f (x ∷ xs) [] h = absurd h
same_shown f (x ∷ xs) (y ∷ ys) h = (λ i. h.0 i ∷ same_shown f xs ys h.1 i)
