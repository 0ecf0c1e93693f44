-- The element at a place, and an element put in a place.
use Rattle.std.proofs.Common.{List, Some, [], ap, arith, length, refl, set, suc, sym, zero, ℕ, ◌++◌, ◌<◌, ◌∷◌, ◌≡◌, ◌≢◌, ◌≤◌}
use Rattle.std.proofs.lemmas.Option.{none-some, same_Some}
use Rattle.std.specs.List.{slice_get, zip}

-- an element put in a place
pub slice_get_set : {X : Type 0} (xs : List X) (n : ℕ) (x : X) → n < length xs → slice_get (set xs n x) n ≡ Some x
slice_get_set [] n x within = absurd (omega arith)
slice_get_set (y ∷ xs) zero x within = refl
slice_get_set (y ∷ xs) (suc n) x within = slice_get_set xs n x (omega arith)

pub set_itself : {X : Type 0} (xs : List X) (n : ℕ) (x : X) → slice_get xs n ≡ Some x → set xs n x ≡ xs
set_itself [] n x there = absurd (none-some x there)
set_itself (y ∷ xs) zero x there = let here : y ≡ x = same_Some y x there in ap (λ z. z ∷ xs) (sym here)
set_itself (y ∷ xs) (suc n) x there = ap (λ zs. y ∷ zs) (set_itself xs n x there)

-- the element behind others
pub slice_get_behind : {X : Type 0} (xs ys : List X) (x : X) → slice_get (xs ++ x ∷ ys) (length xs) ≡ Some x
slice_get_behind [] ys x = refl
slice_get_behind (y ∷ xs) ys x = slice_get_behind xs ys x

-- the elements at the other places are as they were
pub slice_get-set_other : {X : Type 0} (xs : List X) (n k : ℕ) (x : X) → k ≢ n → slice_get (set xs n x) k ≡ slice_get xs k
slice_get-set_other [] n k x other = refl
slice_get-set_other (y ∷ xs) zero zero x other = absurd (other refl)
slice_get-set_other (y ∷ xs) zero (suc k) x other = refl
slice_get-set_other (y ∷ xs) (suc n) zero x other = refl
slice_get-set_other (y ∷ xs) (suc n) (suc k) x other = slice_get-set_other xs n k x (λ e. other (ap suc e))

-- the element at a place that is there
pub slice_get-inside : {X : Type 0} (xs : List X) (n : ℕ) → n < length xs → (x : X) × (slice_get xs n ≡ Some x)
slice_get-inside [] n within = absurd (omega arith)
slice_get-inside (x ∷ xs) zero within = (x, refl)
slice_get-inside (x ∷ xs) (suc n) within = slice_get-inside xs n (omega arith)

-- one of the elements in front
pub slice_get-front : {X : Type 0} (xs ys : List X) (n : ℕ) → n < length xs → slice_get (xs ++ ys) n ≡ slice_get xs n
slice_get-front [] ys n within = absurd (omega arith)
slice_get-front (x ∷ xs) ys zero within = refl
slice_get-front (x ∷ xs) ys (suc n) within = slice_get-front xs ys n (omega arith)

-- behind the others stands the last
pub slice_get-last : {X : Type 0} (xs : List X) (y : X) (n : ℕ) (x : X) → length xs ≤ n → slice_get (xs ++ y ∷ []) n ≡ Some x → y ≡ x
slice_get-last [] y zero x behind there = same_Some y x there
slice_get-last [] y (suc n) x behind there = absurd (none-some x there)
slice_get-last (z ∷ xs) y zero x behind there = absurd (omega arith)
slice_get-last (z ∷ xs) y (suc n) x behind there = slice_get-last xs y n x (omega arith) there

-- two lists, side by side, that each gain one more
pub zip-push : {X Y : Type 0} (xs : List X) (ys : List Y) (x : X) (y : Y) → length xs ≡ length ys
    → zip (xs ++ x ∷ []) (ys ++ y ∷ []) ≡ zip xs ys ++ (x, y) ∷ []
zip-push [] [] x y same = refl
zip-push [] (b ∷ ys) x y same = absurd (omega arith)
zip-push (a ∷ xs) [] x y same = absurd (omega arith)
zip-push (a ∷ xs) (b ∷ ys) x y same = ap (λ zs. (a, b) ∷ zs) (zip-push xs ys x y (omega arith))
