-- A list without its first element that passes a test.
use Rattle.std.proofs.Common.{Bool, true, false, ◌&&◌, ◌≡◌, ◌<◌, ◌+◌, ℕ, zero, suc, List, [], ◌∷◌, Some, None, cond, refl, sym, ap, ◌∙◌, arith, length, get_or, map, filter, remove, position}
use Rattle.std.specs.List.{All, position_from}
use Rattle.std.proofs.lemmas.List.Quantifiers.{position-Some}
use Rattle.std.proofs.lemmas.Iterator.Adapters.{position_from-zero}
use Rattle.std.proofs.lemmas.List.Elements.{All-cons, All-tail}
use Rattle.std.proofs.lemmas.Option.{none-some}
use Rattle.mm_relation.specs.Declaring.{without_first}

removed_at : {A : Type 0} (p : A → Bool) (xs : List A) (i : ℕ) → i < length xs → ((d : A) → p (get_or xs i d) ≡ true) → ((k : ℕ) (d : A) → k < i → p (get_or xs k d) ≡ false) → remove xs i ≡ without_first p xs
removed_at p [] i inside here before = absurd (omega (arith, inside))
removed_at p (x ∷ xs) zero inside here before = let e : p x ≡ true = here x in rw e refl
removed_at p (x ∷ xs) (suc i) inside here before =
    let e : p x ≡ false = before 0 x (omega arith) in
    rw e (ap (λ ys. x ∷ ys) (removed_at p xs i (omega (arith, inside)) here (λ k d l. before (suc k) d (omega (arith, l)))))

pub removed_first : {A : Type 0} (p : A → Bool) (xs : List A) (i : ℕ) → position p xs ≡ Some i → remove xs i ≡ without_first p xs
removed_first p [] i found = absurd (none-some i found)
removed_first p (x ∷ xs) i found =
    removed_at p (x ∷ xs) i (position-Some p (x ∷ xs) i x found).0 (λ d. (position-Some p (x ∷ xs) i d found).1) (λ k d l. (position-Some p (x ∷ xs) i d found).2 k l)

not_found : {A : Type 0} (p : A → Bool) (xs : List A) (i : ℕ) → position_from p i xs ≡ None → without_first p xs ≡ xs
not_found p [] i none = refl
not_found p (x ∷ xs) i none = elim (p x) as (λ b. cond b (Some i) (position_from p (i + 1) xs) ≡ None → cond b xs (x ∷ without_first p xs) ≡ x ∷ xs) [
  | true ↦ λ e. absurd (none-some i (sym e))
  | false ↦ λ e. ap (λ ys. x ∷ ys) (not_found p xs (i + 1) e)
] none

pub nothing_first : {A : Type 0} (p : A → Bool) (xs : List A) → position p xs ≡ None → without_first p xs ≡ xs
nothing_first p xs none = not_found p xs 0 (sym (position_from-zero p xs) ∙ none)

-- through a map
pub without_first-map : {A B : Type 0} (p : B → Bool) (f : A → B) (xs : List A) → without_first p (map f xs) ≡ map f (without_first (λ x. p (f x)) xs)
without_first-map p f [] = refl
without_first-map p f (x ∷ xs) = elim (p (f x)) as (λ b. cond b (map f xs) (f x ∷ without_first p (map f xs)) ≡ map f (cond b xs (x ∷ without_first (λ y. p (f y)) xs))) [
  | true ↦ refl
  | false ↦ ap (λ ys. f x ∷ ys) (without_first-map p f xs)
]

-- what holds of each element
pub All-without_first : {A : Type 0} (P : A → Type 0) (p : A → Bool) (xs : List A) → All P xs → All P (without_first p xs)
All-without_first P p [] h = h
All-without_first P p (x ∷ xs) h = elim (p x) as (λ b. All P (cond b xs (x ∷ without_first p xs))) [
  | true ↦ All-tail P x xs h
  | false ↦ All-cons P x (without_first p xs) (h 0 x (omega arith)) (All-without_first P p xs (All-tail P x xs h))
]

-- the first that passes two tests is, among those that pass the second, the first that passes the first
pub filter-without_first : {A : Type 0} (on kind : A → Bool) (xs : List A) → filter kind (without_first (λ x. on x && kind x) xs) ≡ without_first on (filter kind xs)
filter-without_first on kind [] = refl
filter-without_first on kind (x ∷ xs) = cases (on x) refl (kind x) refl (filter-without_first on kind xs)
  where
    cases : (o : Bool) → on x ≡ o → (k : Bool) → kind x ≡ k → filter kind (without_first (λ y. on y && kind y) xs) ≡ without_first on (filter kind xs) → filter kind (without_first (λ y. on y && kind y) (x ∷ xs)) ≡ without_first on (filter kind (x ∷ xs))
    cases true e true f rest = rw (e, f, e) refl
    cases true e false f rest = rw (e, f, f) rest
    cases false e true f rest = rw (f, e, f) (ap (λ ys. x ∷ ys) rest)
    cases false e false f rest = rw (e, f) rest

-- those that pass a test that the one that is gone does not pass
pub filter-without_other : {A : Type 0} (test other : A → Bool) (xs : List A) → ((x : A) → test x ≡ true → other x ≡ false) → filter other (without_first test xs) ≡ filter other xs
filter-without_other test other [] apart = refl
filter-without_other test other (x ∷ xs) apart = cases (test x) refl (filter-without_other test other xs apart)
  where
    cases : (b : Bool) → test x ≡ b → filter other (without_first test xs) ≡ filter other xs → filter other (without_first test (x ∷ xs)) ≡ filter other (x ∷ xs)
    cases true e rest = let f : other x ≡ false = apart x e in rw (e, f) refl
    cases false e rest = rw e (ap (λ ys. cond (other x) (x ∷ ys) ys) rest)
