-- Lists of which the element at one place goes or comes back, and the numbers of those behind it, which move up or down.
use Rattle.std.proofs.Common.{◌≡◌, ◌≢◌, ℕ, zero, suc, ◌+◌, ◌-◌, ◌<◌, ◌≤◌, Bool, true, false, not, cond, eqb, List, [], ◌∷◌, Option, Some, None, refl, sym, ap, ◌∙◌, subst, arith, length, take, drop, inl, inr}
use Rattle.std.specs.List.{All, AllPairs, slice_get, insert, remove, position, position_or_len}
use Rattle.std.specs.Prelude.{nat_lt}
use Rattle.std.specs.Option.{option_map}
use Rattle.std.proofs.lemmas.Bool.{cases_lt, cases_eq, cond-true, cond-false, lt-ltb, le-ltb, eq-eqb, ne_eqb}
use Rattle.std.proofs.lemmas.List.{take-append-drop}
use Rattle.std.proofs.lemmas.List.Elements.{All-append}
use Rattle.std.proofs.lemmas.Option.{none-some, same_Some}
use Rattle.common_lemmas.proofs.Pairs.{AllPairs-back, AllPairs-behind, AllPairs-head}
use Rattle.mm_catalog.specs.Dropped.{moved_down, moved_up}

pub moved_down-other : (gone n : ℕ) → moved_down gone n ≢ gone
moved_down-other zero n e = omega arith
moved_down-other (suc gone) zero e = omega arith
moved_down-other (suc gone) (suc n) e = moved_down-other gone n (omega (arith, e))

pub moved_up-back : (gone n : ℕ) → moved_up gone (moved_down gone n) ≡ n
moved_up-back zero n = refl
moved_up-back (suc gone) zero = refl
moved_up-back (suc gone) (suc n) = ap suc (moved_up-back gone n)

pub moved_up-before : (gone n : ℕ) → n ≤ gone → moved_up gone n ≡ n
moved_up-before zero zero h = refl
moved_up-before zero (suc n) h = absurd (omega arith)
moved_up-before (suc gone) zero h = refl
moved_up-before (suc gone) (suc n) h = ap suc (moved_up-before gone n (omega arith))

pub moved_up-behind : (gone n : ℕ) → gone < n → moved_up gone n ≡ n - 1
moved_up-behind zero (suc n) h = omega arith
moved_up-behind (suc gone) (suc n) h = let rest = moved_up-behind gone n (omega arith) in omega (arith, rest)
moved_up-behind gone n h = absurd (omega arith)

pub moved_down-before : (gone n : ℕ) → n < gone → moved_down gone n ≡ n
moved_down-before zero n h = absurd (omega arith)
moved_down-before (suc gone) zero h = refl
moved_down-before (suc gone) (suc n) h = ap suc (moved_down-before gone n (omega arith))

pub moved_down-behind : (place n : ℕ) → place ≤ n → moved_down place n ≡ n + 1
moved_down-behind zero n h = omega arith
moved_down-behind (suc place) zero h = absurd (omega arith)
moved_down-behind (suc place) (suc n) h = let rest = moved_down-behind place n (omega arith) in omega (arith, rest)

pub moved_down-up : (gone n : ℕ) → n ≢ gone → moved_down gone (moved_up gone n) ≡ n
moved_down-up zero zero other = absurd (other refl)
moved_down-up zero (suc n) other = refl
moved_down-up (suc gone) zero other = refl
moved_down-up (suc gone) (suc n) other = ap suc (moved_down-up gone n (λ e. other (ap suc e)))

pub moved_up-injective : (gone a b : ℕ) → a ≢ gone → b ≢ gone → moved_up gone a ≡ moved_up gone b → a ≡ b
moved_up-injective zero zero b p q e = absurd (p refl)
moved_up-injective zero (suc a) zero p q e = absurd (q refl)
moved_up-injective zero (suc a) (suc b) p q e = ap suc e
moved_up-injective (suc gone) zero zero p q e = refl
moved_up-injective (suc gone) zero (suc b) p q e = absurd (omega (arith, e))
moved_up-injective (suc gone) (suc a) zero p q e = absurd (omega (arith, e))
moved_up-injective (suc gone) (suc a) (suc b) p q e =
    ap suc (moved_up-injective gone a b (λ h. p (ap suc h)) (λ h. q (ap suc h)) (omega (arith, e)))

-- those that stay are told apart as before
pub moved_up-same : (gone a b : ℕ) → a ≢ gone → b ≢ gone → eqb (moved_up gone a) (moved_up gone b) ≡ eqb a b
moved_up-same gone a b p q = elim (cases_eq a b) [
  | inl e ↦ eq-eqb (moved_up gone a) (moved_up gone b) (ap (moved_up gone) e) ∙ sym (eq-eqb a b e)
  | inr other ↦
      ne_eqb (moved_up gone a) (moved_up gone b) (λ e. other (moved_up-injective gone a b p q e)) ∙ sym (ne_eqb a b other)
]

-- ---- what stands at a place

pub get-remove : {A : Type 0} (xs : List A) (n k : ℕ) → k ≢ n → slice_get (remove xs n) (moved_up n k) ≡ slice_get xs k
get-remove [] zero k h = refl
get-remove (x ∷ xs) zero zero h = absurd (h refl)
get-remove (x ∷ xs) (suc n) (suc k) h = get-remove xs n k (λ e. h (ap suc e))
get-remove xs n k h = refl

pub get-removed : {A : Type 0} (xs : List A) (n k : ℕ) → slice_get (remove xs n) k ≡ slice_get xs (moved_down n k)
get-removed [] zero k = refl
get-removed (x ∷ xs) (suc n) (suc k) = get-removed xs n k
get-removed xs n k = refl

-- ---- what comes back

pub insert-removed : {A : Type 0} (xs : List A) (n : ℕ) (x : A) → slice_get xs n ≡ Some x → insert (remove xs n) n x ≡ xs
insert-removed [] n x at = absurd (none-some x at)
insert-removed (y ∷ ys) zero x at = ap (λ z. z ∷ ys) (sym (same_Some y x at))
insert-removed (y ∷ ys) (suc n) x at = ap (λ zs. y ∷ zs) (insert-removed ys n x at)

pub remove-inserted : {A : Type 0} (xs : List A) (n : ℕ) (x : A) → n ≤ length xs → remove (insert xs n x) n ≡ xs
remove-inserted [] zero x h = refl
remove-inserted [] (suc n) x h = absurd (omega arith)
remove-inserted (y ∷ ys) zero x h = refl
remove-inserted (y ∷ ys) (suc n) x h = ap (λ zs. y ∷ zs) (remove-inserted ys n x (omega arith))

pub get-inserted : {A : Type 0} (xs : List A) (n : ℕ) (x : A) → n ≤ length xs → slice_get (insert xs n x) n ≡ Some x
get-inserted [] zero x h = refl
get-inserted [] (suc n) x h = absurd (omega arith)
get-inserted (y ∷ ys) zero x h = refl
get-inserted (y ∷ ys) (suc n) x h = get-inserted ys n x (omega arith)

-- what comes among elements that stay apart from it is none of them
pub inserted_apart : {A : Type 0} (xs : List A) (n : ℕ) (x : A) → AllPairs (λ a b. a ≢ b) (insert xs n x) → All (λ y. y ≢ x) xs
inserted_apart {A} xs n x apart =
    let differ : A → A → Type 0 = λ a b. a ≢ b in
    let behind = AllPairs-head differ x (drop n xs) (AllPairs-back differ (take n xs) (x ∷ drop n xs) apart) in
    subst (All (λ y. y ≢ x)) (take-append-drop n xs)
    (All-append (λ y. y ≢ x) (take n xs) (drop n xs) (AllPairs-behind differ (take n xs) x (drop n xs) apart) (λ k d l same. behind k d l (sym same)))

-- ---- the first that passes a test

position_next : (m l : ℕ) → cond (nat_lt (1 + m) (suc l)) (Some (1 + m)) None ≡ option_map suc (cond (nat_lt m l) (Some m) None)
position_next m l = elim (cases_lt m l) [
  | inl below ↦
      let more : 1 + m ≡ suc m = omega arith in
      cond-true (nat_lt (1 + m) (suc l)) (Some (1 + m)) None (lt-ltb (1 + m) (suc l) (omega arith)) ∙ ap (λ i. Some i) more
      ∙ sym (ap (option_map suc) (cond-true (nat_lt m l) (Some m) None (lt-ltb m l below)))
  | inr past ↦
      cond-false (nat_lt (1 + m) (suc l)) (Some (1 + m)) None (le-ltb (1 + m) (suc l) (omega arith))
      ∙ sym (ap (option_map suc) (cond-false (nat_lt m l) (Some m) None (le-ltb m l past)))
]

position-cons : {A : Type 0} (p : A → Bool) (x : A) (xs : List A) → position p (x ∷ xs) ≡ cond (p x) (Some 0) (option_map suc (position p xs))
position-cons p x xs =
    elim (p x) as (λ b. cond (nat_lt (cond (not b) (1 + position_or_len p xs) 0) (suc (length xs))) (Some (cond (not b) (1 + position_or_len p xs) 0)) None ≡ cond b (Some 0) (option_map suc (position p xs))) [
      | true ↦ cond-true (nat_lt 0 (suc (length xs))) (Some 0) None (lt-ltb 0 (suc (length xs)) (omega arith))
      | false ↦ position_next (position_or_len p xs) (length xs)
    ]

first_moved : (found : Option ℕ) → found ≡ option_map (moved_up zero) (option_map suc found)
first_moved None = refl
first_moved (Some n) = refl

next_moved : (gone : ℕ) (found : Option ℕ) → option_map suc (option_map (moved_up gone) found) ≡ option_map (moved_up (suc gone)) (option_map suc found)
next_moved gone None = refl
next_moved gone (Some n) = refl

-- where what goes does not pass, what passes first moves up with its place
pub position-remove : {A : Type 0} (p : A → Bool) (xs : List A) (n : ℕ) (x : A) → slice_get xs n ≡ Some x → p x ≡ false → position p (remove xs n) ≡ option_map (moved_up n) (position p xs)
position-remove p [] n x at fails = absurd (none-some x at)
position-remove p (y ∷ ys) zero x at fails =
    let here : p y ≡ false = ap p (same_Some y x at) ∙ fails in
    first_moved (position p ys)
    ∙ ap (option_map (moved_up zero)) (sym (position-cons p y ys ∙ cond-false (p y) (Some 0) (option_map suc (position p ys)) here))
position-remove p (y ∷ ys) (suc n) x at fails =
    position-cons p y (remove ys n)
    ∙ ap (λ o. cond (p y) (Some 0) (option_map suc o)) (position-remove p ys n x at fails)
    ∙ elim (p y) as (λ b. cond b (Some 0) (option_map suc (option_map (moved_up n) (position p ys))) ≡ option_map (moved_up (suc n)) (cond b (Some 0) (option_map suc (position p ys)))) [
      | true ↦ refl
      | false ↦ next_moved n (position p ys)
    ]
    ∙ ap (option_map (moved_up (suc n))) (sym (position-cons p y ys))
