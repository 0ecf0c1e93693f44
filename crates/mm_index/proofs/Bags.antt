-- Lists that are the same bag.
use Rattle.std.proofs.Common.{◌≡◌, ℕ, ◌+◌, ◌<◌, Bool, true, false, not, cond, ◌==◌, ◌&&◌, List, [], ◌∷◌, ◌++◌, length, get_or, refl, sym, ap, ◌∙◌, arith, subst}
use Rattle.std.specs.List.{filter, count_by, swap_remove, Contains}
use Rattle.std.specs.Prelude.{map}
use Rattle.std.proofs.lemmas.List.{get_or_default}
use Rattle.std.proofs.lemmas.List.Filters.{sum_by-filter_both}
use Rattle.std.proofs.lemmas.List.Sums.{sum_by-cons, sum_by-append, sum_by_push, sum_by-swap_remove}
use Rattle.std.specs.Bool.{Decides}
use Rattle.std.proofs.lemmas.Bool.{eq-eqb, eqb-true}
use Rattle.common_lemmas.proofs.Counts.{one, count_by-map, count_by-true, count_by-member, member-from_count_by}
use Rattle.common_lemmas.proofs.Elements.{Contains-filter, Contains-from_filter, Contains-map, Contains-from_map}
use Rattle.mm_index.specs.Bag.{IsSameBag, with_hash}

pub IsSameBag-refl : {A : Type 0} (xs : List A) → IsSameBag xs xs
IsSameBag-refl xs = record { count = λ test. refl }

pub IsSameBag-sym : {A : Type 0} {xs ys : List A} → IsSameBag xs ys → IsSameBag ys xs
IsSameBag-sym h = record { count = λ test. sym (h.count test) }

pub IsSameBag-trans : {A : Type 0} {xs ys zs : List A} → IsSameBag xs ys → IsSameBag ys zs → IsSameBag xs zs
IsSameBag-trans h k = record { count = λ test. h.count test ∙ k.count test }

-- one list is the other
pub IsSameBag-from_same : {A : Type 0} (xs ys : List A) → xs ≡ ys → IsSameBag xs ys
IsSameBag-from_same xs ys e = record { count = λ test. ap (count_by test) e }

-- the same of each element of a bag
pub IsSameBag-map : {A B : Type 0} (f : A → B) {xs ys : List A} → IsSameBag xs ys → IsSameBag (map f xs) (map f ys)
IsSameBag-map f {xs} {ys} h = record { count = λ test. count_by-map test f xs ∙ h.count (λ x. test (f x)) ∙ sym (count_by-map test f ys) }

pub IsSameBag-append : {A : Type 0} {xs ys us vs : List A} → IsSameBag xs ys → IsSameBag us vs → IsSameBag (xs ++ us) (ys ++ vs)
IsSameBag-append {A} {xs} {ys} {us} {vs} h k = record {
  count = λ test. sum_by-append (one test) xs us ∙ (rw (h.count test, k.count test) (sym (sum_by-append (one test) ys vs)));
}

pub IsSameBag-cons : {A : Type 0} {xs ys : List A} (x : A) → IsSameBag xs ys → IsSameBag (x ∷ xs) (x ∷ ys)
IsSameBag-cons {A} {xs} {ys} x h = record {
  count = λ test. sum_by-cons (one test) x xs ∙ ap (λ n. one test x + n) (h.count test) ∙ sym (sum_by-cons (one test) x ys);
}

-- an element at the end, or in front
pub IsSameBag-push : {A : Type 0} (xs : List A) (x : A) → IsSameBag (xs ++ x ∷ []) (x ∷ xs)
IsSameBag-push xs x = record {
  count = λ test.
      let end : count_by test (xs ++ x ∷ []) ≡ count_by test xs + one test x = sum_by_push (one test) xs x in
      let front : count_by test (x ∷ xs) ≡ one test x + count_by test xs = sum_by-cons (one test) x xs in
      omega arith;
}

-- an element in the middle, or in front
pub IsSameBag-middle : {A : Type 0} (bs cs : List A) (x : A) → IsSameBag (bs ++ x ∷ cs) (x ∷ bs ++ cs)
IsSameBag-middle bs cs x = record {
  count = λ test.
      let parts : count_by test (bs ++ x ∷ cs) ≡ count_by test bs + count_by test (x ∷ cs) = sum_by-append (one test) bs (x ∷ cs) in
      let back : count_by test (x ∷ cs) ≡ one test x + count_by test cs = sum_by-cons (one test) x cs in
      let whole : count_by test (x ∷ bs ++ cs) ≡ one test x + count_by test (bs ++ cs) = sum_by-cons (one test) x (bs ++ cs) in
      let joined : count_by test (bs ++ cs) ≡ count_by test bs + count_by test cs = sum_by-append (one test) bs cs in
      omega arith;
}

-- what passes a test, and what fails it
pub IsSameBag-filter_both : {A : Type 0} (p : A → Bool) (xs : List A) → IsSameBag (filter p xs ++ filter (λ x. not (p x)) xs) xs
IsSameBag-filter_both p xs = record {
  count = λ test. sum_by-append (one test) (filter p xs) (filter (λ x. not (p x)) xs) ∙ sum_by-filter_both p (λ x. not (p x)) (λ x. refl) (one test) xs;
}

-- what `swap_remove` takes out, and what it leaves
pub IsSameBag-swap_remove : {A : Type 0} (xs : List A) (i : ℕ) (x d : A) → i < length xs → get_or xs i x ≡ x → IsSameBag xs (x ∷ swap_remove xs i d)
IsSameBag-swap_remove xs i x d inside e = record {
  count = λ test.
      let whole : count_by test (swap_remove xs i d) + one test (get_or xs i d) ≡ count_by test xs = sum_by-swap_remove (one test) xs i d inside in
      let front : count_by test (x ∷ swap_remove xs i d) ≡ one test x + count_by test (swap_remove xs i d) =
      sum_by-cons (one test) x (swap_remove xs i d) in
      let same : one test (get_or xs i d) ≡ one test x = ap (one test) (get_or_default xs i d x inside ∙ e) in
      omega arith;
}

-- bags are as long as each other
pub length-same_bag : {A : Type 0} (xs ys : List A) → IsSameBag xs ys → length xs ≡ length ys
length-same_bag xs ys h = sym (count_by-true xs) ∙ h.count (λ x. true) ∙ count_by-true ys

-- what a bag holds under a hash
count_by-with_hash : {A : Type 0} (test : A → Bool) (hash : ℕ) (entries : List (ℕ × A)) → count_by test (with_hash hash entries) ≡ count_by (λ e. (e.0 == hash) && test e.1) entries
count_by-with_hash test hash [] = refl
count_by-with_hash {A} test hash (e ∷ es) =
    let kept : List (ℕ × A) = filter (λ d. d.0 == hash) es in
    let both : ℕ × A → Bool = λ d. (d.0 == hash) && test d.1 in
    let rest : count_by test (map (λ d. d.1) kept) ≡ count_by both es = count_by-with_hash test hash es in
    elim (e.0 == hash) as (λ b. count_by test (map (λ d. d.1) (cond b (e ∷ kept) kept)) ≡ cond (b && test e.1) 1 0 + count_by both es) [
      | true ↦ sum_by-cons (one test) e.1 (map (λ d. d.1) kept) ∙ ap (λ n. one test e.1 + n) rest
      | false ↦ omega (arith, rest)
    ] ∙ sym (sum_by-cons (one both) e es)

pub IsSameBag-with_hash : {A : Type 0} (hash : ℕ) {xs ys : List (ℕ × A)} → IsSameBag xs ys → IsSameBag (with_hash hash xs) (with_hash hash ys)
IsSameBag-with_hash hash {xs} {ys} h = record {
  count = λ test. count_by-with_hash test hash xs ∙ h.count (λ e. (e.0 == hash) && test e.1) ∙ sym (count_by-with_hash test hash ys);
}

-- where a test tells equal elements
pub Contains-same_bag : {A : Type 0} (same : A → A → Bool) → ((a b : A) → Decides (same a b) (a ≡ b)) → (xs ys : List A) (x : A) → IsSameBag xs ys → Contains xs x → Contains ys x
Contains-same_bag same decides xs ys x bag h =
    let here : 0 < count_by (same x) xs = count_by-member (same x) xs x h ((decides x x).1 refl) in
    let there = member-from_count_by (same x) ys (rw (bag.count (same x)) at here) in
    subst (Contains ys) (sym ((decides x there.0).0 there.2)) there.1

-- what is held under a hash
pub Contains-with_hash : {A : Type 0} (hash : ℕ) (entries : List (ℕ × A)) (r : A) → Contains entries (hash, r) → Contains (with_hash hash entries) r
Contains-with_hash {A} hash entries r h =
    Contains-map (λ (e : ℕ × A). e.1) (filter (λ e. e.0 == hash) entries) (hash, r)
    (Contains-filter (λ (e : ℕ × A). e.0 == hash) entries (hash, r) h (eq-eqb hash hash refl))

pub Contains-from_with_hash : {A : Type 0} (hash : ℕ) (entries : List (ℕ × A)) (r : A) → Contains (with_hash hash entries) r → Contains entries (hash, r)
Contains-from_with_hash {A} hash entries r h =
    let test : ℕ × A → Bool = λ e. e.0 == hash in
    let found = Contains-from_map (λ (e : ℕ × A). e.1) (filter test entries) r h in
    let there = Contains-from_filter test entries found.0 found.1 in
    let key : found.0.0 ≡ hash = eqb-true found.0.0 hash there.1 in
    let pair : found.0 ≡ (hash, r) = λ i. (key i, found.2 i) in
    subst (Contains entries) pair there.0
