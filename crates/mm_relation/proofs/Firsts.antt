-- A list with an element more at some place, and without the first that passes a test.
use Rattle.std.proofs.Common.{Bool, true, false, not, cond, ◌&&◌, ◌||◌, ◌≡◌, ◌≤◌, ◌<◌, ◌+◌, ◌++◌, ℕ, zero, suc, List, [], ◌∷◌, Some, None, refl, sym, ap, subst, ◌∙◌, arith, length, get_or, map, filter, take, drop, position}
use Rattle.std.specs.List.{All, insert, list_any, position_from}
use Rattle.std.proofs.lemmas.Bool.{and_parts}
use Rattle.std.proofs.lemmas.Iterator.Adapters.{position_from-zero}
use Rattle.std.proofs.lemmas.List.{length-append, length-map, map-append}
use Rattle.std.proofs.lemmas.List.Elements.{All-cons, All-map, All-tail, filter-append}
use Rattle.std.proofs.lemmas.List.Quantifiers.{position-Some}
use Rattle.std.proofs.lemmas.Option.{none-some}
use Rattle.mm_relation.specs.Taken.{IsFirst}
use Rattle.common_lemmas.proofs.Tests.{and_true}
use Rattle.mm_relation.specs.Declaring.{without_first}

-- ---- an element more

pub map-insert : {A B : Type 0} (f : A → B) (xs : List A) (i : ℕ) (x : A) → map f (insert xs i x) ≡ insert (map f xs) i (f x)
map-insert f [] zero x = refl
map-insert f [] (suc i) x = refl
map-insert f (y ∷ ys) zero x = refl
map-insert f (y ∷ ys) (suc i) x = ap (λ zs. f y ∷ zs) (map-insert f ys i x)

pub All-insert : {A : Type 0} (P : A → Type 0) (xs : List A) (i : ℕ) (x : A) → All P xs → P x → All P (insert xs i x)
All-insert P [] zero x h p = All-cons P x [] p h
All-insert P [] (suc i) x h p = All-cons P x [] p h
All-insert P (y ∷ ys) zero x h p = All-cons P x (y ∷ ys) p h
All-insert P (y ∷ ys) (suc i) x h p = All-cons P y (insert ys i x) (h 0 y (omega arith)) (All-insert P ys i x (All-tail P y ys h) p)

-- what those tell that pass a test, with one that passes it, and with one that doesn't
pub kind_inserted : {A B : Type 0} (f : A → B) (kind : A → Bool) (xs : List A) (i : ℕ) (x : A) → kind x ≡ true → map f (filter kind (insert xs i x)) ≡ insert (map f (filter kind xs)) (length (filter kind (take i xs))) (f x)
kind_inserted f kind [] zero x e = rw e refl
kind_inserted f kind [] (suc i) x e = rw e refl
kind_inserted f kind (y ∷ ys) zero x e = rw e refl
kind_inserted f kind (y ∷ ys) (suc i) x e = elim (kind y) as (λ b. map f (cond b (y ∷ filter kind (insert ys i x)) (filter kind (insert ys i x))) ≡ insert (map f (cond b (y ∷ filter kind ys) (filter kind ys))) (length (cond b (y ∷ filter kind (take i ys)) (filter kind (take i ys)))) (f x)) [
  | true ↦ ap (λ zs. f y ∷ zs) (kind_inserted f kind ys i x e)
  | false ↦ kind_inserted f kind ys i x e
]

pub other_inserted : {A : Type 0} (kind : A → Bool) (xs : List A) (i : ℕ) (x : A) → kind x ≡ false → filter kind (insert xs i x) ≡ filter kind xs
other_inserted kind [] zero x e = rw e refl
other_inserted kind [] (suc i) x e = rw e refl
other_inserted kind (y ∷ ys) zero x e = rw e refl
other_inserted kind (y ∷ ys) (suc i) x e = elim (kind y) as (λ b. cond b (y ∷ filter kind (insert ys i x)) (filter kind (insert ys i x)) ≡ cond b (y ∷ filter kind ys) (filter kind ys)) [
  | true ↦ ap (λ zs. y ∷ zs) (other_inserted kind ys i x e)
  | false ↦ other_inserted kind ys i x e
]

pub fewer_taken : {A : Type 0} (kind : A → Bool) (xs : List A) (i : ℕ) → length (filter kind (take i xs)) ≤ length (filter kind xs)
fewer_taken kind [] zero = omega arith
fewer_taken kind [] (suc i) = omega arith
fewer_taken kind (y ∷ ys) zero = omega arith
fewer_taken kind (y ∷ ys) (suc i) = elim (kind y) as (λ b. length (cond b (y ∷ filter kind (take i ys)) (filter kind (take i ys))) ≤ length (cond b (y ∷ filter kind ys) (filter kind ys))) [
  | true ↦ let less = fewer_taken kind ys i in omega (arith, less)
  | false ↦ fewer_taken kind ys i
]

-- those that pass a test and those that don't are all
pub both_kinds : {A : Type 0} (kind : A → Bool) (xs : List A) → length (filter kind xs) + length (filter (λ x. not (kind x)) xs) ≡ length xs
both_kinds kind [] = refl
both_kinds kind (x ∷ xs) =
    let rest = both_kinds kind xs in
    elim (kind x) as (λ b. length (cond b (x ∷ filter kind xs) (filter kind xs)) + length (cond (not b) (x ∷ filter (λ y. not (kind y)) xs) (filter (λ y. not (kind y)) xs)) ≡ length (x ∷ xs)) [
      | true ↦ omega (arith, rest)
      | false ↦ omega (arith, rest)
    ]

-- through a map
pub among-map : {A B C : Type 0} (g : A → B) (f : B → C) (kind : B → Bool) (xs : List A) → map f (filter kind (map g xs)) ≡ map (λ x. f (g x)) (filter (λ x. kind (g x)) xs)
among-map g f kind [] = refl
among-map g f kind (x ∷ xs) = elim (kind (g x)) as (λ b. map f (cond b (g x ∷ filter kind (map g xs)) (filter kind (map g xs))) ≡ map (λ y. f (g y)) (cond b (x ∷ filter (λ y. kind (g y)) xs) (filter (λ y. kind (g y)) xs))) [
  | true ↦ ap (λ zs. f (g x) ∷ zs) (among-map g f kind xs)
  | false ↦ among-map g f kind xs
]

-- ---- the first that passes a test

first_at : {A : Type 0} (test : A → Bool) (xs : List A) (i : ℕ) (x : A) → i < length xs → get_or xs i x ≡ x → test x ≡ true → ((k : ℕ) (d : A) → k < i → test (get_or xs k d) ≡ false) → IsFirst test xs i x
first_at test [] i x inside here e before = absurd (omega (arith, inside))
first_at test (y ∷ ys) zero x inside here e before = record { front = []; back = ys; split = ap (λ z. z ∷ ys) here; at = refl; apart = λ k d l. absurd (omega (arith, l)); passes = e }
first_at test (y ∷ ys) (suc i) x inside here e before =
    let rest = first_at test ys i x (omega (arith, inside)) here e (λ k d l. before (suc k) d (omega (arith, l))) in
    record {
      front = y ∷ rest.front;
      back = rest.back;
      split = ap (λ zs. y ∷ zs) rest.split;
      at = ap suc rest.at;
      apart = All-cons (λ z. test z ≡ false) y rest.front (before 0 y (omega arith)) rest.apart;
      passes = e;
    }

pub first_found : {A : Type 0} (test : A → Bool) (xs : List A) (i : ℕ) (x : A) → position test xs ≡ Some i → get_or xs i x ≡ x → IsFirst test xs i x
first_found test xs i x found here =
    first_at test xs i x (position-Some test xs i x found).0 here (sym (ap test here) ∙ (position-Some test xs i x found).1) (λ k d l. (position-Some test xs i d found).2 k l)

none_from : {A : Type 0} (test : A → Bool) (xs : List A) (i : ℕ) → position_from test i xs ≡ None → list_any test xs ≡ false
none_from test [] i none = refl
none_from test (x ∷ xs) i none = elim (test x) as (λ b. cond b (Some i) (position_from test (i + 1) xs) ≡ None → (b || list_any test xs) ≡ false) [
  | true ↦ λ e. absurd (none-some i (sym e))
  | false ↦ λ e. none_from test xs (i + 1) e
] none

pub none_found : {A : Type 0} (test : A → Bool) (xs : List A) → position test xs ≡ None → list_any test xs ≡ false
none_found test xs none = none_from test xs 0 (sym (position_from-zero test xs) ∙ none)

insert_between : {A : Type 0} (front back : List A) (x : A) → insert (front ++ back) (length front) x ≡ front ++ x ∷ back
insert_between [] back x = refl
insert_between (y ∷ ys) back x = ap (λ zs. y ∷ zs) (insert_between ys back x)

take_front : {A : Type 0} (front back : List A) → take (length front) (front ++ back) ≡ front
take_front [] back = refl
take_front (y ∷ ys) back = ap (λ zs. y ∷ zs) (take_front ys back)

first_gone : {A : Type 0} (test : A → Bool) (front back : List A) (x : A) → All (λ y. test y ≡ false) front → test x ≡ true → without_first test (front ++ x ∷ back) ≡ front ++ back
first_gone test [] back x apart e = rw e refl
first_gone test (y ∷ ys) back x apart e =
    let f : test y ≡ false = apart 0 y (omega arith) in
    rw f (ap (λ zs. y ∷ zs) (first_gone test ys back x (All-tail (λ z. test z ≡ false) y ys apart) e))

middle : {A : Type 0} (P : A → Type 0) (front back : List A) (x : A) → All P (front ++ x ∷ back) → P x
middle P [] back x h = h 0 x (omega arith)
middle P (y ∷ ys) back x h = middle P ys back x (All-tail P y (ys ++ x ∷ back) h)

module _ {A : Type 0} (test : A → Bool) (xs : List A) (i : ℕ) (x : A) (first : IsFirst test xs i x) where
  pub without : without_first test xs ≡ first.front ++ first.back
  without = ap (without_first test) first.split ∙ first_gone test first.front first.back x first.apart first.passes

  -- those before it, and the list with it again
  pub before_first : take i (without_first test xs) ≡ first.front
  before_first = ap (take i) without ∙ ap (λ n. take n (first.front ++ first.back)) (sym first.at) ∙ take_front first.front first.back

  pub put_back : insert (without_first test xs) i x ≡ xs
  put_back =
      ap (λ zs. insert zs i x) without ∙ ap (λ n. insert (first.front ++ first.back) n x) (sym first.at)
      ∙ insert_between first.front first.back x ∙ sym first.split

  pub first_holds : (P : A → Type 0) → All P xs → P x
  first_holds P h = middle P first.front first.back x (subst (All P) first.split h)

  -- the others are fewer
  pub length_without : length (without_first test xs) + 1 ≡ length xs
  length_without =
      let others : length (without_first test xs) ≡ length first.front + length first.back = ap length without ∙ length-append first.front first.back in
      let all : length xs ≡ length first.front + length (x ∷ first.back) = ap length first.split ∙ length-append first.front (x ∷ first.back) in
      omega (arith, others, all)

  pub within_others : i ≤ length (without_first test xs)
  within_others =
      let others : length (without_first test xs) ≡ length first.front + length first.back = ap length without ∙ length-append first.front first.back in
      omega (arith, others, first.at)

-- through a map, and among those that pass another test
pub first_map : {A B : Type 0} (f : A → B) (test : B → Bool) (xs : List A) (i : ℕ) (x : A) → IsFirst (λ y. test (f y)) xs i x → IsFirst test (map f xs) i (f x)
first_map f test xs i x first = record {
  front = map f first.front;
  back = map f first.back;
  split = ap (map f) first.split ∙ map-append f first.front (x ∷ first.back);
  at = length-map first.front f ∙ first.at;
  apart = All-map (λ y. test y ≡ false) f first.front first.apart;
  passes = first.passes;
}

apart_among : {A B : Type 0} (f : A → B) (at : B → Bool) (kind : A → Bool) (ys : List A) → All (λ y. (at (f y) && kind y) ≡ false) ys → All (λ z. at z ≡ false) (map f (filter kind ys))
apart_among f at kind [] apart = λ k d l. absurd (omega (arith, l))
apart_among f at kind (y ∷ ys) apart =
    let rest = apart_among f at kind ys (All-tail (λ z. (at (f z) && kind z) ≡ false) y ys apart) in
    (elim (kind y) as (λ b. (at (f y) && b) ≡ false → All (λ z. at z ≡ false) (map f (cond b (y ∷ filter kind ys) (filter kind ys)))) [
      | true ↦ λ e. All-cons (λ z. at z ≡ false) (f y) (map f (filter kind ys)) (sym (and_true (at (f y))) ∙ e) rest
      | false ↦ λ e. rest
    ]) (apart 0 y (omega arith))

pub first_among : {A B : Type 0} (f : A → B) (at : B → Bool) (kind : A → Bool) (xs : List A) (i : ℕ) (x : A) → (first : IsFirst (λ y. at (f y) && kind y) xs i x) → IsFirst at (map f (filter kind xs)) (length (filter kind first.front)) (f x)
first_among f at kind xs i x first = record {
  front = map f (filter kind first.front);
  back = map f (filter kind first.back);
  split =
      ap (λ zs. map f (filter kind zs)) first.split
      ∙ ap (map f) (filter-append kind first.front (x ∷ first.back))
      ∙ map-append f (filter kind first.front) (filter kind (x ∷ first.back))
      ∙ ap (λ b. map f (filter kind first.front) ++ map f (cond b (x ∷ filter kind first.back) (filter kind first.back))) (and_parts (at (f x)) (kind x) first.passes).1;
  at = length-map (filter kind first.front) f;
  apart = apart_among f at kind first.front first.apart;
  passes = (and_parts (at (f x)) (kind x) first.passes).0;
}

-- there is one first
same_front : {A : Type 0} (test : A → Bool) (x y : A) (xs ys us vs : List A) → All (λ z. test z ≡ false) xs → All (λ z. test z ≡ false) us → test x ≡ true → test y ≡ true → xs ++ x ∷ ys ≡ us ++ y ∷ vs → length xs ≡ length us
same_front test x y [] ys [] vs apart others e f same = refl
same_front test x y [] ys (u ∷ us) vs apart others e f same =
    let head : x ≡ u = ap (λ l. get_or l 0 x) same in
    let no : test u ≡ false = others 0 u (omega arith) in
    let yes : test u ≡ true = sym (ap test head) ∙ e in
    absurd (cc)
same_front test x y (z ∷ zs) ys [] vs apart others e f same =
    let head : z ≡ y = ap (λ l. get_or l 0 x) same in
    let no : test z ≡ false = apart 0 z (omega arith) in
    let yes : test z ≡ true = ap test head ∙ f in
    absurd (cc)
same_front test x y (z ∷ zs) ys (u ∷ us) vs apart others e f same =
    ap suc (same_front test x y zs ys us vs (All-tail (λ w. test w ≡ false) z zs apart) (All-tail (λ w. test w ≡ false) u us others) e f (ap (drop 1) same))

pub one_first : {A : Type 0} (test : A → Bool) (xs : List A) (i j : ℕ) (x y : A) → IsFirst test xs i x → IsFirst test xs j y → i ≡ j
one_first test xs i j x y first other =
    sym first.at ∙ same_front test x y first.front first.back other.front other.back first.apart other.apart first.passes other.passes (sym first.split ∙ other.split) ∙ other.at
