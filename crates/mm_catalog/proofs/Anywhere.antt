-- Whether an element passes a test, in lists that are made of others.
use Rattle.std.proofs.Common.{◌≡◌, ℕ, suc, ◌+◌, Bool, true, false, ◌||◌, ◌&&◌, List, [], ◌∷◌, Option, Some, None, refl, sym, ap, ◌∙◌, subst, arith, length, map, add-zero}
use Rattle.std.specs.List.{All, Contains, cons_option, count_by, filter_map, flat_map, list_all, list_any, range_with_len, slice_get, zip}
use Rattle.std.specs.Option.{option_map_or}
use Rattle.std.proofs.lemmas.Bool.{and_from, false_from_ne_true, false≢true}
use Rattle.std.proofs.lemmas.List.Elements.{All-contains, All-head, All-tail}
use Rattle.std.proofs.lemmas.List.Folds.{list_any-append}
use Rattle.std.proofs.lemmas.List.Sums.{sum_by-cons}
use Rattle.common_lemmas.proofs.Counts.{one}
use Rattle.common_lemmas.proofs.Elements.{All-from_list_all}

pub any_flat : {A B : Type 0} (p : B → Bool) (f : A → List B) (xs : List A) → list_any p (flat_map f xs) ≡ list_any (λ x. list_any p (f x)) xs
any_flat p f [] = refl
any_flat p f (x ∷ xs) = list_any-append p (f x) (flat_map f xs) ∙ ap (λ b. list_any p (f x) || b) (any_flat p f xs)

pub any_filter_map : {A B : Type 0} (p : B → Bool) (h : A → Option B) (xs : List A) → list_any p (filter_map h xs) ≡ list_any (λ x. option_map_or p (h x) false) xs
any_filter_map p h [] = refl
any_filter_map p h (x ∷ xs) = first (h x) (filter_map h xs) ∙ ap (λ b. option_map_or p (h x) false || b) (any_filter_map p h xs)
  where
    first : (o : Option _) (ys : List _) → list_any p (cons_option o ys) ≡ (option_map_or p o false || list_any p ys)
    first None ys = refl
    first (Some y) ys = refl

pub any_alike : {A : Type 0} (f g : A → Bool) (xs : List A) → All (λ x. f x ≡ g x) xs → list_any f xs ≡ list_any g xs
any_alike f g [] same = refl
any_alike f g (x ∷ xs) same =
    ap (λ b. b || list_any f xs) (same 0 x (omega arith)) ∙ ap (λ b. g x || b) (any_alike f g xs (λ k d l. same (suc k) d (omega arith)))

-- side by side with others
pub any_zip : {A B : Type 0} (f : A × B → Bool) (g : B → Bool) (xs : List A) (ys : List B) → length xs ≡ length ys → ((i : ℕ) (a : A) (b : B) → slice_get xs i ≡ Some a → slice_get ys i ≡ Some b → f (a, b) ≡ g b) → list_any f (zip xs ys) ≡ list_any g ys
any_zip f g [] [] e same = refl
any_zip f g (a ∷ xs) (b ∷ ys) e same =
    ap (λ t. t || list_any f (zip xs ys)) (same 0 a b refl refl) ∙ ap (λ t. g b || t) (any_zip f g xs ys (omega arith) (λ i. same (suc i)))
any_zip f g xs ys e same = absurd (omega arith)

-- side by side with what is made of their numbers
pub any_numbered : {A B : Type 0} (f : A × B → Bool) (g : ℕ → Bool) (make : ℕ → B) (xs : List A) (a : ℕ) → ((j : ℕ) (x : A) → slice_get xs j ≡ Some x → f (x, make (a + j)) ≡ g (a + j)) → list_any f (zip xs (map make (range_with_len a (length xs)))) ≡ list_any g (range_with_len a (length xs))
any_numbered f g make [] a same = refl
any_numbered f g make (x ∷ xs) a same =
    let here : f (x, make a) ≡ g a = subst (λ i. f (x, make i) ≡ g i) (add-zero a) (same 0 x refl) in
    ap (λ t. t || list_any f (zip xs (map make (range_with_len (a + 1) (length xs))))) here
    ∙ ap (λ t. g a || t)
    (any_numbered f g make xs (a + 1) (λ j y at. let further : a + suc j ≡ a + 1 + j = omega arith in subst (λ i. f (y, make i) ≡ g i) further (same (suc j) y at)))

-- ---- none, or all

-- where none passes, none is counted
pub none_counted : {A : Type 0} (p : A → Bool) (xs : List A) → All (λ x. p x ≡ false) xs → count_by p xs ≡ 0
none_counted p [] fail = refl
none_counted p (x ∷ xs) fail =
    let here : one p x ≡ 0 = rw (All-head (λ y. p y ≡ false) x xs fail) refl in
    omega (arith, sum_by-cons (one p) x xs, here, none_counted p xs (All-tail (λ y. p y ≡ false) x xs fail))

pub all_pass : {A : Type 0} (p : A → Bool) (xs : List A) → All (λ x. p x ≡ true) xs → list_all p xs ≡ true
all_pass p [] all = refl
all_pass p (x ∷ xs) all = and_from (p x) (list_all p xs) (All-head (λ y. p y ≡ true) x xs all) (all_pass p xs (All-tail (λ y. p y ≡ true) x xs all))

pub not_all_pass : {A : Type 0} (p : A → Bool) (xs : List A) (x : A) → Contains xs x → p x ≡ false → list_all p xs ≡ false
not_all_pass p xs x there fails =
    false_from_ne_true (list_all p xs) (λ all. false≢true (sym fails ∙ All-contains (λ y. p y ≡ true) xs x (All-from_list_all p xs all) there))

-- ---- tests that say the same

pub same_tests : (a b : Bool) → (a ≡ true → b ≡ true) → (b ≡ true → a ≡ true) → a ≡ b
same_tests true b there back = sym (there refl)
same_tests false true there back = back refl
same_tests false false there back = refl

pub and_alike : (b x y : Bool) → (b ≡ true → x ≡ y) → (b && x) ≡ (b && y)
and_alike true x y same = same refl
and_alike false x y same = refl
