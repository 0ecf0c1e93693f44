-- What an insert and a removal by a strict order do to a list's members, its bag and its length.
use Rattle.std.proofs.Common.{◌≡◌, ◌≢◌, ◌+◌, ◌≤◌, Bool, true, not, List, ◌∷◌, length, get_or, take, drop, refl, sym, ap, ◌∙◌, ◌⊎◌, arith, subst, inl, inr, Ordering}
use Rattle.std.specs.List.{filter, All, Contains}
use Rattle.std.specs.declared.cmp.Ordering.TheVariants.{Less, Equal, Greater}
use Rattle.std.specs.Ordering.{is_lt, is_gt, is_eq, ordering_index}
use Rattle.std.proofs.lemmas.List.Elements.{All-filter, All-append, All-cons, All-contains, Contains-get_or, Contains-append_left, Contains-append_right}
use Rattle.std.proofs.lemmas.Bool.{cases_order, true≢false}
use Rattle.mm_index.specs.Bag.{IsSameBag}
use Rattle.mm_index.specs.Order.{IsStrictOver, IsRising, insert_placed, insert_by, remove_by}
use Rattle.mm_index.specs.Range.{NeverFalls}
use Rattle.mm_index.proofs.Bags.{IsSameBag-trans, IsSameBag-cons, IsSameBag-from_same, IsSameBag-middle, IsSameBag-filter_both, length-same_bag}
use Rattle.common_lemmas.proofs.Filters.{filter_agree_on}
use Rattle.common_lemmas.proofs.Elements.{Contains-cons, Contains-filter, Contains-from_filter}
use Rattle.mm_index.proofs.Placed.{cmp_itself, split_at_member, remove_by_member}

-- a fact of each member is one of each after an insert
pub All-insert_placed : {A : Type 0} (P : A → Type 0) (place : A → Ordering) (r : A) (xs : List A) → All P xs → P r → All P (insert_placed place r xs)
unfolding insert_placed
All-insert_placed P place r xs h k =
    All-append P (filter (λ q. is_lt (place q)) xs) (r ∷ filter (λ q. is_gt (place q)) xs)
    (All-filter (λ q. is_lt (place q)) P xs h) (All-cons P r (filter (λ q. is_gt (place q)) xs) k (All-filter (λ q. is_gt (place q)) P xs h))

pub All-insert_by : {A : Type 0} (P : A → Type 0) (cmp : A → A → Ordering) (r : A) (xs : List A) → All P xs → P r → All P (insert_by cmp r xs)
unfolding insert_by
All-insert_by P cmp r xs h k = All-insert_placed P (λ q. cmp q r) r xs h k

pub All-remove_by : {A : Type 0} (P : A → Type 0) (cmp : A → A → Ordering) (r : A) (xs : List A) → All P xs → All P (remove_by cmp r xs)
unfolding remove_by
All-remove_by P cmp r xs h = All-filter (λ q. not (is_eq (cmp q r))) P xs h

-- r is there after an insert, and whatever is there besides was there
pub Contains-insert_placed_itself : {A : Type 0} (place : A → Ordering) (r : A) (xs : List A) → Contains (insert_placed place r xs) r
unfolding insert_placed
Contains-insert_placed_itself place r xs =
    Contains-append_right (filter (λ q. is_lt (place q)) xs) (r ∷ filter (λ q. is_gt (place q)) xs) r (0, omega arith, refl)

pub Contains-insert_by_itself : {A : Type 0} (cmp : A → A → Ordering) (r : A) (xs : List A) → Contains (insert_by cmp r xs) r
unfolding insert_by
Contains-insert_by_itself cmp r xs = Contains-insert_placed_itself (λ q. cmp q r) r xs

-- a list rises by each order that agrees with one by which it rises, at its members
pub IsRising-agree : {A : Type 0} (cmp other : A → A → Ordering) (xs : List A) → ((p q : A) → Contains xs p → Contains xs q → other p q ≡ cmp p q) → IsRising cmp xs → IsRising other xs
IsRising-agree cmp other xs agree rising = λ i j d l m.
    agree (get_or xs i d) (get_or xs j d) (Contains-get_or xs i d (omega arith)) (Contains-get_or xs j d m) ∙ rising i j d l m

-- places that go with the order never fall along a list that rises by it
pub NeverFalls-from_rising : {A : Type 0} (cmp : A → A → Ordering) (place : A → Ordering) (xs : List A) → ((p q : A) → Contains xs p → Contains xs q → cmp p q ≡ Less → ordering_index (place p) ≤ ordering_index (place q)) → IsRising cmp xs → NeverFalls place xs
NeverFalls-from_rising cmp place xs monotone rising = λ i j d l m.
    elim (cases_order i j) [
      | inl same ↦ rw same (omega arith)
      | inr (inl before) ↦ monotone (get_or xs i d) (get_or xs j d) (Contains-get_or xs i d (omega arith)) (Contains-get_or xs j d m) (rising i j d before m)
      | inr (inr after) ↦ absurd (omega arith)
    ]

not_lt-gt : (o : Ordering) → o ≢ Equal → is_gt o ≡ not (is_lt o)
not_lt-gt Equal h = absurd (h refl)
not_lt-gt o h = refl

-- where nothing stands at its place, r is one more
pub IsSameBag-insert_placed : {A : Type 0} (place : A → Ordering) (r : A) (xs : List A) → All (λ q. place q ≢ Equal) xs → IsSameBag (insert_placed place r xs) (r ∷ xs)
unfolding insert_placed
IsSameBag-insert_placed {A} place r xs none =
    let low : A → Bool = λ q. is_lt (place q) in
    let high : A → Bool = λ q. is_gt (place q) in
    let rest : filter high xs ≡ filter (λ q. not (low q)) xs = filter_agree_on high (λ q. not (low q)) xs (λ k d l. not_lt-gt (place (get_or xs k d)) (none k d l)) in
    IsSameBag-trans (IsSameBag-middle (filter low xs) (filter high xs) r)
    (IsSameBag-cons r (rw rest (IsSameBag-filter_both low xs)))

test_fails : (o : Ordering) → o ≡ Equal → not (is_eq o) ≡ true → ⊥
test_fails o e h = true≢false (sym h ∙ ap (λ p. not (is_eq p)) e)

module _ {A : Type 0} (covers : A → Type 0) (cmp : A → A → Ordering) (order : IsStrictOver covers cmp) (r : A) (r_covered : covers r) (xs : List A) (covered : All covers xs) where
  -- what was there is there after an insert
  pub Contains-insert_by : (q : A) → Contains xs q → Contains (insert_by cmp r xs) q
  unfolding insert_by insert_placed
  Contains-insert_by q h =
      let low : A → Bool = λ a. is_lt (cmp a r) in
      let high : A → Bool = λ a. is_gt (cmp a r) in
      elim (cmp q r) as (λ o. cmp q r ≡ o → Contains (insert_by cmp r xs) q) [
        | Less ↦ λ e. Contains-append_left (filter low xs) (r ∷ filter high xs) q (Contains-filter low xs q h (ap is_lt e))
        | Equal ↦ λ e. subst (Contains (insert_by cmp r xs)) (sym (order.strict q r (All-contains covers xs q covered h) r_covered e)) (Contains-insert_by_itself cmp r xs)
        | Greater ↦ λ e. Contains-append_right (filter low xs) (r ∷ filter high xs) q (Contains-cons r (filter high xs) q (Contains-filter high xs q h (ap is_gt e)))
      ] refl

  -- what was there is r, or is there after a removal
  pub Contains-remove_by_cases : (q : A) → Contains xs q → (q ≡ r) ⊎ Contains (remove_by cmp r xs) q
  unfolding remove_by
  Contains-remove_by_cases q h =
      let others : A → Bool = λ a. not (is_eq (cmp a r)) in
      elim (cmp q r) as (λ o. cmp q r ≡ o → (q ≡ r) ⊎ Contains (remove_by cmp r xs) q) [
        | Less ↦ λ e. inr (Contains-filter others xs q h (ap (λ o. not (is_eq o)) e))
        | Equal ↦ λ e. inl (order.strict q r (All-contains covers xs q covered h) r_covered e)
        | Greater ↦ λ e. inr (Contains-filter others xs q h (ap (λ o. not (is_eq o)) e))
      ] refl

  pub Contains-remove_by : (q : A) → Contains xs q → q ≢ r → Contains (remove_by cmp r xs) q
  Contains-remove_by q h other = elim (Contains-remove_by_cases q h) [ inl same ↦ absurd (other same) | inr there ↦ there ]

  pub Contains-from_remove_by : (q : A) → Contains (remove_by cmp r xs) q → Contains xs q × (q ≢ r)
  unfolding remove_by
  Contains-from_remove_by q h =
      let both = Contains-from_filter (λ a. not (is_eq (cmp a r))) xs q h in
      (both.0, λ e. test_fails (cmp q r) (ap (λ a. cmp a r) e ∙ cmp_itself covers cmp order r r_covered) both.1)

  -- one more after an insert, and one fewer after a removal
  none_equal : (Contains xs r → ⊥) → All (λ q. cmp q r ≢ Equal) xs
  none_equal absent k d l e =
      absent (subst (Contains xs) (order.strict (get_or xs k d) r (covered k d l) r_covered e) (Contains-get_or xs k d l))

  pub IsSameBag-insert_by : (Contains xs r → ⊥) → IsSameBag (insert_by cmp r xs) (r ∷ xs)
  unfolding insert_by
  IsSameBag-insert_by absent = IsSameBag-insert_placed (λ q. cmp q r) r xs (none_equal absent)

  pub IsSameBag-remove_by : IsRising cmp xs → Contains xs r → IsSameBag xs (r ∷ remove_by cmp r xs)
  IsSameBag-remove_by rising held =
      IsSameBag-trans (IsSameBag-from_same _ _ (split_at_member covers cmp order r xs covered r_covered rising held))
      (IsSameBag-trans (IsSameBag-middle (take held.0 xs) (drop (held.0 + 1) xs) r)
      (IsSameBag-cons r (IsSameBag-from_same _ _ (sym (remove_by_member covers cmp order r xs covered r_covered rising held)))))

  pub length-insert_by : (Contains xs r → ⊥) → length (insert_by cmp r xs) ≡ length xs + 1
  length-insert_by absent = length-same_bag (insert_by cmp r xs) (r ∷ xs) (IsSameBag-insert_by absent) ∙ omega arith

  pub length-remove_by : IsRising cmp xs → Contains xs r → length (remove_by cmp r xs) + 1 ≡ length xs
  length-remove_by rising held =
      let fewer : length xs ≡ length (r ∷ remove_by cmp r xs) = length-same_bag xs (r ∷ remove_by cmp r xs) (IsSameBag-remove_by rising held) in
      omega arith
