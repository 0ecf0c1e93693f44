-- A list that rises by a strict order: where an element stands, and what `insert_by` and `remove_by` make of it.
use Rattle.std.proofs.Common.{◌≡◌, ◌≢◌, ℕ, ◌+◌, ◌<◌, Bool, false, not, List, ◌∷◌, ◌++◌, length, get_or, take, drop, refl, sym, ap, ◌∙◌, arith, subst, inl, inr, Ordering, add-one}
use Rattle.std.specs.List.{filter, All, AllWithin, Contains, insert, remove}
use Rattle.std.specs.declared.cmp.Ordering.TheVariants.{Less, Equal, Greater}
use Rattle.std.specs.Ordering.{is_lt, is_gt, is_eq, ordering_reverse}
use Rattle.std.proofs.lemmas.List.{get_or_default, take-append-drop, drop_more}
use Rattle.std.proofs.lemmas.List.Elements.{All-filter, All-cons, Contains-get_or, filter_passes, filter-append}
use Rattle.std.proofs.lemmas.List.Kept.{AllPairs-cons, AllPairs-filter}
use Rattle.std.proofs.lemmas.Bool.{cases_order}
use Rattle.common_lemmas.proofs.Orders.{is_lt-Less, is_gt-Greater, Greater-from_neither, Equal-from_reverse}
use Rattle.mm_index.specs.Order.{IsStrictOver, IsRising, insert_placed, insert_by, remove_by}
use Rattle.common_lemmas.proofs.Filters.{filter_first, filter_second, filter_all, filter_agree_on}
use Rattle.common_lemmas.proofs.Elements.{All-take_within, All-drop_within}
use Rattle.common_lemmas.proofs.Pairs.{AllPairs-append}

-- r goes between what stands below its place and what stands above it
pub insert_placed_split : {A : Type 0} (place : A → Ordering) (r : A) (bs cs : List A) → All (λ q. place q ≡ Less) bs → All (λ q. place q ≡ Greater) cs → insert_placed place r (bs ++ cs) ≡ bs ++ r ∷ cs
unfolding insert_placed
insert_placed_split place r bs cs below above =
    let front : filter (λ q. is_lt (place q)) (bs ++ cs) ≡ bs =
    filter_first (λ q. is_lt (place q)) bs cs (λ k d l. ap is_lt (below k d l)) (λ k d l. ap is_lt (above k d l)) in
    let back : filter (λ q. is_gt (place q)) (bs ++ cs) ≡ cs =
    filter_second (λ q. is_gt (place q)) bs cs (λ k d l. ap is_gt (below k d l)) (λ k d l. ap is_gt (above k d l)) in
    cc

pub insert_placed_at : {A : Type 0} (place : A → Ordering) (r : A) (xs : List A) (i : ℕ) → AllWithin (λ q. place q ≡ Less) xs 0 i → AllWithin (λ q. place q ≡ Greater) xs i (length xs) → insert_placed place r xs ≡ insert xs i r
insert_placed_at place r xs i below above =
    ap (insert_placed place r) (sym (take-append-drop i xs))
    ∙ insert_placed_split place r (take i xs) (drop i xs) (All-take_within (λ q. place q ≡ Less) xs i below)
    (All-drop_within (λ q. place q ≡ Greater) xs i above)

-- a probe that places each member as the order stands it to r puts r at its place by the order
pub insert_placed_by : {A : Type 0} (cmp : A → A → Ordering) (place : A → Ordering) (r : A) (xs : List A) → All (λ q. place q ≡ cmp q r) xs → insert_placed place r xs ≡ insert_by cmp r xs
unfolding insert_placed insert_by
insert_placed_by cmp place r xs agree =
    let low : filter (λ q. is_lt (place q)) xs ≡ filter (λ q. is_lt (cmp q r)) xs =
    filter_agree_on (λ q. is_lt (place q)) (λ q. is_lt (cmp q r)) xs (λ k d l. ap is_lt (agree k d l)) in
    let high : filter (λ q. is_gt (place q)) xs ≡ filter (λ q. is_gt (cmp q r)) xs =
    filter_agree_on (λ q. is_gt (place q)) (λ q. is_gt (cmp q r)) xs (λ k d l. ap is_gt (agree k d l)) in
    rw (low, high) refl

module _ {A : Type 0} (cmp : A → A → Ordering) (r : A) (bs cs : List A) (below : All (λ q. cmp q r ≡ Less) bs) (above : All (λ q. cmp q r ≡ Greater) cs) where
  -- and they close up where it is taken out
  pub remove_by_split : cmp r r ≡ Equal → remove_by cmp r (bs ++ r ∷ cs) ≡ bs ++ cs
  unfolding remove_by
  remove_by_split same =
      let others : A → Bool = λ q. not (is_eq (cmp q r)) in
      let front : filter others bs ≡ bs = filter_all others bs (λ k d l. ap (λ o. not (is_eq o)) (below k d l)) in
      let back : filter others cs ≡ cs = filter_all others cs (λ k d l. ap (λ o. not (is_eq o)) (above k d l)) in
      let itself : others r ≡ false = ap (λ o. not (is_eq o)) same in
      filter-append others bs (r ∷ cs) ∙ rw (front, itself, back) refl

module _ {A : Type 0} (covers : A → Type 0) (cmp : A → A → Ordering) (order : IsStrictOver covers cmp) where
  -- an element is Equal to itself
  pub cmp_itself : (a : A) → covers a → cmp a a ≡ Equal
  cmp_itself a c = Equal-from_reverse (cmp a a) (order.antisymm a a c c)

  -- below either way round
  pub cmp_from_Greater : (a b : A) → covers a → covers b → cmp a b ≡ Greater → cmp b a ≡ Less
  cmp_from_Greater a b c d e = order.antisymm b a d c ∙ ap ordering_reverse e

  pub cmp_from_Less : (a b : A) → covers a → covers b → cmp a b ≡ Less → cmp b a ≡ Greater
  cmp_from_Less a b c d e = order.antisymm b a d c ∙ ap ordering_reverse e

  -- the list still rises
  pub IsRising-insert_by : (r : A) (xs : List A) → All covers xs → covers r → IsRising cmp xs → IsRising cmp (insert_by cmp r xs)
  unfolding insert_by insert_placed
  IsRising-insert_by r xs covered r_covered rising =
      let R : A → A → Type 0 = λ a b. cmp a b ≡ Less in
      let low : A → Bool = λ q. is_lt (cmp q r) in
      let high : A → Bool = λ q. is_gt (cmp q r) in
      let above : All (R r) (filter high xs) = λ k d l.
      cmp_from_Greater (get_or (filter high xs) k d) r (All-filter high covers xs covered k d l) r_covered
      (is_gt-Greater _ (filter_passes high xs k d l))
      in
      let before : All (λ b. All (R b) (r ∷ filter high xs)) (filter low xs) = λ k d l.
      let b : A = get_or (filter low xs) k d in
      let b_covered : covers b = All-filter low covers xs covered k d l in
      let b_low : cmp b r ≡ Less = is_lt-Less _ (filter_passes low xs k d l) in
      All-cons (R b) r (filter high xs) b_low
      (λ j e m. order.trans b r (get_or (filter high xs) j e) b_covered r_covered (All-filter high covers xs covered j e m) b_low (above j e m))
      in
      AllPairs-append R (filter low xs) (r ∷ filter high xs) (AllPairs-filter R low xs rising)
      (AllPairs-cons R r (filter high xs) above (AllPairs-filter R high xs rising)) before

  pub IsRising-remove_by : (r : A) (xs : List A) → IsRising cmp xs → IsRising cmp (remove_by cmp r xs)
  unfolding remove_by
  IsRising-remove_by r xs rising = AllPairs-filter (λ a b. cmp a b ≡ Less) (λ q. not (is_eq (cmp q r))) xs rising

  -- a member of a rising list, between what stands below it and what stands above it
  module _ (r : A) (xs : List A) (covered : All covers xs) (r_covered : covers r) (rising : IsRising cmp xs) (held : Contains xs r) where
    pub split_at_member : xs ≡ take held.0 xs ++ r ∷ drop (held.0 + 1) xs
    split_at_member =
        sym (take-append-drop held.0 xs)
        ∙ ap (λ ys. take held.0 xs ++ ys) (drop_more xs held.0 r held.1 ∙ ap (λ x. x ∷ drop (held.0 + 1) xs) held.2)

    here : (d : A) → get_or xs held.0 d ≡ r
    here d = get_or_default xs held.0 d r held.1 ∙ held.2

    below_member : All (λ q. cmp q r ≡ Less) (take held.0 xs)
    below_member =
        All-take_within (λ q. cmp q r ≡ Less) xs held.0
        (λ k d l m. subst (λ a. cmp (get_or xs k d) a ≡ Less) (here d) (rising k held.0 d m held.1))

    above_member : All (λ q. cmp q r ≡ Greater) (drop (held.0 + 1) xs)
    above_member =
        All-drop_within (λ q. cmp q r ≡ Greater) xs (held.0 + 1)
        (λ k d l m. cmp_from_Less r (get_or xs k d) r_covered (covered k d m)
        (subst (λ a. cmp a (get_or xs k d) ≡ Less) (here d) (rising held.0 k d (omega arith) m)))

    pub remove_by_member : remove_by cmp r xs ≡ take held.0 xs ++ drop (held.0 + 1) xs
    remove_by_member =
        ap (remove_by cmp r) split_at_member
        ∙ remove_by_split cmp r (take held.0 xs) (drop (held.0 + 1) xs) below_member above_member (cmp_itself r r_covered)

  module _ (r : A) (xs : List A) (i : ℕ) (covered : All covers xs) (r_covered : covers r) (below : AllWithin (λ q. cmp q r ≡ Less) xs 0 i) (not_below : AllWithin (λ q. cmp q r ≢ Less) xs i (length xs)) where
    -- i is the place of an element that is not there
    pub insert_by_at : (Contains xs r → ⊥) → insert_by cmp r xs ≡ insert xs i r
    unfolding insert_by
    insert_by_at absent =
        insert_placed_at (λ q. cmp q r) r xs i below
        (λ k d l m. Greater-from_neither (cmp (get_or xs k d) r) (not_below k d l m)
        (λ e. absent (subst (Contains xs) (order.strict (get_or xs k d) r (covered k d m) r_covered e) (Contains-get_or xs k d m))))

    -- i is the place of an element that is there
    at_place : IsRising cmp xs → Contains xs r → (i < length xs) × ((d : A) → get_or xs i d ≡ r)
    at_place rising held =
        let k = held.0 in
        let here : cmp (get_or xs k r) r ≡ Equal = rw held.2 (cmp_itself r r_covered) in
        elim (cases_order k i) [
          | inl same ↦
              let inside : i < length xs = rw (← same) held.1 in
              (inside, λ d. get_or_default xs i d r inside ∙ rw (← same) held.2)
          | inr (inl before) ↦ absurd (let e = below k r (omega arith) before in (let f : Less ≡ Equal = sym e ∙ here in cc))
          | inr (inr after) ↦ absurd (not_below i r (omega arith) (omega (arith, held.1)) (subst (λ a. cmp (get_or xs i r) a ≡ Less) held.2 (rising i k r after held.1)))
        ]

    pub remove_by_at : IsRising cmp xs → Contains xs r → (i < length xs) × (remove_by cmp r xs ≡ remove xs i)
    remove_by_at rising held =
        let here = at_place rising held in
        (here.0, remove_by_member r xs covered r_covered rising (i, here.0, here.1 r) ∙ rw add-one refl)
