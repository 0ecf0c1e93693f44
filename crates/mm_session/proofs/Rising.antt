-- A sorted list is the strictly rising list of the same elements.
use Rattle.std.proofs.Common.{◌≡◌, ℕ, ◌+◌, ◌<◌, Bool, List, Ordering, length, get_or, sym, ap, ◌∙◌, arith, inl, inr}
use Rattle.std.specs.Bool.{Decides}
use Rattle.std.specs.List.{Contains}
use Rattle.std.specs.List.Sorted.{IsSorted}
use Rattle.std.specs.Cmp.{IsTotalOrder}
use Rattle.std.specs.Ordering.{is_lt, ordering_reverse}
use Rattle.std.specs.declared.cmp.Ordering.TheVariants.{Less, Equal}
use Rattle.std.proofs.lemmas.Bool.{cases_lt}
use Rattle.std.proofs.lemmas.List.{get_or_default}
use Rattle.std.proofs.lemmas.List.Elements.{All-contains_itself}
use Rattle.mm_index.specs.Bag.{IsSameBag}
use Rattle.mm_index.specs.Order.{IsRising}
use Rattle.mm_index.proofs.Bags.{Contains-same_bag}
use Rattle.temp_list.proofs.OneOrder.{one_order}

module _ {A : Type 0} (cmp : A → A → Ordering) (total : IsTotalOrder cmp) (ys : List A) (rise : IsRising cmp ys) where
  below : (i j : ℕ) (x y : A) → get_or ys i x ≡ x → get_or ys j y ≡ y → i < j → j < length ys → cmp x y ≡ Less
  below i j x y e f before within =
      let at : get_or ys j x ≡ y = get_or_default ys j x y within ∙ f in
      sym (λ k. cmp (e k) (at k)) ∙ rise i j x before within

  -- members that the order doesn't tell apart are one
  one_member : (x y : A) → Contains ys x → Contains ys y → cmp x y ≡ Equal → x ≡ y
  one_member x y (i, p, e) (j, q, f) same = elim (cases_lt i j) [
    | inl before ↦ absurd (let less : cmp x y ≡ Less = below i j x y e f before q in cc)
    | inr behind ↦ elim (cases_lt j i) [
      | inl after ↦
          absurd (let less : cmp y x ≡ Less = below j i y x f e after p in let turned : cmp y x ≡ Equal = total.antisymm y x ∙ ap ordering_reverse same in cc)
      | inr neither ↦
          let here : i ≡ j = omega (arith, behind, neither) in
          sym e ∙ ap (λ k. get_or ys k x) here ∙ get_or_default ys j x y q ∙ f
    ]
  ]

  never_falls : IsSorted cmp ys
  never_falls k d low high =
      let less : cmp (get_or ys k d) (get_or ys (k + 1) d) ≡ Less = rise k (k + 1) d (omega arith) high in
      ap is_lt (total.antisymm (get_or ys (k + 1) d) (get_or ys k d) ∙ ap ordering_reverse less)

pub sorted_is_rising : {A : Type 0} (cmp : A → A → Ordering) → IsTotalOrder cmp → (same : A → A → Bool) → ((x y : A) → Decides (same x y) (x ≡ y))
    → (xs ys : List A) → IsSameBag xs ys → IsSorted cmp xs → IsRising cmp ys → xs ≡ ys
sorted_is_rising cmp total same decides xs ys bag up rise =
    one_order cmp total (Contains ys) (one_member cmp total ys rise) same decides xs ys
    (λ k d l. Contains-same_bag same decides xs ys (get_or xs k d) bag (All-contains_itself xs k d l)) (All-contains_itself ys) bag up (never_falls cmp total ys rise)
