-- Lists that rise by one order are told by their members.
use Rattle.std.proofs.Common.{◌≡◌, suc, List, [], ◌∷◌, refl, sym, ap, ◌∙◌, subst, arith, inl, inr}
use Rattle.std.specs.List.{Contains}
use Rattle.std.specs.Cmp.{IsTotalOrder}
use Rattle.std.specs.Ordering.{ordering_reverse}
use Rattle.std.specs.declared.cmp.Ordering.{Ordering}
use Rattle.std.specs.declared.cmp.Ordering.TheVariants.{Less, Greater}
use Rattle.common_lemmas.proofs.Elements.{Contains-cons_cases, Contains-cons}
use Rattle.mm_index.specs.Order.{IsRising}

module _ {A : Type 0} (cmp : A → A → Ordering) (total : IsTotalOrder cmp) where
  not_both : (a b : A) → cmp a b ≡ Less → cmp b a ≡ Less → ⊥
  not_both a b e f = let g : Less ≡ Greater = sym e ∙ total.antisymm a b ∙ ap ordering_reverse f in absurd (cc)

  below_rest : (x : A) (xs : List A) → IsRising cmp (x ∷ xs) → (a : A) → Contains xs a → cmp x a ≡ Less
  below_rest x xs rising a h = subst (λ b. cmp x b ≡ Less) h.2 (rising 0 (suc h.0) a (omega arith) (omega (arith, h.1)))

  rest_rises : (x : A) (xs : List A) → IsRising cmp (x ∷ xs) → IsRising cmp xs
  rest_rises x xs rising = λ i j d below within. rising (suc i) (suc j) d (omega arith) (omega arith)

  none_in : (a : A) → Contains [] a → ⊥
  none_in a h = absurd (omega (arith, h.1))

  same_first : (x y : A) (xs ys : List A) → IsRising cmp (x ∷ xs) → IsRising cmp (y ∷ ys) → Contains (y ∷ ys) x → Contains (x ∷ xs) y → x ≡ y
  same_first x y xs ys rises others here there =
      elim (Contains-cons_cases y ys x here) [
        | inl e ↦ e
        | inr behind ↦ elim (Contains-cons_cases x xs y there) [
          | inl e ↦ sym e
          | inr after ↦ absurd (not_both x y (below_rest x xs rises y after) (below_rest y ys others x behind))
        ]
      ]

  rest_in : (x y : A) (xs ys : List A) → x ≡ y → IsRising cmp (x ∷ xs) → ((a : A) → Contains (x ∷ xs) a → Contains (y ∷ ys) a) → (a : A) → Contains xs a → Contains ys a
  rest_in x y xs ys same rises in' a h =
      elim (Contains-cons_cases y ys a (in' a (Contains-cons x xs a h))) [
        | inl e ↦
            let below : cmp x a ≡ Less = below_rest x xs rises a h in
            let itself : cmp a a ≡ Less = subst (λ b. cmp b a ≡ Less) (same ∙ sym e) below in
            absurd (not_both a a itself itself)
        | inr behind ↦ behind
      ]

  -- two lists that rise, and have the same members, are one
  pub rising_same : (xs ys : List A) → IsRising cmp xs → IsRising cmp ys → ((a : A) → Contains xs a → Contains ys a) → ((a : A) → Contains ys a → Contains xs a) → xs ≡ ys
  rising_same [] [] rises others in' back = refl
  rising_same [] (y ∷ ys) rises others in' back = absurd (none_in y (back y (0, omega arith, refl)))
  rising_same (x ∷ xs) [] rises others in' back = absurd (none_in x (in' x (0, omega arith, refl)))
  rising_same (x ∷ xs) (y ∷ ys) rises others in' back =
      let same = same_first x y xs ys rises others (in' x (0, omega arith, refl)) (back y (0, omega arith, refl)) in
      ap (λ z. z ∷ xs) same
      ∙ ap (λ zs. y ∷ zs) (rising_same xs ys (rest_rises x xs rises) (rest_rises y ys others) (rest_in x y xs ys same rises in') (rest_in y x ys xs (sym same) others back))
