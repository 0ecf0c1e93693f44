-- A list that rises by a strict order, searched for a reference that it does not hold.
use Rattle.std.proofs.Common.{◌≡◌, ℕ, ◌≤◌, List, [], ◌∷◌, get_or, refl, sym, ap, ◌∙◌, arith, inl, inr, Ordering}
use Rattle.std.specs.List.{All}
use Rattle.std.specs.declared.cmp.Ordering.TheVariants.{Less, Equal, Greater}
use Rattle.std.specs.Ordering.{ordering_index}
use Rattle.std.proofs.lemmas.List.Elements.{All-nil}
use Rattle.std.proofs.lemmas.Bool.{cases_order}
use Rattle.common_lemmas.proofs.Orders.{ordering_index_within}
use Rattle.mm_index.specs.Order.{IsStrictOver, IsRising, insert_placed, insert_by}
use Rattle.mm_index.specs.Range.{NeverFalls}
use Rattle.mm_index.proofs.Placed.{insert_placed_split}

module _ {A : Type 0} (covers : A → Type 0) (cmp : A → A → Ordering) (order : IsStrictOver covers cmp) where
  rises_to : (a b r : A) → covers a → covers b → covers r → cmp a b ≡ Less → (o : Ordering) → cmp b r ≡ o → ordering_index (cmp a r) ≤ ordering_index o
  rises_to a b r p q s l Less e = omega (arith, ap ordering_index (order.trans a b r p q s l e))
  rises_to a b r p q s l Equal e = omega (arith, ap ordering_index (sym (ap (λ (x : A). cmp a x) (order.strict b r q s e)) ∙ l))
  rises_to a b r p q s l Greater e = ordering_index_within (cmp a r)

  -- the places beside r never fall
  pub NeverFalls-by_order : (r : A) (xs : List A) → All covers xs → covers r → IsRising cmp xs → NeverFalls (λ q. cmp q r) xs
  NeverFalls-by_order r xs covered r_covered rising = λ i j d l m.
      elim (cases_order i j) [
        | inl same ↦ omega (arith, ap (λ (k : ℕ). ordering_index (cmp (get_or xs k d) r)) same)
        | inr (inl before) ↦
            rises_to (get_or xs i d) (get_or xs j d) r (covered i d (omega arith)) (covered j d m) r_covered (rising i j d before m) (cmp (get_or xs j d) r) refl
        | inr (inr after) ↦ absurd (omega arith)
      ]

-- into an empty list
pub insert_placed_first : {A : Type 0} (place : A → Ordering) (r : A) → insert_placed place r [] ≡ r ∷ []
insert_placed_first place r = insert_placed_split place r [] [] (All-nil (λ q. place q ≡ Less)) (All-nil (λ q. place q ≡ Greater))

-- a probe for r puts it at its place by the order
pub insert_placed-by : {A : Type 0} (cmp : A → A → Ordering) (r : A) (xs : List A) → insert_placed (λ q. cmp q r) r xs ≡ insert_by cmp r xs
unfolding insert_by
insert_placed-by cmp r xs = refl
