-- The cells that assignments set.
use Rattle.std.proofs.Common.{◌≡◌, ℕ, zero, suc, ◌≤◌, List, [], ◌∷◌, ◌++◌, Option, Some, refl, sym, ap, ◌∙◌, subst, arith, length, inl, inr}
use Rattle.std.specs.List.{slice_get}
use Rattle.std.proofs.lemmas.Bool.{cases_lt}
use Rattle.std.proofs.lemmas.Option.{none-some, same_Some}
use Rattle.common_lemmas.proofs.Places.{slice_get-front, slice_get-last}
use Rattle.plain_tables.specs.declared.resolved.Assignment.{Assignment}
use Rattle.mm_relation.specs.State.{RelationState}
use Rattle.mm_catalog.specs.Assigned.{CellSet, IsSetBy, AreFirstSetBy}

pub last_place : {A : Type 0} (xs : List A) (x : A) (k : ℕ) (y : A) → length xs ≤ k → slice_get (xs ++ x ∷ []) k ≡ Some y → k ≡ length xs
last_place [] x zero y above f = refl
last_place [] x (suc k) y above f = absurd (none-some y f)
last_place (z ∷ xs) x zero y above f = absurd (omega arith)
last_place (z ∷ xs) x (suc k) y above f = let rest = last_place xs x k y (omega arith) f in omega (arith, rest)

-- one more
pub sets_more : (relations : List RelationState) (targets : List (Option ℕ)) (assignments : List Assignment) (sets : List CellSet) (a : Assignment) (s : CellSet) → AreFirstSetBy relations targets assignments sets → slice_get assignments (length sets) ≡ Some a → IsSetBy relations targets a s → AreFirstSetBy relations targets assignments (sets ++ s ∷ [])
sets_more relations targets assignments sets a s first at is k b t e f =
    elim (cases_lt k (length sets)) [
      | inl below ↦ first k b t e (sym (slice_get-front sets (s ∷ []) k below) ∙ f)
      | inr above ↦
          let same : s ≡ t = slice_get-last sets s k t above f in
          let last : k ≡ length sets = last_place sets s k t above f in
          let named : a ≡ b = same_Some a b (sym at ∙ ap (slice_get assignments) (sym last) ∙ e) in
          subst (λ x. IsSetBy relations targets x t) named (subst (IsSetBy relations targets a) same is)
    ]
