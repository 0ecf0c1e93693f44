-- The plan that is told of a select.
use Rattle.std.proofs.Common.{◌≡◌, ◌∙◌, ◌+◌, ◌<◌, ◌≤◌, ◌*◌, ℕ, List, [], ◌∷◌, ◌++◌, ap, get_or, length, refl, subst, sym, take}
use Rattle.std.proofs.lemmas.Bool.{le-leb, lt-leb}
use Rattle.std.proofs.lemmas.List.{take_more}
use Rattle.std.specs.Prelude.{Bool, nat_le, ◌&&◌, if◌then◌else◌}
use Rattle.plain_tables.specs.declared.resolved.Joined.{Joined}
use Rattle.plan_chooser.specs.Choosing.{next_join_plan, rows_of}
use Rattle.plan_chooser.specs.Plans.{has_tree, refers}
use Rattle.plan_chooser.specs.declared.plans.JoinInput.{JoinInput}
use Rattle.plan_chooser.specs.declared.plans.NextJoinPlan.{NextJoinPlan}
use Rattle.plan_chooser.specs.declared.plans.NextJoinPlan.TheVariants as next
use Rattle.plan_chooser.specs.declared.policy.Policy.{Policy}
use Rattle.plan_chooser.specs.declared.policy.Policy.TheVariants as policy
use Rattle.mm_catalog.specs.State.{CatalogState}
use Rattle.mm_session.specs.Told.{AreNextJoins, IsNextJoin}
use Rattle.mm_session.specs.declared.execute.told.NextJoin.{NextJoin}

-- ---- the choice of a later join

module _ (outer inner : JoinInput) where
  -- what is chosen where the policy says nothing of its own, if few rows search the tree, or many
  abbrev auto_for : Bool → NextJoinPlan
  auto_for few = if refers outer inner then next.Precomputed else if has_tree inner && few then next.TreeJoin else next.HashJoin

  -- the choice asks of the number of rows only whether they are few
  chosen_alike : (p : Policy) (n m : ℕ) → nat_le (2 * n) (rows_of inner) ≡ nat_le (2 * m) (rows_of inner) → next_join_plan p n outer inner ≡ next_join_plan p m outer inner
  chosen_alike policy.Auto n m same = ap auto_for same
  chosen_alike policy.Scan n m same = refl
  chosen_alike policy.Hash n m same = refl
  chosen_alike policy.Tree n m same = ap (λ (few : Bool). if has_tree inner then next.TreeJoin else auto_for few) same
  chosen_alike policy.Merge n m same = ap auto_for same

  pub few_alike : (p : Policy) (n m : ℕ) → 2 * n ≤ rows_of inner → 2 * m ≤ rows_of inner → next_join_plan p n outer inner ≡ next_join_plan p m outer inner
  few_alike p n m few also = chosen_alike p n m (le-leb (2 * n) (rows_of inner) few ∙ sym (le-leb (2 * m) (rows_of inner) also))

  pub many_alike : (p : Policy) (n m : ℕ) → rows_of inner < 2 * n → rows_of inner < 2 * m → next_join_plan p n outer inner ≡ next_join_plan p m outer inner
  many_alike p n m many also = chosen_alike p n m (lt-leb (2 * n) (rows_of inner) many ∙ sym (lt-leb (2 * m) (rows_of inner) also))

-- ---- those of all joins

module _ (p : Policy) (c : CatalogState) (sources : List ℕ) where
  next_behind : (joins : List Joined) (nexts : List NextJoin) (join : Joined) (next : NextJoin) → AreNextJoins p c sources joins nexts → IsNextJoin p c sources join next
      → AreNextJoins p c sources (joins ++ join ∷ []) (nexts ++ next ∷ [])
  next_behind [] [] join next are is = (is, tt)
  next_behind [] (n ∷ nexts) join next are is = absurd are
  next_behind (j ∷ joins) [] join next are is = absurd are
  next_behind (j ∷ joins) (n ∷ nexts) join next are is = (are.0, next_behind joins nexts join next are.1 is)

  -- one join more
  pub next_more : (joins : List Joined) (nexts : List NextJoin) (i : ℕ) (join : Joined) (next : NextJoin) → i < length joins → get_or joins i join ≡ join
      → AreNextJoins p c sources (take i joins) nexts → IsNextJoin p c sources join next → AreNextJoins p c sources (take (i + 1) joins) (nexts ++ next ∷ [])
  next_more joins nexts i join next within at are is =
      subst (λ (js : List Joined). AreNextJoins p c sources js (nexts ++ next ∷ [])) (sym (take_more joins i join within ∙ ap (λ (j : Joined). take i joins ++ j ∷ []) at))
      (next_behind (take i joins) nexts join next are is)
