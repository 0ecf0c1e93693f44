-- The plan of a select that is told: which one the policy chooses.
use Rattle.std.specs.Prelude.{◌≡◌, ◌≢◌, ◌<◌, ◌≤◌, ◌*◌, ◌∷◌, ◌⊎◌, ℕ, List, [], false, true}
use Rattle.plain_tables.specs.declared.resolved.Joined.{Joined}
use Rattle.plain_tables.specs.declared.resolved.Query.{Query}
use Rattle.plan_chooser.specs.Choosing.{join_plan, next_join_plan, rows_of, select_plan}
use Rattle.plan_chooser.specs.declared.plans.JoinInput.{JoinInput}
use Rattle.plan_chooser.specs.declared.plans.JoinPlan.{JoinPlan}
use Rattle.plan_chooser.specs.declared.plans.SelectPlan.{SelectPlan}
use Rattle.plan_chooser.specs.declared.plans.SelectPlan.TheVariants.{Scan}
use Rattle.plan_chooser.specs.declared.policy.Policy.{Policy}
use Rattle.plan_chooser.specs.declared.policy.Policy.TheVariants.{Auto}
use Rattle.mm_catalog.specs.State.{CatalogState}
use Rattle.temp_list.specs.Reading.{OfRelation}
use Rattle.mm_session.specs.Batched.{source_numbers}
use Rattle.mm_session.specs.Members.{IsSideAt, IsSideOf}
use Rattle.mm_session.specs.Walked.{IsOrdered, ShowsOnce}
use Rattle.mm_session.specs.declared.execute.planned.QueryPlan.{QueryPlan}
use Rattle.mm_session.specs.declared.execute.planned.QueryPlan.TheVariants as plan
use Rattle.mm_session.specs.declared.execute.told.NextJoin.{NextJoin}
use Rattle.mm_session.specs.declared.execute.told.ToldPlan.{ToldPlan}
use Rattle.mm_session.specs.declared.execute.told.Way.{Way}
use Rattle.mm_session.specs.declared.execute.told.Way.TheVariants as way

-- the way of the plan that a select follows
abbrev pub way_of : QueryPlan → Way
way_of (plan.Search p) = way.Search p
way_of plan.Walk = way.Walk
way_of plan.DistinctScan = way.DistinctScan
way_of (plan.Found p) = way.Found p
way_of (plan.WholeTables first) = way.WholeTables first.plan
way_of (plan.Batches sources) = way.Batches

-- ---- the first table

-- the policy chooses this plan for the rows of the first table
abbrev pub IsChosenFirst : Policy → CatalogState → Query → SelectPlan → Type 0
IsChosenFirst policy c query p = OfRelation c.relations query.source.table.0 (λ s. p ≡ select_plan policy s query.source.tests)

-- the policy chooses an index for the rows of the first table
abbrev pub IsByIndex : Policy → CatalogState → Query → SelectPlan → Type 0
IsByIndex policy c query p = (p ≢ Scan) × IsChosenFirst policy c query p

-- The policy chooses this plan for the first join, of two whole tables.
pub record IsFirstJoin (policy : Policy) (c : CatalogState) (query : Query) (p : JoinPlan) : Type 0 where
  pub join : Joined
  pub rest : List Joined
  pub joins : query.joins ≡ join ∷ rest
  pub outer : JoinInput
  pub inner : JoinInput
  pub outer_side : IsSideOf c query.source join.outer.column outer
  pub inner_side : IsSideOf c join.source join.inner inner
  pub chosen : p ≡ join_plan policy outer inner

-- the way of a select of this kind that the policy chooses
abbrev pub IsWayOf : Policy → CatalogState → Query → Way → Type 0
IsWayOf policy c query (way.Search p) = IsOrdered query × IsByIndex policy c query p
IsWayOf policy c query way.Walk = IsOrdered query × IsChosenFirst policy c query Scan
IsWayOf policy c query way.DistinctScan = ShowsOnce query × IsChosenFirst policy c query Scan
IsWayOf policy c query (way.Found p) = ((query.distinct ≡ true) ⊎ (query.joins ≢ [])) × IsByIndex policy c query p
IsWayOf policy c query (way.WholeTables p) = IsFirstJoin policy c query p × IsChosenFirst policy c query Scan
IsWayOf policy c query way.Batches =
    (policy ≡ Auto) × (query.distinct ≡ false) × (query.joins ≢ []) × IsChosenFirst policy c query Scan

-- ---- the joins from the rows so far

-- The policy chooses one plan for all numbers of rows that are at most half of the inner table's, and one for all greater ones.
pub record IsNextPlan (policy : Policy) (outer inner : JoinInput) (next : NextJoin) : Type 0 where
  pub few : (n : ℕ) → 2 * n ≤ rows_of inner → next_join_plan policy n outer inner ≡ next.few
  pub many : (n : ℕ) → rows_of inner < 2 * n → next_join_plan policy n outer inner ≡ next.many

-- so it does for a join of the rows so far, which are over these sources or begin with them
pub record IsNextJoin (policy : Policy) (c : CatalogState) (sources : List ℕ) (join : Joined) (next : NextJoin) : Type 0 where
  pub outer : JoinInput
  pub inner : JoinInput
  pub outer_side : IsSideAt c sources join.outer outer
  pub inner_side : IsSideOf c join.source join.inner inner
  pub chosen : IsNextPlan policy outer inner next

-- so it does for each of the joins
abbrev pub AreNextJoins : Policy → CatalogState → List ℕ → List Joined → List NextJoin → Type 0
AreNextJoins policy c sources [] [] = Unit {0}
AreNextJoins policy c sources (join ∷ joins) (next ∷ nexts) = IsNextJoin policy c sources join next × AreNextJoins policy c sources joins nexts
AreNextJoins policy c sources [] (next ∷ nexts) = ⊥
AreNextJoins policy c sources (join ∷ joins) [] = ⊥

-- The plan of a select that the policy chooses.
pub record IsPlanOf (policy : Policy) (c : CatalogState) (query : Query) (told : ToldPlan) : Type 0 where
  pub way : IsWayOf policy c query told.way
  pub joins : AreNextJoins policy c (source_numbers query) query.joins told.joins.items
