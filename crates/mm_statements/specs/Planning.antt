-- Planning: the plan of the select that a line spells.
use Rattle.std.specs.Prelude.{ℕ, List, Ok}
use Rattle.plain_tables.specs.declared.refusal.Refusal.{Refusal}
use Rattle.plain_tables.specs.declared.refusal.Refusal.TheVariants.{NotACommand}
use Rattle.plain_tables.specs.declared.resolved.Resolved.TheVariants as resolved
use Rattle.plan_chooser.specs.declared.policy.Policy.{Policy}
use Rattle.mm_session.specs.Sessions.{State}
use Rattle.mm_session.specs.Told.{IsPlanOf}
use Rattle.mm_statements.specs.Querying.{IsChangeOfLine, IsMeaningOfLine, IsUnqueried}
use Rattle.mm_statements.specs.declared.planning.PlannedSelect.{PlannedSelect}

-- The line spells a select that means this of the tables, and some policy chooses this plan for it.
pub record IsPlanOfLine (session : State) (line : List ℕ) (told : PlannedSelect) : Type 0 where
  pub means : IsMeaningOfLine session.database line (Ok (resolved.Select told.query))
  pub policy : Policy
  pub plan : IsPlanOf policy session.catalog told.query told.plan

-- Why no plan is told of a line: nothing comes of it; or it spells an insert, an update or a delete.
pub data IsUnplanned (session : State) (line : List ℕ) : Refusal → Type 0 where
  unqueried : (why : Refusal) → IsUnqueried session line why → IsUnplanned session line why
  change : IsChangeOfLine session.database line → IsUnplanned session line NotACommand
