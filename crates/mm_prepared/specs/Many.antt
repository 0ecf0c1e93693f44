-- Many: what a change does with many rows of values.
use Rattle.std.specs.Prelude.{◌≡◌, ℕ, ◌+◌, List, [], ◌∷◌, Option, Some, None, Result, Ok, Err}
use Rattle.plain_tables.specs.Commands.{effect_of_resolved}
use Rattle.plain_tables.specs.Databases.{Database}
use Rattle.plain_tables.specs.Doing.{in_record}
use Rattle.plain_tables.specs.Effects.{Effect, Outcome, Changed, Refused, refused}
use Rattle.plain_tables.specs.Resolving.{resolved_of}
use Rattle.plain_tables.specs.declared.command.Limits.{Limits}
use Rattle.plain_tables.specs.declared.refusal.Refusal.{Refusal}
use Rattle.plain_tables.specs.declared.refusal.Refusal.TheVariants.{NotACommand}
use Rattle.plain_tables.specs.declared.resolved.Resolved.{Resolved}
use Rattle.plain_tables.specs.declared.resolved.Resolved.TheVariants as resolved
use Rattle.plain_tables.specs.declared.value.Value.{Value}
use Rattle.plain_statements.specs.declared.resolution.Resolution.{Resolution}
use Rattle.plain_statements.specs.declared.statement.Statement.{Statement}
use Rattle.plain_statements.specs.Executing.{executed}
use Rattle.plain_statements.specs.Filling.{filled}
use Rattle.plain_statements.specs.Finishing.{finished}

-- what a statement is with a row of values as a change; a select is none, and is refused by 20
abbrev pub as_change : Result Resolved Refusal → Result Resolved Refusal
as_change (Ok (resolved.Select query)) = Err NotACommand
as_change means = means

-- this refusal, or else another
abbrev pub refusal_or : Option Refusal → Result Resolved Refusal → Option Refusal
refusal_or other (Err why) = Some why
refusal_or other (Ok change) = other

-- the refusal of the first of these rows of values that is none of a change, by what each row means
abbrev pub first_refusal : (List Value → Result Resolved Refusal) → List (List Value) → Option Refusal
first_refusal means [] = None
first_refusal means (row ∷ rows) = refusal_or (first_refusal means rows) (as_change (means row))

-- What comes of the next effect, where so many rows were changed before it. A refusal is that of the record of this number.
abbrev pub after_outcome : ℕ → ℕ → (ℕ → Database → Effect) → Database → Outcome → Effect
after_outcome k count next tables (Changed n) = next (count + n) tables
after_outcome k count next tables (Refused why) = refused tables (in_record k why)
after_outcome k count next tables outcome = next count tables

-- The rows of values are taken one after the other, the first as the record of this number, where so many rows of tables were changed before
-- it: the tables then, and how many rows were changed in all; or the first refusal.
abbrev pub each_in_turn : (Database → List Value → Effect) → List (List Value) → ℕ → ℕ → Database → Effect
each_in_turn does [] k count tables = record { database = tables; outcome = Changed count }
each_in_turn does (row ∷ rows) k count tables =
    let e = does tables row in after_outcome k count (each_in_turn does rows (k + 1)) e.database e.outcome

-- the effect, or its refusal alone, which leaves these tables
abbrev pub or_none : Database → Effect → Outcome → Effect
or_none tables e (Refused why) = refused tables why
or_none tables e outcome = e

abbrev pub all_or_none : Database → Effect → Effect
all_or_none tables e = or_none tables e e.outcome

-- unless it is refused before anything is done
abbrev pub unless_refused : Database → Option Refusal → Effect → Effect
unless_refused tables (Some why) e = refused tables why
unless_refused tables None e = e

-- A statement is executed with each of these rows of values, one after the other, all of them or none. First each row has to make a change
-- of it by what its values are. Refusals of a row's execution have the number of the row, counted from 1, as those of a load's records.
abbrev pub executed_many : Limits → Database → Statement → List (List Value) → Effect
executed_many limits tables s rows =
    unless_refused tables (first_refusal (λ row. resolved_of [] tables (filled row s)) rows)
    (all_or_none tables (each_in_turn (λ d row. executed limits d s row) rows 1 0 tables))

-- ---- by what a statement is resolved to

-- the statement is a change with these values
pub record IsChangeWith (r : Resolution) (values : List Value) : Type 0 where
  pub command : Resolved
  pub means : finished values r ≡ Ok command
  pub change : as_change (Ok command) ≡ Ok command

-- the refusal of the first of these rows of values that is none of a change
abbrev pub first_unfit : Resolution → List (List Value) → Option Refusal
first_unfit r rows = first_refusal (λ row. finished row r) rows

-- what the statement does to tables with a row of values
abbrev pub effect_with : Limits → Resolution → Database → List Value → Effect
effect_with limits r tables row = effect_of_resolved limits tables (finished row r)

-- what it does with each of these rows of values, one after the other
abbrev pub effect_with_each : Limits → Resolution → List (List Value) → Database → Effect
effect_with_each limits r rows tables = each_in_turn (effect_with limits r) rows 1 0 tables
