-- Executing: what a statement does with values, and what it answers.
use Rattle.std.specs.Prelude.{◌≡◌, List, []}
use Rattle.plain_tables.specs.Databases.{Database}
use Rattle.plain_tables.specs.Effects.{Effect}
use Rattle.plain_tables.specs.Commands.{effect_of, effect_of_resolved}
use Rattle.plain_tables.specs.declared.command.Limits.{Limits}
use Rattle.plain_tables.specs.declared.value.Value.{Value}
use Rattle.plain_statements.specs.declared.statement.Statement.{Statement}
use Rattle.plain_statements.specs.declared.resolution.Resolution.{Resolution}
use Rattle.plain_statements.specs.Filling.{filled}
use Rattle.plain_statements.specs.Finishing.{finished}
use Rattle.plain_statements.specs.Laws.{Resolves}

-- A statement with these values in its holes does and answers what the filled command does.
abbrev pub executed : Limits → Database → Statement → List Value → Effect
executed limits tables s values = effect_of [] limits tables (filled values s)

-- what is done by a right resolution, once its values have come, is what the statement does
abbrev pub ResolutionsExecute : Type 0
ResolutionsExecute =
    (limits : Limits) (tables : Database) (s : Statement) (r : Resolution) (values : List Value) → Resolves tables s r
    → effect_of_resolved limits tables (finished values r) ≡ executed limits tables s values
