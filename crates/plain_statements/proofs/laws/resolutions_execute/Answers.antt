use Rattle.std.proofs.Common.{sym, ap}
use Rattle.plain_tables.specs.Commands.{effect_of_resolved}
use Rattle.plain_statements.specs.Executing.{ResolutionsExecute}
use Rattle.plain_statements.proofs.laws.resolutions_execute.Goals as goal

execute : ResolutionsExecute
execute limits tables s r values resolves = sym (ap (effect_of_resolved limits tables) (resolves values))

pub returns : goal.returns
returns c = execute
