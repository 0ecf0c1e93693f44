-- Told: what was given has columns, if it is rows.
use Rattle.std.proofs.Common.{List}
use Rattle.plain_tables.specs.Effects.{Effect}
use Rattle.plain_tables.specs.declared.value.Value.{Value}
use Rattle.mm_session.specs.Sessions.{State}
use Rattle.mm_statements.specs.Executing.{HasGiven}
use Rattle.mm_statements.specs.declared.database.Executed.{Executed}
use Rattle.mm_statements.specs.declared.database.Executed.TheVariants as gives
use Rattle.mm_database.specs.StatementCalls.{HasColumns}

pub has_columns : (new : State) (effect : Effect) (given : Executed) (cells : List Value) → HasGiven new effect given cells → HasColumns given
has_columns new effect (gives.Changed count) cells h = tt
has_columns new effect (gives.Rows columns) cells h = h.2
