-- Command: what a command does to a database, and what it answers.
use Rattle.std.specs.Prelude.{List, Result, Ok, Err}
use Rattle.plain_tables.specs.Databases.{Database}
use Rattle.plain_tables.specs.Effects.{Effect, refused}
use Rattle.plain_tables.specs.CsvReading.{Record}
use Rattle.plain_tables.specs.Resolving.{resolved_of}
use Rattle.plain_tables.specs.Doing.{done}
use Rattle.plain_tables.specs.declared.refusal.Refusal.{Refusal}
use Rattle.plain_tables.specs.declared.command.Limits.{Limits}
use Rattle.plain_tables.specs.declared.command.Command.{Command}
use Rattle.plain_tables.specs.declared.resolved.Resolved.{Resolved}

-- what comes of a command that is resolved so: what is done, or the refusal, which leaves the database as it was
abbrev pub effect_of_resolved : Limits → Database → Result Resolved Refusal → Effect
effect_of_resolved limits tables (Ok r) = done limits tables r
effect_of_resolved limits tables (Err why) = refused tables why

-- A command is resolved, and then done. The records are those of the block behind its line; a command without a block has none.
abbrev pub effect_of : List Record → Limits → Database → Command → Effect
effect_of records limits tables c = effect_of_resolved limits tables (resolved_of records tables c)
