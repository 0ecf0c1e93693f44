-- Lent: commands that are lent.
use Rattle.plain_tables.specs.declared.resolved.Resolved.{Resolved}
use Rattle.plain_tables.specs.declared.resolved.Resolved.TheVariants as resolved
use Rattle.mm_prepared.specs.declared.lent.Lent.{Lent}
use Rattle.mm_prepared.specs.declared.lent.Lent.TheVariants.{Insert, Command}

-- the command that is lent
abbrev pub lent_command : Lent → Resolved
lent_command (Insert table row) = resolved.Insert table row.now
lent_command (Command command) = command.now
