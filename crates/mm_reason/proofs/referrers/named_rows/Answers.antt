use Rattle.std.proofs.Common.{[]}
use Rattle.plain_tables.specs.declared.command.Command.TheVariants as command
use Rattle.plain_tables.proofs.ResolvedCommands.{resolved_are_meant}
use Rattle.mm_catalog.specs.Seen.{database_of}
use Rattle.mm_reason.proofs.referrers.named_rows.Goals as goal

pub why_not_deleted-told-requires : goal.why_not_deleted-told-requires
why_not_deleted-told-requires c =
    let catalog = c.args.catalog.now in
    resolved_are_meant [] catalog.limits (database_of catalog) (command.Delete c.args.table c.args.conditions) c.in-Ok.deletion tt c.in-Ok.ensures.meant
