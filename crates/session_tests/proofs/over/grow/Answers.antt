use Rattle.std.proofs.Common.{ap, ◌∙◌, subst, sym}
use Rattle.std.specs.Prelude.{Ok}
use Rattle.plain_tables.specs.ResolvedLaws.{IsMeant}
use Rattle.plain_tables.specs.declared.resolved.Resolved.TheVariants as resolved
use Rattle.plain_tables.proofs.ResolvedCommands.{resolved_are_meant}
use Rattle.mm_catalog.specs.Seen.{database_of}
use Rattle.session_tests.proofs.over.grow.Goals as goal

pub create-requires : goal.create-requires
create-requires c =
    resolved_are_meant _ c.args.catalog.now.limits (database_of c.args.catalog.now) c.args.command (resolved.Table c.in-Table.name c.in-Table.schema)
    c.requires (c.in_ok-name.ensures.meant ∙ ap Ok c.in-Table.is)

pub insert-requires : goal.insert-requires
insert-requires c =
    subst (λ values. IsMeant c.args.catalog.now.limits (database_of c.args.catalog.now) (resolved.Insert c.in-Insert.table values)) (sym c.as_slice.ensures)
    (resolved_are_meant _ c.args.catalog.now.limits (database_of c.args.catalog.now) c.args.command (resolved.Insert c.in-Insert.table c.in-Insert.values)
    c.requires (c.in_ok-name.ensures.meant ∙ ap Ok c.in-Insert.is))
