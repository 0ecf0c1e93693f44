use Rattle.std.proofs.Common.{sym, subst}
use Rattle.plain_tables.specs.ResolvedLaws.{IsMeant}
use Rattle.plain_tables.specs.declared.resolved.Resolved.TheVariants as resolved
use Rattle.mm_catalog.specs.Seen.{database_of}
use Rattle.mm_reason.proofs.referrers.why_not_deleted.Goals as goal

pub why_kept-requires : goal.why_kept-requires
why_kept-requires c =
    let catalog = c.args.catalog.now in
    subst (λ tests. IsMeant catalog.limits (database_of catalog) (resolved.Delete c.in-Delete.table tests)) (sym c.as_slice.ensures) (rw c.in-Delete.is at c.requires)
