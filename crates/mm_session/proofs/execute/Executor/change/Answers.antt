use Rattle.std.proofs.Common.{sym, subst}
use Rattle.plain_tables.specs.ResolvedLaws.{IsMeant}
use Rattle.plain_tables.specs.declared.resolved.Resolved.TheVariants as resolved
use Rattle.mm_catalog.specs.Seen.{database_of}
use Rattle.mm_session.proofs.execute.Executor.change.Goals as goal

pub update_rows-requires : goal.update_rows-requires
update_rows-requires c =
    let old = c.args.self.now.tables.catalog in
    subst (λ tests. IsMeant old.limits (database_of old) (resolved.Update c.in-Update.table c.as_slice-in-Update.result.now tests)) (sym c.as_slice-in-Update-2.ensures)
    (subst (λ assignments. IsMeant old.limits (database_of old) (resolved.Update c.in-Update.table assignments c.in-Update.tests)) (sym c.as_slice-in-Update.ensures)
    (rw c.in-Update.is at c.requires.meant))

pub delete_rows-requires : goal.delete_rows-requires
delete_rows-requires c =
    let old = c.args.self.now.tables.catalog in
    subst (λ tests. IsMeant old.limits (database_of old) (resolved.Delete c.in-Delete.table tests)) (sym c.as_slice-in-Delete.ensures)
    (rw c.in-Delete.is at c.requires.meant)
