use Rattle.std.proofs.Common.{rules, ◌≡◌, ◌∙◌, sym, ap}
use Rattle.std.specs.Prelude.{Ok, Err}
use Rattle.plain_tables.specs.Resolving.{table_checks}
use Rattle.plain_tables.specs.declared.resolved.Resolved.TheVariants as resolved
use Rattle.mm_resolver.proofs.Meanings.{meaning-is, unless_refused}
use Rattle.mm_resolver.proofs.commands.resolve_table.Goals as goal

pub returns-in_err-check_table : goal.returns-in_err-check_table
returns-in_err-check_table g c =
    let is : c.from_residual.result ≡ Err c.in_err-check_table.field-0.0 = search rules in
    let checks = table_checks (g.S.Schemas.database c.args.schemas.now) c.args.name c.args.schema in
    let r = resolved.Table c.args.name c.args.schema in
    is ∙ sym (meaning-is checks r ∙ ap (λ v. unless_refused v (Ok r)) (sym c.check_table.ensures ∙ c.in_err-check_table.was))
