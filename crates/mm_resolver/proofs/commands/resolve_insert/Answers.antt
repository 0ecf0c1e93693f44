use Rattle.std.proofs.Common.{rules, ◌≡◌, ◌∙◌, [], map, refl, sym, ap}
use Rattle.std.specs.Prelude.{Ok, Err}
use Rattle.plain_tables.specs.Resolving.{resolved_of}
use Rattle.plain_tables.specs.declared.command.Command.TheVariants as command
use Rattle.plain_tables.specs.declared.resolved.Resolved.TheVariants as resolved
use Rattle.plain_statements.specs.declared.statement.Statement.TheVariants as statement
use Rattle.plain_statements.specs.declared.resolution.Template.TheVariants as template
use Rattle.std.specs.Prelude.{None}
use Rattle.plain_statements.specs.Filling.{slot_value}
use Rattle.plain_statements.specs.declared.statement.Slot.TheVariants.{Given}
use Rattle.mm_resolver.proofs.Answered.{none-of-values}
use Rattle.mm_resolver.proofs.Answered.{command-means, map-back}
use Rattle.mm_resolver.proofs.Meanings.{unless_refused}
use Rattle.mm_resolver.proofs.commands.resolve_insert.Goals as goal
use Rattle.mm_resolver.proofs.commands.resolve_insert.Goals.{After-verdict}
use Rattle.mm_resolver.proofs.commands.resolve_insert.Given.{Over}

pub returns-in_err-found-clause-refused : goal.returns-in_err-found-clause-refused
returns-in_err-found-clause-refused g c =
    let tables = g.S.Schemas.database c.args.schemas.now in
    let is : c.from_residual.result ≡ Err c.in_err-found.field-0.0 = search rules in
    rw is (λ other. ap (resolved_of [] tables) (sym (ap (command.Insert c.args.table) (map-back (slot_value []) Given (λ _. refl) c.args.values)))
    ∙ c.in_err-found.ensures.refused other [])

answered : (g : Over) (c : After-verdict g) → resolved_of [] (g.S.Schemas.database c.args.schemas.now) (command.Insert c.args.table c.args.values)
    ≡ unless_refused c.verdict.result (Ok (resolved.Insert c.in_ok-found.found.table c.in_ok-found.found.row))
answered g c =
    let tables = g.S.Schemas.database c.args.schemas.now in
    let found = c.in_ok-found.found in
    command-means tables (statement.Insert c.args.table (map Given c.args.values)) found.wanted None
    (template.Insert c.in_ok-found.found.table (map Given c.in_ok-found.found.row)) c.in_ok-found.ensures.found
    (none-of-values c.args.values)
    (command.Insert c.args.table c.args.values) (ap (command.Insert c.args.table) (map-back (slot_value []) Given (λ _. refl) c.args.values))
    (resolved.Insert c.in_ok-found.found.table c.in_ok-found.found.row) (ap (resolved.Insert c.in_ok-found.found.table) (map-back (slot_value []) Given (λ _. refl) c.in_ok-found.found.row))
    c.verdict.result c.verdict.ensures

pub returns-in_err-verdict-clause-refused : goal.returns-in_err-verdict-clause-refused
returns-in_err-verdict-clause-refused g c =
    let at = goal.at.returns-in_err-verdict-clause-refused g c in
    let is : c.from_residual-in_err-verdict.result ≡ Err c.in_err-verdict.field-0.0 = search rules in
    rw is (λ _. rw c.in_err-verdict.was at (answered g at.After-verdict))

pub returns-clause-meant : goal.returns-clause-meant
returns-clause-meant g c =
    let at = goal.at.returns-clause-meant g c in
    rw c.in_ok-verdict.was at (answered g at.After-verdict)
