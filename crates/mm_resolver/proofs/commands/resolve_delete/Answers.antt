use Rattle.std.proofs.Common.{rules, ◌≡◌, ◌∙◌, [], map, refl, sym, ap}
use Rattle.std.specs.Prelude.{Ok, Err}
use Rattle.plain_tables.specs.Resolving.{resolved_of}
use Rattle.plain_tables.specs.declared.command.Command.TheVariants as command
use Rattle.plain_tables.specs.declared.resolved.Resolved.TheVariants as resolved
use Rattle.plain_statements.specs.declared.statement.Statement.TheVariants as statement
use Rattle.plain_statements.specs.declared.resolution.Template.TheVariants as template
use Rattle.plain_statements.specs.Filling.{filled_condition}
use Rattle.plain_statements.specs.Finishing.{filled_test}
use Rattle.plain_statements.specs.StatementSpelling.{given_condition}
use Rattle.mm_resolver.specs.Slots.{given_test}
use Rattle.mm_resolver.proofs.Answered.{command-means, map-back, none-of-given}
use Rattle.mm_resolver.proofs.Meanings.{unless_refused}
use Rattle.mm_resolver.proofs.commands.resolve_delete.Goals as goal
use Rattle.mm_resolver.proofs.commands.resolve_delete.Goals.{After-verdict}
use Rattle.mm_resolver.proofs.commands.resolve_delete.Given.{Over}

pub returns-in_err-found-clause-refused : goal.returns-in_err-found-clause-refused
returns-in_err-found-clause-refused g c =
    let tables = g.S.Schemas.database c.args.schemas.now in
    let is : c.from_residual.result ≡ Err c.in_err-found.field-0.0 = search rules in
    rw is (λ other. ap (resolved_of [] tables) (sym (ap (command.Delete c.args.table) (map-back (filled_condition []) given_condition (λ _. refl) c.args.conditions)))
    ∙ c.in_err-found.ensures.refused other [])

answered : (g : Over) (c : After-verdict g) → resolved_of [] (g.S.Schemas.database c.args.schemas.now) (command.Delete c.args.table c.args.conditions)
    ≡ unless_refused c.verdict.result (Ok (resolved.Delete c.in_ok-found.found.table c.in_ok-found.found.tests))
answered g c =
    let tables = g.S.Schemas.database c.args.schemas.now in
    let found = c.in_ok-found.found in
    command-means tables (statement.Delete c.args.table (map given_condition c.args.conditions)) found.wanted found.last
    (template.Delete c.in_ok-found.found.table (map given_test c.in_ok-found.found.tests)) c.in_ok-found.ensures.found
    (none-of-given (λ d. d.slot) given_condition (λ _. refl) c.args.conditions)
    (command.Delete c.args.table c.args.conditions) (ap (command.Delete c.args.table) (map-back (filled_condition []) given_condition (λ _. refl) c.args.conditions))
    (resolved.Delete c.in_ok-found.found.table c.in_ok-found.found.tests) (ap (resolved.Delete c.in_ok-found.found.table) (map-back (filled_test []) given_test (λ _. refl) c.in_ok-found.found.tests))
    c.verdict.result c.verdict.ensures

pub returns-in_err-verdict-clause-refused : goal.returns-in_err-verdict-clause-refused
returns-in_err-verdict-clause-refused g c =
    let at = goal.at.returns-in_err-verdict-clause-refused g c in
    let is : c.from_residual-in_err-verdict.result ≡ Err c.in_err-verdict.field-0.0 = search rules in
    rw is (λ _. rw c.in_err-verdict.was at (answered g at.After-verdict))

pub returns-clause-meant : goal.returns-clause-meant
returns-clause-meant g c =
    let at = goal.at.returns-clause-meant g c in
    rw c.in_ok-verdict.was at (answered g at.After-verdict)
