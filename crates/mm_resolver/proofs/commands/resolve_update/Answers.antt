use Rattle.std.proofs.Common.{rules, ◌≡◌, ◌∙◌, [], ◌++◌, map, refl, sym, ap}
use Rattle.std.specs.Prelude.{Ok, Err}
use Rattle.plain_tables.specs.Resolving.{resolved_of}
use Rattle.plain_tables.specs.declared.command.Command.TheVariants as command
use Rattle.plain_tables.specs.declared.resolved.Resolved.TheVariants as resolved
use Rattle.plain_statements.specs.declared.statement.Statement.TheVariants as statement
use Rattle.plain_statements.specs.declared.resolution.Template.TheVariants as template
use Rattle.std.proofs.lemmas.Grind.{flat_map-append}
use Rattle.plain_statements.specs.Filling.{filled_condition, filled_setting}
use Rattle.plain_statements.specs.Finishing.{filled_assignment, filled_test}
use Rattle.plain_statements.specs.StatementSpelling.{given_condition, given_setting, numbers_of}
use Rattle.mm_resolver.specs.Slots.{given_assignment, given_test}
use Rattle.mm_resolver.proofs.Answered.{command-means, map-back, none-of-given}
use Rattle.mm_resolver.proofs.Meanings.{unless_refused}
use Rattle.mm_resolver.proofs.commands.resolve_update.Goals as goal
use Rattle.mm_resolver.proofs.commands.resolve_update.Goals.{After-verdict}
use Rattle.mm_resolver.proofs.commands.resolve_update.Given.{Over}

pub returns-in_err-found-clause-refused : goal.returns-in_err-found-clause-refused
returns-in_err-found-clause-refused g c =
    let tables = g.S.Schemas.database c.args.schemas.now in
    let is : c.from_residual.result ≡ Err c.in_err-found.field-0.0 = search rules in
    rw is (λ other. ap (resolved_of [] tables) (sym (λ i. command.Update c.args.table (map-back (filled_setting []) given_setting (λ _. refl) c.args.settings i) (map-back (filled_condition []) given_condition (λ _. refl) c.args.conditions i)))
    ∙ c.in_err-found.ensures.refused other [])

answered : (g : Over) (c : After-verdict g) → resolved_of [] (g.S.Schemas.database c.args.schemas.now) (command.Update c.args.table c.args.settings c.args.conditions)
    ≡ unless_refused c.verdict.result (Ok (resolved.Update c.in_ok-found.found.table c.in_ok-found.found.assignments c.in_ok-found.found.tests))
answered g c =
    let tables = g.S.Schemas.database c.args.schemas.now in
    let found = c.in_ok-found.found in
    command-means tables (statement.Update c.args.table (map given_setting c.args.settings) (map given_condition c.args.conditions)) found.wanted found.last
    (template.Update c.in_ok-found.found.table (map given_assignment c.in_ok-found.found.assignments) (map given_test c.in_ok-found.found.tests)) c.in_ok-found.ensures.found
    (flat_map-append numbers_of (map (λ s. s.slot) (map given_setting c.args.settings)) (map (λ d. d.slot) (map given_condition c.args.conditions)) ∙ (λ i. none-of-given (λ s. s.slot) given_setting (λ _. refl) c.args.settings i ++ none-of-given (λ d. d.slot) given_condition (λ _. refl) c.args.conditions i))
    (command.Update c.args.table c.args.settings c.args.conditions) (λ i. command.Update c.args.table (map-back (filled_setting []) given_setting (λ _. refl) c.args.settings i) (map-back (filled_condition []) given_condition (λ _. refl) c.args.conditions i))
    (resolved.Update c.in_ok-found.found.table c.in_ok-found.found.assignments c.in_ok-found.found.tests) (λ i. resolved.Update c.in_ok-found.found.table (map-back (filled_assignment []) given_assignment (λ _. refl) c.in_ok-found.found.assignments i) (map-back (filled_test []) given_test (λ _. refl) c.in_ok-found.found.tests i))
    c.verdict.result c.verdict.ensures

pub returns-in_err-verdict-clause-refused : goal.returns-in_err-verdict-clause-refused
returns-in_err-verdict-clause-refused g c =
    let at = goal.at.returns-in_err-verdict-clause-refused g c in
    let is : c.from_residual-in_err-verdict.result ≡ Err c.in_err-verdict.field-0.0 = search rules in
    rw is (λ _. rw c.in_err-verdict.was at (answered g at.After-verdict))

pub returns-clause-meant : goal.returns-clause-meant
returns-clause-meant g c =
    let at = goal.at.returns-clause-meant g c in
    rw c.in_ok-verdict.was at (answered g at.After-verdict)
