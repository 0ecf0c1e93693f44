use Rattle.std.proofs.Common.{rules, ◌≡◌, ◌∙◌, [], map, refl, sym, ap}
use Rattle.std.specs.Prelude.{Ok, Err}
use Rattle.plain_tables.specs.Resolving.{resolved_of}
use Rattle.plain_tables.specs.declared.command.Command.TheVariants as command
use Rattle.plain_tables.specs.declared.resolved.Resolved.TheVariants as resolved
use Rattle.plain_statements.specs.declared.statement.Statement.TheVariants as statement
use Rattle.plain_statements.specs.declared.resolution.Template.TheVariants as template
use Rattle.plain_tables.specs.declared.resolved.Query.{Query}
use Rattle.plain_statements.specs.Filling.{filled_condition}
use Rattle.plain_statements.specs.StatementSpelling.{given_condition}
use Rattle.mm_resolver.specs.Slots.{given_joined, given_source, slot_query}
use Rattle.mm_resolver.proofs.Answered.{query-back, query_of}
use Rattle.mm_resolver.proofs.Answered.{command-means, map-back, none-of-given}
use Rattle.mm_resolver.proofs.Meanings.{unless_refused}
use Rattle.mm_resolver.proofs.commands.resolve_select.Goals as goal
use Rattle.mm_resolver.proofs.commands.resolve_select.Goals.{After-verdict}
use Rattle.mm_resolver.proofs.commands.resolve_select.Given.{Over}

pub returns-in_err-found-clause-refused : goal.returns-in_err-found-clause-refused
returns-in_err-found-clause-refused g c =
    let tables = g.S.Schemas.database c.args.schemas.now in
    let is : c.from_residual.result ≡ Err c.in_err-found.field-0.0 = search rules in
    rw is (λ other.
    let refuses = c.in_err-found.ensures.refused other in
    ap (resolved_of [] tables) (sym (ap (command.Select c.args.distinct c.args.items c.args.table c.args.joins) (map-back (filled_condition []) given_condition (λ _. refl) c.args.conditions)))
    ∙ (rw c.as_slice.ensures at refuses) c.args.distinct [])

answered : (g : Over) (c : After-verdict g) → resolved_of [] (g.S.Schemas.database c.args.schemas.now) (command.Select c.args.distinct c.args.items c.args.table c.args.joins c.args.conditions)
    ≡ unless_refused c.verdict.result (Ok (resolved.Select (query_of c.args.distinct c.in_ok-found.found.shown c.in_ok-found.found.source c.in_ok-found.found.joins)))
answered g c =
    let tables = g.S.Schemas.database c.args.schemas.now in
    let found = c.in_ok-found.found in
    command-means tables (statement.Select c.args.distinct c.args.items c.args.table c.args.joins (map given_condition c.args.conditions)) found.wanted found.last
    (template.Select (slot_query c.args.distinct c.in_ok-found.found.shown (given_source c.in_ok-found.found.source) (map given_joined c.in_ok-found.found.joins))) ((rw c.as_slice.ensures at c.in_ok-found.ensures.found) c.args.distinct)
    (none-of-given (λ d. d.slot) given_condition (λ _. refl) c.args.conditions)
    (command.Select c.args.distinct c.args.items c.args.table c.args.joins c.args.conditions) (ap (command.Select c.args.distinct c.args.items c.args.table c.args.joins) (map-back (filled_condition []) given_condition (λ _. refl) c.args.conditions))
    (resolved.Select (query_of c.args.distinct c.in_ok-found.found.shown c.in_ok-found.found.source c.in_ok-found.found.joins)) (ap (λ (q : Query). resolved.Select q) (query-back c.args.distinct c.in_ok-found.found.shown c.in_ok-found.found.source c.in_ok-found.found.joins))
    c.verdict.result c.verdict.ensures

pub returns-in_err-verdict-clause-refused : goal.returns-in_err-verdict-clause-refused
returns-in_err-verdict-clause-refused g c =
    let at = goal.at.returns-in_err-verdict-clause-refused g c in
    let is : c.from_residual-in_err-verdict.result ≡ Err c.in_err-verdict.field-0.0 = search rules in
    rw is (λ _. rw c.in_err-verdict.was at (answered g at.After-verdict))

pub returns-clause-meant : goal.returns-clause-meant
returns-clause-meant g c =
    let at = goal.at.returns-clause-meant g c in
    rw c.in_ok-verdict.was at (answered g at.After-verdict)
