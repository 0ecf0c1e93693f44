use Rattle.std.proofs.Common.{rules, ◌≡◌, ◌≢◌, List, subst}
use Rattle.std.specs.Prelude.{Err}
use Rattle.std.specs.Result.{IfErr, IfOk}
use Rattle.std.proofs.lemmas.List.{map-id}
use Rattle.plain_tables.specs.declared.refusal.Refusal.TheVariants.{NoMemory}
use Rattle.plain_statements.specs.Laws.{Refuses, Resolves}
use Rattle.plain_statements.specs.declared.statement.Statement.TheVariants as statement
use Rattle.plain_statements.specs.declared.resolution.Template.TheVariants as template
use Rattle.mm_resolver.specs.Slots.{slot_query}
use Rattle.plain_statements.specs.declared.resolution.SlotJoined.{SlotJoined}
use Rattle.plain_statements.specs.declared.statement.SlotCond.{SlotCond}
use Rattle.mm_resolver.specs.Wanted.{IsFound}
use Rattle.mm_resolver.proofs.Answered.{statement-answered}
use Rattle.mm_resolver.proofs.statements.resolve_slot_select.Goals as goal
use Rattle.mm_resolver.proofs.statements.resolve_slot_select.Goals.{After-resolution}
use Rattle.mm_resolver.proofs.statements.resolve_slot_select.Given.{Over}

pub returns-in_err-found-clause-refused : goal.returns-in_err-found-clause-refused
returns-in_err-found-clause-refused g c =
    let tables = g.S.Schemas.database c.args.schemas.now in
    let is : c.from_residual.result ≡ Err c.in_err-found.field-0.0 = search rules in
    rw is (λ other.
    let refuses = c.in_err-found.ensures.refused other in
    subst (λ cs. Refuses tables (statement.Select c.args.distinct c.args.items c.args.table c.args.joins cs) c.in_err-found.field-0.0) (map-id c.args.conditions) ((rw c.as_slice.ensures at refuses) c.args.distinct))

answered : (g : Over) (c : After-resolution g)
    → IfOk c.resolution.result (Resolves (g.S.Schemas.database c.args.schemas.now) (statement.Select c.args.distinct c.args.items c.args.table c.args.joins c.args.conditions))
    × IfErr c.resolution.result (λ e. e ≢ NoMemory → Refuses (g.S.Schemas.database c.args.schemas.now) (statement.Select c.args.distinct c.args.items c.args.table c.args.joins c.args.conditions) e)
answered g c =
    let tables = g.S.Schemas.database c.args.schemas.now in
    let found = c.in_ok-found.found in
    statement-answered tables (statement.Select c.args.distinct c.args.items c.args.table c.args.joins c.args.conditions) found.wanted found.last (template.Select (slot_query c.args.distinct c.in_ok-found.found.shown c.in_ok-found.found.source c.in_ok-found.found.joins))
    (subst (λ (p : List SlotCond × List SlotJoined). IsFound tables (statement.Select c.args.distinct c.args.items c.args.table c.args.joins p.0) found.wanted found.last (template.Select (slot_query c.args.distinct found.shown found.source p.1))) (λ i. (map-id c.args.conditions i, map-id found.joins i)) ((rw c.as_slice.ensures at c.in_ok-found.ensures.found) c.args.distinct)) c.resolution.result (λ needs late. c.resolution.ensures needs late)

pub returns-clause-meant : goal.returns-clause-meant
returns-clause-meant g c =
    let at = goal.at.returns-clause-meant g c in
    (answered g at.After-resolution).0

pub returns-clause-refused : goal.returns-clause-refused
returns-clause-refused g c =
    let at = goal.at.returns-clause-refused g c in
    (answered g at.After-resolution).1
