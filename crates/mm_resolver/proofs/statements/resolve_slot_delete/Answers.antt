use Rattle.std.proofs.Common.{rules, ◌≡◌, ◌≢◌, List, subst}
use Rattle.std.specs.Prelude.{Err}
use Rattle.std.specs.Result.{IfErr, IfOk}
use Rattle.std.proofs.lemmas.List.{map-id}
use Rattle.plain_tables.specs.declared.refusal.Refusal.TheVariants.{NoMemory}
use Rattle.plain_statements.specs.Laws.{Refuses, Resolves}
use Rattle.plain_statements.specs.declared.statement.Statement.TheVariants as statement
use Rattle.plain_statements.specs.declared.resolution.Template.TheVariants as template
use Rattle.plain_statements.specs.declared.resolution.SlotTest.{SlotTest}
use Rattle.plain_statements.specs.declared.statement.SlotCond.{SlotCond}
use Rattle.mm_resolver.specs.Wanted.{IsFound}
use Rattle.mm_resolver.proofs.Answered.{statement-answered}
use Rattle.mm_resolver.proofs.statements.resolve_slot_delete.Goals as goal
use Rattle.mm_resolver.proofs.statements.resolve_slot_delete.Goals.{After-resolution}
use Rattle.mm_resolver.proofs.statements.resolve_slot_delete.Given.{Over}

pub returns-in_err-found-clause-refused : goal.returns-in_err-found-clause-refused
returns-in_err-found-clause-refused g c =
    let tables = g.S.Schemas.database c.args.schemas.now in
    let is : c.from_residual.result ≡ Err c.in_err-found.field-0.0 = search rules in
    rw is (λ other. subst (λ cs. Refuses tables (statement.Delete c.args.table cs) c.in_err-found.field-0.0) (map-id c.args.conditions) (c.in_err-found.ensures.refused other))

answered : (g : Over) (c : After-resolution g)
    → IfOk c.resolution.result (Resolves (g.S.Schemas.database c.args.schemas.now) (statement.Delete c.args.table c.args.conditions))
    × IfErr c.resolution.result (λ e. e ≢ NoMemory → Refuses (g.S.Schemas.database c.args.schemas.now) (statement.Delete c.args.table c.args.conditions) e)
answered g c =
    let tables = g.S.Schemas.database c.args.schemas.now in
    let found = c.in_ok-found.found in
    statement-answered tables (statement.Delete c.args.table c.args.conditions) found.wanted found.last (template.Delete c.in_ok-found.found.table c.in_ok-found.found.tests)
    (subst (λ (p : List SlotCond × List SlotTest). IsFound tables (statement.Delete c.args.table p.0) found.wanted found.last (template.Delete found.table p.1)) (λ i. (map-id c.args.conditions i, map-id found.tests i)) (c.in_ok-found.ensures.found)) c.resolution.result (λ needs late. c.resolution.ensures needs late)

pub returns-clause-meant : goal.returns-clause-meant
returns-clause-meant g c =
    let at = goal.at.returns-clause-meant g c in
    (answered g at.After-resolution).0

pub returns-clause-refused : goal.returns-clause-refused
returns-clause-refused g c =
    let at = goal.at.returns-clause-refused g c in
    (answered g at.After-resolution).1
