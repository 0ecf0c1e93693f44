use Rattle.std.proofs.Common.{sym, subst}
use Rattle.std.proofs.lemmas.Result.{MatchResult-weaker}
use Rattle.std.specs.Prelude.{IfOk}
use Rattle.plain_tables.specs.ResolvedLaws.{IsMeant}
use Rattle.plain_tables.specs.declared.resolved.Resolved.TheVariants as resolved
use Rattle.plan_chooser.specs.declared.policy.Policy.{Policy}
use Rattle.mm_catalog.specs.Seen.{database_of}
use Rattle.mm_catalog.specs.State.{CatalogState}
use Rattle.mm_session.specs.Sessions.{State}
use Rattle.mm_session.specs.Told.{IsPlanOf}
use Rattle.mm_session.proofs.session.Session.plan.Goals as goal

pub tell_plan-requires : goal.tell_plan-requires
tell_plan-requires c =
    subst (λ (k : CatalogState). IsMeant k.limits (database_of k) (resolved.Select c.args.query.now)) (sym c.catalog.ensures)
    (subst (λ (s : State). IsMeant s.limits s.database (resolved.Select c.args.query.now)) (sym c.self.view_is) c.requires)

pub returns : goal.returns
returns c =
    let policy = c.reading.result.policy in
    let told = c.tell_plan.result in
    let query = c.args.query.now in
    subst (λ (s : State). IfOk told (λ plan. (p : Policy) × IsPlanOf p s.catalog query plan)) c.self.view_is
    (MatchResult-weaker told (subst (λ (k : CatalogState). IfOk told (IsPlanOf policy k query)) c.catalog.ensures c.tell_plan.ensures)
    (λ plan is. (policy, is)) (λ e any. any))
