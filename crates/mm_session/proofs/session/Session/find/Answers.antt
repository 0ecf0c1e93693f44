use Rattle.std.proofs.Common.{sym, subst}
use Rattle.std.specs.Prelude.{IfOk}
use Rattle.plain_tables.specs.Doing.{done}
use Rattle.plain_tables.specs.ResolvedLaws.{IsMeant}
use Rattle.plain_tables.specs.declared.resolved.Resolved.TheVariants as resolved
use Rattle.mm_catalog.specs.Seen.{database_of}
use Rattle.mm_catalog.specs.State.{CatalogState}
use Rattle.mm_session.specs.Found.{HasFound}
use Rattle.mm_session.specs.Sessions.{State}
use Rattle.mm_session.proofs.session.Session.find.Goals as goal

pub find_shown-requires : goal.find_shown-requires
find_shown-requires c =
    subst (λ (k : CatalogState). IsMeant k.limits (database_of k) (resolved.Select c.args.query.now)) (sym c.catalog.ensures)
    (subst (λ (s : State). IsMeant s.limits s.database (resolved.Select c.args.query.now)) (sym c.self.view_is) c.requires)

pub returns-clause-found : goal.returns-clause-found
returns-clause-found c =
    subst (λ (s : State). IfOk c.find_shown.result (HasFound (done s.limits s.database (resolved.Select c.args.query.now)).outcome s.catalog)) c.self.view_is
    (subst (λ (k : CatalogState). IfOk c.find_shown.result (HasFound (done k.limits (database_of k) (resolved.Select c.args.query.now)).outcome k)) c.catalog.ensures
    c.find_shown.ensures.found)
