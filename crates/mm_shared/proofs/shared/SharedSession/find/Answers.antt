use Rattle.std.proofs.Common.{subst, sym, IfOk}
use Rattle.plain_tables.specs.Doing.{done}
use Rattle.plain_tables.specs.ResolvedLaws.{IsMeant}
use Rattle.plain_tables.specs.declared.resolved.Resolved.TheVariants as resolved
use Rattle.mm_session.specs.Found.{HasFound}
use Rattle.mm_session.specs.Sessions.{State}
use Rattle.mm_shared.proofs.shared.SharedSession.find.Goals as goal

pub find-requires : goal.find-requires
find-requires c = subst (λ (s : State). IsMeant s.limits s.database (resolved.Select c.args.query.now)) (sym c.session.ensures) c.requires

pub returns-clause-found : goal.returns-clause-found
returns-clause-found c =
    subst
    (λ (s : State). IfOk c.find.result (HasFound (done s.limits s.database (resolved.Select c.args.query.now)).outcome s.catalog))
    c.session.ensures c.find.ensures.found
