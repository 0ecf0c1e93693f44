use Rattle.std.proofs.Common.{◌≡◌, ◌≤◌, sym, subst}
use Rattle.std.specs.Prelude.{◌^◌, IfOk, IsErrOf}
use Rattle.plain_tables.specs.Doing.{done}
use Rattle.plain_tables.specs.ResolvedLaws.{IsMeant}
use Rattle.plain_tables.specs.declared.resolved.Resolved.TheVariants as resolved
use Rattle.mm_catalog.specs.Seen.{database_of}
use Rattle.mm_catalog.specs.State.{CatalogState}
use Rattle.mm_session.specs.Counting.{HasRows}
use Rattle.mm_session.specs.Sessions.{State}
use Rattle.mm_session.specs.declared.fault.CountFault.TheVariants as fault
use Rattle.mm_session.proofs.session.Session.count.Goals as goal

pub count_rows-requires : goal.count_rows-requires
count_rows-requires c =
    subst (λ (k : CatalogState). IsMeant k.limits (database_of k) (resolved.Select c.args.query.now)) (sym c.catalog.ensures)
    (subst (λ (s : State). IsMeant s.limits s.database (resolved.Select c.args.query.now)) (sym c.self.view_is) c.requires)

pub returns-clause-counted : goal.returns-clause-counted
returns-clause-counted c =
    subst (λ (s : State). IfOk c.count_rows.result (λ count. HasRows (done s.limits s.database (resolved.Select c.args.query.now)).outcome (λ n. count ≡ n))) c.self.view_is
    (subst (λ (k : CatalogState). IfOk c.count_rows.result (λ count. HasRows (done k.limits (database_of k) (resolved.Select c.args.query.now)).outcome (λ n. count ≡ n))) c.catalog.ensures
    c.count_rows.ensures.counted)

pub returns-clause-too_many : goal.returns-clause-too_many
returns-clause-too_many c =
    subst (λ (s : State). IsErrOf c.count_rows.result fault.TooMany → HasRows (done s.limits s.database (resolved.Select c.args.query.now)).outcome (λ n. 2 ^ 64 ≤ n)) c.self.view_is
    (subst (λ (k : CatalogState). IsErrOf c.count_rows.result fault.TooMany → HasRows (done k.limits (database_of k) (resolved.Select c.args.query.now)).outcome (λ n. 2 ^ 64 ≤ n)) c.catalog.ensures
    c.count_rows.ensures.too_many)
