use Rattle.std.proofs.Common.{sym, subst}
use Rattle.std.specs.Prelude.{IfOk}
use Rattle.plain_tables.specs.Doing.{done}
use Rattle.plain_tables.specs.ResolvedLaws.{IsMeant}
use Rattle.plain_tables.specs.declared.resolved.Resolved.TheVariants as resolved
use Rattle.mm_catalog.specs.Seen.{database_of}
use Rattle.mm_catalog.specs.State.{CatalogState}
use Rattle.mm_cells.specs.Values.{values_of}
use Rattle.mm_session.specs.First.{ShowsFirst}
use Rattle.mm_session.specs.Sessions.{State}
use Rattle.mm_session.proofs.session.Session.first.Goals as goal

pub first_values-requires : goal.first_values-requires
first_values-requires c =
    subst (λ (k : CatalogState). IsMeant k.limits (database_of k) (resolved.Select c.args.query.now)) (sym c.catalog.ensures)
    (subst (λ (s : State). IsMeant s.limits s.database (resolved.Select c.args.query.now)) (sym c.self.view_is) c.requires)

pub returns-clause-shown : goal.returns-clause-shown
returns-clause-shown c =
    subst (λ (s : State). IfOk c.first_values.result (λ columns. ShowsFirst (done s.limits s.database (resolved.Select c.args.query.now)).outcome c.args.most columns (values_of c.first_values.new.cells))) c.self.view_is
    (subst (λ (k : CatalogState). IfOk c.first_values.result (λ columns. ShowsFirst (done k.limits (database_of k) (resolved.Select c.args.query.now)).outcome c.args.most columns (values_of c.first_values.new.cells))) c.catalog.ensures
    c.first_values.ensures.shown)
