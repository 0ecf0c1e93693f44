use Rattle.std.proofs.Common.{◌≡◌, sym, subst}
use Rattle.std.specs.Prelude.{OnOk}
use Rattle.plain_tables.specs.ResolvedLaws.{IsMeant}
use Rattle.plain_tables.specs.declared.resolved.Resolved.TheVariants as resolved
use Rattle.mm_catalog.specs.Seen.{database_of}
use Rattle.mm_catalog.specs.State.{CatalogState}
use Rattle.mm_cells.specs.Values.{values_of}
use Rattle.mm_session.specs.Columns.{columns_told}
use Rattle.mm_session.specs.Sessions.{State}
use Rattle.mm_session.proofs.session.Session.columns.Goals as goal

pub columns-requires : goal.columns-requires
columns-requires c =
    subst (λ (k : CatalogState). IsMeant k.limits (database_of k) (resolved.Select c.args.query.now)) (sym c.catalog.ensures)
    (subst (λ (s : State). IsMeant s.limits s.database (resolved.Select c.args.query.now)) (sym c.self.view_is) c.requires)

pub returns : goal.returns
returns c =
    subst (λ (s : State). OnOk c.columns.result (values_of c.columns.new.cells ≡ columns_told s.database c.args.query.now)) c.self.view_is
    (subst (λ (k : CatalogState). OnOk c.columns.result (values_of c.columns.new.cells ≡ columns_told (database_of k) c.args.query.now)) c.catalog.ensures c.columns.ensures)
