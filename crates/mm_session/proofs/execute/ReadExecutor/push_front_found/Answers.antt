use Rattle.std.proofs.Common.{◌∙◌, refl, subst}
use Rattle.mm_catalog.proofs.Among.{there_at}
use Rattle.mm_session.specs.Sinks.{PutsRows}
use Rattle.mm_session.proofs.FirstRows.{first_held, first_shown}
use Rattle.mm_session.proofs.OnlyRow.{columns_there, width_shown, width_some}
use Rattle.mm_session.proofs.execute.ReadExecutor.push_front_found.Goals as goal

pub at-relation-requires : goal.at-relation-requires
at-relation-requires g c = there_at c.args.catalog.now c.a_catalog_is_consistent.ensures c.args.query.now.source.table.0 c.requires.meant.0.0 c.requires.meant.0.1

pub push_each-requires : goal.push_each-requires
push_each-requires g c =
    let catalog = c.args.catalog.now in
    let query = c.args.query.now in
    let s = c.at-relation.result.now in
    λ κs. (
      (refl, tt),
      (
        (query.source.table.0, c.at-relation.ensures),
        (
          first_held catalog c.a_catalog_is_consistent.ensures query (c.requires.meant, c.requires.shows.ordered.1) s c.at-relation.ensures c.args.most c.args.rows.now c.requires.shows,
          (columns_there catalog c.a_catalog_is_consistent.ensures query (c.requires.meant, c.requires.shows.ordered.1) s c.at-relation.ensures, width_some catalog c.a_catalog_is_consistent.ensures query (c.requires.meant, c.requires.shows.ordered.1) s c.at-relation.ensures),
        ),
      ),
    )

pub returns-clause-shown : goal.returns-clause-shown
returns-clause-shown g c =
    subst (PutsRows g.S.RowSink.received c.args.sink.now c.push_each.new.sink)
    (first_shown c.args.catalog.now c.a_catalog_is_consistent.ensures c.args.query.now (c.requires.meant, c.requires.shows.ordered.1) c.at-relation.result.now c.at-relation.ensures c.args.most c.args.rows.now c.requires.shows)
    c.in_ok-push_each.ensures.put

pub returns-clause-columns : goal.returns-clause-columns
returns-clause-columns g c =
    c.shown_width.ensures
    ∙ width_shown c.args.catalog.now c.a_catalog_is_consistent.ensures c.args.query.now (c.requires.meant, c.requires.shows.ordered.1) c.at-relation.result.now c.at-relation.ensures
