use Rattle.std.proofs.Common.{◌∙◌, arith, subst, refl}
use Rattle.mm_catalog.proofs.Among.{there_at}
use Rattle.mm_session.specs.Sinks.{PutsRows}
use Rattle.mm_session.proofs.OnlyRow.{columns_there, none_shown, one_shown, only_held, width_shown, width_some}
use Rattle.mm_session.proofs.Sinks.{rows_none}
use Rattle.mm_session.proofs.execute.ReadExecutor.push_only.Goals as goal

pub at-relation-requires : goal.at-relation-requires
at-relation-requires g c = there_at c.args.catalog.now c.a_catalog_is_consistent.ensures c.args.query.now.source.table.0 c.requires.meant.0.0 c.requires.meant.0.1

pub push_shown-requires : goal.push_shown-requires
push_shown-requires g c =
    let held = only_held c.args.catalog.now c.a_catalog_is_consistent.ensures c.args.query.now (c.requires.meant, c.requires.only.ordered.1) c.at-relation.result.now c.at-relation.ensures c.args.row c.requires.only in
    λ κs. (
      (refl, tt),
      (
        (c.args.query.now.source.table.0, c.at-relation.ensures),
        (
          (rw c.in-Some.is at held) 0 c.in-Some.r (omega arith),
          (
            columns_there c.args.catalog.now c.a_catalog_is_consistent.ensures c.args.query.now (c.requires.meant, c.requires.only.ordered.1) c.at-relation.result.now c.at-relation.ensures,
            width_some c.args.catalog.now c.a_catalog_is_consistent.ensures c.args.query.now (c.requires.meant, c.requires.only.ordered.1) c.at-relation.result.now c.at-relation.ensures,
          ),
        ),
      ),
    )

pub returns-in_default-clause-shown : goal.returns-in_default-clause-shown
returns-in_default-clause-shown g c =
    subst (PutsRows g.S.RowSink.received c.args.sink.now c.args.sink.now)
    (none_shown c.args.catalog.now c.a_catalog_is_consistent.ensures c.args.query.now (c.requires.meant, c.requires.only.ordered.1) c.at-relation.result.now c.at-relation.ensures c.args.row c.requires.only c.in_default.is)
    (rows_none g.S.RowSink.received c.args.sink.now)

pub returns-in_default-clause-columns : goal.returns-in_default-clause-columns
returns-in_default-clause-columns g c =
    c.shown_width-width.ensures
    ∙ width_shown c.args.catalog.now c.a_catalog_is_consistent.ensures c.args.query.now (c.requires.meant, c.requires.only.ordered.1) c.at-relation.result.now c.at-relation.ensures

pub returns-in_default-clause-some : goal.returns-in_default-clause-some
returns-in_default-clause-some g c =
    let some = width_some c.args.catalog.now c.a_catalog_is_consistent.ensures c.args.query.now (c.requires.meant, c.requires.only.ordered.1) c.at-relation.result.now c.at-relation.ensures in
    omega (arith, some, c.shown_width-width.ensures)

pub returns-clause-shown : goal.returns-clause-shown
returns-clause-shown g c =
    subst (PutsRows g.S.RowSink.received c.args.sink.now c.push_shown.new.sink)
    (one_shown c.args.catalog.now c.a_catalog_is_consistent.ensures c.args.query.now (c.requires.meant, c.requires.only.ordered.1) c.at-relation.result.now c.at-relation.ensures c.args.row c.requires.only c.in-Some.r
    c.in-Some.is)
    c.in_ok-push_shown.ensures.put

pub returns-clause-columns : goal.returns-clause-columns
returns-clause-columns g c =
    c.shown_width-width.ensures
    ∙ width_shown c.args.catalog.now c.a_catalog_is_consistent.ensures c.args.query.now (c.requires.meant, c.requires.only.ordered.1) c.at-relation.result.now c.at-relation.ensures

pub returns-clause-some : goal.returns-clause-some
returns-clause-some g c =
    let some = width_some c.args.catalog.now c.a_catalog_is_consistent.ensures c.args.query.now (c.requires.meant, c.requires.only.ordered.1) c.at-relation.result.now c.at-relation.ensures in
    omega (arith, some, c.shown_width-width.ensures)
