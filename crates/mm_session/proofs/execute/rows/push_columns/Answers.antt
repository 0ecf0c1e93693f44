use Rattle.std.proofs.Common.{◌∙◌, ◌<◌, List, ap, sym, subst, length, refl}
use Rattle.std.proofs.lemmas.Result.{on_ok_weaker}
use Rattle.common_lemmas.proofs.Elements.{All-from_map}
use Rattle.plain_tables.specs.declared.numbers.ColumnNumber.{ColumnNumber}
use Rattle.plain_tables.specs.declared.numbers.Place.{Place}
use Rattle.mm_session.specs.Sinks.{PutsValues}
use Rattle.mm_session.specs.Walked.{AreColumns, shown_row}
use Rattle.mm_session.proofs.OnlyRow.{placed_shown, whole_shown}
use Rattle.mm_session.proofs.execute.rows.push_columns.Goals as goal

pub push_placed-requires : goal.push_placed-requires
push_placed-requires g c = λ κs. (
  (refl, tt),
  (
    c.requires.lent,
    (
      c.requires.held,
      subst (AreColumns c.args.relation.now) (sym c.as_slice.ensures)
          (All-from_map (λ (column : ColumnNumber). column.0 < length c.args.relation.now.schema.columns) (λ (p : Place). p.column) c.in-Columns.places (rw c.in-Columns.is at c.requires.columns)),
    ),
  ),
)

pub returns-in-All-clause-put : goal.returns-in-All-clause-put
returns-in-All-clause-put g c =
    rw c.in-All.is
    (on_ok_weaker c.push_whole.result (subst (PutsValues g.S.RowSink.received c.args.sink.now c.push_whole.new.sink) (whole_shown c.args.catalog.now c.args.relation.now c.args.r c.requires.held)) c.push_whole.ensures.put)

pub returns-in-Columns-clause-put : goal.returns-in-Columns-clause-put
returns-in-Columns-clause-put g c =
    rw c.in-Columns.is
    (on_ok_weaker c.push_placed.result
    (subst (PutsValues g.S.RowSink.received c.args.sink.now c.push_placed.new.sink)
    (ap (λ (ps : List Place). shown_row c.args.catalog.now c.args.relation.now ps c.args.r) c.as_slice.ensures ∙ placed_shown c.args.catalog.now c.args.relation.now c.args.r c.in-Columns.places))
    c.push_placed.ensures.put)
