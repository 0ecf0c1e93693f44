use Rattle.std.proofs.Common.{length, arith}
use Rattle.std.proofs.lemmas.List.{length-map}
use Rattle.std.proofs.lemmas.Result.{on_ok_weaker}
use Rattle.plain_tables.specs.declared.numbers.ColumnNumber.{ColumnNumber}
use Rattle.temp_list.specs.Reading.{value_in}
use Rattle.mm_session.specs.OnlyRow.{columns_shown, values_shown}
use Rattle.mm_session.proofs.Sinks.{row_put}
use Rattle.mm_session.proofs.execute.rows.push_shown.Goals as goal

pub returns-clause-put : goal.returns-clause-put
returns-clause-put g c =
    let catalog = c.args.catalog.now in
    let s = c.args.relation.now in
    let long = length-map (columns_shown (length s.schema.columns) c.args.shown.now) (λ (column : ColumnNumber). value_in catalog.relations s column.0 c.args.r) in
    on_ok_weaker c.end_row.result
    (λ ends. row_put g.S.RowSink.received c.args.sink.now c.push_columns.new.sink c.end_row.new.self (values_shown catalog s c.args.shown.now c.args.r) c.in_ok-push_columns.ensures.put ends
    (omega (arith, long, c.requires.some)))
    c.end_row.ensures.ended
