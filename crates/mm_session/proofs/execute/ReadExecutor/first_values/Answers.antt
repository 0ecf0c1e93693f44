use Rattle.std.proofs.Common.{◌∙◌, ap, arith, length, take}
use Rattle.std.proofs.lemmas.Result.{IfOk-weaker}
use Rattle.plain_tables.specs.Doing.{headings, joined_tables}
use Rattle.mm_catalog.specs.Seen.{database_of}
use Rattle.mm_cells.specs.Values.{values_of}
use Rattle.mm_session.specs.Walked.{rows_shown}
use Rattle.mm_session.specs.declared.execute.sink.ShownCells.{ShownCells}
use Rattle.mm_session.proofs.Placed.{heads_some}
use Rattle.mm_session.proofs.Sinks.{cells_shown}
use Rattle.mm_session.proofs.execute.ReadExecutor.first_values.Goals as goal

pub returns-clause-shown : goal.returns-clause-shown
returns-clause-shown c =
    let catalog = c.args.catalog.now in
    let query = c.args.query.now in
    cells_shown (λ (s : ShownCells). values_of s.cells) c.push_first-columns.result (record { cells = c.replace.result; interrupts = c.args.interrupts }) c.push_first-columns.new.sink
    (take c.args.most (rows_shown catalog query)) (length (headings (joined_tables (database_of catalog) query.source query.joins) query.shown))
    (ap values_of c.replace.ensures.value ∙ c.clear.ensures) c.push_first-columns.ensures.shown c.push_first-columns.ensures.columns

pub returns-clause-some : goal.returns-clause-some
returns-clause-some c =
    let some = heads_some c.args.catalog.now c.a_catalog_is_consistent.ensures c.args.query.now c.requires in
    IfOk-weaker c.push_first-columns.result _ _ (λ k is. omega (arith, is, some)) c.push_first-columns.ensures.columns
