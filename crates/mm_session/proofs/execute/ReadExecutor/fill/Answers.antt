use Rattle.std.proofs.Common.{◌∙◌, ap, length}
use Rattle.plain_tables.specs.Doing.{headings, joined_tables}
use Rattle.mm_catalog.specs.Seen.{database_of}
use Rattle.mm_cells.specs.Values.{values_of}
use Rattle.mm_session.specs.Walked.{rows_shown}
use Rattle.mm_session.specs.declared.execute.sink.ShownCells.{ShownCells}
use Rattle.mm_session.proofs.Sinks.{cells_shown}
use Rattle.mm_session.proofs.execute.ReadExecutor.fill.Goals as goal

pub returns-clause-shown : goal.returns-clause-shown
returns-clause-shown c =
    let catalog = c.args.catalog.now in
    let query = c.args.query.now in
    cells_shown (λ (s : ShownCells). values_of s.cells) c.push_rest-columns.result (record { cells = c.replace.result; interrupts = c.args.interrupts }) c.push_rest-columns.new.sink
    (rows_shown catalog query) (length (headings (joined_tables (database_of catalog) query.source query.joins) query.shown)) (ap values_of c.replace.ensures.value ∙ c.requires.empty)
    c.push_rest-columns.ensures.shown c.push_rest-columns.ensures.columns
