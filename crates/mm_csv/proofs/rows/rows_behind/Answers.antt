use Rattle.std.proofs.Common.{◌∙◌, ◌++◌, sym, ap}
use Rattle.csv.specs.Reading.{default_config, records}
use Rattle.plain_tables.specs.CsvReading.{records_reading, rows_reading}
use Rattle.mm_csv.specs.BlockReading.{columns_of, records_left}
use Rattle.mm_csv.proofs.Fronts.{err-behind, ok-behind, read-behind, read-whole}
use Rattle.mm_csv.proofs.rows.rows_behind.Goals as goal

pub returns-then-is_empty-clause-rows : goal.returns-then-is_empty-clause-rows
returns-then-is_empty-clause-rows c =
    let front = c.in_ok-front.front in
    read-whole (columns_of c.args.layout.now) c.args.text.now c.args.left.now front.left.now front.rows c.requires.header c.in_ok-front.ensures
    (sym c.is_empty.ensures ∙ c.if-is_empty.true)

pub returns-clause-rows : goal.returns-clause-rows
returns-clause-rows c =
    let columns = columns_of c.args.layout.now in
    let front = c.in_ok-front.front in
    let begun = c.in_ok-front.ensures in
    ok-behind (λ rows. rows) c.rows_left.result columns begun.0 (records_left c.reader_of-reader.result) front.rows
    (records_reading columns (records default_config c.args.text.now)) begun.2
    (read-behind columns c.args.text.now c.args.left.now front.left.now front.rows c.requires.header begun
    ∙ ap (λ left. rows_reading columns (begun.0 ++ left)) (sym c.reader_of-reader.ensures.records)) c.rows_left.ensures.rows

pub returns-clause-refused : goal.returns-clause-refused
returns-clause-refused c =
    let columns = columns_of c.args.layout.now in
    let front = c.in_ok-front.front in
    let begun = c.in_ok-front.ensures in
    err-behind c.rows_left.result columns begun.0 (records_left c.reader_of-reader.result) front.rows
    (records_reading columns (records default_config c.args.text.now)) begun.2
    (read-behind columns c.args.text.now c.args.left.now front.left.now front.rows c.requires.header begun
    ∙ ap (λ left. rows_reading columns (begun.0 ++ left)) (sym c.reader_of-reader.ensures.records)) c.rows_left.ensures.refused
