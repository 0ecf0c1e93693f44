use Rattle.std.proofs.Common.{◌≡◌, ◌∙◌, ◌∷◌, [], Some, sym, ap}
use Rattle.csv.specs.Reading.{default_config, records}
use Rattle.csv.specs.Records.{fields_of}
use Rattle.plain_tables.specs.CsvReading.{records_reading}
use Rattle.mm_csv.specs.BlockReading.{columns_of, records_left}
use Rattle.mm_csv.proofs.Fronts.{err-behind, ok-behind, read-header}
use Rattle.mm_csv.proofs.rows.read_rows.Goals as goal

pub returns-clause-rows : goal.returns-clause-rows
returns-clause-rows c =
    let columns = columns_of c.args.layout.now in
    let all = records default_config c.args.text.now in
    let left = records_left c.next_record.new.reader in
    let header = fields_of c.next_record.new.fields in
    let splits : all ≡ header ∷ left = sym c.reader_of-reader.ensures.records ∙ (rw c.if-not-branch.false at c.in_ok-next_record.ensures.reads) in
    ok-behind (λ rows. rows) c.rows_left.result columns [] left c.new.result (records_reading columns all) (ap Some (sym c.new.ensures))
    (read-header columns all left header splits (sym c.is_header.ensures ∙ c.if-not-is_header.false)) c.rows_left.ensures.rows

pub returns-clause-refused : goal.returns-clause-refused
returns-clause-refused c =
    let columns = columns_of c.args.layout.now in
    let all = records default_config c.args.text.now in
    let left = records_left c.next_record.new.reader in
    let header = fields_of c.next_record.new.fields in
    let splits : all ≡ header ∷ left = sym c.reader_of-reader.ensures.records ∙ (rw c.if-not-branch.false at c.in_ok-next_record.ensures.reads) in
    err-behind c.rows_left.result columns [] left c.new.result (records_reading columns all) (ap Some (sym c.new.ensures))
    (read-header columns all left header splits (sym c.is_header.ensures ∙ c.if-not-is_header.false)) c.rows_left.ensures.refused
