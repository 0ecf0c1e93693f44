use Rattle.mm_csv.proofs.Readers.{begun}
use Rattle.mm_csv.proofs.rows.reader_of.Goals as goal

pub returns-clause-records : goal.returns-clause-records
returns-clause-records c =
    let e = c.from_reader.ensures in begun c.from_reader.result c.args.text.now c.requires e.state e.source
