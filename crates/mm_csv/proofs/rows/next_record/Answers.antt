use Rattle.csv.specs.Records.{fields_of}
use Rattle.mm_csv.proofs.Readers.{next-read}
use Rattle.mm_csv.proofs.rows.next_record.Goals.{in-Ok, in-Err}
use Rattle.mm_csv.proofs.rows.next_record.Goals as goal

pub returns-clause-reads : goal.returns-clause-reads
returns-clause-reads c = elim c.match-read_byte_record.branch [
  | in-Ok w ↦
      let e = w.in-Ok.ensures in
      rw w.result-is (next-read c.args.reader.now c.read_byte_record.new.self w.in-Ok.found (fields_of c.read_byte_record.new.row)
      c.requires (e.reads c.requires.trim c.requires.ready) (e.ready c.requires.trim)).0
  | in-Err w ↦ rw w.result-is tt
]

pub returns-clause-reading : goal.returns-clause-reading
returns-clause-reading c = elim c.match-read_byte_record.branch [
  | in-Ok w ↦
      let e = w.in-Ok.ensures in
      rw w.result-is (next-read c.args.reader.now c.read_byte_record.new.self w.in-Ok.found (fields_of c.read_byte_record.new.row)
      c.requires (e.reads c.requires.trim c.requires.ready) (e.ready c.requires.trim)).1
  | in-Err w ↦ rw w.result-is tt
]
