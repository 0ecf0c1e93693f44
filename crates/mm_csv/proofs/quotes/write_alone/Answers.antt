use Rattle.std.proofs.Common.{◌∙◌, [], ◌∷◌, Some, true, ap, subst, arith}
use Rattle.std.specs.Io.KnownBytes.{Appends}
use Rattle.csv.specs.Writing as Csv
use Rattle.mm_csv.proofs.Csv.{record-same, text-added}
use Rattle.mm_csv.proofs.quotes.write_alone.Goals.{in-Ok, in-Err-flush}
use Rattle.mm_csv.proofs.quotes.write_alone.Goals as goal

pub returns-clause-text : goal.returns-clause-text
returns-clause-text c = elim c.match-flush.branch [
  | in-Ok w ↦
      let ((is, none, clean), empty) = c.requires in
      let fields = c.args.field.now ∷ [] in
      let old = c.args.writer.now in
      let put = c.write_fields.new.self in
      let new = c.flush.new.self in
      let row = c.in_default.ensures.bytes none clean (rw is (λ e. cc e)) in
      rw w.result-is
      (text-added (Csv.writer_under old).items (Csv.writer_under new).items (Csv.writer_pending old) (Csv.writer_pending new) (Csv.text_written (λ v. Some v.items) put) _
      empty w.in-Ok.ensures.pending
      (subst (Appends (Csv.text_written (λ v. Some v.items) old) (Csv.text_written (λ v. Some v.items) put))
      (ap (λ s. Csv.row_text s fields) is ∙ record-same true fields (omega arith)) row) c.flush.ensures.bytes)
  | in-Err-flush w ↦ rw w.result-is tt
]
