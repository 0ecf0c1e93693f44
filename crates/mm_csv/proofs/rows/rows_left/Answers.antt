use Rattle.std.proofs.Common.{◌∙◌, ◌++◌, ◌∷◌, [], sym, ap, append_assoc}
use Rattle.csv.specs.Records.{fields_of}
use Rattle.mm_csv.specs.BlockReading.{columns_of}
use Rattle.mm_csv.proofs.Reading.{rows-bad, rows-more}
use Rattle.mm_csv.proofs.rows.rows_left.Goals as goal

pub loop-row-preserved : goal.loop-row-preserved
loop-row-preserved c =
    let (at, done, left, so_far) = c.loop-row.invariant in
    let next = rw c.if-branch.true at c.in_ok-next_record.ensures.reads in
    let fields = fields_of c.next_record.new.fields in (
      c.in_ok-next_record.ensures.reading c.if-branch.true,
      done ++ fields ∷ [],
      left ∙ rw next (sym (append_assoc done (fields ∷ []) _)),
      λ before are.
          rw (c.in_ok-push.ensures.pushed, ← append_assoc before done (fields ∷ []))
          (rows-more (columns_of c.args.layout.now) (before ++ done) fields c.loop-row.rows c.read_row.new.row.items (so_far before are) (c.in_ok-read_row.ensures.row c.if-not-branch.false)),
    )

pub returns-then-not-branch-clause-refused : goal.returns-then-not-branch-clause-refused
returns-then-not-branch-clause-refused c = λ before are.
    let (at, done, left, so_far) = c.loop-row.invariant in
    let next = rw c.if-branch.true at c.in_ok-next_record.ensures.reads in
    let fields = fields_of c.next_record.new.fields in
    rw c.len.ensures.count
    (rows-bad (columns_of c.args.layout.now) _ (before ++ done) fields _ c.loop-row.rows
    (ap (λ records. before ++ records) (rw next at left) ∙ sym (append_assoc before done _)) (so_far before are) (c.in_ok-read_row.ensures.none c.if-not-branch.true))
