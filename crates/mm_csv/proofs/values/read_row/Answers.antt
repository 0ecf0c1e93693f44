use Rattle.std.proofs.Common.{◌≡◌, ◌≤◌, ◌<◌, ◌∙◌, sym, length, rules}
use Rattle.csv.specs.Records.{fields_of}
use Rattle.csv.proofs.RecordFacts.{field-get, field-there}
use Rattle.mm_csv.proofs.Reading.{row-done, row-misses, row-more}
use Rattle.mm_csv.proofs.values.read_row.Goals as goal

pub returns-in_default : goal.returns-in_default
returns-in_default c =
    let within : c.loop-i.i < length (fields_of c.args.fields.now) = search rules in
    absurd (field-there (fields_of c.args.fields.now) c.loop-i.i within (sym c.in_default.ensures.value))

pub returns-in-None : goal.returns-in-None
returns-in-None c =
    let same : length (fields_of c.args.fields.now) ≡ length c.args.layout.now = search rules in
    let read = field-get (fields_of c.args.fields.now) c.loop-i.i c.in-Some.field.now (sym c.in-Some.ensures.value) in
    record {
      row = λ is. absurd (cc is);
      none = λ is. row-misses c.args.layout.now (fields_of c.args.fields.now) c.loop-i.i c.index-layout-i.result same c.loop-i-test.true
          (rw (read, ← c.index-layout-i.is) (sym c.in_ok-value.ensures ∙ c.in-None.is));
    }

pub loop-i-preserved : goal.loop-i-preserved
loop-i-preserved c =
    let same : length (fields_of c.args.fields.now) ≡ length c.args.layout.now = search rules in
    let read = field-get (fields_of c.args.fields.now) c.loop-i.i c.in-Some.field.now (sym c.in-Some.ensures.value) in
    rw c.in_ok-push-in-Some-2.ensures.items
    (row-more c.args.layout.now (fields_of c.args.fields.now) c.loop-i.i c.index-layout-i.result c.loop-i.row.items c.in-Some-2.value same c.loop-i-test.true c.loop-i.invariant
    (rw (read, ← c.index-layout-i.is) (sym c.in_ok-value.ensures ∙ c.in-Some-2.is)))

pub returns : goal.returns
returns c =
    let same : length (fields_of c.args.fields.now) ≡ length c.args.layout.now = search rules in
    let ended : length c.args.layout.now ≤ c.loop-i.i = search rules in
    record {
      row = λ is. row-done c.args.layout.now (fields_of c.args.fields.now) c.loop-i.i c.loop-i.row.items same ended c.loop-i.invariant;
      none = λ is. absurd (cc is);
    }
