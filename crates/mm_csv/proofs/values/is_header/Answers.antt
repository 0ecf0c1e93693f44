use Rattle.std.proofs.Common.{◌≡◌, ◌≤◌, ◌<◌, ◌∙◌, sym, ap, length, rules}
use Rattle.csv.specs.Records.{fields_of}
use Rattle.csv.proofs.RecordFacts.{field-get, field-there}
use Rattle.mm_csv.proofs.Reading.{header-differs, header-done, header-more, text-differs, text-same}
use Rattle.mm_csv.proofs.values.is_header.Goals as goal

pub returns-in_default : goal.returns-in_default
returns-in_default c =
    let within : c.loop-i.i < length (fields_of c.args.fields.now) = search rules in
    absurd (field-there (fields_of c.args.fields.now) c.loop-i.i within (sym c.in_default.ensures.value))

pub returns-then-ne : goal.returns-then-ne
returns-then-ne c =
    let read = field-get (fields_of c.args.fields.now) c.loop-i.i c.in-Some.name.now (sym c.in-Some.ensures.value) in
    let named = ap (λ f. f.name) c.index-layout-i.is in
    sym (header-differs c.args.layout.now (fields_of c.args.fields.now) c.loop-i.i c.index-layout-i.result c.loop-i-test.true
    (λ e. text-differs c.in-Some.name.now c.as_bytes.result.now c.if-ne.ensures (sym read ∙ e ∙ sym named ∙ sym c.as_bytes.ensures)))

pub loop-i-preserved : goal.loop-i-preserved
loop-i-preserved c =
    let same : length (fields_of c.args.fields.now) ≡ length c.args.layout.now = search rules in
    let read = field-get (fields_of c.args.fields.now) c.loop-i.i c.in-Some.name.now (sym c.in-Some.ensures.value) in
    let named = ap (λ f. f.name) c.index-layout-i.is in
    header-more c.args.layout.now (fields_of c.args.fields.now) c.loop-i.i c.index-layout-i.result same c.loop-i-test.true c.loop-i.invariant
    (read ∙ text-same c.in-Some.name.now c.as_bytes.result.now c.if-ne.ensures ∙ c.as_bytes.ensures ∙ named)

pub returns : goal.returns
returns c =
    let same : length (fields_of c.args.fields.now) ≡ length c.args.layout.now = search rules in
    let ended : length c.args.layout.now ≤ c.loop-i.i = search rules in
    sym (header-done c.args.layout.now (fields_of c.args.fields.now) c.loop-i.i same ended c.loop-i.invariant)
