use Rattle.std.proofs.Common.{◌≡◌, ◌++◌, ◌∷◌, ◌∙◌, false, refl, rules}
use Rattle.std.proofs.lemmas.Result.{on_ok_weaker}
use Rattle.std.proofs.KnownBytes.{Appends-trans}
use Rattle.plain_tables.specs.Csv.{needs_quotes}
use Rattle.mm_csv.specs.FullNames.{full_name_text}
use Rattle.mm_csv.proofs.Outputs.{field-added, name-needs, name-some, some-plain}
use Rattle.mm_csv.proofs.output.Output.put_full_name.Goals as goal

pub returns : goal.returns
returns g c = λ alone.
    let name = full_name_text c.args.name.now in
    let whole : c.as_bytes-2.result.now ++ 46 ∷ c.as_bytes-3.result.now ≡ name = rw (c.as_bytes-2.ensures.value, c.as_bytes-3.ensures.value) refl in
    let table : needs_quotes c.args.name.now.table.now ≡ false = search rules in
    let column : needs_quotes c.args.name.now.column.now ≡ false = search rules in
    let plain : needs_quotes name ≡ false = name-needs c.args.name.now ∙ rw (table, column) refl in
    on_ok_weaker c.put-3.result
    (λ put. field-added alone c.args.place c.args.self.now c.put_comma.new.self c.put-3.new.self name _ c.in_ok-put_comma.ensures
    (Appends-trans _ _ _ _ _ c.in_ok-put.ensures (Appends-trans _ _ _ _ _ c.in_ok-put-2.ensures put)) (whole ∙ some-plain alone name plain (name-some c.args.name.now)))
    c.put-3.ensures
