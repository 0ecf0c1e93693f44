use Rattle.std.proofs.Common.{◌≤◌, ◌∙◌, ap, sym, length, map, rules}
use Rattle.std.specs.Prelude.{◌==◌}
use Rattle.std.proofs.lemmas.List.{length-map, take_all}
use Rattle.std.proofs.lemmas.Result.{on_ok_weaker}
use Rattle.plain_tables.specs.Csv.{value_field}
use Rattle.mm_csv.proofs.Outputs.{record-ended}
use Rattle.mm_csv.proofs.fields.write_each.Goals as goal

pub returns : goal.returns
returns g c =
    let ended : length c.args.values.now ≤ c.loop-place.place = search rules in
    let all = take_all c.loop-place.place c.args.values.now ended in
    let lent = map (λ v. v.now) c.args.values.now in
    let same = ap (λ n. n == 1) (sym (length-map lent value_field ∙ length-map c.args.values.now (λ v. v.now))) in
    on_ok_weaker c.put_end.result
    (record-ended (length c.args.values.now == 1) c.args.output.now c.loop-place.output c.put_end.new.self (map value_field (map (λ v. v.now) c.args.values.now)) (rw (length-map (map (λ v. v.now) c.args.values.now) value_field, length-map c.args.values.now (λ v. v.now)) c.requires) same (rw all at c.loop-place.invariant))
    c.put_end.ensures
