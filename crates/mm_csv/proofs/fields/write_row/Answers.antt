use Rattle.std.proofs.Common.{◌≤◌, ap, sym, length, map, rules}
use Rattle.std.specs.Prelude.{◌==◌}
use Rattle.std.proofs.lemmas.List.{length-map, take_all}
use Rattle.std.proofs.lemmas.Result.{on_ok_weaker}
use Rattle.plain_tables.specs.Csv.{value_field}
use Rattle.mm_csv.proofs.Outputs.{record-ended}
use Rattle.mm_csv.proofs.fields.write_row.Goals as goal

pub returns : goal.returns
returns g c =
    let ended : length c.args.row.now ≤ c.loop-place.place = search rules in
    let all = take_all c.loop-place.place c.args.row.now ended in
    let same = ap (λ n. n == 1) (sym (length-map c.args.row.now value_field)) in
    on_ok_weaker c.put_end.result
    (record-ended (length c.args.row.now == 1) c.args.output.now c.loop-place.output c.put_end.new.self (map value_field c.args.row.now) (rw (length-map c.args.row.now value_field) c.requires) same (rw all at c.loop-place.invariant))
    c.put_end.ensures
