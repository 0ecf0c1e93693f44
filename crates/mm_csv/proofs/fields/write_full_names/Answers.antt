use Rattle.std.proofs.Common.{◌≤◌, ap, sym, length, map, rules}
use Rattle.std.specs.Prelude.{◌==◌}
use Rattle.std.proofs.lemmas.List.{length-map, take_all}
use Rattle.std.proofs.lemmas.Result.{on_ok_weaker}
use Rattle.mm_csv.specs.FullNames.{full_name_text}
use Rattle.mm_csv.proofs.Outputs.{record-ended}
use Rattle.mm_csv.proofs.fields.write_full_names.Goals as goal

pub returns : goal.returns
returns g c =
    let ended : length c.args.names.now ≤ c.loop-place.place = search rules in
    let all = take_all c.loop-place.place c.args.names.now ended in
    let same = ap (λ n. n == 1) (sym (length-map c.args.names.now full_name_text)) in
    on_ok_weaker c.put_end.result
    (record-ended (length c.args.names.now == 1) c.args.output.now c.loop-place.output c.put_end.new.self (map full_name_text c.args.names.now) (rw (length-map c.args.names.now full_name_text) c.requires) same (rw all at c.loop-place.invariant))
    c.put_end.ensures
