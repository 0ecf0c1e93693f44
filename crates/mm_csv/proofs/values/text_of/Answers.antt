use Rattle.std.proofs.Common.{◌≤◌, sym, length, rules}
use Rattle.mm_csv.proofs.FieldParts.{text-there, text-wild}
use Rattle.mm_csv.proofs.values.text_of.Goals as goal

pub returns-in_ok-from_str-in-Ok : goal.returns-in_ok-from_str-in-Ok
returns-in_ok-from_str-in-Ok c =
    let short : length c.args.field.now ≤ 1024 = search rules in
    rw (c.in_ok-from_str-in-Ok.ensures.copy, c.in-Ok.ensures.cases.0) (sym (text-there c.args.field.now short c.in-Ok.ensures.cases.1))

pub returns-in-Err : goal.returns-in-Err
returns-in-Err c = sym (text-wild c.args.field.now c.in-Err.ensures.cases.0)
