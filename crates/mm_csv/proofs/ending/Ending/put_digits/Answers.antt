use Rattle.std.proofs.Common.{◌≡◌, ◌-◌, length, rules, arith}
use Rattle.std.proofs.lemmas.Fmt.{length-decimal-le}
use Rattle.std.proofs.lemmas.List.{length-drop}
use Rattle.mm_csv.proofs.ending.Ending.put_digits.Goals as goal

pub write_digits-self-inside-requires : goal.write_digits-self-inside-requires
write_digits-self-inside-requires c =
    let few : length c.args.self.now ≡ 256 - c.self.inside.start = search (rules, length-drop) in
    (omega (arith, few, c.requires, length-decimal-le 20 c.args.n (omega arith) (omega arith) (omega (arith, c.ranges.n))), search rules)
