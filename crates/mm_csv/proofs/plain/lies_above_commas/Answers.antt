use Rattle.std.proofs.lemmas.Bool.{and_parts}
use Rattle.mm_csv.proofs.LineEnds.{ends-plain}
use Rattle.mm_csv.proofs.plain.lies_above_commas.Goals as goal

pub returns-in-Some : goal.returns-in-Some
returns-in-Some c both =
    let parts = and_parts c.eight_lie_above_commas.result c.eight_lie_above_commas-in-Some.result both in
    ends-plain c.args.field.now c.in-Some.first.now c.in-Some.last.now c.in-Some.ensures (c.eight_lie_above_commas.ensures parts.0) (c.eight_lie_above_commas-in-Some.ensures parts.1)
