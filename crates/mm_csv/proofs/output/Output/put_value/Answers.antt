use Rattle.std.proofs.Common.{rules}
use Rattle.mm_csv.proofs.output.Output.put_value.Goals as goal

pub returns-in-Int : goal.returns-in-Int
returns-in-Int g c = search (rules, c.put_integer.ensures c.args.alone)

pub returns-in-Link : goal.returns-in-Link
returns-in-Link g c = search (rules, c.put_large.ensures c.args.alone)
