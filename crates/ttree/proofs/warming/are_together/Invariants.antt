use Rattle.std.proofs.Common.{◌≤◌}
use Rattle.ttree.proofs.warming.are_together.Given as goal

abbrev pub invariant-loop-way : goal.invariant-loop-way
invariant-loop-way g l = l.count ≤ l.way-index
