use Rattle.std.proofs.Common.{◌≤◌}
use Rattle.ttree.proofs.warming.count_found.Given as goal

abbrev pub invariant-loop-way : goal.invariant-loop-way
invariant-loop-way g l = l.count ≤ l.way-index
