use Rattle.std.proofs.Common.{◌≡◌}
use Rattle.mm_relation.specs.Settings.{pile}
use Rattle.mm_relation.proofs.change.copies_for.Given as goal

abbrev pub invariant-loop : goal.invariant-loop
invariant-loop l = l.copies.items ≡ pile l.counter l.sets
