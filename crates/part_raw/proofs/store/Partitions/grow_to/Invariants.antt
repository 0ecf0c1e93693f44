use Rattle.std.proofs.Common.{◌≡◌, ◌+◌, ◌-◌, ◌≤◌, max}
use Rattle.part_raw.proofs.store.Partitions.grow_to.Given as goal

abbrev pub invariant-loop-self : goal.invariant-loop-self
invariant-loop-self g l = record {
  same : l.self ≡ record l.fn.self { free = l.self.free };
  least : l.fn.self.free ≤ l.self.free;
  most : l.self.free ≤ max l.fn.self.free (l.n + 255);
}

abbrev pub decreases-loop-self : goal.decreases-loop-self
decreases-loop-self g l = l.n - l.self.free
