use Rattle.std.proofs.Common.{◌+◌, ◌-◌, ◌<◌, ◌≤◌}
use Rattle.mm_index.specs.Asking.{IsOnlyAsked, counted}
use Rattle.ttree.specs.Shape.{binary_digits}
use Rattle.ttree.specs.Searching.{taken, IsCut}
use Rattle.ttree.proofs.asking.search_between.Given as goal

abbrev pub invariant-loop-low : goal.invariant-loop-low
invariant-loop-low g l = record {
  cut : IsCut (λ r. taken l.seek (g.P.Probe.place l.fn.probe r)) l.items l.low l.high;
  from : l.from ≤ l.low;
  to : l.high ≤ l.to;
  only : IsOnlyAsked g.P.Probe.is_sound g.P.Probe.can_place g.P.Probe.place g.P.Probe.asked l.fn.probe l.probe;
  most : g.P.Probe.asked l.probe + binary_digits (l.high - l.low) ≤ g.P.Probe.asked l.fn.probe + binary_digits (l.to - l.from);
  asks : l.high - l.low < l.to - l.from → counted (g.P.Probe.asked l.fn.probe) ≤ g.P.Probe.asked l.probe;
}

abbrev pub decreases-loop-low : goal.decreases-loop-low
decreases-loop-low g l = l.high - l.low
