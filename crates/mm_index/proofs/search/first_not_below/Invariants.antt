use Rattle.std.proofs.Common.{◌-◌, ◌<◌, ◌≤◌, length}
use Rattle.mm_index.specs.Asking.{IsOnlyAsked, counted}
use Rattle.mm_index.proofs.Halving.{IsHalved}
use Rattle.mm_index.proofs.search.first_not_below.Given as goal

abbrev pub invariant-loop-low : goal.invariant-loop-low
invariant-loop-low g l = record {
  halved : IsHalved (g.P.Probe.place l.fn.probe) l.items l.low l.high;
  same : IsOnlyAsked g.P.Probe.is_sound g.P.Probe.can_place g.P.Probe.place g.P.Probe.asked l.fn.probe l.probe;
  asks : l.high - l.low < length l.items → counted (g.P.Probe.asked l.fn.probe) ≤ g.P.Probe.asked l.probe;
}

abbrev pub decreases-loop-low : goal.decreases-loop-low
decreases-loop-low g l = l.high - l.low
