use Rattle.std.proofs.Common.{length, ◌-◌}
use Rattle.mm_index.specs.Asking.{IsOnlyAsked}
use Rattle.mm_index.proofs.Halving.{IsPassed}
use Rattle.mm_index.proofs.search.first_not_equal.Given as goal

abbrev pub invariant-loop-end : goal.invariant-loop-end
invariant-loop-end g l =
    IsPassed (g.P.Probe.place l.fn.probe) l.items l.first l.end
    × IsOnlyAsked g.P.Probe.is_sound g.P.Probe.can_place g.P.Probe.place g.P.Probe.asked l.fn.probe l.probe

abbrev pub decreases-loop-end : goal.decreases-loop-end
decreases-loop-end g l = length l.items - l.end
