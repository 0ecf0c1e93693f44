use Rattle.std.proofs.Common.{◌≡◌, ◌≤◌, ◌<◌, ◌-◌, length}
use Rattle.std.specs.List.{AllWithin}
use Rattle.std.specs.declared.cmp.Ordering.TheVariants.{Equal, Greater}
use Rattle.mm_index.specs.Asking.{IsOnlyAsked}
use Rattle.temp_list.proofs.range.count_in_range.Given as goal

-- those before low are in the range, and those from high on are not
abbrev pub invariant-loop-low : goal.invariant-loop-low
invariant-loop-low g l = record {
  ordered : l.low ≤ l.high;
  within : l.high ≤ length l.refs;
  between : l.low < l.high → (l.low ≤ l.at) × (l.at < l.high);
  found : AllWithin (λ r. g.P.Probe.place l.fn.probe r ≡ Equal) l.refs 0 l.low;
  above : AllWithin (λ r. g.P.Probe.place l.fn.probe r ≡ Greater) l.refs l.high (length l.refs);
  only : IsOnlyAsked g.P.Probe.is_sound g.P.Probe.can_place g.P.Probe.place g.P.Probe.asked l.fn.probe l.probe;
}

abbrev pub decreases-loop-low : goal.decreases-loop-low
decreases-loop-low g l = l.high - l.low
