use Rattle.std.proofs.Common.{◌≡◌, ◌≤◌, ◌+◌, ◌++◌, length, take, drop, vec_len}
use Rattle.std.specs.List.{AllWithin}
use Rattle.std.specs.declared.cmp.Ordering.TheVariants.{Equal}
use Rattle.mm_index.specs.Asking.{IsOnlyAsked}
use Rattle.mm_index.specs.Range.{from_range}
use Rattle.mm_relation.specs.Changes.{list_of}
use Rattle.ttree.specs.Held.{rest_of}
use Rattle.temp_list.proofs.range.append_range.Given as goal

-- those of the walk so far, which are in the range
abbrev pub invariant-loop-refused : goal.invariant-loop-refused
invariant-loop-refused g l = record {
  added : l.out.items ≡ l.fn.out.items ++ take l.found (from_range (g.P.Probe.place l.fn.probe) (list_of l.relation l.fn.column.0));
  rest : rest_of l.walk ≡ drop l.found (from_range (g.P.Probe.place l.fn.probe) (list_of l.relation l.fn.column.0));
  within : l.found ≤ length (from_range (g.P.Probe.place l.fn.probe) (list_of l.relation l.fn.column.0));
  equal : AllWithin (λ r. g.P.Probe.place l.fn.probe r ≡ Equal) (from_range (g.P.Probe.place l.fn.probe) (list_of l.relation l.fn.column.0)) 0 l.found;
  count : vec_len l.out ≡ vec_len l.fn.out + l.found;
  only : IsOnlyAsked g.P.Probe.is_sound g.P.Probe.can_place g.P.Probe.place g.P.Probe.asked l.fn.probe l.probe;
}

abbrev pub decreases-loop-refused : goal.decreases-loop-refused
decreases-loop-refused g l = length (rest_of l.walk)
