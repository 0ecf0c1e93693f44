use Rattle.std.proofs.Common.{◌≡◌, ◌+◌, ◌≤◌, true, [], Some, slice_get}
use Rattle.std.specs.Option.{IfSome, IfNone}
use Rattle.mm_index.specs.Asking.{IsOnlyAsked}
use Rattle.ttree_node.specs.Tree.{whole, height, is_node, items_of, list_before}
use Rattle.ttree_node.specs.Look.{position}
use Rattle.ttree.specs.Searching.{taken}
use Rattle.ttree.proofs.Descent.{IsAhead, IsLast}
use Rattle.ttree.proofs.search.descend_in.Given as goal

-- each level asks once
abbrev pub invariant-loop-here : goal.invariant-loop-here
invariant-loop-here g l = record {
  ahead : IsAhead (λ r. taken l.seek (g.P.Probe.place l.fn.probe r)) (whole (position l.fn.look)) (position l.here);
  first : IfNone l.last (list_before (position l.here).above ≡ []);
  behind : IfSome l.last (λ r. (r.nodes ≡ l.fn.look.nodes) × IsLast (λ q. taken l.seek (g.P.Probe.place l.fn.probe q)) (whole (position l.fn.look)) (position l.here) (position r));
  node : is_node (position l.here).here ≡ true;
  known : IfSome l.known (λ r. slice_get (items_of (position l.here).here) 0 ≡ Some r);
  only : IsOnlyAsked g.P.Probe.is_sound g.P.Probe.can_place g.P.Probe.place g.P.Probe.asked l.fn.probe l.probe;
  most : g.P.Probe.asked l.probe + height (position l.here).here ≤ g.P.Probe.asked l.fn.probe + height (whole (position l.fn.look));
  nodes : l.here.nodes ≡ l.fn.look.nodes;
}

abbrev pub decreases-loop-here : goal.decreases-loop-here
decreases-loop-here g l = height (position l.here).here
