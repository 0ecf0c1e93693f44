use Rattle.std.proofs.Common.{◌≡◌, ◌++◌, ◌+◌, ◌≤◌, length}
use Rattle.std.specs.List.{All}
use Rattle.std.specs.declared.cmp.Ordering.TheVariants.{Equal}
use Rattle.mm_index.specs.Asking.{IsOnlyAsked}
use Rattle.mm_index.specs.Range.{from_range}
use Rattle.ttree_node.specs.Tree.{height}
use Rattle.ttree_node.specs.Walk.{rest_of}
use Rattle.ttree.specs.Held.{items_of_tree}
use Rattle.ttree.specs.Shape.{binary_digits}
use Rattle.ttree.proofs.tree.TTree.range.Given as goal

abbrev pub invariant-loop-r : goal.invariant-loop-r
invariant-loop-r g l = record {
  before : l.before ≡ length l.fn.out.items;
  added : l.out.items ≡ l.fn.out.items ++ l.yielded;
  left : from_range (g.P.Probe.place l.fn.probe) (items_of_tree l.self) ≡ l.yielded ++ rest_of l.r-iterator;
  equal : All (λ r. g.P.Probe.place l.fn.probe r ≡ Equal) l.yielded;
  only : IsOnlyAsked g.P.Probe.is_sound g.P.Probe.can_place g.P.Probe.place g.P.Probe.asked l.fn.probe l.probe;
  most : g.P.Probe.asked l.probe ≤ g.P.Probe.asked l.fn.probe + (height l.self.tree + binary_digits g.row.MAX) + length l.yielded;
}
