use Rattle.std.proofs.Common.{◌∙◌, sym, arith}
use Rattle.lin_hash.proofs.Copied.{shown-length, shown-nodes, shown-covered, shown-spares}
use Rattle.lin_hash.proofs.row_nodes.RowNodes.try_clone.Goals as goal

pub invariant_of-result : goal.invariant_of-result
invariant_of-result c =
    let old = c.self.inside.blocks.items in let new = c.in_ok-blocks.blocks.items in
    let few = c.self.invariant.few in
    record {
      counted = c.self.invariant.counted ∙ sym (shown-spares new old c.in_ok-blocks.ensures);
      few = omega (arith, few, shown-length new old c.in_ok-blocks.ensures, c.self.inside.blocks.ok.0, c.in_ok-blocks.blocks.ok.0);
    }

pub returns : goal.returns
returns c =
    let old = c.self.inside.blocks.items in let new = c.in_ok-blocks.blocks.items in
    (λ i. record { items = shown-nodes new old c.in_ok-blocks.ensures i; covered = shown-covered new old c.in_ok-blocks.ensures i }) ∙ c.self.view_is
