use Rattle.std.proofs.Common.{[], ◌∷◌, ◌++◌, refl, sym, ◌∙◌, arith, append-nil}
use Rattle.lin_hash.specs.Blocks.{nodes_in}
use Rattle.lin_hash.proofs.InBlocks.{nodes_in-pushed}
use Rattle.lin_hash.proofs.blocks.add_blocks.Goals as goal

pub loop-init : goal.loop-init
loop-init c = record {
  nodes = ([], sym (append-nil _));
  capacity = refl;
  counted = sym c.len-counter.ensures;
  more = omega arith;
  few = omega arith;
}

pub loop-preserved : goal.loop-preserved
loop-preserved c =
    let i = c.loop.invariant.nodes in
    let counted = c.loop.invariant.counted in
    let more = c.loop.invariant.more in
    let longer = c.push_reserved.ensures.len in
    record {
      nodes = (i.0 ++ nodes_in (c.in_ok-block.block ∷ []), nodes_in-pushed c.args.blocks.now.items c.loop.blocks.items _ c.in_ok-block.block i.0 i.1 c.push_reserved.ensures.items);
      capacity = c.push_reserved.ensures.capacity ∙ c.loop.invariant.capacity;
      counted = omega (arith, counted, longer);
      more = omega (arith, more, longer);
      few = omega (arith, counted, longer, c.loop-test.true);
    }
