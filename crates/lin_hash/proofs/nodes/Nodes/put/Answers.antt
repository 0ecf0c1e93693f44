use Rattle.std.proofs.Common.{◌≡◌, ◌*◌, ◌<◌, ◌≤◌, ℕ, List, length, set, take, ap, ◌∙◌, arith}
use Rattle.lin_hash.specs.declared.node.Node.{Node}
use Rattle.lin_hash.specs.Blocks.{nodes_in}
use Rattle.lin_hash.proofs.InBlocks.{length-filled, filled-set}
use Rattle.lin_hash.proofs.nodes.Nodes.put.Goals as goal

pub returns-clause-items : goal.returns-clause-items
returns-clause-items c =
    let bs = c.self.inside.blocks.items in
    let n : ℕ = c.self.inside.len in
    let ok = c.self.inside.blocks.ok.0 in
    let within : n ≤ 256 * length bs = omega (arith, ok, c.self.invariant.within) in
    let items : take n (nodes_in bs) ≡ c.args.self.now.items = ap (λ v. v.items) c.self.view_is in
    let filled = length-filled bs n within in
    let len = ap length items in
    let inside : c.args.place < n = omega (arith, filled, len, c.requires) in
    filled-set bs n c.args.place c.index_mut.result.now c.put.new.self c.args.node within inside c.index_mut.ensures.value c.put.ensures
    ∙ ap (λ (is : List Node). set is c.args.place c.args.node) items
