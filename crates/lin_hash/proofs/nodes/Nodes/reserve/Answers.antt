use Rattle.std.proofs.Common.{◌≡◌, ◌*◌, ◌≤◌, ◌++◌, ℕ, length, take, ap, ◌∙◌, arith}
use Rattle.lin_hash.specs.Blocks.{nodes_in}
use Rattle.lin_hash.proofs.InBlocks.{length-filled, filled-more}
use Rattle.lin_hash.proofs.nodes.Nodes.reserve.Goals as goal

pub returns-clause-items : goal.returns-clause-items
returns-clause-items c =
    let bs = c.self.inside.blocks.items in
    let n : ℕ = c.self.inside.len in
    let ok = c.self.inside.blocks.ok.0 in
    let within : n ≤ 256 * length bs = omega (arith, ok, c.self.invariant.within) in
    let items : take n (nodes_in bs) ≡ c.args.self.now.items = ap (λ v. v.items) c.self.view_is in
    let filled = length-filled bs n within in
    let len = ap length items in
    let more = c.add_blocks.ensures.nodes in
    let same = c.reserve_by_doubling.ensures.items in
    filled-more bs c.add_blocks.new.blocks.items more.0 n (more.1 ∙ ap (λ cs. nodes_in cs ++ more.0) same) within ∙ items
