use Rattle.std.proofs.Common.{◌≡◌, ◌*◌, ◌≤◌, ℕ, length, take, ap, ◌∙◌, arith}
use Rattle.lin_hash.specs.Blocks.{nodes_in}
use Rattle.lin_hash.proofs.InBlocks.{length-filled, nodes_in-fewer}
use Rattle.lin_hash.proofs.nodes.Nodes.release_spares.Goals as goal

pub returns-clause-items : goal.returns-clause-items
returns-clause-items c =
    let bs = c.self.inside.blocks.items in
    let n : ℕ = c.self.inside.len in
    let ok = c.self.inside.blocks.ok.0 in
    let within : n ≤ 256 * length bs = omega (arith, ok, c.self.invariant.within) in
    let items : take n (nodes_in bs) ≡ c.args.self.now.items = ap (λ v. v.items) c.self.view_is in
    let filled = length-filled bs n within in
    let len = ap length items in
    let enough : n ≤ 256 * c.div_ceil.result = omega (arith, c.div_ceil.ensures) in
    ap (λ cs. take n (nodes_in cs)) (c.shrink_to_fit.ensures.items ∙ c.truncate.ensures.items) ∙ nodes_in-fewer bs c.div_ceil.result n enough within ∙ items

pub returns-clause-few : goal.returns-clause-few
returns-clause-few c =
    let bs = c.self.inside.blocks.items in
    let n : ℕ = c.self.inside.len in
    let ok = c.self.inside.blocks.ok.0 in
    let within : n ≤ 256 * length bs = omega (arith, ok, c.self.invariant.within) in
    let items : take n (nodes_in bs) ≡ c.args.self.now.items = ap (λ v. v.items) c.self.view_is in
    let filled = length-filled bs n within in
    let len = ap length items in
    omega (arith, filled, len, c.div_ceil.ensures, c.truncate.ensures.len, c.shrink_to_fit.ensures.len)
