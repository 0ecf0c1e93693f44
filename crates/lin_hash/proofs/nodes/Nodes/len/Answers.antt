use Rattle.std.proofs.Common.{◌≡◌, ◌*◌, ◌≤◌, ℕ, length, take, sym, ap, ◌∙◌, arith}
use Rattle.lin_hash.specs.Blocks.{nodes_in}
use Rattle.lin_hash.proofs.InBlocks.{length-filled}
use Rattle.lin_hash.proofs.nodes.Nodes.len.Goals as goal

pub returns-clause-value : goal.returns-clause-value
returns-clause-value c =
    let bs = c.self.inside.blocks.items in
    let n : ℕ = c.self.inside.len in
    let ok = c.self.inside.blocks.ok.0 in
    let within : n ≤ 256 * length bs = omega (arith, ok, c.self.invariant.within) in
    let items : take n (nodes_in bs) ≡ c.args.self.now.items = ap (λ v. v.items) c.self.view_is in
    let filled = length-filled bs n within in
    let len = ap length items in
    sym filled ∙ len
