use Rattle.std.proofs.Common.{◌≡◌, ◌-◌, ◌*◌, ◌<◌, ◌≤◌, ◌∷◌, ◌++◌, ℕ, [], List, length, get_or, take, sym, ap, ◌∙◌, arith}
use Rattle.lin_hash.specs.declared.node.Node.{Node}
use Rattle.lin_hash.specs.Blocks.{nodes_in}
use Rattle.lin_hash.specs.Nodes.{node_at}
use Rattle.lin_hash.proofs.InBlocks.{length-filled, filled-pop}
use Rattle.lin_hash.proofs.nodes.Nodes.pop.Goals as goal

pub returns-clause-items : goal.returns-clause-items
returns-clause-items c =
    let bs = c.self.inside.blocks.items in
    let n : ℕ = c.self.inside.len in
    let ok = c.self.inside.blocks.ok.0 in
    let within : n ≤ 256 * length bs = omega (arith, ok, c.self.invariant.within) in
    let items : take n (nodes_in bs) ≡ c.args.self.now.items = ap (λ v. v.items) c.self.view_is in
    let filled = length-filled bs n within in
    let len = ap length items in
    let d : Node = record { hash = 0; reference = record { number = 0 }; next = record { place = 0 } } in
    let some : 0 < n = omega (arith, filled, len, c.requires) in
    let last : get_or (take n (nodes_in bs)) (n - 1) d ≡ node_at c.args.self.now.items (length c.args.self.now.items - 1) =
    ap (λ k. get_or (take n (nodes_in bs)) (k - 1) d) (sym filled) ∙ ap (λ (is : List Node). node_at is (length is - 1)) items in
    sym items ∙ filled-pop bs n d some within ∙ ap (λ (m : Node). take (n - 1) (nodes_in bs) ++ m ∷ []) last
