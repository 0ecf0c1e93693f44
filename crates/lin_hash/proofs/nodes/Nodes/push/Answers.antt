use Rattle.std.proofs.Common.{◌+◌, ◌^◌, sym, ◌≡◌, ◌*◌, ◌<◌, ◌≤◌, ◌∷◌, ◌++◌, ℕ, [], length, take, ap, ◌∙◌, arith}
use Rattle.lin_hash.specs.Blocks.{nodes_in}
use Rattle.lin_hash.proofs.InBlocks.{length-filled, filled-push}
use Rattle.lin_hash.proofs.nodes.Nodes.push.Goals as goal
use Rattle.lin_hash.proofs.nodes.Nodes.push.Goals.{After-index_mut}
use Rattle.std.proofs.lemmas.List.{length-append}

pub index_mut-requires : goal.index_mut-requires
index_mut-requires c =
    let bs = c.self.inside.blocks.items in
    let n : ℕ = c.self.inside.len in
    let ok = c.self.inside.blocks.ok.0 in
    let within : n ≤ 256 * length bs = omega (arith, ok, c.self.invariant.within) in
    let items : take n (nodes_in bs) ≡ c.args.self.now.items = ap (λ v. v.items) c.self.view_is in
    let filled = length-filled bs n within in
    let len = ap length items in
    let memory = ap (λ v. v.memory) c.self.view_is in
    omega (arith, filled, len, memory, c.requires)

-- how many nodes there are, and that there is memory for one more
counted : (c : After-index_mut) → (length c.args.self.now.items ≡ c.self.inside.len) × (c.self.inside.len < 256 * length c.self.inside.blocks.items) × (c.self.inside.len + 1 < 2 ^ 32)
counted c =
    let ok = c.self.inside.blocks.ok.0 in
    let within : c.self.inside.len ≤ 256 * length c.self.inside.blocks.items = omega (arith, ok, c.self.invariant.within) in
    let len : length c.args.self.now.items ≡ c.self.inside.len = sym (ap (λ v. length v.items) c.self.view_is) ∙ length-filled c.self.inside.blocks.items c.self.inside.len within in
    let memory = ap (λ v. v.memory) c.self.view_is in
    (len, omega (arith, len, memory, ok, c.requires), omega (arith, len, memory, c.requires))

pub invariant_of-self : goal.invariant_of-self
invariant_of-self c =
    let is = counted (goal.at.invariant_of-self c).After-index_mut in
    record {
      within = omega (arith, is.1, c.self.inside.blocks.ok.0);
      few = omega (arith, is.2);
      few_blocks = c.self.invariant.few_blocks;
    }

pub returns-clause-items : goal.returns-clause-items
returns-clause-items c =
    let is = counted (goal.at.returns-clause-items c).After-index_mut in
    filled-push c.self.inside.blocks.items c.self.inside.len c.index_mut.result.now c.put.new.self c.args.node is.1 c.index_mut.ensures.value c.put.ensures
    ∙ ap (λ v. v.items ++ c.args.node ∷ []) c.self.view_is

pub returns-clause-few : goal.returns-clause-few
returns-clause-few c =
    let is = counted (goal.at.returns-clause-few c).After-index_mut in
    let pushed = ap length (filled-push c.self.inside.blocks.items c.self.inside.len c.index_mut.result.now c.put.new.self c.args.node is.1 c.index_mut.ensures.value c.put.ensures ∙ ap (λ v. v.items ++ c.args.node ∷ []) c.self.view_is) in
    omega (arith, pushed, length-append c.args.self.now.items (c.args.node ∷ []), is.0, is.2)
