use Rattle.std.proofs.Common.{◌≡◌, ◌≤◌, List, [], length, get_or, map, ap, sym, ◌∙◌, subst, arith}
use Rattle.std.proofs.lemmas.List.{get_or_default, length-take}
use Rattle.lin_hash.specs.declared.node.NodeLink.{NodeLink}
use Rattle.lin_hash.specs.declared.node.Node.{Node}
use Rattle.lin_hash.specs.Blocks.{nodes_in}
use Rattle.lin_hash.specs.Nodes.{head_at, entries_from}
use Rattle.lin_hash.specs.Chains.{entry_in, IsChain}
use Rattle.lin_hash.specs.Walks.{EndsWithin}
use Rattle.lin_hash.proofs.Hung.{AreHung-inside}
use Rattle.lin_hash.proofs.Rehung.{hung-chain, hung-chain_short, IsSameBag-hung}
use Rattle.lin_hash.proofs.Walks.{EndsWithin-from_chain, entries_from-chain, IsChain-front}
use Rattle.lin_hash.proofs.table.Table.chain.Goals as goal
use Rattle.lin_hash.proofs.table.Table.chain.Goals.{After-as_blocks}

pub index-requires : goal.index-requires
index-requires c =
    let t = c.self.inside in
    let l = AreHung-inside t.address.level t.address.mark t.nodes.items t.heads.items [] c.self.invariant.hung c.args.hash c.bucket-bucket.result c.bucket-bucket.ensures in
    omega (arith, l, t.heads.ok.0)

-- the walk is along the blocks, whose first nodes are those in use
blocked : (c : After-as_blocks) → let t = c.self.inside in let all = nodes_in c.as_blocks.result.now in let es = get_or c.self.invariant.hung.chains c.bucket-bucket.result [] in
    IsChain all (head_at t.heads.items c.bucket-bucket.result) es × (length es ≤ length all)
blocked c =
    let t = c.self.inside in
    let h = c.self.invariant.hung in
    let b = c.bucket-bucket.result in
    let n = length t.nodes.items in
    let all = nodes_in c.as_blocks.result.now in
    let es = get_or h.chains b [] in
    let chain = hung-chain t.address.level t.address.mark t.nodes.items t.heads.items h c.args.hash b c.bucket-bucket.ensures in
    let short = hung-chain_short t.address.level t.address.mark t.nodes.items t.heads.items h c.args.hash b c.bucket-bucket.ensures in
    let used = ap length c.as_blocks.ensures in
    let front = length-take n all in (
      IsChain-front n all (head_at t.heads.items b) es (subst (λ (ns : List Node). IsChain ns (head_at t.heads.items b) es) (sym c.as_blocks.ensures) chain),
      omega (arith, short, used, front),
    )

pub new-requires : goal.new-requires
new-requires c =
    let t = c.self.inside in
    let b = c.bucket-bucket.result in
    let l = AreHung-inside t.address.level t.address.mark t.nodes.items t.heads.items [] c.self.invariant.hung c.args.hash b c.bucket-bucket.ensures in
    let head : c.index.result.now ≡ head_at t.heads.items b = c.index.ensures ∙ get_or_default t.heads.items b _ _ l in
    let all = nodes_in c.as_blocks.result.now in
    let walk = blocked (goal.at.new-requires c).After-as_blocks in
    subst (λ (l : NodeLink). EndsWithin (length all) all l) (sym head) (EndsWithin-from_chain (length all) all (head_at t.heads.items b) _ walk.0 walk.1)

pub returns : goal.returns
returns c =
    let t = c.self.inside in
    let h = c.self.invariant.hung in
    let b = c.bucket-bucket.result in
    let l = AreHung-inside t.address.level t.address.mark t.nodes.items t.heads.items [] h c.args.hash b c.bucket-bucket.ensures in
    let head : c.index.result.now ≡ head_at t.heads.items b = c.index.ensures ∙ get_or_default t.heads.items b _ _ l in
    let all = nodes_in c.as_blocks.result.now in
    let chain = blocked (goal.at.returns c).After-as_blocks in
    let walk : entries_from (length all) all (head_at t.heads.items b) ≡ map entry_in (get_or h.chains b []) =
    entries_from-chain (length all) all (head_at t.heads.items b) (get_or h.chains b []) chain.0 chain.1 in
    let held = IsSameBag-hung t.address.level t.address.mark t.nodes.items t.heads.items h c.args.hash b c.bucket-bucket.ensures in
    rw (c.new.ensures, head, walk, ← ap (λ t. t.entries) c.self.view_is) held
