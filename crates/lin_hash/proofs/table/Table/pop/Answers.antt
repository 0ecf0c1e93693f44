use Rattle.std.proofs.Common.{◌≡◌, ◌<◌, ◌-◌, ◌∙◌, ◌∷◌, ◌++◌, ℕ, [], Option, length, ap, sym, subst, arith}
use Rattle.std.proofs.lemmas.List.{with_items_is, length-map, length-append}
use Rattle.lin_hash.specs.declared.node.NodeLink.{NodeLink}
use Rattle.lin_hash.specs.Address.{bucket_of}
use Rattle.lin_hash.specs.Nodes.{head_at, node_at, next_at, entry_of, entries_of, relinked_head}
use Rattle.lin_hash.specs.Chains.{placed_at, IsBehind, Visits}
use Rattle.lin_hash.proofs.Hung.{AreHung-inside, AreHung-head}
use Rattle.lin_hash.proofs.Rehung.{Visits-hung}
use Rattle.lin_hash.proofs.Taken.{AreHung-taken, Stands-taken, behind-inside, length-taken, length-taken_head, entries-taken, AreHung-last, entries-last}
use Rattle.lin_hash.proofs.table.Table.pop.Goals as goal
use Rattle.lin_hash.proofs.table.Table.pop.Goals.{After-index, After-before-behind}

pub index-requires : goal.index-requires
index-requires c =
    let t = c.self.inside in
    let l = AreHung-inside t.address.level t.address.mark t.nodes.items t.heads.items [] c.self.invariant.hung c.get-node.result.hash c.bucket-bucket.result c.bucket-bucket.ensures in
    omega (arith, l, t.heads.ok.0)

place_inside : (c : After-index) → c.len-place.result - 1 < length c.self.inside.nodes.items
place_inside c =
    let t = c.self.inside in
    let entries = ap (λ v. length v.entries) c.self.view_is in
    let mapped = length-map t.nodes.items entry_of in
    omega (arith, entries, mapped, c.requires, c.len-place.ensures.value)

pub before-behind-requires : goal.before-behind-requires
before-behind-requires c =
    let t = c.self.inside in
    let d = (goal.at.before-behind-requires c).After-index in
    let p : ℕ = c.len-place.result - 1 in
    subst (λ (k : NodeLink). Visits t.nodes.items k p) (sym (AreHung-head t.address.level t.address.mark t.nodes.items t.heads.items [] c.self.invariant.hung c.get-node.result.hash c.bucket-bucket.result c.bucket-bucket.ensures c.index.result.now c.index.ensures))
    (Visits-hung t.address.level t.address.mark t.nodes.items t.heads.items c.self.invariant.hung p (place_inside d) c.bucket-bucket.result (c.bucket-bucket.ensures ∙ ap (λ n. bucket_of t.address.level t.address.mark n.hash) c.get-node.ensures))

stands_behind : (c : After-before-behind) → IsBehind c.self.inside.nodes.items (head_at c.self.inside.heads.items c.bucket-bucket.result) (placed_at c.self.inside.nodes.items (c.len-place.result - 1)) c.before-behind.result
stands_behind c =
    let t = c.self.inside in
    let nodes = t.nodes.items in
    subst (λ (k : NodeLink). IsBehind nodes k (placed_at nodes (c.len-place.result - 1)) c.before-behind.result) (AreHung-head t.address.level t.address.mark t.nodes.items t.heads.items [] c.self.invariant.hung c.get-node.result.hash c.bucket-bucket.result c.bucket-bucket.ensures c.index.result.now c.index.ensures) c.before-behind.ensures

pub unlink-requires-clause-behind : goal.unlink-requires-clause-behind
unlink-requires-clause-behind c =
    let t = c.self.inside in
    let d = (goal.at.unlink-requires-clause-behind c).After-before-behind in
    let s = stands_behind d in
    behind-inside t.address.level t.address.mark t.nodes.items t.heads.items c.self.invariant.hung (placed_at t.nodes.items (c.len-place.result - 1)) c.bucket-bucket.result (c.bucket-bucket.ensures ∙ ap (λ n. bucket_of t.address.level t.address.mark n.hash) c.get-node.ensures) s.0 s.1 s.2 c.before-behind.result s.3

pub unlink-requires-clause-bucket : goal.unlink-requires-clause-bucket
unlink-requires-clause-bucket c =
    let t = c.self.inside in
    let l = AreHung-inside t.address.level t.address.mark t.nodes.items t.heads.items [] c.self.invariant.hung c.get-node.result.hash c.bucket-bucket.result c.bucket-bucket.ensures in
    rw c.deref_mut.ensures.value l

pub invariant_of-self : goal.invariant_of-self
invariant_of-self c =
    let t = c.self.inside in
    let h = c.self.invariant.hung in
    let b = c.bucket-bucket.result in
    let p : ℕ = c.len-place.result - 1 in
    let d = (goal.at.invariant_of-self c).After-before-behind in
    let s = stands_behind d in
    let at = c.bucket-bucket.ensures ∙ ap (λ n. bucket_of t.address.level t.address.mark n.hash) c.get-node.ensures in
    let behind : Option ℕ = c.before-behind.result in
    let next : NodeLink = next_at t.nodes.items p in
    let x = placed_at t.nodes.items p in
    let heads_now : c.unlink.new.heads ≡ relinked_head t.heads.items b behind next = rw c.deref_mut.ensures.value at c.unlink.ensures.heads in
    let heads_len : length c.unlink.new.heads ≡ t.heads.len = ap length heads_now ∙ length-taken_head t.heads.items b behind next ∙ omega (arith, t.heads.ok.0) in
    let heads = with_items_is t.heads c.unlink.new.heads heads_len in
    let unlinked = c.unlink.ensures.nodes in
    let unlinked_len = ap length unlinked in
    let same_len = length-taken t.nodes.items behind next in
    let popped = ap length c.pop.ensures.items in
    let longer = length-append c.pop.new.self.items (node_at c.unlink.new.nodes.items (length c.unlink.new.nodes.items - 1) ∷ []) in
    let few = c.self.invariant.few in
    let hung = AreHung-taken t.address.level t.address.mark t.nodes.items t.heads.items h x b at s.0 s.1 s.2 behind s.3 in
    let stands = Stands-taken t.address.level t.address.mark t.nodes.items t.heads.items h x b at s.0 s.1 s.2 behind s.3 in
    record {
      hung = rw (heads, heads_now) (AreHung-last t.address.level t.address.mark c.unlink.new.nodes.items (relinked_head t.heads.items b behind next) x (rw unlinked hung) (rw unlinked stands) c.pop.new.self.items (node_at c.unlink.new.nodes.items (length c.unlink.new.nodes.items - 1)) c.pop.ensures.items (omega (arith, unlinked_len, same_len, popped, longer, c.len-place.ensures.value)));
      few = omega (arith, few, unlinked_len, same_len, popped, longer);
    }

pub returns-clause-entries : goal.returns-clause-entries
returns-clause-entries c =
    let t = c.self.inside in
    let h = c.self.invariant.hung in
    let b = c.bucket-bucket.result in
    let p : ℕ = c.len-place.result - 1 in
    let d = (goal.at.returns-clause-entries c).After-before-behind in
    let s = stands_behind d in
    let at = c.bucket-bucket.ensures ∙ ap (λ n. bucket_of t.address.level t.address.mark n.hash) c.get-node.ensures in
    let behind : Option ℕ = c.before-behind.result in
    let next : NodeLink = next_at t.nodes.items p in
    let x = placed_at t.nodes.items p in
    let unlinked = c.unlink.ensures.nodes in
    let unlinked_len = ap length unlinked in
    let same_len = length-taken t.nodes.items behind next in
    let popped = ap length c.pop.ensures.items in
    let longer = length-append c.pop.new.self.items (node_at c.unlink.new.nodes.items (length c.unlink.new.nodes.items - 1) ∷ []) in
    let hung = AreHung-taken t.address.level t.address.mark t.nodes.items t.heads.items h x b at s.0 s.1 s.2 behind s.3 in
    let stands = Stands-taken t.address.level t.address.mark t.nodes.items t.heads.items h x b at s.0 s.1 s.2 behind s.3 in
    let last = entries-last t.address.level t.address.mark c.unlink.new.nodes.items (relinked_head t.heads.items b behind next) x (rw unlinked hung) (rw unlinked stands) c.pop.new.self.items (node_at c.unlink.new.nodes.items (length c.unlink.new.nodes.items - 1)) c.pop.ensures.items (omega (arith, unlinked_len, same_len, popped, longer, c.len-place.ensures.value)) in
    let node : entry_of (node_at t.nodes.items p) ≡ entry_of c.get-node.result = ap entry_of (sym c.get-node.ensures) in
    sym (ap (λ v. v.entries) c.self.view_is) ∙ sym (entries-taken t.nodes.items behind next) ∙ ap entries_of (sym unlinked) ∙ last ∙ ap (λ e. entries_of c.pop.new.self.items ++ e ∷ []) node
