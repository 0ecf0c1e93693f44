use Rattle.std.proofs.Common.{◌≡◌, ◌<◌, ◌^◌, ◌∙◌, ◌∷◌, ℕ, List, [], Option, length, ap, sym, subst, refl, arith}
use Rattle.std.specs.List.{Contains}
use Rattle.std.specs.Vec.{with_items}
use Rattle.std.proofs.lemmas.List.{with_items_is, length-set}
use Rattle.mm_index.specs.Bag.{IsSameBag}
use Rattle.lin_hash.specs.declared.node.NodeLink.{NodeLink}
use Rattle.lin_hash.specs.declared.node.Node.{Node}
use Rattle.lin_hash.specs.Address.{bucket_of}
use Rattle.lin_hash.specs.Nodes.{head_at, node_at, next_at, leading_to, entries_of, relinked_head}
use Rattle.lin_hash.specs.Chains.{Placed, HoldsEntry, StandsAt, AreHung, Stands}
use Rattle.lin_hash.proofs.Hung.{AreHung-inside, AreHung-head}
use Rattle.lin_hash.proofs.Rehung.{HoldsEntry-hung}
use Rattle.lin_hash.proofs.Taken.{IsChain-stands, AreHung-taken, Stands-taken, behind-inside, length-taken, length-taken_head, entries-taken, AreHung-replaced, entries-replaced}
use Rattle.lin_hash.proofs.table.Table.replace.Goals as goal
use Rattle.lin_hash.proofs.table.Table.replace.Goals.{After-find-at, After-unlink}

pub index-requires : goal.index-requires
index-requires c =
    let t = c.self.inside in
    let l = AreHung-inside t.address.level t.address.mark t.nodes.items t.heads.items [] c.self.invariant.hung c.args.hash c.bucket-bucket.result c.bucket-bucket.ensures in
    omega (arith, l, t.heads.ok.0)

pub find-at-requires : goal.find-at-requires
find-at-requires c =
    let t = c.self.inside in
    let b = c.bucket-bucket.result in
    let held : Contains (entries_of t.nodes.items) (c.args.hash, c.args.r) = subst (λ es. Contains es (c.args.hash, c.args.r)) (sym (ap (λ v. v.entries) c.self.view_is)) c.requires in
    subst (λ (k : NodeLink). HoldsEntry t.nodes.items k c.args.hash c.args.r) (sym (AreHung-head t.address.level t.address.mark t.nodes.items t.heads.items [] c.self.invariant.hung c.args.hash c.bucket-bucket.result c.bucket-bucket.ensures c.index.result.now c.index.ensures))
    (HoldsEntry-hung t.address.level t.address.mark t.nodes.items t.heads.items c.self.invariant.hung c.args.hash b c.bucket-bucket.ensures c.args.r held)

stands_there : (c : After-find-at) → StandsAt c.self.inside.nodes.items (head_at c.self.inside.heads.items c.bucket-bucket.result) c.args.hash c.args.r c.find-at.result
stands_there c =
    let t = c.self.inside in
    subst (λ (k : NodeLink). StandsAt t.nodes.items k c.args.hash c.args.r c.find-at.result) (AreHung-head t.address.level t.address.mark t.nodes.items t.heads.items [] c.self.invariant.hung c.args.hash c.bucket-bucket.result c.bucket-bucket.ensures c.index.result.now c.index.ensures) c.find-at.ensures

pub unlink-requires-clause-place : goal.unlink-requires-clause-place
unlink-requires-clause-place c =
    let t = c.self.inside in
    let s = stands_there (goal.at.unlink-requires-clause-place c).After-find-at in
    (IsChain-stands t.nodes.items (head_at t.heads.items c.bucket-bucket.result) s.0 (c.args.hash, (c.args.r, c.find-at.result.place)) s.1 s.2).inside

pub unlink-requires-clause-behind : goal.unlink-requires-clause-behind
unlink-requires-clause-behind c =
    let t = c.self.inside in
    let s = stands_there (goal.at.unlink-requires-clause-behind c).After-find-at in
    behind-inside t.address.level t.address.mark t.nodes.items t.heads.items c.self.invariant.hung (c.args.hash, (c.args.r, c.find-at.result.place)) c.bucket-bucket.result c.bucket-bucket.ensures s.0 s.1 s.2 c.find-at.result.behind s.3

pub unlink-requires-clause-bucket : goal.unlink-requires-clause-bucket
unlink-requires-clause-bucket c =
    let t = c.self.inside in
    let l = AreHung-inside t.address.level t.address.mark t.nodes.items t.heads.items [] c.self.invariant.hung c.args.hash c.bucket-bucket.result c.bucket-bucket.ensures in
    rw c.deref_mut.ensures.value l

-- the node left its chain
abbrev target : After-unlink → Placed
target c = (c.args.hash, (c.args.r, c.find-at.result.place))

abbrev heads_left : After-unlink → List NodeLink
heads_left c = relinked_head c.self.inside.heads.items c.bucket-bucket.result c.find-at.result.behind (next_at c.self.inside.nodes.items c.find-at.result.place)

hung_left : (c : After-unlink) → AreHung c.self.inside.address.level c.self.inside.address.mark c.unlink.new.nodes.items (heads_left c) (target c ∷ [])
hung_left c =
    let t = c.self.inside in
    let s = subst (λ (k : NodeLink). StandsAt t.nodes.items k c.args.hash c.args.r c.find-at.result) (AreHung-head t.address.level t.address.mark t.nodes.items t.heads.items [] c.self.invariant.hung c.args.hash c.bucket-bucket.result c.bucket-bucket.ensures c.index.result.now c.index.ensures) c.find-at.ensures in
    rw c.unlink.ensures.nodes (AreHung-taken t.address.level t.address.mark t.nodes.items t.heads.items c.self.invariant.hung (target c) c.bucket-bucket.result c.bucket-bucket.ensures s.0 s.1 s.2 c.find-at.result.behind s.3)

stands_left : (c : After-unlink) → Stands c.unlink.new.nodes.items (target c)
stands_left c =
    let t = c.self.inside in
    let s = subst (λ (k : NodeLink). StandsAt t.nodes.items k c.args.hash c.args.r c.find-at.result) (AreHung-head t.address.level t.address.mark t.nodes.items t.heads.items [] c.self.invariant.hung c.args.hash c.bucket-bucket.result c.bucket-bucket.ensures c.index.result.now c.index.ensures) c.find-at.ensures in
    rw c.unlink.ensures.nodes (Stands-taken t.address.level t.address.mark t.nodes.items t.heads.items c.self.invariant.hung (target c) c.bucket-bucket.result c.bucket-bucket.ensures s.0 s.1 s.2 c.find-at.result.behind s.3)

few_left : (c : After-unlink) → length c.unlink.new.nodes.items < 2 ^ 32
few_left c =
    let t = c.self.inside in
    let unlinked = ap length c.unlink.ensures.nodes in
    let same = length-taken t.nodes.items c.find-at.result.behind (next_at t.nodes.items c.find-at.result.place) in
    let few = c.self.invariant.few in
    omega (arith, unlinked, same, few)

pub put-requires : goal.put-requires
put-requires c = (stands_left (goal.at.put-requires c).After-unlink).inside

pub link-requires-clause-place : goal.link-requires-clause-place
link-requires-clause-place c =
    let stands = stands_left (goal.at.link-requires-clause-place c).After-unlink in
    let inside = stands.inside in
    let put = ap length c.put.ensures.items in
    let same = length-set c.unlink.new.nodes.items c.find-at.result.place (record { hash = c.args.by.0; reference = c.args.by.1; next = c.none-next.result }) in
    omega (arith, inside, put, same)

pub link-requires-clause-bucket : goal.link-requires-clause-bucket
link-requires-clause-bucket c =
    let t = c.self.inside in
    let l = AreHung-inside t.address.level t.address.mark t.nodes.items t.heads.items [] c.self.invariant.hung (node_at c.put.new.self.items c.find-at.result.place).hash _ refl in
    omega (arith, l, c.deref_mut-2.ensures.len, t.heads.ok.0)

pub invariant_of-self : goal.invariant_of-self
invariant_of-self c =
    let t = c.self.inside in
    let d = (goal.at.invariant_of-self c).After-unlink in
    let n : Node = record { hash = c.args.by.0; reference = c.args.by.1; next = c.none-next.result } in
    let behind : Option ℕ = c.find-at.result.behind in
    let next : NodeLink = next_at t.nodes.items c.find-at.result.place in
    let heads_now : c.unlink.new.heads ≡ heads_left d = rw c.deref_mut.ensures.value at c.unlink.ensures.heads in
    let heads_len : length c.unlink.new.heads ≡ t.heads.len = ap length heads_now ∙ length-taken_head t.heads.items c.bucket-bucket.result behind next ∙ omega (arith, t.heads.ok.0) in
    let between : c.deref_mut-2.result.now ≡ heads_left d = c.deref_mut-2.ensures.value ∙ with_items_is t.heads c.unlink.new.heads heads_len ∙ heads_now in
    let new_nodes = rw between at c.link.ensures.nodes in
    let new_heads = rw between at c.link.ensures.heads in
    let linked_len : length c.link.new.heads ≡ t.heads.len = ap length new_heads ∙ length-set (heads_left d) _ _ ∙ ap length (sym heads_now) ∙ heads_len in
    let heads = with_items_is (with_items t.heads c.unlink.new.heads) c.link.new.heads linked_len in
    let few = few_left d in
    let put = ap length c.put.ensures.items in
    let same = length-set c.unlink.new.nodes.items c.find-at.result.place n in
    let linked = ap length new_nodes in
    let again = length-set c.put.new.self.items c.find-at.result.place (leading_to (node_at c.put.new.self.items c.find-at.result.place) (head_at (heads_left d) (bucket_of t.address.level t.address.mark (node_at c.put.new.self.items c.find-at.result.place).hash))) in
    record {
      hung = rw heads (AreHung-replaced t.address.level t.address.mark c.unlink.new.nodes.items (heads_left d) (target d) (hung_left d) (stands_left d) few n c.put.new.self.items c.put.ensures.items c.link.new.nodes.items c.link.new.heads new_nodes new_heads);
      few = omega (arith, few, put, same, linked, again);
    }

pub returns-clause-entries : goal.returns-clause-entries
returns-clause-entries c =
    let t = c.self.inside in
    let d = (goal.at.returns-clause-entries c).After-unlink in
    let n : Node = record { hash = c.args.by.0; reference = c.args.by.1; next = c.none-next.result } in
    let behind : Option ℕ = c.find-at.result.behind in
    let next : NodeLink = next_at t.nodes.items c.find-at.result.place in
    let heads_now : c.unlink.new.heads ≡ heads_left d = rw c.deref_mut.ensures.value at c.unlink.ensures.heads in
    let heads_len : length c.unlink.new.heads ≡ t.heads.len = ap length heads_now ∙ length-taken_head t.heads.items c.bucket-bucket.result behind next ∙ omega (arith, t.heads.ok.0) in
    let between : c.deref_mut-2.result.now ≡ heads_left d = c.deref_mut-2.ensures.value ∙ with_items_is t.heads c.unlink.new.heads heads_len ∙ heads_now in
    let new_nodes = rw between at c.link.ensures.nodes in
    let bag = entries-replaced t.address.level t.address.mark c.unlink.new.nodes.items (heads_left d) (target d) (hung_left d) (stands_left d) (few_left d) n c.put.new.self.items c.put.ensures.items c.link.new.nodes.items c.link.new.heads new_nodes in
    let left : entries_of c.unlink.new.nodes.items ≡ c.args.self.now.entries = ap entries_of c.unlink.ensures.nodes ∙ entries-taken t.nodes.items behind next ∙ ap (λ v. v.entries) c.self.view_is in
    subst (λ es. IsSameBag ((c.args.hash, c.args.r) ∷ entries_of c.link.new.nodes.items) (c.args.by ∷ es)) left bag
