use Rattle.std.proofs.Common.{◌≡◌, ◌∙◌, ◌∷◌, [], length, ap, refl, arith}
use Rattle.std.proofs.lemmas.List.{with_items_is, length-set, length-append}
use Rattle.lin_hash.specs.declared.node.Node.{Node}
use Rattle.lin_hash.specs.Nodes.{node_at}
use Rattle.lin_hash.proofs.Hung.{AreHung-inside}
use Rattle.lin_hash.proofs.Taken.{AreHung-added, IsSameBag-added}
use Rattle.lin_hash.proofs.table.Table.add.Goals as goal

pub link-requires-clause-few : goal.link-requires-clause-few
link-requires-clause-few c = c.push.ensures.few

pub link-requires-clause-bucket : goal.link-requires-clause-bucket
link-requires-clause-bucket c =
    let t = c.self.inside in
    rw c.deref_mut.ensures.value (AreHung-inside t.address.level t.address.mark t.nodes.items t.heads.items [] c.self.invariant.hung (node_at c.push.new.self.items c.len-place.result).hash _ refl)

pub invariant_of-self : goal.invariant_of-self
invariant_of-self c =
    let t = c.self.inside in
    let n : Node = record { hash = c.args.hash; reference = c.args.r; next = c.none.result } in
    let longer = length-append t.nodes.items (n ∷ []) in
    let pushed = ap length c.push.ensures.items in
    let few = c.push.ensures.few in
    let new_nodes = rw c.deref_mut.ensures.value at c.link.ensures.nodes in
    let new_heads = rw c.deref_mut.ensures.value at c.link.ensures.heads in
    let nodes_len : length c.link.new.nodes.items ≡ length c.push.new.self.items = ap length new_nodes ∙ length-set c.push.new.self.items c.len-place.result _ in
    let heads_len : length c.link.new.heads ≡ length t.heads.items = ap length new_heads ∙ length-set t.heads.items _ _ in
    let heads = with_items_is t.heads c.link.new.heads (omega (arith, heads_len, t.heads.ok.0)) in
    record {
      hung = rw heads (AreHung-added t.address.level t.address.mark t.nodes.items t.heads.items n c.self.invariant.hung (omega (arith, longer, pushed, few)) c.push.new.self.items c.push.ensures.items c.len-place.result c.len-place.ensures.value c.link.new.nodes.items c.link.new.heads new_nodes new_heads);
      few = omega (arith, nodes_len, few);
    }

pub returns-clause-entries : goal.returns-clause-entries
returns-clause-entries c =
    let t = c.self.inside in
    let n : Node = record { hash = c.args.hash; reference = c.args.r; next = c.none.result } in
    let longer = length-append t.nodes.items (n ∷ []) in
    let pushed = ap length c.push.ensures.items in
    let few = c.push.ensures.few in
    let new_nodes = rw c.deref_mut.ensures.value at c.link.ensures.nodes in
    rw (← ap (λ h. h.entries) c.self.view_is) (IsSameBag-added t.address.level t.address.mark t.nodes.items t.heads.items n c.self.invariant.hung (omega (arith, longer, pushed, few)) c.push.new.self.items c.push.ensures.items c.len-place.result c.len-place.ensures.value c.link.new.nodes.items c.link.new.heads new_nodes)
