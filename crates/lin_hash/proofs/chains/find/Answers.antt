use Rattle.std.proofs.Common.{◌≡◌, ◌≢◌, ◌<◌, [], ◌∷◌, ◌++◌, List, length, map, None, Some, sym, subst, ap, ◌∙◌, refl, arith, rules}
use Rattle.std.specs.List.{Contains}
use Rattle.std.proofs.lemmas.List.{append_assoc}
use Rattle.lin_hash.specs.Nodes.{leads_to, node_at, next_at, entry_at}
use Rattle.lin_hash.specs.Chains.{Placed, entry_in, placed_at, IsChain, HoldsEntry}
use Rattle.lin_hash.proofs.Chaining.{IsChain-unique}
use Rattle.lin_hash.proofs.Hung.{IsChain-first}
use Rattle.lin_hash.proofs.Linking.{last_place-push, Contains-behind}
use Rattle.lin_hash.proofs.Walks.{EndsWithin-from_chain, walk-smaller}
use Rattle.lin_hash.proofs.chains.find.Goals as goal
use Rattle.lin_hash.proofs.chains.find.Goals.{else-node-hash-via-then-node-hash+else-eq, else-node-hash-via-else-node-hash}

pub loop-place-init : goal.loop-place-init
loop-place-init c =
    let held : HoldsEntry c.args.nodes.now.items c.args.first c.args.hash c.args.r = c.requires in
    ([], held.0, held.1, held.1, held.2, held.3, refl)

pub get-node-requires : goal.get-node-requires
get-node-requires c =
    let nodes = c.args.nodes.now.items in
    let i = c.loop-place.invariant in
    let is : leads_to c.loop-place.at ≡ Some c.in-Some.place = sym c.place.ensures ∙ c.in-Some.is in
    let first = IsChain-first nodes c.loop-place.at c.in-Some.place i.1 is i.3 in
    first.2.inside

pub returns-then-eq : goal.returns-then-eq
returns-then-eq c =
    let nodes = c.args.nodes.now.items in
    let i = c.loop-place.invariant in
    let is : leads_to c.loop-place.at ≡ Some c.in-Some.place = sym c.place.ensures ∙ c.in-Some.is in
    let first = IsChain-first nodes c.loop-place.at c.in-Some.place i.1 is i.3 in
    let hash : (node_at nodes c.in-Some.place).hash ≡ c.args.hash = ap (λ n. n.hash) (sym c.get-node.ensures) ∙ c.if-node-hash.true in
    let reference : (node_at nodes c.in-Some.place).reference ≡ c.args.r = search rules in
    let same : placed_at nodes c.in-Some.place ≡ (c.args.hash, (c.args.r, c.in-Some.place)) = λ t. (hash t, (reference t, c.in-Some.place)) in
    (i.0, first.0, subst (λ (es : List Placed). IsChain nodes c.args.first (i.0 ++ es)) (first.1 ∙ ap (λ e. e ∷ first.0) same) i.2, i.6)

pub loop-place-smaller : goal.loop-place-smaller
loop-place-smaller c =
    let nodes = c.args.nodes.now.items in
    let i = c.loop-place.invariant in
    let is : leads_to c.loop-place.at ≡ Some c.in-Some.place = sym c.place.ensures ∙ c.in-Some.is in
    rw c.get-node.ensures (walk-smaller (length nodes) (next_at nodes) (entry_at nodes) (length nodes) c.loop-place.at c.in-Some.place is (EndsWithin-from_chain (length nodes) nodes c.loop-place.at i.1 i.3 i.4))

pub loop-place-preserved : goal.loop-place-preserved
loop-place-preserved c =
    let nodes = c.args.nodes.now.items in
    let i = c.loop-place.invariant in
    let is : leads_to c.loop-place.at ≡ Some c.in-Some.place = sym c.place.ensures ∙ c.in-Some.is in
    let first = IsChain-first nodes c.loop-place.at c.in-Some.place i.1 is i.3 in
    let e : Placed = placed_at nodes c.in-Some.place in
    let apart : entry_in e ≢ (c.args.hash, c.args.r) = λ same.
    elim c.else-node-hash.branch [
      | else-node-hash-via-then-node-hash+else-eq w ↦ let reference : (node_at nodes c.in-Some.place).reference ≡ c.args.r = ap (λ x. x.1) same in absurd (search rules)
      | else-node-hash-via-else-node-hash w ↦ absurd (w.if-node-hash.false (ap (λ n. n.hash) c.get-node.ensures ∙ ap (λ x. x.0) same))
    ] in
    let chain : IsChain nodes c.args.first (i.0 ++ e ∷ first.0) = subst (λ (es : List Placed). IsChain nodes c.args.first (i.0 ++ es)) first.1 i.2 in
    let shorter = ap length first.1 in
    let held : Contains (map entry_in (e ∷ first.0)) (c.args.hash, c.args.r) = subst (λ (es : List Placed). Contains (map entry_in es) (c.args.hash, c.args.r)) first.1 i.5 in
    (i.0 ++ e ∷ [], first.0, subst (λ (es : List Placed). IsChain nodes c.args.first es) (sym (append_assoc i.0 (e ∷ []) first.0)) chain, (rw c.get-node.ensures first.3), omega (arith, i.4, shorter), Contains-behind (entry_in e) (map entry_in first.0) (c.args.hash, c.args.r) apart held, sym (last_place-push i.0 e))

pub unreachable-requires : goal.unreachable-requires
unreachable-requires c =
    let nodes = c.args.nodes.now.items in
    let i = c.loop-place.invariant in
    let none : leads_to c.loop-place.at ≡ None = sym c.place.ensures ∙ c.in_default.is in
    let empty : i.1 ≡ [] = IsChain-unique nodes c.loop-place.at i.1 [] i.3 none in
    let held : Contains (map entry_in []) (c.args.hash, c.args.r) = subst (λ (es : List Placed). Contains (map entry_in es) (c.args.hash, c.args.r)) empty i.5 in
    let below : held.0 < 0 = held.1 in
    absurd (omega arith)
