use Rattle.std.proofs.Common.{◌≡◌, ◌≢◌, ◌<◌, [], ◌∷◌, ◌++◌, List, length, None, Some, sym, subst, ap, ◌∙◌, refl, arith}
use Rattle.std.specs.List.{Contains}
use Rattle.std.proofs.lemmas.List.{append_assoc}
use Rattle.lin_hash.specs.Nodes.{leads_to, next_at, entry_at}
use Rattle.lin_hash.specs.Chains.{Placed, place_of, placed_at, IsChain, Visits}
use Rattle.lin_hash.proofs.Chaining.{IsChain-unique}
use Rattle.lin_hash.proofs.Hung.{IsChain-first}
use Rattle.lin_hash.proofs.Linking.{last_place-push, Contains-behind}
use Rattle.lin_hash.proofs.Walks.{EndsWithin-from_chain, walk-smaller}
use Rattle.lin_hash.proofs.chains.before.Goals as goal

pub loop-place-init : goal.loop-place-init
loop-place-init c =
    let held : Visits c.args.nodes.now.items c.args.first c.args.sought = c.requires in
    ([], held.0, held.1, held.1, held.2, held.3, refl)

pub get-requires : goal.get-requires
get-requires c =
    let nodes = c.args.nodes.now.items in
    let i = c.loop-place.invariant in
    let is : leads_to c.loop-place.at ≡ Some c.in-Some.place = sym c.place.ensures ∙ c.in-Some.is in
    (IsChain-first nodes c.loop-place.at c.in-Some.place i.1 is i.3).2.inside

pub returns-then-place-sought : goal.returns-then-place-sought
returns-then-place-sought c =
    let nodes = c.args.nodes.now.items in
    let i = c.loop-place.invariant in
    let is : leads_to c.loop-place.at ≡ Some c.in-Some.place = sym c.place.ensures ∙ c.in-Some.is in
    let first = IsChain-first nodes c.loop-place.at c.in-Some.place i.1 is i.3 in
    let same : placed_at nodes c.in-Some.place ≡ placed_at nodes c.args.sought = ap (placed_at nodes) c.if-place-sought.true in
    (i.0, first.0, subst (λ (es : List Placed). IsChain nodes c.args.first (i.0 ++ es)) (first.1 ∙ ap (λ e. e ∷ first.0) same) i.2, i.6)

pub loop-place-smaller : goal.loop-place-smaller
loop-place-smaller c =
    let nodes = c.args.nodes.now.items in
    let i = c.loop-place.invariant in
    let is : leads_to c.loop-place.at ≡ Some c.in-Some.place = sym c.place.ensures ∙ c.in-Some.is in
    rw c.get.ensures (walk-smaller (length nodes) (next_at nodes) (entry_at nodes) (length nodes) c.loop-place.at c.in-Some.place is (EndsWithin-from_chain (length nodes) nodes c.loop-place.at i.1 i.3 i.4))

pub loop-place-preserved : goal.loop-place-preserved
loop-place-preserved c =
    let nodes = c.args.nodes.now.items in
    let i = c.loop-place.invariant in
    let is : leads_to c.loop-place.at ≡ Some c.in-Some.place = sym c.place.ensures ∙ c.in-Some.is in
    let first = IsChain-first nodes c.loop-place.at c.in-Some.place i.1 is i.3 in
    let e : Placed = placed_at nodes c.in-Some.place in
    let apart : e ≢ placed_at nodes c.args.sought = λ same. absurd (c.if-place-sought.false (ap place_of same)) in
    let chain : IsChain nodes c.args.first (i.0 ++ e ∷ first.0) = subst (λ (es : List Placed). IsChain nodes c.args.first (i.0 ++ es)) first.1 i.2 in
    let shorter = ap length first.1 in
    let held : Contains (e ∷ first.0) (placed_at nodes c.args.sought) = subst (λ (es : List Placed). Contains es (placed_at nodes c.args.sought)) first.1 i.5 in
    (i.0 ++ e ∷ [], first.0, subst (λ (es : List Placed). IsChain nodes c.args.first es) (sym (append_assoc i.0 (e ∷ []) first.0)) chain, (rw c.get.ensures first.3), omega (arith, i.4, shorter), Contains-behind e first.0 (placed_at nodes c.args.sought) apart held, sym (last_place-push i.0 e))

pub unreachable-requires : goal.unreachable-requires
unreachable-requires c =
    let nodes = c.args.nodes.now.items in
    let i = c.loop-place.invariant in
    let none : leads_to c.loop-place.at ≡ None = sym c.place.ensures ∙ c.in_default.is in
    let empty : i.1 ≡ [] = IsChain-unique nodes c.loop-place.at i.1 [] i.3 none in
    let held : Contains [] (placed_at nodes c.args.sought) = subst (λ (es : List Placed). Contains es (placed_at nodes c.args.sought)) empty i.5 in
    let below : held.0 < 0 = held.1 in
    absurd (omega arith)
