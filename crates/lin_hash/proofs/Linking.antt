-- A step of a loop that links nodes, and of the search along a chain.
use Rattle.std.proofs.Common.{◌≡◌, ◌≢◌, ℕ, zero, suc, ◌^◌, ◌<◌, ◌≤◌, true, List, [], ◌∷◌, ◌++◌, length, get_or, set, Some, refl, ap, ◌∙◌, arith, subst}
use Rattle.std.specs.List.{Contains}
use Rattle.std.proofs.lemmas.List.{length-set, length-map}
use Rattle.std.proofs.lemmas.List.Sums.{count_by-le-length}
use Rattle.lin_hash.specs.Address.{bucket_of}
use Rattle.lin_hash.specs.declared.node.NodeLink.{NodeLink}
use Rattle.lin_hash.specs.declared.node.Node.{Node}
use Rattle.lin_hash.specs.Nodes.{leads_to, link_to, head_at, node_at, next_at, leading_to, entries_from}
use Rattle.lin_hash.specs.Chains.{Placed, place_of, entry_in, placed_at, all_placed, Stands, IsChain, AreHung, last_place}
use Rattle.lin_hash.proofs.Moves.{count_by-append}
use Rattle.lin_hash.proofs.Joined.{joined}
use Rattle.lin_hash.proofs.Placed.{length-placed}
use Rattle.lin_hash.proofs.Chaining.{IsChain-set}
use Rattle.lin_hash.proofs.Hung.{AreHung-link, IsChain-first, loose-once}
use Rattle.common_lemmas.proofs.Counts.{count_by-true}
use Rattle.lin_hash.proofs.Walks.{entries_from-chain}

-- no more nodes are loose than there are
loose-short : (level mark : ℕ) (nodes : List Node) (heads : List NodeLink) (loose : List Placed) → AreHung level mark nodes heads loose → length loose ≤ length nodes
loose-short level mark nodes heads loose h =
    let held = h.held.count (λ e. true) in
    let parts = count_by-append (λ e. true) loose (joined h.chains) in
    let own = count_by-true loose in
    let most = count_by-le-length (λ e. true) (all_placed nodes) in
    let some = length-placed 0 nodes in
    omega (arith, held, parts, own, most, some)

module _ (level mark : ℕ) (nodes : List Node) (heads : List NodeLink) (l : NodeLink) (loose : List Placed) (chain : IsChain nodes l loose) (h : AreHung level mark nodes heads loose) (p : ℕ) (is : leads_to l ≡ Some p) where
  -- the first loose node
  pub Stands-loose : Stands nodes (placed_at nodes p)
  Stands-loose = (IsChain-first nodes l p loose is chain).2

  module _ (few : length nodes < 2 ^ 32) (now : List Node) (now_heads : List NodeLink) (f : now ≡ set nodes p (leading_to (node_at nodes p) (head_at heads (bucket_of level mark (node_at nodes p).hash)))) (g : now_heads ≡ set heads (bucket_of level mark (node_at nodes p).hash) (link_to p)) where
    -- is linked, and those behind it are left
    pub AreHung-step : (rest : List Placed) × IsChain now (next_at nodes p) rest × AreHung level mark now now_heads rest
    AreHung-step =
        let first = IsChain-first nodes l p loose is chain in
        let hung : AreHung level mark nodes heads (placed_at nodes p ∷ first.0) = subst (AreHung level mark nodes heads) first.1 h in
        let away = loose-once level mark nodes heads (placed_at nodes p) first.0 hung in
        (first.0, (rw f (IsChain-set nodes p _ (next_at nodes p) first.0 away first.3)), AreHung-link level mark nodes heads (placed_at nodes p) first.0 hung first.2 few now now_heads f g)

    pub walk-smaller : length (entries_from (length now) now (next_at nodes p)) < length (entries_from (length nodes) nodes l)
    walk-smaller =
        let first = IsChain-first nodes l p loose is chain in
        let hung : AreHung level mark nodes heads (placed_at nodes p ∷ first.0) = subst (AreHung level mark nodes heads) first.1 h in
        let away = loose-once level mark nodes heads (placed_at nodes p) first.0 hung in
        let short = loose-short level mark nodes heads loose h in
        let all = ap length first.1 in
        let same : length now ≡ length nodes = ap length f ∙ length-set nodes p _ in
        let next : IsChain now (next_at nodes p) first.0 = rw f (IsChain-set nodes p _ (next_at nodes p) first.0 away first.3) in
        let was = ap length (entries_from-chain (length nodes) nodes l loose chain short) in
        let left = ap length (entries_from-chain (length now) now (next_at nodes p) first.0 next (omega (arith, short, all, same))) in
        let was_map = length-map loose entry_in in
        let left_map = length-map first.0 entry_in in
        omega (arith, was, left, was_map, left_map, all)

-- the node after another one is the last
pub last_place-push : (before : List Placed) (e : Placed) → last_place (before ++ e ∷ []) ≡ Some (place_of e)
last_place-push [] e = refl
last_place-push (d ∷ []) e = refl
last_place-push (d ∷ f ∷ before) e = last_place-push (f ∷ before) e

pub Contains-behind : {A : Type 0} (e : A) (es : List A) (x : A) → e ≢ x → Contains (e ∷ es) x → Contains es x
Contains-behind e es x apart h = elim h.0 as (λ k. k < suc (length es) → get_or (e ∷ es) k x ≡ x → Contains es x) [
  | zero ↦ λ inside at. absurd (apart at)
  | suc k ↦ λ inside at. (k, omega arith, at)
] h.1 h.2
