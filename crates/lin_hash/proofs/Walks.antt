-- Walks along a chain, of as many nodes at most as there are.
use Rattle.std.proofs.Common.{◌≡◌, ◌≢◌, ℕ, zero, suc, ◌<◌, ◌≤◌, List, [], ◌∷◌, length, take, map, None, Some, MatchOption, refl, ap, ◌∙◌, sym, subst, arith}
use Rattle.std.proofs.lemmas.List.{length-take, get_or-take}
use Rattle.std.proofs.lemmas.Bool.{eq-eqb, ne_eqb}
use Rattle.mm_index.specs.Bag.{with_hash}
use Rattle.part_raw.specs.declared.tuple_ref.TupleRef.{TupleRef}
use Rattle.lin_hash.specs.declared.node.NodeLink.{NodeLink}
use Rattle.lin_hash.specs.declared.node.Node.{Node}
use Rattle.lin_hash.specs.Nodes.{leads_to, node_at, next_at, entry_of, list_at, walk_from, entries_from}
use Rattle.lin_hash.specs.Chains.{Placed, place_of, entry_in, IsChain}
use Rattle.lin_hash.specs.Walks.{EndsIn, EndsWithin}

-- where there are no more nodes on a chain than that
pub EndsWithin-from_chain : (n : ℕ) (nodes : List Node) (l : NodeLink) (es : List Placed) → IsChain nodes l es → length es ≤ n → EndsWithin n nodes l
EndsWithin-from_chain zero nodes l [] h short = rw h tt
EndsWithin-from_chain zero nodes l (e ∷ es) h short = absurd (omega arith)
EndsWithin-from_chain (suc n) nodes l [] h short = rw h tt
EndsWithin-from_chain (suc n) nodes l (e ∷ es) h short =
    rw h.0 (h.1.inside, EndsWithin-from_chain n nodes (next_at nodes (place_of e)) es h.2 (omega arith))

pub entries_from-chain : (n : ℕ) (nodes : List Node) (l : NodeLink) (es : List Placed) → IsChain nodes l es → length es ≤ n → entries_from n nodes l ≡ map entry_in es
entries_from-chain zero nodes l [] h short = refl
entries_from-chain zero nodes l (e ∷ es) h short = absurd (omega arith)
entries_from-chain (suc n) nodes l [] h short = ap (list_at (λ p. entry_of (node_at nodes p) ∷ entries_from n nodes (next_at nodes p))) h
entries_from-chain (suc n) nodes l (e ∷ es) h short =
    let rest = entries_from-chain n nodes (next_at nodes (place_of e)) es h.2 (omega arith) in
    let own : entry_of (node_at nodes (place_of e)) ≡ entry_in e = ap entry_in h.1.is in
    ap (list_at (λ p. entry_of (node_at nodes p) ∷ entries_from n nodes (next_at nodes p))) h.0
    ∙ ap (λ x. x ∷ entries_from n nodes (next_at nodes (place_of e))) own ∙ ap (λ r. entry_in e ∷ r) rest

-- more nodes at the end change no chain
module _ (n : ℕ) (nodes : List Node) where
  node_at-front : (p : ℕ) → p < length (take n nodes) → node_at (take n nodes) p ≡ node_at nodes p
  node_at-front p inside = let short = length-take n nodes in get_or-take n nodes p _ (omega (arith, inside, short))

  pub IsChain-front : (l : NodeLink) (es : List Placed) → IsChain (take n nodes) l es → IsChain nodes l es
  IsChain-front l [] h = h
  IsChain-front l (e ∷ es) h =
      let inside = h.1.inside in
      let short = length-take n nodes in
      let same = node_at-front (place_of e) inside in (
        h.0,
        record {
          inside = omega (arith, inside, short);
          is = ap (λ (m : Node). (m.hash, (m.reference, place_of e))) (sym same) ∙ h.1.is;
        },
        IsChain-front (next_at nodes (place_of e)) es (subst (λ (m : Node). IsChain (take n nodes) m.next es) same h.2),
      )

-- nodes of either kind, by their links and entries
module _ (size : ℕ) (next : ℕ → NodeLink) where
  -- a step more changes nothing
  ends-more : (n : ℕ) (l : NodeLink) → EndsIn size next n l → EndsIn size next (suc n) l
  ends-more zero l h =
      elim (leads_to l) as (λ o. MatchOption o (Unit {0}) (λ _. ⊥) → MatchOption o (Unit {0}) (λ p. (p < size) × EndsIn size next zero (next p))) [ None ↦ λ k. tt | Some p ↦ λ k. absurd k ] h
  ends-more (suc n) l h =
      elim (leads_to l) as (λ o. MatchOption o (Unit {0}) (λ p. (p < size) × EndsIn size next n (next p)) → MatchOption o (Unit {0}) (λ p. (p < size) × EndsIn size next (suc n) (next p))) [
        | None ↦ λ k. tt
        | Some p ↦ λ k. (k.0, ends-more n (next p) k.1)
      ] h

  -- one step along a chain that ends within as many nodes
  pub ends-step : (n : ℕ) (l : NodeLink) (p : ℕ) → leads_to l ≡ Some p → EndsIn size next n l → (p < size) × EndsIn size next n (next p)
  ends-step zero l p is h = absurd (rw is at h)
  ends-step (suc n) l p is h =
      let k : (p < size) × EndsIn size next n (next p) = rw is at h in
      (k.0, ends-more n (next p) k.1)

  module _ (entry : ℕ → ℕ × TupleRef) where
    walk-more : (n : ℕ) (l : NodeLink) → EndsIn size next n l → walk_from next entry (suc n) l ≡ walk_from next entry n l
    walk-more zero l h =
        elim (leads_to l) as (λ o. MatchOption o (Unit {0}) (λ _. ⊥) → list_at (λ p. entry p ∷ []) o ≡ []) [ None ↦ λ k. refl | Some p ↦ λ k. absurd k ] h
    walk-more (suc n) l h =
        elim (leads_to l) as (λ o. MatchOption o (Unit {0}) (λ p. (p < size) × EndsIn size next n (next p)) → list_at (λ p. entry p ∷ walk_from next entry (suc n) (next p)) o ≡ list_at (λ p. entry p ∷ walk_from next entry n (next p)) o) [
          | None ↦ λ k. refl
          | Some p ↦ λ k. ap (λ r. entry p ∷ r) (walk-more n (next p) k.1)
        ] h

    pub walk-step : (n : ℕ) (l : NodeLink) (p : ℕ) → leads_to l ≡ Some p → EndsIn size next n l → walk_from next entry n l ≡ entry p ∷ walk_from next entry n (next p)
    walk-step zero l p is h = absurd (rw is at h)
    walk-step (suc n) l p is h =
        let k : (p < size) × EndsIn size next n (next p) = rw is at h in
        ap (list_at (λ q. entry q ∷ walk_from next entry n (next q))) is ∙ ap (λ r. entry p ∷ r) (sym (walk-more n (next p) k.1))

    pub walk-smaller : (n : ℕ) (l : NodeLink) (p : ℕ) → leads_to l ≡ Some p → EndsIn size next n l → length (walk_from next entry n (next p)) < length (walk_from next entry n l)
    walk-smaller n l p is h = let e = ap length (walk-step n l p is h) in omega (arith, e)

-- no more nodes than it may
pub walk-short : (next : ℕ → NodeLink) (entry : ℕ → ℕ × TupleRef) (n : ℕ) (l : NodeLink) → length (walk_from next entry n l) ≤ n
walk-short next entry zero l = omega arith
walk-short next entry (suc n) l =
    elim (leads_to l) as (λ o. length (list_at (λ p. entry p ∷ walk_from next entry n (next p)) o) ≤ suc n) [
      | None ↦ omega arith
      | Some p ↦ let rest = walk-short next entry n (next p) in omega (arith, rest)
    ]

-- an entry of the hash, and one of another
pub with_hash-hit : (hash own : ℕ) (r : TupleRef) (es : List (ℕ × TupleRef)) → own ≡ hash → with_hash hash ((own, r) ∷ es) ≡ r ∷ with_hash hash es
with_hash-hit hash own r es e = rw (eq-eqb own hash e) refl

pub with_hash-miss : (hash own : ℕ) (r : TupleRef) (es : List (ℕ × TupleRef)) → own ≢ hash → with_hash hash ((own, r) ∷ es) ≡ with_hash hash es
with_hash-miss hash own r es ne = rw (ne_eqb own hash ne) refl
