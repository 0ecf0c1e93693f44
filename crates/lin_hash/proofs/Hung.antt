-- Nodes that hang on the chains of their buckets, and those that are loose.
use Rattle.std.proofs.Common.{◌≡◌, ℕ, ◌+◌, ◌-◌, ◌^◌, ◌<◌, ◌≤◌, Bool, ◌==◌, List, [], ◌∷◌, ◌++◌, length, get_or, set, None, Some, refl, sym, ap, ◌∙◌, arith, subst}
use Rattle.std.specs.List.{count_by, sum_by}
use Rattle.std.proofs.lemmas.List.{length-set, length-append, get_or-set_same, get_or_default}
use Rattle.std.proofs.lemmas.List.Sums.{get_or-le-sum_by}
use Rattle.std.proofs.Math.Seq.{get_or-append_seam}
use Rattle.mm_index.specs.Bag.{IsSameBag}
use Rattle.mm_index.proofs.Bags.{IsSameBag-push}
use Rattle.lin_hash.specs.Address.{bucket_of}
use Rattle.lin_hash.specs.declared.node.NodeLink.{NodeLink}
use Rattle.lin_hash.specs.declared.node.Node.{Node}
use Rattle.lin_hash.specs.Nodes.{leads_to, link_to, head_at, node_at, next_at, leading_to}
use Rattle.lin_hash.specs.Chains.{Placed, place_of, placed_at, all_placed, Stands, IsChain, AreChains, AreHung, AreHungBy}
use Rattle.lin_hash.proofs.Moves.{count_by-append, count_by-cons}
use Rattle.lin_hash.proofs.Joined.{joined, count_by-joined}
use Rattle.lin_hash.proofs.Placed.{one_if, times_at, times_at-once, placed, placed-relinked, placed-push, count_by-placed_set}
use Rattle.lin_hash.proofs.Chaining.{leads_to-link, times_at-first, Stands-relinked, IsChain-set, IsChain-grown, IsChain-front}
use Rattle.lin_hash.proofs.Hanging.{AreHungBy-link}
use Rattle.lin_hash.proofs.Levels.{bucket_of-inside}

-- what is not in all chains is in none of them
times_at-chain : (p : ℕ) (chains : List (List Placed)) (i : ℕ) → i < length chains → times_at p (joined chains) ≡ 0 → times_at p (get_or chains i []) ≡ 0
times_at-chain p chains i inside none =
    let one : times_at p (get_or chains i []) ≤ sum_by (times_at p) chains = get_or-le-sum_by (times_at p) chains i [] inside in
    let all = count_by-joined (λ e. place_of e == p) chains in
    omega (arith, one, all, none)

-- the chains where a node changes that hangs on none of them
pub AreChains-set : (nodes : List Node) (heads : List NodeLink) (chains : List (List Placed)) (p : ℕ) (n : Node) → times_at p (joined chains) ≡ 0 → AreChains nodes heads chains → AreChains (set nodes p n) heads chains
AreChains-set nodes heads chains p n none h = record {
  number = h.number;
  each = λ i inside. IsChain-set nodes p n (head_at heads i) (get_or chains i []) (times_at-chain p chains i inside none) (h.each i inside);
}

module _ (level mark : ℕ) (nodes : List Node) (heads : List NodeLink) (e : Placed) (loose : List Placed) (h : AreHung level mark nodes heads (e ∷ loose)) where
  -- a loose node hangs nowhere, and is loose once
  once : times_at (place_of e) loose + times_at (place_of e) (joined h.chains) ≡ 0
  once =
      let p : ℕ = place_of e in
      let all = h.held.count (λ d. place_of d == p) in
      let most = times_at-once 0 nodes p in
      let parts = count_by-append (λ d. place_of d == p) (e ∷ loose) (joined h.chains) in
      let first = times_at-first e loose in
      omega (arith, all, most, parts, first)

  pub loose-once : times_at (place_of e) loose ≡ 0
  loose-once = let o = once in omega (arith, o)

  pub chains-without : times_at (place_of e) (joined h.chains) ≡ 0
  chains-without = let o = once in omega (arith, o)

  -- it comes in front of the chain of its hash
  pub AreHung-linked : (b : ℕ) → b ≡ bucket_of level mark e.0 → Stands nodes e → place_of e < 2 ^ 32 - 1 → AreHung level mark (set nodes (place_of e) (leading_to (node_at nodes (place_of e)) (head_at heads b))) (set heads b (link_to (place_of e))) loose
  AreHung-linked b at stands few =
      let p : ℕ = place_of e in
      let n : Node = leading_to (node_at nodes p) (head_at heads b) in
      let inside : b < length h.chains = bucket_of-inside level mark h.chains h.addressed e.0 b at in
      let behind : IsChain nodes (head_at heads b) (get_or h.chains b []) = h.linked.each b inside in
      let away = times_at-chain p h.chains b inside chains-without in
      let there : p < length nodes = stands.inside in
      let now : next_at (set nodes p n) p ≡ head_at heads b = ap (λ m. m.next) (get_or-set_same nodes p n _ there) in
      let front : IsChain (set nodes p n) (link_to p) (e ∷ get_or h.chains b []) =
      (leads_to-link p few, Stands-relinked nodes p (head_at heads b) e stands, subst (λ (k : NodeLink). IsChain (set nodes p n) k (get_or h.chains b [])) (sym now) (IsChain-set nodes p n (head_at heads b) (get_or h.chains b []) away behind)) in
      let linked = AreHungBy-link (IsChain nodes) (IsChain (set nodes p n)) level mark heads e loose (all_placed nodes) h b (link_to p) at
      (λ i within apart. (AreChains-set nodes heads h.chains p n chains-without h.linked).each i within) front in
      subst (AreHungBy (IsChain (set nodes p n)) level mark (set heads b (link_to p)) loose) (sym (placed-relinked 0 nodes p (head_at heads b))) linked

-- the same, as the code says it
pub AreHung-link : (level mark : ℕ) (nodes : List Node) (heads : List NodeLink) (e : Placed) (loose : List Placed) (h : AreHung level mark nodes heads (e ∷ loose)) → Stands nodes e → length nodes < 2 ^ 32 → (now : List Node) (now_heads : List NodeLink) → now ≡ set nodes (place_of e) (leading_to (node_at nodes (place_of e)) (head_at heads (bucket_of level mark (node_at nodes (place_of e)).hash))) → now_heads ≡ set heads (bucket_of level mark (node_at nodes (place_of e)).hash) (link_to (place_of e)) → AreHung level mark now now_heads loose
AreHung-link level mark nodes heads e loose h stands few now now_heads f g =
    let inside = stands.inside in
    rw (f, g) (AreHung-linked level mark nodes heads e loose h (bucket_of level mark (node_at nodes (place_of e)).hash) (ap (λ (d : Placed). bucket_of level mark d.0) stands.is) stands (omega (arith, inside, few)))

-- the bucket of a hash is there
pub AreHung-inside : (level mark : ℕ) (nodes : List Node) (heads : List NodeLink) (loose : List Placed) (h : AreHung level mark nodes heads loose) (hash b : ℕ) → b ≡ bucket_of level mark hash → b < length heads
AreHung-inside level mark nodes heads loose h hash b at =
    let inside = bucket_of-inside level mark h.chains h.addressed hash b at in
    let number = h.linked.number in
    omega (arith, inside, number)

-- and is what its index gives
pub AreHung-head : (level mark : ℕ) (nodes : List Node) (heads : List NodeLink) (loose : List Placed) (h : AreHung level mark nodes heads loose) (hash b : ℕ) → b ≡ bucket_of level mark hash → (l : NodeLink) → l ≡ get_or heads b l → l ≡ head_at heads b
AreHung-head level mark nodes heads loose h hash b at l is = is ∙ get_or_default heads b _ _ (AreHung-inside level mark nodes heads loose h hash b at)

-- a chain that leads somewhere begins there
pub IsChain-first : (nodes : List Node) (l : NodeLink) (p : ℕ) (es : List Placed) → leads_to l ≡ Some p → IsChain nodes l es → (rest : List Placed) × (es ≡ placed_at nodes p ∷ rest) × Stands nodes (placed_at nodes p) × IsChain nodes (next_at nodes p) rest
IsChain-first nodes l p [] is h = absurd (let e : None ≡ Some p = sym h ∙ is in cc)
IsChain-first nodes l p (e ∷ rest) is h =
    let both : Some (place_of e) ≡ Some p = sym h.0 ∙ is in
    let at : place_of e ≡ p = cc in
    let same : e ≡ placed_at nodes p = sym h.1.is ∙ ap (placed_at nodes) at in
    (rest, ap (λ d. d ∷ rest) same, subst (Stands nodes) same h.1, rw at at h.2)

-- a loose node changes
module _ (nodes : List Node) (p : ℕ) (n : Node) (inside : p < length nodes) where
  set-placed : (test : Placed → Bool) → count_by test (all_placed (set nodes p n)) + one_if (test (placed_at nodes p)) ≡ count_by test (all_placed nodes) + one_if (test (placed n p))
  set-placed test = count_by-placed_set test 0 nodes p n p (omega arith) inside

  pub IsSameBag-put : IsSameBag (placed_at nodes p ∷ all_placed (set nodes p n)) (placed n p ∷ all_placed nodes)
  IsSameBag-put = record {
    count = λ test.
        let s = set-placed test in
        omega (arith, s, count_by-cons test (placed_at nodes p) (all_placed (set nodes p n)), count_by-cons test (placed n p) (all_placed nodes));
  }

  pub Stands-put : Stands (set nodes p n) (placed n p)
  Stands-put =
      let there : node_at (set nodes p n) p ≡ n = get_or-set_same nodes p n _ inside in
      record {
        inside = rw (length-set nodes p n) inside;
        is = rw there refl;
      }

  pub AreHung-put : (level mark : ℕ) (heads : List NodeLink) → AreHung level mark nodes heads (placed_at nodes p ∷ []) → AreHung level mark (set nodes p n) heads (placed n p ∷ [])
  AreHung-put level mark heads h = record {
    chains = h.chains;
    linked = AreChains-set nodes heads h.chains p n (chains-without level mark nodes heads (placed_at nodes p) [] h) h.linked;
    held =
        record {
          count = λ test.
              let s = set-placed test in
              let held = h.held.count test in
              omega (arith, s, held, count_by-append test (placed_at nodes p ∷ []) (joined h.chains), count_by-cons test (placed_at nodes p) [], count_by-append test (placed n p ∷ []) (joined h.chains), count_by-cons test (placed n p) []);
        };
    addressed = h.addressed;
  }

-- a node comes at the end, or goes from there
module _ (nodes : List Node) (n : Node) where
  abbrev pub last_entry : Placed
  last_entry = placed n (length nodes)

  pub placed-grown : all_placed (nodes ++ n ∷ []) ≡ all_placed nodes ++ last_entry ∷ []
  placed-grown = placed-push 0 nodes n (length nodes) (omega arith)

  pub IsSameBag-grown : IsSameBag (all_placed (nodes ++ n ∷ [])) (last_entry ∷ all_placed nodes)
  IsSameBag-grown = rw placed-grown (IsSameBag-push (all_placed nodes) last_entry)

  pub last-there : node_at (nodes ++ n ∷ []) (length nodes) ≡ n
  last-there = get_or-append_seam nodes n [] _

  pub Stands-grown : Stands (nodes ++ n ∷ []) last_entry
  Stands-grown =
      let longer = length-append nodes (n ∷ []) in
      record {
        inside = omega (arith, longer);
        is = rw last-there refl;
      }

  pub AreHung-grown : (level mark : ℕ) (heads : List NodeLink) → AreHung level mark nodes heads [] → AreHung level mark (nodes ++ n ∷ []) heads (last_entry ∷ [])
  AreHung-grown level mark heads h = record {
    chains = h.chains;
    linked =
        record {
          number = h.linked.number;
          each = λ i inside. IsChain-grown nodes (n ∷ []) (head_at heads i) (get_or h.chains i []) (h.linked.each i inside);
        };
    held =
        record {
          count = λ test.
              let all = IsSameBag-grown.count test in
              let held = h.held.count test in
              omega (arith, all, held, count_by-append test (last_entry ∷ []) (joined h.chains), count_by-cons test last_entry [], count_by-cons test last_entry (all_placed nodes));
        };
    addressed = h.addressed;
  }

  pub AreHung-popped : (level mark : ℕ) (heads : List NodeLink) → AreHung level mark (nodes ++ n ∷ []) heads (last_entry ∷ []) → AreHung level mark nodes heads []
  AreHung-popped level mark heads h =
      let none = chains-without level mark (nodes ++ n ∷ []) heads last_entry [] h in
      record {
        chains = h.chains;
        linked =
            record {
              number = h.linked.number;
              each = λ i inside. IsChain-front nodes n (head_at heads i) (get_or h.chains i []) (times_at-chain (length nodes) h.chains i inside none) (h.linked.each i inside);
            };
        held =
            record {
              count = λ test.
                  let all = IsSameBag-grown.count test in
                  let held = h.held.count test in
                  omega (arith, all, held, count_by-append test (last_entry ∷ []) (joined h.chains), count_by-cons test last_entry [], count_by-cons test last_entry (all_placed nodes));
            };
        addressed = h.addressed;
      }
