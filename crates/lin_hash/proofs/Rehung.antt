-- What hangs on the buckets where a node leaves its chain, and where a bucket is split, is folded or is looked through.
use Rattle.std.proofs.Common.{◌≡◌, ◌≢◌, ℕ, zero, suc, ◌<◌, ◌≤◌, true, false, cond, ◌==◌, List, [], ◌∷◌, length, get_or, set, map, refl, sym, ap, ◌∙◌, arith, subst}
use Rattle.std.specs.List.{count_by, sum_by, filter, Contains}
use Rattle.std.proofs.lemmas.Bool.{eq-eqb, eqb-true}
use Rattle.std.proofs.lemmas.List.{length-set, get_or-set_other}
use Rattle.std.proofs.lemmas.List.Sums.{get_or-le-sum_by}
use Rattle.common_lemmas.proofs.Counts.{count_by-member, member-from_count_by}
use Rattle.part_raw.specs.declared.tuple_ref.TupleRef.{TupleRef}
use Rattle.mm_index.specs.Bag.{IsSameBag, with_hash}
use Rattle.mm_index.proofs.Bags.{IsSameBag-map, IsSameBag-trans, IsSameBag-sym, IsSameBag-from_same, IsSameBag-with_hash, Contains-with_hash, Contains-from_with_hash}
use Rattle.mm_index.proofs.Refs.{Contains-same_refs}
use Rattle.lin_hash.specs.Address.{bucket_of}
use Rattle.lin_hash.specs.declared.node.NodeLink.{NodeLink}
use Rattle.lin_hash.specs.declared.node.Node.{Node}
use Rattle.lin_hash.specs.Nodes.{head_at, node_at, next_at, entries_of}
use Rattle.lin_hash.specs.Chains.{Placed, place_of, placed_at, entry_in, all_placed, Stands, IsChain, AreHung, HoldsEntry, Visits}
use Rattle.lin_hash.proofs.Joined.{joined, count_by-joined, count_by-set, chain_length-all}
use Rattle.lin_hash.proofs.Placed.{times_at, times_at-once, entries-placed, length-placed, placed-there}
use Rattle.lin_hash.proofs.Levels.{bucket_of-inside, with_hash-bucket}

-- the references under a hash, with their places or without
with_hash-entries : (hash : ℕ) (es : List Placed) → with_hash hash (map entry_in es) ≡ map (λ y. y.0) (with_hash hash es)
with_hash-entries hash [] = refl
with_hash-entries hash (e ∷ es) =
    elim (e.0 == hash) as (λ b. map (λ d. d.1) (cond b (entry_in e ∷ filter (λ d. d.0 == hash) (map entry_in es)) (filter (λ d. d.0 == hash) (map entry_in es))) ≡ map (λ y. y.0) (map (λ d. d.1) (cond b (e ∷ filter (λ d. d.0 == hash) es) (filter (λ d. d.0 == hash) es)))) [
      | true ↦ ap (λ r. e.1.0 ∷ r) (with_hash-entries hash es)
      | false ↦ with_hash-entries hash es
    ]

-- what is in one chain is in no other
pub times_at-others : (p : ℕ) (chains : List (List Placed)) (b i : ℕ) → b < length chains → i < length chains → i ≢ b → times_at p (joined chains) ≤ 1 → 0 < times_at p (get_or chains b []) → times_at p (get_or chains i []) ≡ 0
times_at-others p chains b i inside within apart most here =
    let gone = count_by-set (λ e. place_of e == p) chains b [] inside in
    let longer = length-set chains b [] in
    let one : times_at p (get_or (set chains b []) i []) ≤ sum_by (times_at p) (set chains b []) = get_or-le-sum_by (times_at p) (set chains b []) i [] (omega (arith, longer)) in
    let all = count_by-joined (λ e. place_of e == p) (set chains b []) in
    let same : get_or (set chains b []) i [] ≡ get_or chains i [] = get_or-set_other chains b i [] [] apart in
    let less : times_at p (get_or (set chains b []) i []) ≡ 0 = omega (arith, gone, one, all, most, here) in
    rw same at less

-- each node of a chain stands there
chain-stands : (nodes : List Node) (l : NodeLink) (es : List Placed) → IsChain nodes l es → (k : ℕ) (d : Placed) → k < length es → Stands nodes (get_or es k d)
chain-stands nodes l [] h k d i = absurd (omega arith)
chain-stands nodes l (e ∷ es) h zero d i = h.1
chain-stands nodes l (e ∷ es) h (suc k) d i = chain-stands nodes (next_at nodes (place_of e)) es h.2 k d (omega arith)

module _ (level mark : ℕ) (nodes : List Node) (heads : List NodeLink) (h : AreHung level mark nodes heads []) where
  -- a place stands once in all chains
  pub times_at-most : (p : ℕ) → times_at p (joined h.chains) ≤ 1
  times_at-most p = let held = h.held.count (λ d. place_of d == p) in let most = times_at-once 0 nodes p in omega (arith, held, most)

  -- no chain is longer than there are nodes
  pub hung-short : (b : ℕ) → b < length h.chains → length (get_or h.chains b []) ≤ length nodes
  hung-short b inside = let some = length-placed 0 nodes in let most = chain_length-all (IsChain nodes) level mark heads [] (all_placed nodes) h b inside in omega (arith, most, some)

  -- the bucket of a hash
  module _ (hash b : ℕ) (at : b ≡ bucket_of level mark hash) where
    pub hung-chain : IsChain nodes (head_at heads b) (get_or h.chains b [])
    hung-chain = h.linked.each b (bucket_of-inside level mark h.chains h.addressed hash b at)

    pub hung-chain_short : length (get_or h.chains b []) ≤ length nodes
    hung-chain_short = hung-short b (bucket_of-inside level mark h.chains h.addressed hash b at)

    -- holds what the table holds under it
    pub IsSameBag-hung : IsSameBag (with_hash hash (map entry_in (get_or h.chains b []))) (with_hash hash (entries_of nodes))
    IsSameBag-hung =
        let found = with_hash-bucket level mark h.chains h.addressed hash b at in
        let here : with_hash hash (map entry_in (get_or h.chains b [])) ≡ with_hash hash (map entry_in (joined h.chains)) =
        with_hash-entries hash (get_or h.chains b []) ∙ ap (map (λ y. y.0)) found ∙ sym (with_hash-entries hash (joined h.chains)) in
        let held : IsSameBag (map entry_in (joined h.chains)) (map entry_in (all_placed nodes)) = IsSameBag-map entry_in h.held in
        IsSameBag-trans (IsSameBag-from_same _ _ here)
        (IsSameBag-trans (IsSameBag-with_hash hash held) (IsSameBag-from_same _ _ (ap (with_hash hash) (entries-placed 0 nodes))))

    pub HoldsEntry-hung : (r : TupleRef) → Contains (entries_of nodes) (hash, r) → HoldsEntry nodes (head_at heads b) hash r
    HoldsEntry-hung r held =
        let under = Contains-with_hash hash (entries_of nodes) r held in
        let found = Contains-same_refs (with_hash hash (entries_of nodes)) (with_hash hash (map entry_in (get_or h.chains b []))) r (IsSameBag-sym IsSameBag-hung) under in
        (get_or h.chains b [], hung-chain, hung-short b (bucket_of-inside level mark h.chains h.addressed hash b at), Contains-from_with_hash hash (map entry_in (get_or h.chains b [])) r found)

  -- the chain of its bucket visits each node
  pub Visits-hung : (p : ℕ) → p < length nodes → (b : ℕ) → b ≡ bucket_of level mark (node_at nodes p).hash → Visits nodes (head_at heads b) p
  Visits-hung p inside b at =
      let hash : ℕ = (node_at nodes p).hash in
      let there : Contains (all_placed nodes) (placed_at nodes p) = (p, (let len = length-placed 0 nodes in omega (arith, len, inside)), placed-there 0 nodes p (placed_at nodes p) p (omega arith) inside) in
      let under = Contains-with_hash hash (all_placed nodes) ((node_at nodes p).reference, p) there in
      let one = count_by-member (λ y. y.1 == p) (with_hash hash (all_placed nodes)) ((node_at nodes p).reference, p) under (eq-eqb p p refl) in
      let bag = (IsSameBag-with_hash hash h.held).count (λ y. y.1 == p) in
      let bucket = ap (count_by (λ y. y.1 == p)) (with_hash-bucket level mark h.chains h.addressed hash b at) in
      let found = member-from_count_by (λ y. y.1 == p) (with_hash hash (get_or h.chains b [])) (omega (arith, one, bag, bucket)) in
      let held = Contains-from_with_hash hash (get_or h.chains b []) found.0 found.1 in
      let chain = hung-chain hash b at in
      let stands : Stands nodes (hash, found.0) = subst (Stands nodes) held.2 (chain-stands nodes (head_at heads b) (get_or h.chains b []) chain held.0 (hash, found.0) held.1) in
      let same : (hash, found.0) ≡ placed_at nodes p = sym stands.is ∙ ap (placed_at nodes) (eqb-true found.0.1 p found.2) in
      (get_or h.chains b [], chain, hung-chain_short hash b at, subst (Contains (get_or h.chains b [])) same held)
