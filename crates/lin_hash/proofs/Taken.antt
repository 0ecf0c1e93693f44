-- A node that leaves its chain, a bucket that is folded, and nodes that are linked anew.
use Rattle.std.proofs.Common.{◌≡◌, ℕ, ◌+◌, ◌^◌, ◌<◌, ◌≤◌, ◌==◌, List, [], ◌∷◌, ◌++◌, length, get_or, set, replicate, Option, None, Some, IfSome, refl, sym, ap, ◌∙◌, arith, subst}
use Rattle.std.specs.List.{sum_by}
use Rattle.std.proofs.lemmas.List.Sums.{get_or-le-sum_by}
use Rattle.std.proofs.lemmas.List.{length-set, length-append, set-get_or, map-append}
use Rattle.mm_index.specs.Bag.{IsSameBag}
use Rattle.mm_index.proofs.Bags.{IsSameBag-map, IsSameBag-trans, IsSameBag-from_same, IsSameBag-middle}
use Rattle.lin_hash.specs.Address.{bucket_of}
use Rattle.lin_hash.specs.declared.node.NodeLink.{NodeLink}
use Rattle.lin_hash.specs.declared.node.Node.{Node}
use Rattle.lin_hash.specs.Nodes.{no_link, link_to, head_at, node_at, next_at, leading_to, entry_of, entries_of, relinked_behind, relinked_head}
use Rattle.lin_hash.specs.Chains.{Placed, place_of, placed_at, entry_in, all_placed, Stands, IsChain, AreHungBy, AreHung, last_place}
use Rattle.lin_hash.proofs.Moves.{count_by-append, count_by-cons}
use Rattle.lin_hash.proofs.Joined.{count_by-joined}
use Rattle.lin_hash.proofs.Placed.{times_at, placed, placed-relinked, entries-placed, entries-relinked}
use Rattle.lin_hash.proofs.Chaining.{Stands-relinked, IsChain-set, IsChain-unique, IsChain-unlinked, times_at-last}
use Rattle.lin_hash.proofs.Hung.{IsSameBag-put, IsSameBag-grown, AreHung-grown, AreHung-popped, AreHung-put, Stands-grown, Stands-put, AreHung-link, last_entry, last-there}
use Rattle.lin_hash.proofs.Rehung.{times_at-others, times_at-most}
use Rattle.lin_hash.proofs.Hanging.{AreHungBy-without, AreHungBy-empty}
use Rattle.lin_hash.proofs.Levels.{bucket_of-inside, IsAddressed-new}

-- each node of a chain stands there
pub IsChain-stands : (nodes : List Node) (l : NodeLink) (before : List Placed) (x : Placed) (after : List Placed) → IsChain nodes l (before ++ x ∷ after) → Stands nodes x
IsChain-stands nodes l [] x after h = h.1
IsChain-stands nodes l (e ∷ before) x after h = IsChain-stands nodes (next_at nodes (place_of e)) before x after h.2

pub IsChain-last : (nodes : List Node) (l : NodeLink) (before rest : List Placed) (q : ℕ) → last_place before ≡ Some q → IsChain nodes l (before ++ rest) → q < length nodes
IsChain-last nodes l [] rest q last h = absurd (cc)
IsChain-last nodes l (e ∷ []) rest q last h =
    let at : place_of e ≡ q = cc in
    rw (← at) h.1.inside
IsChain-last nodes l (e ∷ f ∷ before) rest q last h = IsChain-last nodes (next_at nodes (place_of e)) (f ∷ before) rest q last h.2

last_place-some : (e : Placed) (es : List Placed) → (q : ℕ) × (last_place (e ∷ es) ≡ Some q)
last_place-some e [] = (place_of e, refl)
last_place-some e (f ∷ es) = last_place-some f es

module _ (level mark : ℕ) (nodes : List Node) (heads : List NodeLink) (h : AreHung level mark nodes heads []) (x : Placed) (b : ℕ) (at : b ≡ bucket_of level mark x.0) where
  AreHung-behind : (before after : List Placed) (q : ℕ) → last_place before ≡ Some q → IsChain nodes (head_at heads b) (before ++ x ∷ after) → AreHung level mark (set nodes q (leading_to (node_at nodes q) (next_at nodes (place_of x)))) heads (x ∷ [])
  AreHung-behind before after q last chain =
      let inside : b < length h.chains = bucket_of-inside level mark h.chains h.addressed x.0 b at in
      let is : get_or h.chains b [] ≡ before ++ x ∷ after = IsChain-unique nodes (head_at heads b) (get_or h.chains b []) (before ++ x ∷ after) (h.linked.each b inside) chain in
      let most = times_at-most level mark nodes heads h q in
      let one = times_at-last q before last in
      let here : times_at q (get_or h.chains b []) ≡ times_at q before + times_at q (x ∷ after) = rw is (count_by-append (λ d. place_of d == q) before (x ∷ after)) in
      let behind = count_by-cons (λ d. place_of d == q) x after in
      let bucket : times_at q (get_or h.chains b []) ≤ sum_by (times_at q) h.chains = get_or-le-sum_by (times_at q) h.chains b [] inside in
      let all = count_by-joined (λ d. place_of d == q) h.chains in
      let n : Node = leading_to (node_at nodes q) (next_at nodes (place_of x)) in
      let bag : IsSameBag (get_or h.chains b []) (x ∷ (before ++ after)) = rw is (IsSameBag-middle before after x) in
      let hung = AreHungBy-without (IsChain nodes) (IsChain (set nodes q n)) level mark heads (all_placed nodes) h b x (before ++ after) (head_at heads b) at bag
      (λ i within apart. IsChain-set nodes q n (head_at heads i) (get_or h.chains i []) (times_at-others q h.chains b i inside within apart most (omega (arith, here, one))) (h.linked.each i within))
      (IsChain-unlinked nodes (head_at heads b) before q x after last (omega (arith, here, one, behind, bucket, all, most)) (omega (arith, here, bucket, all, most)) chain) in
      let same : all_placed nodes ≡ all_placed (set nodes q n) = sym (placed-relinked 0 nodes q (next_at nodes (place_of x))) in
      subst (λ (hs : List NodeLink). AreHung level mark (set nodes q n) hs (x ∷ [])) (set-get_or heads b (record { place = 0 })) (subst (AreHungBy (IsChain (set nodes q n)) level mark (set heads b (head_at heads b)) (x ∷ [])) same hung)

  AreHung-front : (after : List Placed) → IsChain nodes (head_at heads b) (x ∷ after) → AreHung level mark nodes (set heads b (next_at nodes (place_of x))) (x ∷ [])
  AreHung-front after chain =
      let inside : b < length h.chains = bucket_of-inside level mark h.chains h.addressed x.0 b at in
      let is : get_or h.chains b [] ≡ x ∷ after = IsChain-unique nodes (head_at heads b) (get_or h.chains b []) (x ∷ after) (h.linked.each b inside) chain in
      AreHungBy-without (IsChain nodes) (IsChain nodes) level mark heads (all_placed nodes) h b x after (next_at nodes (place_of x)) at (IsSameBag-from_same _ _ is) (λ i within apart. h.linked.each i within) chain.2

  AreHung-taken_by : (before after : List Placed) → IsChain nodes (head_at heads b) (before ++ x ∷ after) → (behind : Option ℕ) → behind ≡ last_place before → AreHung level mark (relinked_behind nodes behind (next_at nodes (place_of x))) (relinked_head heads b behind (next_at nodes (place_of x))) (x ∷ [])
  AreHung-taken_by [] after chain behind is = rw is (AreHung-front after chain)
  AreHung-taken_by (e ∷ before) after chain behind is =
      let last = last_place-some e before in
      rw (is, last.1) (AreHung-behind (e ∷ before) after last.0 last.1 chain)

  module _ (before after : List Placed) (chain : IsChain nodes (head_at heads b) (before ++ x ∷ after)) (behind : Option ℕ) (is : behind ≡ last_place before) where
    abbrev now_nodes : List Node
    now_nodes = relinked_behind nodes behind (next_at nodes (place_of x))

    pub AreHung-taken : AreHung level mark now_nodes (relinked_head heads b behind (next_at nodes (place_of x))) (x ∷ [])
    AreHung-taken = AreHung-taken_by before after chain behind is

    pub Stands-taken : Stands now_nodes x
    Stands-taken =
        let stands = IsChain-stands nodes (head_at heads b) before x after chain in
        elim behind as (λ o. Stands (relinked_behind nodes o (next_at nodes (place_of x))) x) [ None ↦ stands | Some q ↦ Stands-relinked nodes q (next_at nodes (place_of x)) x stands ]

    pub behind-inside : IfSome behind (λ q. q < length nodes)
    behind-inside =
        elim behind as (λ o. o ≡ last_place before → IfSome o (λ q. q < length nodes)) [
          | None ↦ λ e. tt
          | Some q ↦ λ e. (IsChain-last nodes (head_at heads b) before (x ∷ after) q (sym e) chain)
        ] is

pub length-taken : (nodes : List Node) (behind : Option ℕ) (l : NodeLink) → length (relinked_behind nodes behind l) ≡ length nodes
length-taken nodes None l = refl
length-taken nodes (Some q) l = length-set nodes q (leading_to (node_at nodes q) l)

pub length-taken_head : (heads : List NodeLink) (b : ℕ) (behind : Option ℕ) (l : NodeLink) → length (relinked_head heads b behind l) ≡ length heads
length-taken_head heads b None l = length-set heads b l
length-taken_head heads b (Some q) l = refl

-- the entries of the nodes
pub IsSameBag-entries : (nodes now : List Node) (e : Placed) → IsSameBag (all_placed now) (e ∷ all_placed nodes) → IsSameBag (entries_of now) (entry_in e ∷ entries_of nodes)
IsSameBag-entries nodes now e h =
    IsSameBag-trans (IsSameBag-from_same _ _ (sym (entries-placed 0 now)))
    (IsSameBag-trans (IsSameBag-map entry_in h) (IsSameBag-from_same _ _ (ap (λ es. entry_in e ∷ es) (entries-placed 0 nodes))))

pub AreHung-new : AreHung 0 0 [] (replicate 4 no_link) []
AreHung-new = AreHungBy-empty (IsChain []) 0 0 (replicate 4 []) no_link 4 IsAddressed-new refl refl

-- the entries that are left
pub entries-taken : (nodes : List Node) (behind : Option ℕ) (l : NodeLink) → entries_of (relinked_behind nodes behind l) ≡ entries_of nodes
entries-taken nodes None l = refl
entries-taken nodes (Some q) l = entries-relinked nodes q l

-- where an entry comes to the place of another one
pub IsSameBag-replaced : (nodes : List Node) (p : ℕ) (n : Node) → p < length nodes → IsSameBag (entry_of (node_at nodes p) ∷ entries_of (set nodes p n)) (entry_of n ∷ entries_of nodes)
IsSameBag-replaced nodes p n inside =
    let before = ap (λ es. entry_of (node_at nodes p) ∷ es) (entries-placed 0 (set nodes p n)) in
    let after = ap (λ es. entry_of n ∷ es) (entries-placed 0 nodes) in
    IsSameBag-trans (IsSameBag-from_same _ _ (sym before)) (IsSameBag-trans (IsSameBag-map entry_in (IsSameBag-put nodes p n inside)) (IsSameBag-from_same _ _ after))

-- a node comes to the end, and in front of the chain of its hash
module _ (level mark : ℕ) (nodes : List Node) (heads : List NodeLink) (n : Node) (h : AreHung level mark nodes heads []) (few : length nodes + 1 < 2 ^ 32) (grown : List Node) (is : grown ≡ nodes ++ n ∷ []) (place : ℕ) (at : place ≡ length nodes) (now : List Node) (now_heads : List NodeLink) (f : now ≡ set grown place (leading_to (node_at grown place) (head_at heads (bucket_of level mark (node_at grown place).hash)))) where
  pub AreHung-added : now_heads ≡ set heads (bucket_of level mark (node_at grown place).hash) (link_to place) → AreHung level mark now now_heads []
  AreHung-added g =
      let longer = length-append nodes (n ∷ []) in
      AreHung-link level mark (nodes ++ n ∷ []) heads (last_entry nodes n) [] (AreHung-grown nodes n level mark heads h) (Stands-grown nodes n) (omega (arith, longer, few)) now now_heads (rw (is, at) at f) (rw (is, at) at g)

  pub IsSameBag-added : IsSameBag (entries_of now) (entry_of n ∷ entries_of nodes)
  IsSameBag-added =
      let same : entries_of now ≡ entries_of (nodes ++ n ∷ []) = ap entries_of f ∙ entries-relinked grown place _ ∙ ap entries_of is in
      IsSameBag-trans (IsSameBag-from_same _ _ same) (IsSameBag-entries nodes (nodes ++ n ∷ []) (last_entry nodes n) (IsSameBag-grown nodes n))

-- a node that left its chain, and goes or makes room for another one
module _ (level mark : ℕ) (nodes : List Node) (heads : List NodeLink) (x : Placed) (hung : AreHung level mark nodes heads (x ∷ [])) (stands : Stands nodes x) where
  module _ (front : List Node) (n : Node) (is : nodes ≡ front ++ n ∷ []) (at : place_of x ≡ length front) where
    same_last : last_entry front n ≡ x
    same_last =
        let there : Stands (front ++ n ∷ []) x = subst (λ (ns : List Node). Stands ns x) is stands in
        ap (λ m. placed m (length front)) (sym (last-there front n)) ∙ ap (placed_at (front ++ n ∷ [])) (sym at) ∙ there.is

    -- it was the last
    pub AreHung-last : AreHung level mark front heads []
    AreHung-last =
        let whole : AreHung level mark (front ++ n ∷ []) heads (x ∷ []) = subst (λ (ns : List Node). AreHung level mark ns heads (x ∷ [])) is hung in
        AreHung-popped front n level mark heads (subst (λ (e : Placed). AreHung level mark (front ++ n ∷ []) heads (e ∷ [])) (sym same_last) whole)

    pub entries-last : entries_of nodes ≡ entries_of front ++ entry_in x ∷ []
    entries-last = ap entries_of is ∙ map-append entry_of front (n ∷ []) ∙ ap (λ e. entries_of front ++ entry_in e ∷ []) same_last

  -- another one comes to its place, and in front of the chain of its hash
  module _ (few : length nodes < 2 ^ 32) (n : Node) (put : List Node) (is : put ≡ set nodes (place_of x) n) (now : List Node) (now_heads : List NodeLink) (f : now ≡ set put (place_of x) (leading_to (node_at put (place_of x)) (head_at heads (bucket_of level mark (node_at put (place_of x)).hash)))) where
    pub AreHung-replaced : now_heads ≡ set heads (bucket_of level mark (node_at put (place_of x)).hash) (link_to (place_of x)) → AreHung level mark now now_heads []
    AreHung-replaced g =
        let p : ℕ = place_of x in
        let own : AreHung level mark nodes heads (placed_at nodes p ∷ []) = subst (λ (e : Placed). AreHung level mark nodes heads (e ∷ [])) (sym stands.is) hung in
        let longer = length-set nodes p n in
        AreHung-link level mark (set nodes p n) heads (placed n p) [] (AreHung-put nodes p n stands.inside level mark heads own) (Stands-put nodes p n stands.inside) (omega (arith, longer, few)) now now_heads (rw is at f) (rw is at g)

    pub entries-replaced : IsSameBag (entry_in x ∷ entries_of now) (entry_of n ∷ entries_of nodes)
    entries-replaced =
        let p : ℕ = place_of x in
        let same : entries_of now ≡ entries_of (set nodes p n) = ap entries_of f ∙ entries-relinked put p _ ∙ ap entries_of is in
        let own : entry_in x ≡ entry_of (node_at nodes p) = ap entry_in (sym stands.is) in
        IsSameBag-trans (IsSameBag-from_same _ _ (ap (λ es. entry_in x ∷ es) same ∙ ap (λ e. e ∷ entries_of (set nodes p n)) own)) (IsSameBag-replaced nodes p n stands.inside)
