-- Rows that hang on the chains of their buckets, and those that are loose.
use Rattle.std.proofs.Common.{◌≡◌, ◌≢◌, ℕ, suc, zero, ◌+◌, ◌-◌, ◌^◌, ◌<◌, ◌≤◌, ◌==◌, true, false, Option, List, [], ◌∷◌, ◌++◌, length, get_or, set, take, drop, None, Some, IfSome, refl, sym, ap, ◌∙◌, arith, inl, inr, subst}
use Rattle.std.specs.List.{sum_by, Contains}
use Rattle.std.proofs.lemmas.List.{length-set, get_or-set_same, get_or-set_other, set-get_or, take-append-drop}
use Rattle.std.proofs.lemmas.List.Sums.{get_or-le-sum_by}
use Rattle.std.proofs.Math.Seq.{drop-cons}
use Rattle.std.proofs.lemmas.Bool.{ne_eqb}
use Rattle.std.proofs.lemmas.Bool.Decides.{eqb_tells}
use Rattle.part_raw.specs.declared.tuple_ref.TupleRef.{TupleRef}
use Rattle.mm_index.specs.Bag.{IsSameBag, with_hash}
use Rattle.mm_index.proofs.Bags.{IsSameBag-from_same, IsSameBag-middle, IsSameBag-sym, IsSameBag-with_hash, Contains-with_hash, Contains-from_with_hash}
use Rattle.mm_index.proofs.Refs.{Contains-same_refs}
use Rattle.lin_hash.specs.Address.{bucket_of}
use Rattle.lin_hash.specs.Chains.{AreHungBy}
use Rattle.lin_hash.specs.declared.node.NodeLink.{NodeLink}
use Rattle.lin_hash.specs.declared.row_node.RowNode.{RowNode}
use Rattle.lin_hash.specs.HeldRows.{KeepsRows}
use Rattle.lin_hash.specs.Nodes.{head_at, leads_to, link_to, no_link}
use Rattle.lin_hash.specs.RowNodes.{front_node, headed_at, is_used, leading_at, linked_before, linked_past, loose_node, not_unused, row_at, row_node_at, rows_of, trailing, trailing_at, unused_node, with_next, with_prev}
use Rattle.lin_hash.specs.RowChains.{AreLoose, AreRowsHung, row_entry_at, IsLinked, IsRowChain, row_next_at}
use Rattle.lin_hash.proofs.Hanging.{AreHungBy-link, AreHungBy-without}
use Rattle.lin_hash.proofs.InRowBlocks.{used-inside}
use Rattle.lin_hash.proofs.Joined.{joined, count_by-joined, count_by-set, chain_length-all}
use Rattle.lin_hash.proofs.Levels.{bucket_of-inside, with_hash-bucket}
use Rattle.lin_hash.proofs.Moves.{count_by-append, count_by-cons}
use Rattle.lin_hash.proofs.RowLinks.{AreOnce, after-chain, IsLinked-kept, IsLinked-set, IsLinked-trailed_other, IsLinked-unheaded, IsLinked-unlinked, IsOfChain, IsOfChain-leads, IsRowChain-front, StandsBehind-used, last_number, last_number-some, prev-last, stands-behind, times_at-first, times_at-last, times_at-less}
use Rattle.lin_hash.proofs.RowsIn.{length-rows, one_if, rows-set_alike, times_at, times_at-once, used_one, count_by-rows_set}

-- what is not in all chains is in none of them
times_at-chain : (p : ℕ) (chains : List (List (ℕ × TupleRef))) (i : ℕ) → i < length chains → times_at p (get_or chains i []) ≤ times_at p (joined chains)
times_at-chain p chains i inside =
    let one : times_at p (get_or chains i []) ≤ sum_by (times_at p) chains = get_or-le-sum_by (times_at p) chains i [] inside in
    let all = count_by-joined (λ e. e.1.number == p) chains in
    omega (arith, one, all)

-- what is in one chain is in no other
times_at-others : (p : ℕ) (chains : List (List (ℕ × TupleRef))) (b i : ℕ) → b < length chains → i < length chains → i ≢ b → times_at p (joined chains) ≤ 1 → 0 < times_at p (get_or chains b []) → times_at p (get_or chains i []) ≡ 0
times_at-others p chains b i inside within apart most here =
    let gone = count_by-set (λ e. e.1.number == p) chains b [] inside in
    let longer = length-set chains b [] in
    let one : times_at p (get_or (set chains b []) i []) ≤ sum_by (times_at p) (set chains b []) = get_or-le-sum_by (times_at p) (set chains b []) i [] (omega (arith, longer, within)) in
    let all = count_by-joined (λ e. e.1.number == p) (set chains b []) in
    let same : get_or (set chains b []) i [] ≡ get_or chains i [] = get_or-set_other chains b i [] [] apart in
    let less : times_at p (get_or (set chains b []) i []) ≡ 0 = omega (arith, gone, one, all, most, here) in
    rw same at less

-- a chain's first node is used
first-used : (nodes : List RowNode) (l : NodeLink) (es : List (ℕ × TupleRef)) → IsRowChain nodes l es → IfSome (leads_to l) (λ q. is_used (row_node_at nodes q) ≡ true)
first-used nodes l [] k = rw k tt
first-used nodes l (e ∷ es) k = rw k.0 (StandsBehind-used nodes no_link e (λ x. absurd (omega arith)) k.1)

module _ (level mark : ℕ) (nodes : List RowNode) (heads : List NodeLink) (loose : List (ℕ × TupleRef)) (h : AreRowsHung level mark nodes heads loose) where
  -- each row hangs once, or is loose once
  pub hung-once : (p : ℕ) → times_at p loose + times_at p (joined h.chains) ≤ 1
  hung-once p =
      let held = h.held.count (λ e. e.1.number == p) in
      let parts = count_by-append (λ e. e.1.number == p) loose (joined h.chains) in
      let most = times_at-once 0 nodes p in
      omega (arith, held, parts, most)

  pub chain-once : (b : ℕ) → b < length h.chains → AreOnce (get_or h.chains b [])
  chain-once b inside p = let one = times_at-chain p h.chains b inside in let most = hung-once p in omega (arith, one, most)

  -- no chain is longer than there are nodes
  pub hung-short : (b : ℕ) → b < length h.chains → length (get_or h.chains b []) ≤ length nodes
  hung-short b inside = let some = length-rows 0 nodes in let most = chain_length-all (IsRowChain nodes) level mark heads loose (rows_of nodes) h b inside in omega (arith, most, some)

  -- the bucket of a hash is there
  pub hung-inside : (hash b : ℕ) → b ≡ bucket_of level mark hash → b < length heads
  hung-inside hash b at =
      let inside = bucket_of-inside level mark h.chains h.addressed hash b at in
      let number = h.linked.number in
      omega (arith, inside, number)

  -- the first node of a chain is used
  pub hung-first : (b : ℕ) → b < length h.chains → IfSome (leads_to (head_at heads b)) (λ q. is_used (row_node_at nodes q) ≡ true)
  hung-first b inside = first-used nodes (head_at heads b) (get_or h.chains b []) (h.linked.each b inside)

-- a chain visits the row that its link leads to
first-in : (nodes : List RowNode) (behind l : NodeLink) (es : List (ℕ × TupleRef)) (q : ℕ) → IsLinked nodes behind l es → leads_to l ≡ Some q → 0 < times_at q es
first-in nodes behind l [] q h is = absurd (let e : None ≡ Some q = sym h ∙ is in cc)
first-in nodes behind l (e ∷ es) q h is =
    let same : Some e.1.number ≡ Some q = sym h.0 ∙ is in
    let at : e.1.number ≡ q = cc in
    let first = times_at-first e es in
    subst (λ p. 0 < times_at p (e ∷ es)) at (omega (arith, first))

-- a node that is linked otherwise has its row still
is_used-set : (nodes : List RowNode) (q : ℕ) (n : RowNode) (p : ℕ) → is_used n ≡ is_used (row_node_at nodes q) → is_used (row_node_at (set nodes q n) p) ≡ is_used (row_node_at nodes p)
is_used-set [] q n p same = refl
is_used-set (x ∷ nodes) zero n zero same = same
is_used-set (x ∷ nodes) zero n (suc p) same = refl
is_used-set (x ∷ nodes) (suc q) n zero same = refl
is_used-set (x ∷ nodes) (suc q) n (suc p) same = is_used-set nodes q n p same

hash-set : (nodes : List RowNode) (q : ℕ) (n : RowNode) (p : ℕ) → n.hash ≡ (row_node_at nodes q).hash → (row_node_at (set nodes q n) p).hash ≡ (row_node_at nodes p).hash
hash-set [] q n p same = refl
hash-set (x ∷ nodes) zero n zero same = same
hash-set (x ∷ nodes) zero n (suc p) same = refl
hash-set (x ∷ nodes) (suc q) n zero same = refl
hash-set (x ∷ nodes) (suc q) n (suc p) same = hash-set nodes q n p same

-- what links alone change
pub record RelinksRows (old new : List RowNode) : Type 0 where
  pub rows : rows_of new ≡ rows_of old
  pub used : (p : ℕ) → is_used (row_node_at new p) ≡ is_used (row_node_at old p)
  pub hash : (p : ℕ) → (row_node_at new p).hash ≡ (row_node_at old p).hash
  pub long : length new ≡ length old

relinks-set : (nodes : List RowNode) (q : ℕ) (n : RowNode) → n.hash ≡ (row_node_at nodes q).hash → is_used n ≡ is_used (row_node_at nodes q) → RelinksRows nodes (set nodes q n)
relinks-set nodes q n hash used = record {
  rows = rows-set_alike 0 nodes q n hash used;
  used = λ p. is_used-set nodes q n p used;
  hash = λ p. hash-set nodes q n p hash;
  long = length-set nodes q n;
}

relinks-trans : (a b c : List RowNode) → RelinksRows a b → RelinksRows b c → RelinksRows a c
relinks-trans a b c h k = record {
  rows = k.rows ∙ h.rows;
  used = λ p. k.used p ∙ h.used p;
  hash = λ p. k.hash p ∙ h.hash p;
  long = k.long ∙ h.long;
}

relinks-same : (a : List RowNode) → RelinksRows a a
relinks-same a = record { rows = refl; used = λ p. refl; hash = λ p. refl; long = refl }

relinks-trailed : (nodes : List RowNode) (l prev : NodeLink) → ((q : ℕ) → leads_to l ≡ Some q → is_used (row_node_at nodes q) ≡ true) → not_unused prev ≡ true → RelinksRows nodes (trailing nodes l prev)
relinks-trailed nodes l prev used of =
    elim (leads_to l) as (λ o. ((q : ℕ) → o ≡ Some q → is_used (row_node_at nodes q) ≡ true) → RelinksRows nodes (trailing_at nodes o prev)) [
      | None ↦ λ u. (relinks-same nodes)
      | Some q ↦ λ u. (relinks-set nodes q (with_prev (row_node_at nodes q) prev) refl (of ∙ sym (u q refl)))
    ] used

relinks-led : (nodes : List RowNode) (o : Option ℕ) (next : NodeLink) → RelinksRows nodes (leading_at nodes o next)
relinks-led nodes None next = relinks-same nodes
relinks-led nodes (Some q) next = relinks-set nodes q (with_next (row_node_at nodes q) next) refl refl

-- the node that a link leads to, where that is so
leads-used : (nodes : List RowNode) (l : NodeLink) (q : ℕ) → IfSome (leads_to l) (λ p. is_used (row_node_at nodes p) ≡ true) → leads_to l ≡ Some q → is_used (row_node_at nodes q) ≡ true
leads-used nodes l q h is = rw is at h

-- a row that is loose comes in front of the chain of its hash
module _ (level mark : ℕ) (nodes : List RowNode) (heads : List NodeLink) (p : ℕ) (loose : List (ℕ × TupleRef)) (h : AreRowsHung level mark nodes heads (row_entry_at nodes p ∷ loose)) (few : length nodes < 2 ^ 32 - 2) (used : is_used (row_node_at nodes p) ≡ true) where
  abbrev bucket : ℕ
  bucket = bucket_of level mark (row_node_at nodes p).hash

  bucket-in : bucket < length h.chains
  bucket-in = bucket_of-inside level mark h.chains h.addressed (row_node_at nodes p).hash bucket refl

  pub loose-away : times_at p loose + times_at p (joined h.chains) ≡ 0
  loose-away =
      let most = hung-once level mark nodes heads (row_entry_at nodes p ∷ loose) h p in
      let first = times_at-first (row_entry_at nodes p) loose in
      omega (arith, most, first)

  fronted-relinks : RelinksRows nodes (set nodes p (front_node (row_node_at nodes p) (head_at heads bucket)))
  fronted-relinks = relinks-set nodes p (front_node (row_node_at nodes p) (head_at heads bucket)) refl (sym used)

  link_used : not_unused (link_to p) ≡ true
  link_used = let inside = used-inside nodes p used in rw (ne_eqb p 4294967294 (λ e. absurd (omega (arith, inside, few)))) refl

  pub linked-relinks : RelinksRows nodes (linked_before nodes p (head_at heads bucket))
  linked-relinks =
      let fronted = set nodes p (front_node (row_node_at nodes p) (head_at heads bucket)) in
      let first = hung-first level mark nodes heads (row_entry_at nodes p ∷ loose) h bucket bucket-in in
      relinks-trans nodes fronted (linked_before nodes p (head_at heads bucket)) fronted-relinks
      (relinks-trailed fronted (head_at heads bucket) (link_to p) (λ q is. fronted-relinks.used q ∙ leads-used nodes (head_at heads bucket) q first is) link_used)

  -- a chain that has neither the row nor the first of its bucket stays
  pub linked-elsewhere : (behind l : NodeLink) (es : List (ℕ × TupleRef)) → times_at p es ≡ 0 → ((q : ℕ) → leads_to (head_at heads bucket) ≡ Some q → times_at q es ≡ 0) → IsLinked nodes behind l es → IsLinked (linked_before nodes p (head_at heads bucket)) behind l es
  linked-elsewhere behind l es away first chain =
      let n = front_node (row_node_at nodes p) (head_at heads bucket) in
      IsLinked-trailed_other (set nodes p n) (head_at heads bucket) (link_to p) behind l es first (IsLinked-set nodes p n behind l es away chain)

  -- the first of the bucket hangs there
  first-hung : (q : ℕ) → leads_to (head_at heads bucket) ≡ Some q → 0 < times_at q (get_or h.chains bucket [])
  first-hung q is = first-in nodes no_link (head_at heads bucket) (get_or h.chains bucket []) q (h.linked.each bucket bucket-in) is

  pub AreRowsHung-link : AreRowsHung level mark (linked_before nodes p (head_at heads bucket)) (set heads bucket (link_to p)) loose
  AreRowsHung-link =
      let now = linked_before nodes p (head_at heads bucket) in
      let es = get_or h.chains bucket [] in
      let inside = used-inside nodes p used in
      let away = times_at-chain p h.chains bucket bucket-in in
      let none = loose-away in
      let front = IsRowChain-front nodes p (head_at heads bucket) es inside (omega (arith, inside, few)) (chain-once level mark nodes heads (row_entry_at nodes p ∷ loose) h bucket bucket-in) (omega (arith, away, none)) (h.linked.each bucket bucket-in) in
      let linked = AreHungBy-link (IsRowChain nodes) (IsRowChain now) level mark heads (row_entry_at nodes p) loose (rows_of nodes) h bucket (link_to p) refl
      (λ i within apart.
      let off = times_at-chain p h.chains i within in
      linked-elsewhere no_link (head_at heads i) (get_or h.chains i []) (omega (arith, off, none))
      (λ q is.
      let here = first-hung q is in
      let most = hung-once level mark nodes heads (row_entry_at nodes p ∷ loose) h q in
      times_at-others q h.chains bucket i bucket-in within apart (omega (arith, most)) here)
      (h.linked.each i within))
      front in
      subst (AreHungBy (IsRowChain now) level mark (set heads bucket (link_to p)) loose) (sym linked-relinks.rows) linked

  -- and those behind it are loose still
  pub AreLoose-step : (behind l : NodeLink) (rest : List (ℕ × TupleRef)) → loose ≡ rest → leads_to l ≡ Some p → IsLinked nodes l (row_next_at nodes p) rest → AreLoose level mark (linked_before nodes p (head_at heads bucket)) (set heads bucket (link_to p)) (row_next_at nodes p)
  AreLoose-step behind l rest same is chain =
      let inside = used-inside nodes p used in
      let none = loose-away in
      let away : times_at p rest ≡ 0 = subst (λ es. times_at p es ≡ 0) same (omega (arith, none)) in
      let kept = linked-elsewhere l (row_next_at nodes p) rest away
      (λ q at.
      let here = first-hung q at in
      let most = hung-once level mark nodes heads (row_entry_at nodes p ∷ loose) h q in
      let bucket_most = times_at-chain q h.chains bucket bucket-in in
      let less = times_at-less q (row_entry_at nodes p) loose in
      subst (λ es. times_at q es ≡ 0) same (omega (arith, here, most, bucket_most, less)))
      chain in
      (l, IsOfChain-leads l p is (omega (arith, inside, few)), rest, kept, subst (AreRowsHung level mark (linked_before nodes p (head_at heads bucket)) (set heads bucket (link_to p))) same AreRowsHung-link)

  pub AreLoose-step_left : (behind l : NodeLink) (rest : List (ℕ × TupleRef)) (same : loose ≡ rest) (is : leads_to l ≡ Some p) (chain : IsLinked nodes l (row_next_at nodes p) rest) → length (AreLoose-step behind l rest same is chain).2 ≡ length rest
  unfolding AreLoose-step
  AreLoose-step_left behind l rest same is chain = refl

-- each row of a chain is used
chain-used : (nodes : List RowNode) → length nodes < 2 ^ 32 - 2 → (behind l : NodeLink) (es : List (ℕ × TupleRef)) → IsOfChain behind → IsLinked nodes behind l es → (q : ℕ) → 0 < times_at q es → is_used (row_node_at nodes q) ≡ true
chain-used nodes few behind l [] of h q there = absurd (omega arith)
chain-used nodes few behind l (e ∷ es) of h q there =
    let inside = h.1.inside in
    let used = StandsBehind-used nodes behind e of h.1 in
    elim (eqb_tells e.1.number q) [
      | inl same ↦ subst (λ p. is_used (row_node_at nodes p) ≡ true) same.1 used
      | inr other ↦
          let all = count_by-cons (λ d. d.1.number == q) e es in
          let zero_one : one_if (e.1.number == q) ≡ 0 = ap one_if other.0 in
          chain-used nodes few l (row_next_at nodes e.1.number) es (IsOfChain-leads l e.1.number h.0 (omega (arith, inside, few))) h.2 q (omega (arith, there, all, zero_one))
    ]

-- what holds of what an option has
if_some : (o : Option ℕ) (P : ℕ → Type 0) → ((q : ℕ) → o ≡ Some q → P q) → IfSome o P
if_some None P each = tt
if_some (Some q) P each = each q refl

-- where an element stands in a list
split-at : {A : Type 0} (es : List A) (x : A) → Contains es x → (before : List A) × (after : List A) × (es ≡ before ++ x ∷ after)
split-at es x h =
    let inside : h.0 < length es = h.1 in
    (take h.0 es, drop (suc h.0) es, sym (take-append-drop h.0 es) ∙ ap (λ ds. take h.0 es ++ ds) (drop-cons es h.0 x inside ∙ ap (λ y. y ∷ drop (suc h.0) es) h.2))

module _ (level mark : ℕ) (nodes : List RowNode) (heads : List NodeLink) (h : AreRowsHung level mark nodes heads []) where
  -- the bucket of a hash holds what hangs under it
  module _ (hash b : ℕ) (at : b ≡ bucket_of level mark hash) where
    pub hung-chain : IsRowChain nodes (head_at heads b) (get_or h.chains b [])
    hung-chain = h.linked.each b (bucket_of-inside level mark h.chains h.addressed hash b at)

    pub hung-chain_short : length (get_or h.chains b []) ≤ length nodes
    hung-chain_short = hung-short level mark nodes heads [] h b (bucket_of-inside level mark h.chains h.addressed hash b at)

    pub IsSameBag-hung : IsSameBag (with_hash hash (get_or h.chains b [])) (with_hash hash (rows_of nodes))
    IsSameBag-hung = rw (with_hash-bucket level mark h.chains h.addressed hash b at) (IsSameBag-with_hash hash h.held)

    -- so a row that is held under the hash is in its chain
    pub hung-split : (r : TupleRef) → Contains (rows_of nodes) (hash, r) → (before : List (ℕ × TupleRef)) × (after : List (ℕ × TupleRef)) × (get_or h.chains b [] ≡ before ++ (hash, r) ∷ after)
    hung-split r held =
        let under = Contains-with_hash hash (rows_of nodes) r held in
        let found = Contains-same_refs (with_hash hash (rows_of nodes)) (with_hash hash (get_or h.chains b [])) r (IsSameBag-sym IsSameBag-hung) under in
        split-at (get_or h.chains b []) (hash, r) (Contains-from_with_hash hash (get_or h.chains b []) r found)

  -- a row leaves its chain
  module _ (few : length nodes < 2 ^ 32 - 2) (x : ℕ × TupleRef) (b : ℕ) (at : b ≡ bucket_of level mark x.0) (before after : List (ℕ × TupleRef)) (is : get_or h.chains b [] ≡ before ++ x ∷ after) where
    abbrev gone : RowNode
    gone = row_node_at nodes x.1.number

    b-inside : b < length h.chains
    b-inside = bucket_of-inside level mark h.chains h.addressed x.0 b at

    chain : IsRowChain nodes (head_at heads b) (before ++ x ∷ after)
    chain = subst (IsRowChain nodes (head_at heads b)) is (h.linked.each b b-inside)

    once : AreOnce (before ++ x ∷ after)
    once = subst AreOnce is (chain-once level mark nodes heads [] h b b-inside)

    -- a row of its chain is used
    here-used : (q : ℕ) → 0 < times_at q (before ++ x ∷ after) → is_used (row_node_at nodes q) ≡ true
    here-used q there = chain-used nodes few no_link (head_at heads b) (before ++ x ∷ after) (λ e. absurd (omega arith)) chain q there

    pub gone-used : is_used gone ≡ true
    gone-used =
        let parts = count_by-append (λ d. d.1.number == x.1.number) before (x ∷ after) in
        let first = times_at-first x after in
        here-used x.1.number (omega (arith, parts, first))

    -- and has the hash
    pub gone-entry : row_entry_at nodes x.1.number ≡ x
    gone-entry = let s = stands-behind nodes no_link (head_at heads b) before x after chain in ap (λ hash. (hash, x.1)) s.1.hash

    -- and so are the ones beside it
    pub next-used : IfSome (leads_to gone.next) (λ q. is_used (row_node_at nodes q) ≡ true)
    next-used =
        let behind = after-chain nodes no_link (head_at heads b) before x after chain in
        if_some (leads_to gone.next) (λ q. is_used (row_node_at nodes q) ≡ true) (λ q leads.
        let there = first-in nodes behind.0 gone.next after q behind.1 leads in
        let parts = count_by-append (λ d. d.1.number == q) before (x ∷ after) in
        let less = times_at-less q x after in
        here-used q (omega (arith, there, parts, less)))

    prev-of : (es : List (ℕ × TupleRef)) → IsRowChain nodes (head_at heads b) (es ++ x ∷ after) → leads_to gone.prev ≡ last_number es
    prev-of [] k = ap leads_to k.1.prev
    prev-of (e ∷ es) k = prev-last nodes no_link (head_at heads b) e es x after k

    pub prev-used : IfSome (leads_to gone.prev) (λ q. is_used (row_node_at nodes q) ≡ true)
    prev-used =
        if_some (leads_to gone.prev) (λ q. is_used (row_node_at nodes q) ≡ true) (λ q leads.
        let there = times_at-last q before (sym (prev-of before chain) ∙ leads) in
        let parts = count_by-append (λ d. d.1.number == q) before (x ∷ after) in
        here-used q (omega (arith, there, parts)))

    -- only links change
    pub unlinked-relinks : RelinksRows nodes (linked_past nodes gone)
    unlinked-relinks =
        let led = leading_at nodes (leads_to gone.prev) gone.next in
        let first = relinks-led nodes (leads_to gone.prev) gone.next in
        relinks-trans nodes led (linked_past nodes gone) first
        (relinks-trailed led gone.next gone.prev (λ q is. first.used q ∙ leads-used nodes gone.next q next-used is) gone-used)

    led-elsewhere : (o : Option ℕ) (es : List (ℕ × TupleRef)) (i : ℕ) → IsRowChain nodes (head_at heads i) es → ((q : ℕ) → o ≡ Some q → times_at q es ≡ 0) → IsRowChain (leading_at nodes o gone.next) (head_at heads i) es
    led-elsewhere None es i k away = k
    led-elsewhere (Some q) es i k away = IsLinked-set nodes q (with_next (row_node_at nodes q) gone.next) no_link (head_at heads i) es (away q refl) k

    -- a chain of another bucket stays
    elsewhere : (i : ℕ) → i < length h.chains → i ≢ b → IsRowChain (linked_past nodes gone) (head_at heads i) (get_or h.chains i [])
    elsewhere i within apart =
        let es = get_or h.chains i [] in
        let none : (q : ℕ) → 0 < times_at q (before ++ x ∷ after) → times_at q es ≡ 0 = λ q there.
        let most = hung-once level mark nodes heads [] h q in
        times_at-others q h.chains b i b-inside within apart (omega (arith, most)) (subst (λ ds. 0 < times_at q ds) (sym is) there) in
        let behind = after-chain nodes no_link (head_at heads b) before x after chain in
        let led : IsRowChain (leading_at nodes (leads_to gone.prev) gone.next) (head_at heads i) es = led-elsewhere (leads_to gone.prev) es i (h.linked.each i within) (λ q leads.
        let there = times_at-last q before (sym (prev-of before chain) ∙ leads) in
        let parts = count_by-append (λ d. d.1.number == q) before (x ∷ after) in
        none q (omega (arith, there, parts))) in
        IsLinked-trailed_other (leading_at nodes (leads_to gone.prev) gone.next) gone.next gone.prev no_link (head_at heads i) es (λ q leads.
        let there = first-in nodes behind.0 gone.next after q behind.1 leads in
        let parts = count_by-append (λ d. d.1.number == q) before (x ∷ after) in
        let less = times_at-less q x after in
        none q (omega (arith, there, parts, less))) led

    -- its own goes on without it
    abbrev now : List RowNode
    now = linked_past nodes gone

    unlink_at : (ds : List (ℕ × TupleRef)) → before ≡ ds → AreRowsHung level mark now (headed_at heads b (leads_to gone.prev) gone.next) (x ∷ [])
    unlink_at [] same =
        let first : before ++ x ∷ after ≡ x ∷ after = ap (λ es. es ++ x ∷ after) same in
        let front : IsRowChain nodes (head_at heads b) (x ∷ after) = subst (IsRowChain nodes (head_at heads b)) first chain in
        let none : leads_to gone.prev ≡ None = ap leads_to front.1.prev in
        let new : IsRowChain now gone.next after = subst (λ o. IsRowChain (trailing (leading_at nodes o gone.next) gone.next gone.prev) gone.next after) (sym none) (IsLinked-unheaded nodes (head_at heads b) x after (subst AreOnce first once) front) in
        let hung = AreHungBy-without (IsRowChain nodes) (IsRowChain now) level mark heads (rows_of nodes) h b x after gone.next at (IsSameBag-from_same _ _ (is ∙ first)) elsewhere new in
        subst (λ o. AreRowsHung level mark now (headed_at heads b o gone.next) (x ∷ [])) (sym none) (subst (AreHungBy (IsRowChain now) level mark (set heads b gone.next) (x ∷ [])) (sym unlinked-relinks.rows) hung)
    unlink_at (e ∷ ds) same =
        let last = last_number-some e ds in
        let is_last : last_number before ≡ Some last.0 = ap last_number same ∙ last.1 in
        let leads : leads_to gone.prev ≡ Some last.0 = prev-of before chain ∙ is_last in
        let new : IsRowChain now (head_at heads b) (before ++ after) = subst (λ o. IsRowChain (trailing (leading_at nodes o gone.next) gone.next gone.prev) (head_at heads b) (before ++ after)) (sym leads) (IsLinked-unlinked nodes no_link (head_at heads b) before x after last.0 once is_last chain) in
        let bag : IsSameBag (get_or h.chains b []) (x ∷ (before ++ after)) = rw is (IsSameBag-middle before after x) in
        let hung = AreHungBy-without (IsRowChain nodes) (IsRowChain now) level mark heads (rows_of nodes) h b x (before ++ after) (head_at heads b) at bag elsewhere new in
        let headed = subst (λ (hs : List NodeLink). AreHungBy (IsRowChain now) level mark hs (x ∷ []) (rows_of nodes)) (set-get_or heads b (record { place = 0 })) hung in
        subst (λ o. AreRowsHung level mark now (headed_at heads b o gone.next) (x ∷ [])) (sym leads) (subst (AreHungBy (IsRowChain now) level mark heads (x ∷ [])) (sym unlinked-relinks.rows) headed)

    pub AreRowsHung-unlink : AreRowsHung level mark now (headed_at heads b (leads_to gone.prev) gone.next) (x ∷ [])
    AreRowsHung-unlink = unlink_at before refl

-- a row's node is used no more
module _ (nodes : List RowNode) (p : ℕ) (used : is_used (row_node_at nodes p) ≡ true) where
  pub IsSameBag-left : IsSameBag (rows_of nodes) (row_entry_at nodes p ∷ rows_of (set nodes p unused_node))
  IsSameBag-left = record {
    count = λ test.
        let moved = count_by-rows_set test 0 nodes p unused_node p (omega arith) (used-inside nodes p used) in
        let one : used_one test (row_node_at nodes p) p ≡ one_if (test (row_entry_at nodes p)) = rw used refl in
        omega (arith, moved, one, count_by-cons test (row_entry_at nodes p) (rows_of (set nodes p unused_node)));
  }

  pub AreRowsHung-left : (level mark : ℕ) (heads : List NodeLink) → AreRowsHung level mark nodes heads (row_entry_at nodes p ∷ []) → AreRowsHung level mark (set nodes p unused_node) heads []
  AreRowsHung-left level mark heads h = record {
    chains = h.chains;
    linked =
        record {
          number = h.linked.number;
          each = λ i inside.
              let most = hung-once level mark nodes heads (row_entry_at nodes p ∷ []) h p in
              let first = times_at-first (row_entry_at nodes p) [] in
              let off = times_at-chain p h.chains i inside in
              IsLinked-set nodes p unused_node no_link (head_at heads i) (get_or h.chains i []) (omega (arith, most, first, off)) (h.linked.each i inside);
        };
    held =
        record {
          count = λ test.
              let held = h.held.count test in
              let left = IsSameBag-left.count test in
              omega (arith, held, left, count_by-append test (row_entry_at nodes p ∷ []) (joined h.chains), count_by-cons test (row_entry_at nodes p) [], count_by-cons test (row_entry_at nodes p) (rows_of (set nodes p unused_node)));
        };
    addressed = h.addressed;
  }

-- a row's node comes to its place
module _ (nodes : List RowNode) (p hash : ℕ) (inside : p < length nodes) (free : is_used (row_node_at nodes p) ≡ false) where
  pub entered-node : row_node_at (set nodes p (loose_node hash)) p ≡ loose_node hash
  entered-node = get_or-set_same nodes p (loose_node hash) _ inside

  pub IsSameBag-entered : IsSameBag (rows_of (set nodes p (loose_node hash))) ((hash, row_at p) ∷ rows_of nodes)
  IsSameBag-entered = record {
    count = λ test.
        let moved = count_by-rows_set test 0 nodes p (loose_node hash) p (omega arith) inside in
        let none : used_one test (row_node_at nodes p) p ≡ 0 = rw free refl in
        omega (arith, moved, none, count_by-cons test (hash, row_at p) (rows_of nodes));
  }

  entered-away : times_at p (rows_of nodes) ≡ 0
  entered-away =
      let most = times_at-once 0 (set nodes p (loose_node hash)) p in
      let all = IsSameBag-entered.count (λ e. e.1.number == p) in
      let first = times_at-first (hash, row_at p) (rows_of nodes) in
      omega (arith, most, all, first)

  pub AreRowsHung-entered : (level mark : ℕ) (heads : List NodeLink) → AreRowsHung level mark nodes heads [] → AreRowsHung level mark (set nodes p (loose_node hash)) heads (row_entry_at (set nodes p (loose_node hash)) p ∷ [])
  AreRowsHung-entered level mark heads h =
      let held : AreRowsHung level mark (set nodes p (loose_node hash)) heads ((hash, row_at p) ∷ []) =
      record {
        chains = h.chains;
        linked =
            record {
              number = h.linked.number;
              each = λ i within.
                  let bag = h.held.count (λ e. e.1.number == p) in
                  let off = times_at-chain p h.chains i within in
                  let none = entered-away in
                  IsLinked-set nodes p (loose_node hash) no_link (head_at heads i) (get_or h.chains i []) (omega (arith, bag, off, none)) (h.linked.each i within);
            };
        held =
            record {
              count = λ test.
                  let bag = h.held.count test in
                  let entered = IsSameBag-entered.count test in
                  omega (arith, bag, entered, count_by-append test ((hash, row_at p) ∷ []) (joined h.chains), count_by-cons test (hash, row_at p) [], count_by-cons test (hash, row_at p) (rows_of nodes));
            };
        addressed = h.addressed;
      } in
      subst (λ (n : RowNode). AreRowsHung level mark (set nodes p (loose_node hash)) heads ((n.hash, row_at p) ∷ [])) (sym entered-node) held

-- each row's node stays, and memory comes or goes
pub AreRowsHung-kept : (level mark : ℕ) (nodes now : List RowNode) (heads : List NodeLink) → KeepsRows nodes now → length nodes < 2 ^ 32 - 2 → AreRowsHung level mark nodes heads [] → AreRowsHung level mark now heads []
AreRowsHung-kept level mark nodes now heads keeps few h =
    let kept : AreHungBy (IsRowChain now) level mark heads [] (rows_of nodes) =
    record {
      chains = h.chains;
      linked =
          record {
            number = h.linked.number;
            each = λ i inside. IsLinked-kept nodes now keeps (omega arith) no_link (head_at heads i) (get_or h.chains i []) (λ e. absurd (omega arith)) (h.linked.each i inside);
          };
      held = h.held;
      addressed = h.addressed;
    } in
    subst (AreHungBy (IsRowChain now) level mark heads []) (sym keeps.rows) kept
