-- Chains of rows, where a node changes that they do not visit, where a node comes in front, and where one leaves.
use Rattle.std.proofs.Common.{◌≡◌, ◌≢◌, ℕ, ◌+◌, ◌-◌, ◌^◌, ◌<◌, ◌≤◌, ◌==◌, true, Option, List, [], ◌∷◌, ◌++◌, length, set, None, Some, refl, sym, ap, ◌∙◌, arith, subst}
use Rattle.std.proofs.lemmas.Bool.{ne_eqb, eq-eqb}
use Rattle.std.proofs.lemmas.List.{length-set, get_or-set_same, get_or-set_other}
use Rattle.part_raw.specs.declared.tuple_ref.TupleRef.{TupleRef}
use Rattle.lin_hash.specs.declared.node.NodeLink.{NodeLink}
use Rattle.lin_hash.specs.declared.row_node.RowNode.{RowNode}
use Rattle.lin_hash.specs.HeldRows.{KeepsRows}
use Rattle.lin_hash.specs.Nodes.{leads_to, link_to, no_link}
use Rattle.lin_hash.specs.RowNodes.{front_node, is_used, leading_at, linked_before, row_at, row_node_at, trailing, trailing_at, with_next, with_prev}
use Rattle.lin_hash.specs.RowChains.{IsLinked, IsRowChain, StandsBehind, row_next_at}
use Rattle.lin_hash.proofs.Chaining.{leads_to-link}
use Rattle.lin_hash.proofs.InRowBlocks.{used-inside}
use Rattle.lin_hash.proofs.Moves.{count_by-append, count_by-cons}
use Rattle.lin_hash.proofs.RowsIn.{one_if, times_at}

-- a link that is of a chain, and not that of a node on none
abbrev pub IsOfChain : NodeLink → Type 0
IsOfChain l = l.place ≢ 4294967294

pub IsOfChain-leads : (l : NodeLink) (p : ℕ) → leads_to l ≡ Some p → p < 4294967294 → IsOfChain l
IsOfChain-leads l p is low = λ e. (let at : leads_to l ≡ Some 4294967294 = rw e refl in let same : Some p ≡ Some 4294967294 = sym is ∙ at in let n : p ≡ 4294967294 = cc in omega arith)

-- a node that stands on a chain is used
pub StandsBehind-used : (nodes : List RowNode) (behind : NodeLink) (e : ℕ × TupleRef) → IsOfChain behind → StandsBehind nodes behind e → is_used (row_node_at nodes e.1.number) ≡ true
StandsBehind-used nodes behind e of h = rw h.prev (rw (ne_eqb behind.place 4294967294 of) refl)

-- the first of a list is elsewhere, and so are the others
pub apart-first : (p : ℕ) (e : ℕ × TupleRef) (es : List (ℕ × TupleRef)) → times_at p (e ∷ es) ≡ 0 → e.1.number ≢ p
apart-first p e es h = λ same.
    let all = count_by-cons (λ d. d.1.number == p) e es in
    let one : one_if (e.1.number == p) ≡ 1 = rw (eq-eqb e.1.number p same) refl in
    absurd (omega (arith, h, all, one))

pub apart-rest : (p : ℕ) (e : ℕ × TupleRef) (es : List (ℕ × TupleRef)) → times_at p (e ∷ es) ≡ 0 → times_at p es ≡ 0
apart-rest p e es h = let all = count_by-cons (λ d. d.1.number == p) e es in omega (arith, h, all)

-- a row where it comes first
pub times_at-first : (e : ℕ × TupleRef) (es : List (ℕ × TupleRef)) → times_at e.1.number (e ∷ es) ≡ 1 + times_at e.1.number es
times_at-first e es =
    let all = count_by-cons (λ d. d.1.number == e.1.number) e es in
    let one : one_if (e.1.number == e.1.number) ≡ 1 = rw (eq-eqb e.1.number e.1.number refl) refl in
    omega (arith, all, one)

-- a row less in front
pub times_at-less : (p : ℕ) (e : ℕ × TupleRef) (es : List (ℕ × TupleRef)) → times_at p es ≤ times_at p (e ∷ es)
times_at-less p e es = let all = count_by-cons (λ d. d.1.number == p) e es in omega (arith, all)

-- no row stands there twice
abbrev pub AreOnce : List (ℕ × TupleRef) → Type 0
AreOnce es = (p : ℕ) → times_at p es ≤ 1

pub AreOnce-rest : (e : ℕ × TupleRef) (es : List (ℕ × TupleRef)) → AreOnce (e ∷ es) → AreOnce es
AreOnce-rest e es once p = let less = times_at-less p e es in let most = once p in omega (arith, less, most)

pub AreOnce-first : (e : ℕ × TupleRef) (es : List (ℕ × TupleRef)) → AreOnce (e ∷ es) → times_at e.1.number es ≡ 0
AreOnce-first e es once = let first = times_at-first e es in let most = once e.1.number in omega (arith, first, most)

module _ (nodes : List RowNode) (p : ℕ) (n : RowNode) where
  -- a node elsewhere changes
  pub StandsBehind-set : (behind : NodeLink) (e : ℕ × TupleRef) → e.1.number ≢ p → StandsBehind nodes behind e → StandsBehind (set nodes p n) behind e
  StandsBehind-set behind e apart h =
      let same : row_node_at (set nodes p n) e.1.number ≡ row_node_at nodes e.1.number = get_or-set_other nodes p e.1.number n _ apart in
      record {
        inside = rw (length-set nodes p n) h.inside;
        hash = rw same h.hash;
        prev = rw same h.prev;
      }

  pub IsLinked-set : (behind l : NodeLink) (es : List (ℕ × TupleRef)) → times_at p es ≡ 0 → IsLinked nodes behind l es → IsLinked (set nodes p n) behind l es
  IsLinked-set behind l [] away h = h
  IsLinked-set behind l (e ∷ es) away h =
      let apart = apart-first p e es away in
      let same : row_node_at (set nodes p n) e.1.number ≡ row_node_at nodes e.1.number = get_or-set_other nodes p e.1.number n _ apart in
      (h.0, StandsBehind-set behind e apart h.1, subst (λ (m : RowNode). IsLinked (set nodes p n) l m.next es) (sym same) (IsLinked-set l (row_next_at nodes e.1.number) es (apart-rest p e es away) h.2))

-- where each node of a row stays
pub IsLinked-kept : (nodes now : List RowNode) → KeepsRows nodes now → length nodes ≤ 4294967294 → (behind l : NodeLink) (es : List (ℕ × TupleRef)) → IsOfChain behind → IsLinked nodes behind l es → IsLinked now behind l es
IsLinked-kept nodes now keeps few behind l [] of h = h
IsLinked-kept nodes now keeps few behind l (e ∷ es) of h =
    let used = StandsBehind-used nodes behind e of h.1 in
    let same = keeps.used e.1.number used in
    let inside = h.1.inside in
    let next_of = IsOfChain-leads l e.1.number h.0 (omega (arith, inside, few)) in (
      h.0,
      record {
        inside = used-inside now e.1.number (rw same used);
        hash = rw same h.1.hash;
        prev = rw same h.1.prev;
      },
      subst (λ (m : RowNode). IsLinked now l m.next es) (sym same) (IsLinked-kept nodes now keeps few l (row_next_at nodes e.1.number) es next_of h.2),
    )

-- from a link on there is one chain at most
pub IsLinked-unique : (nodes : List RowNode) (behind before l : NodeLink) (es ds : List (ℕ × TupleRef)) → IsLinked nodes behind l es → IsLinked nodes before l ds → es ≡ ds
IsLinked-unique nodes behind before l [] [] h k = refl
IsLinked-unique nodes behind before l [] (d ∷ ds) h k = absurd (let e : None ≡ Some d.1.number = sym h ∙ k.0 in cc)
IsLinked-unique nodes behind before l (e ∷ es) [] h k = absurd (let f : None ≡ Some e.1.number = sym k ∙ h.0 in cc)
IsLinked-unique nodes behind before l (e ∷ es) (d ∷ ds) h k =
    let both : Some e.1.number ≡ Some d.1.number = sym h.0 ∙ k.0 in
    let place : e.1.number ≡ d.1.number = cc in
    let hash : e.0 ≡ d.0 = sym h.1.hash ∙ ap (λ p. (row_node_at nodes p).hash) place ∙ k.1.hash in
    let same : e ≡ d = ap (λ p. (e.0, row_at p)) place ∙ ap (λ x. (x, d.1)) hash in
    let rest = IsLinked-unique nodes l l (row_next_at nodes e.1.number) es ds h.2 (rw (← place) at k.2) in
    ap (λ c. c ∷ es) same ∙ ap (λ c. d ∷ c) rest

-- a link that leads somewhere begins a chain there
pub IsLinked-first : (nodes : List RowNode) (behind l : NodeLink) (p : ℕ) (es : List (ℕ × TupleRef)) → leads_to l ≡ Some p → IsLinked nodes behind l es
    → (rest : List (ℕ × TupleRef)) × (es ≡ ((row_node_at nodes p).hash, row_at p) ∷ rest) × StandsBehind nodes behind ((row_node_at nodes p).hash, row_at p) × IsLinked nodes l (row_next_at nodes p) rest
IsLinked-first nodes behind l p [] is h = absurd (let e : None ≡ Some p = sym h ∙ is in cc)
IsLinked-first nodes behind l p (e ∷ rest) is h =
    let both : Some e.1.number ≡ Some p = sym h.0 ∙ is in
    let at : e.1.number ≡ p = cc in
    let hash : e.0 ≡ (row_node_at nodes p).hash = sym h.1.hash ∙ ap (λ q. (row_node_at nodes q).hash) at in
    let same : e ≡ ((row_node_at nodes p).hash, row_at p) = ap (λ q. (e.0, row_at q)) at ∙ ap (λ x. (x, row_at p)) hash in
    (rest, ap (λ d. d ∷ rest) same, subst (StandsBehind nodes behind) same h.1, rw at at h.2)

-- the node that a link leads to stands behind another one: that is so of its chain
pub IsLinked-trailed : (nodes : List RowNode) (behind prev l : NodeLink) (es : List (ℕ × TupleRef)) → AreOnce es → IsLinked nodes behind l es → IsLinked (trailing nodes l prev) prev l es
IsLinked-trailed nodes behind prev l [] once h = h
IsLinked-trailed nodes behind prev l (e ∷ es) once h =
    let q : ℕ = e.1.number in
    let n : RowNode = with_prev (row_node_at nodes q) prev in
    let there : row_node_at (set nodes q n) q ≡ n = get_or-set_same nodes q n _ h.1.inside in
    let stands : StandsBehind (set nodes q n) prev e =
    record {
      inside = rw (length-set nodes q n) h.1.inside;
      hash = rw there h.1.hash;
      prev = rw there refl;
    } in
    let rest : IsLinked (set nodes q n) l (row_next_at (set nodes q n) q) es = subst (λ (m : RowNode). IsLinked (set nodes q n) l m.next es) (sym there) (IsLinked-set nodes q n l (row_next_at nodes q) es (AreOnce-first e es once) h.2) in
    let same : trailing nodes l prev ≡ set nodes q n = ap (λ o. trailing_at nodes o prev) h.0 in
    subst (λ (ns : List RowNode). IsLinked ns prev l (e ∷ es)) (sym same) (h.0, stands, rest)

-- and of any chain that does not visit it
pub IsLinked-trailed_other : (nodes : List RowNode) (l prev : NodeLink) (behind k : NodeLink) (es : List (ℕ × TupleRef)) → ((q : ℕ) → leads_to l ≡ Some q → times_at q es ≡ 0) → IsLinked nodes behind k es → IsLinked (trailing nodes l prev) behind k es
IsLinked-trailed_other nodes l prev behind k es away h =
    elim (leads_to l) as (λ o. ((q : ℕ) → o ≡ Some q → times_at q es ≡ 0) → IsLinked (trailing_at nodes o prev) behind k es) [
      | None ↦ λ a. h
      | Some q ↦ λ a. (IsLinked-set nodes q (with_prev (row_node_at nodes q) prev) behind k es (a q refl) h)
    ] away

pub row_node_at-trailed : (nodes : List RowNode) (l prev : NodeLink) (p : ℕ) → leads_to l ≢ Some p → row_node_at (trailing nodes l prev) p ≡ row_node_at nodes p
row_node_at-trailed nodes l prev p apart =
    elim (leads_to l) as (λ o. o ≢ Some p → row_node_at (trailing_at nodes o prev) p ≡ row_node_at nodes p) [
      | None ↦ λ a. refl
      | Some q ↦ λ a. (get_or-set_other nodes q p (with_prev (row_node_at nodes q) prev) _ (λ e. a (ap (λ x. Some x) (sym e))))
    ] apart

pub length-trailed : (nodes : List RowNode) (l prev : NodeLink) → length (trailing nodes l prev) ≡ length nodes
length-trailed nodes l prev = elim (leads_to l) as (λ o. length (trailing_at nodes o prev) ≡ length nodes) [ None ↦ refl | Some q ↦ length-set nodes q (with_prev (row_node_at nodes q) prev) ]

pub length-led : (nodes : List RowNode) (o : Option ℕ) (next : NodeLink) → length (leading_at nodes o next) ≡ length nodes
length-led nodes None next = refl
length-led nodes (Some q) next = length-set nodes q (with_next (row_node_at nodes q) next)

-- a link that begins a chain does not lead to a row that is not in it
pub leads_apart : (nodes : List RowNode) (behind l : NodeLink) (es : List (ℕ × TupleRef)) (p : ℕ) → IsLinked nodes behind l es → times_at p es ≡ 0 → leads_to l ≢ Some p
leads_apart nodes behind l [] p h away = λ e. (let none : None ≡ Some p = sym h ∙ e in cc)
leads_apart nodes behind l (x ∷ es) p h away = λ e. (let same : Some x.1.number ≡ Some p = sym h.0 ∙ e in let at : x.1.number ≡ p = cc in apart-first p x es away at)

-- a node comes in front of a chain
module _ (nodes : List RowNode) (p : ℕ) (first : NodeLink) (es : List (ℕ × TupleRef)) (inside : p < length nodes) (few : p < 2 ^ 32 - 2) (once : AreOnce es) (away : times_at p es ≡ 0) (chain : IsRowChain nodes first es) where
  abbrev fronted : List RowNode
  fronted = set nodes p (front_node (row_node_at nodes p) first)

  fronted-chain : IsRowChain fronted first es
  fronted-chain = IsLinked-set nodes p (front_node (row_node_at nodes p) first) no_link first es away chain

  there : row_node_at (linked_before nodes p first) p ≡ front_node (row_node_at nodes p) first
  there = row_node_at-trailed fronted first (link_to p) p (leads_apart nodes no_link first es p chain away) ∙ get_or-set_same nodes p (front_node (row_node_at nodes p) first) _ inside

  pub IsRowChain-front : IsRowChain (linked_before nodes p first) (link_to p) (((row_node_at nodes p).hash, row_at p) ∷ es)
  IsRowChain-front =
      let longer = length-trailed fronted first (link_to p) in
      let long = length-set nodes p (front_node (row_node_at nodes p) first) in (
        leads_to-link p (omega arith),
        record {
          inside = omega (arith, longer, long, inside);
          hash = ap (λ (m : RowNode). m.hash) there;
          prev = ap (λ (m : RowNode). m.prev) there;
        },
        subst (λ (m : RowNode). IsLinked (linked_before nodes p first) (link_to p) m.next es) (sym there) (IsLinked-trailed fronted no_link (link_to p) first es once fronted-chain),
      )

-- the row of the last of them
abbrev pub last_number : List (ℕ × TupleRef) → Option ℕ
last_number [] = None
last_number (e ∷ []) = Some e.1.number
last_number (e ∷ f ∷ es) = last_number (f ∷ es)

pub times_at-last : (q : ℕ) (es : List (ℕ × TupleRef)) → last_number es ≡ Some q → 0 < times_at q es
times_at-last q [] last = absurd (cc)
times_at-last q (e ∷ []) last =
    let at : e.1.number ≡ q = cc in
    let one = times_at-first e [] in
    rw (← at) (omega (arith, one))
times_at-last q (e ∷ f ∷ es) last =
    let rest = times_at-last q (f ∷ es) last in
    let less = times_at-less q e (f ∷ es) in
    omega (arith, less, rest)

pub last_number-some : (e : ℕ × TupleRef) (es : List (ℕ × TupleRef)) → (q : ℕ) × (last_number (e ∷ es) ≡ Some q)
last_number-some e [] = (e.1.number, refl)
last_number-some e (f ∷ es) = last_number-some f es

-- behind which link a node stands in a chain
pub stands-behind : (nodes : List RowNode) (behind l : NodeLink) (before : List (ℕ × TupleRef)) (x : ℕ × TupleRef) (after : List (ℕ × TupleRef)) → IsLinked nodes behind l (before ++ x ∷ after)
    → (k : NodeLink) × StandsBehind nodes k x × ((before ≡ []) → k ≡ behind)
stands-behind nodes behind l [] x after h = (behind, h.1, λ e. refl)
stands-behind nodes behind l (e ∷ before) x after h =
    let rest = stands-behind nodes l (row_next_at nodes e.1.number) before x after h.2 in
    (rest.0, rest.1, λ none. absurd (cc))

-- the node before another one is the one that this is linked back to
pub prev-last : (nodes : List RowNode) (behind l : NodeLink) (e : ℕ × TupleRef) (before : List (ℕ × TupleRef)) (x : ℕ × TupleRef) (after : List (ℕ × TupleRef)) → IsLinked nodes behind l ((e ∷ before) ++ x ∷ after) → leads_to (row_node_at nodes x.1.number).prev ≡ last_number (e ∷ before)
prev-last nodes behind l e [] x after h = ap leads_to h.2.1.prev ∙ h.0
prev-last nodes behind l e (f ∷ before) x after h = prev-last nodes l (row_next_at nodes e.1.number) f before x after h.2

-- of parts of a list in which no row stands twice
module _ (before : List (ℕ × TupleRef)) (x : ℕ × TupleRef) (after : List (ℕ × TupleRef)) (once : AreOnce (before ++ x ∷ after)) where
  pub once-after : AreOnce after
  once-after p =
      let parts = count_by-append (λ d. d.1.number == p) before (x ∷ after) in
      let less = times_at-less p x after in
      let most = once p in
      omega (arith, parts, less, most)

  pub before-apart : (p : ℕ) → 0 < times_at p before → times_at p after ≡ 0
  before-apart p here =
      let parts = count_by-append (λ d. d.1.number == p) before (x ∷ after) in
      let less = times_at-less p x after in
      let most = once p in
      omega (arith, parts, less, most, here)

-- the nodes behind one
pub after-chain : (nodes : List RowNode) (behind l : NodeLink) (before : List (ℕ × TupleRef)) (x : ℕ × TupleRef) (after : List (ℕ × TupleRef)) → IsLinked nodes behind l (before ++ x ∷ after)
    → (k : NodeLink) × IsLinked nodes k (row_next_at nodes x.1.number) after
after-chain nodes behind l [] x after h = (l, h.2)
after-chain nodes behind l (e ∷ before) x after h = after-chain nodes l (row_next_at nodes e.1.number) before x after h.2

-- a node leaves a chain from behind another one: that one leads to the next, and the next is linked back to it
pub IsLinked-unlinked : (nodes : List RowNode) (behind l : NodeLink) (before : List (ℕ × TupleRef)) (x : ℕ × TupleRef) (after : List (ℕ × TupleRef)) (q : ℕ) → AreOnce (before ++ x ∷ after) → last_number before ≡ Some q → IsLinked nodes behind l (before ++ x ∷ after)
    → let n = row_node_at nodes x.1.number in IsLinked (trailing (leading_at nodes (Some q) n.next) n.next n.prev) behind l (before ++ after)
IsLinked-unlinked nodes behind l [] x after q once last h = absurd (cc)
IsLinked-unlinked nodes behind l (e ∷ []) x after q once last h =
    let at : e.1.number ≡ q = cc in
    let n : RowNode = row_node_at nodes x.1.number in
    let m : RowNode = with_next (row_node_at nodes e.1.number) n.next in
    let led : List RowNode = set nodes e.1.number m in
    let inside : e.1.number < length nodes = h.1.inside in
    let away : times_at e.1.number after ≡ 0 = before-apart (e ∷ []) x after once e.1.number (let one = times_at-first e [] in omega (arith, one)) in
    let tail : IsLinked led (row_next_at nodes e.1.number) n.next after = IsLinked-set nodes e.1.number m (row_next_at nodes e.1.number) n.next after away h.2.2 in
    let trailed : IsLinked (trailing led n.next n.prev) n.prev n.next after = IsLinked-trailed led (row_next_at nodes e.1.number) n.prev n.next after (once-after (e ∷ []) x after once) tail in
    let there : row_node_at (trailing led n.next n.prev) e.1.number ≡ m =
    row_node_at-trailed led n.next n.prev e.1.number (leads_apart led (row_next_at nodes e.1.number) n.next after e.1.number tail away) ∙ get_or-set_same nodes e.1.number m _ inside in
    let longer = length-trailed led n.next n.prev in
    let long = length-set nodes e.1.number m in
    let linked : IsLinked (trailing led n.next n.prev) behind l (e ∷ after) = (
      h.0,
      record {
        inside = omega (arith, longer, long, inside);
        hash = ap (λ (k : RowNode). k.hash) there ∙ h.1.hash;
        prev = ap (λ (k : RowNode). k.prev) there ∙ h.1.prev;
      },
      subst (λ (k : RowNode). IsLinked (trailing led n.next n.prev) l k.next after) (sym there) (subst (λ (k : NodeLink). IsLinked (trailing led n.next n.prev) k n.next after) h.2.1.prev trailed),
    ) in
    subst (λ p. IsLinked (trailing (leading_at nodes (Some p) n.next) n.next n.prev) behind l (e ∷ after)) at linked
IsLinked-unlinked nodes behind l (e ∷ f ∷ before) x after q once last h =
    let n : RowNode = row_node_at nodes x.1.number in
    let led : List RowNode = leading_at nodes (Some q) n.next in
    let once_rest : AreOnce ((f ∷ before) ++ x ∷ after) = AreOnce-rest e ((f ∷ before) ++ x ∷ after) once in
    let rest = IsLinked-unlinked nodes l (row_next_at nodes e.1.number) (f ∷ before) x after q once_rest last h.2 in
    let first : times_at e.1.number ((f ∷ before) ++ x ∷ after) ≡ 0 = AreOnce-first e ((f ∷ before) ++ x ∷ after) once in
    let parts = count_by-append (λ d. d.1.number == e.1.number) (f ∷ before) (x ∷ after) in
    let less = times_at-less e.1.number x after in
    let apart : e.1.number ≢ q = λ same. (let there = times_at-last q (f ∷ before) last in let gone : times_at e.1.number (f ∷ before) ≡ 0 = omega (arith, first, parts) in let none : times_at q (f ∷ before) ≡ 0 = subst (λ p. times_at p (f ∷ before) ≡ 0) same gone in absurd (omega (arith, there, none))) in
    let chain = after-chain nodes behind l (e ∷ f ∷ before) x after h in
    let there : row_node_at (trailing led n.next n.prev) e.1.number ≡ row_node_at nodes e.1.number =
    row_node_at-trailed led n.next n.prev e.1.number (leads_apart nodes chain.0 n.next after e.1.number chain.1 (omega (arith, first, parts, less)))
    ∙ get_or-set_other nodes q e.1.number (with_next (row_node_at nodes q) n.next) _ apart in
    let longer = length-trailed led n.next n.prev in
    let long = length-set nodes q (with_next (row_node_at nodes q) n.next) in
    let inside : e.1.number < length nodes = h.1.inside in (
      h.0,
      record {
        inside = omega (arith, longer, long, inside);
        hash = ap (λ (k : RowNode). k.hash) there ∙ h.1.hash;
        prev = ap (λ (k : RowNode). k.prev) there ∙ h.1.prev;
      },
      subst (λ (k : RowNode). IsLinked (trailing led n.next n.prev) l k.next ((f ∷ before) ++ after)) (sym there) rest,
    )

-- or from the front
pub IsLinked-unheaded : (nodes : List RowNode) (l : NodeLink) (x : ℕ × TupleRef) (after : List (ℕ × TupleRef)) → AreOnce (x ∷ after) → IsRowChain nodes l (x ∷ after)
    → let n = row_node_at nodes x.1.number in IsRowChain (trailing nodes n.next n.prev) n.next after
IsLinked-unheaded nodes l x after once h =
    let n : RowNode = row_node_at nodes x.1.number in
    let trailed = IsLinked-trailed nodes l n.prev n.next after (AreOnce-rest x after once) h.2 in
    subst (λ (k : NodeLink). IsLinked (trailing nodes n.next n.prev) k n.next after) h.1.prev trailed
