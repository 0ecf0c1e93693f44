-- Chains, where a node changes that they do not visit, where a node comes in front, and where one leaves.
use Rattle.std.proofs.Common.{◌≡◌, ◌≢◌, ℕ, ◌+◌, ◌-◌, ◌^◌, ◌<◌, ◌≤◌, ◌==◌, List, [], ◌∷◌, ◌++◌, length, set, None, Some, refl, sym, ap, ◌∙◌, arith, inl, inr, subst}
use Rattle.std.proofs.lemmas.Bool.{ne_eqb, eq-eqb}
use Rattle.std.proofs.lemmas.Bool.Decides.{eqb_tells}
use Rattle.std.proofs.lemmas.List.{length-set, length-append, get_or-set_same, get_or-set_other, get_or_append_left}
use Rattle.lin_hash.specs.declared.node.NodeLink.{NodeLink}
use Rattle.lin_hash.specs.declared.node.Node.{Node}
use Rattle.lin_hash.specs.Nodes.{leads_to, link_to, node_at, next_at, leading_to}
use Rattle.lin_hash.specs.Chains.{Placed, place_of, placed_at, Stands, IsChain, last_place}
use Rattle.lin_hash.proofs.Moves.{count_by-cons}
use Rattle.lin_hash.proofs.Placed.{one_if, times_at}

-- where a link to a place leads
pub leads_to-link : (p : ℕ) → p < 2 ^ 32 - 1 → leads_to (link_to p) ≡ Some p
leads_to-link p h = rw (ne_eqb p 4294967295 (λ e. absurd (omega arith))) refl

-- the first of a list is elsewhere, and so are the others
apart-first : (p : ℕ) (e : Placed) (es : List Placed) → times_at p (e ∷ es) ≡ 0 → place_of e ≢ p
apart-first p e es h = λ same.
    let all = count_by-cons (λ d. place_of d == p) e es in
    let one : one_if (place_of e == p) ≡ 1 = rw (eq-eqb (place_of e) p same) refl in
    absurd (omega (arith, h, all, one))

apart-rest : (p : ℕ) (e : Placed) (es : List Placed) → times_at p (e ∷ es) ≡ 0 → times_at p es ≡ 0
apart-rest p e es h = let all = count_by-cons (λ d. place_of d == p) e es in omega (arith, h, all)

-- a node where its place comes first
pub times_at-first : (e : Placed) (es : List Placed) → times_at (place_of e) (e ∷ es) ≡ 1 + times_at (place_of e) es
times_at-first e es =
    let all = count_by-cons (λ d. place_of d == place_of e) e es in
    let one : one_if (place_of e == place_of e) ≡ 1 = rw (eq-eqb (place_of e) (place_of e) refl) refl in
    omega (arith, all, one)

module _ (nodes : List Node) (p : ℕ) (n : Node) where
  -- a node elsewhere changes
  pub Stands-set : (e : Placed) → place_of e ≢ p → Stands nodes e → Stands (set nodes p n) e
  Stands-set e apart h =
      let same : node_at (set nodes p n) (place_of e) ≡ node_at nodes (place_of e) = get_or-set_other nodes p (place_of e) n _ apart in
      record {
        inside = rw (length-set nodes p n) h.inside;
        is = rw same h.is;
      }

  pub IsChain-set : (l : NodeLink) (es : List Placed) → times_at p es ≡ 0 → IsChain nodes l es → IsChain (set nodes p n) l es
  IsChain-set l [] away h = h
  IsChain-set l (e ∷ es) away h =
      let apart = apart-first p e es away in
      let same : node_at (set nodes p n) (place_of e) ≡ node_at nodes (place_of e) = get_or-set_other nodes p (place_of e) n _ apart in
      (h.0, Stands-set e apart h.1, subst (λ (m : Node). IsChain (set nodes p n) m.next es) (sym same) (IsChain-set (next_at nodes (place_of e)) es (apart-rest p e es away) h.2))

-- only the link of a node changes
pub Stands-relinked : (nodes : List Node) (p : ℕ) (l : NodeLink) (e : Placed) → Stands nodes e → Stands (set nodes p (leading_to (node_at nodes p) l)) e
Stands-relinked nodes p l e h =
    elim (eqb_tells (place_of e) p) [
      | inl same ↦
          let at : place_of e ≡ p = same.1 in
          let inside : p < length nodes = (let i = h.inside in omega arith) in
          let now : node_at (set nodes p (leading_to (node_at nodes p) l)) (place_of e) ≡ leading_to (node_at nodes p) l = rw at (get_or-set_same nodes p _ _ inside) in
          let was : node_at nodes (place_of e) ≡ node_at nodes p = rw at refl in
          record {
            inside = rw (length-set nodes p (leading_to (node_at nodes p) l)) h.inside;
            is = rw now (rw was at h.is);
          }
      | inr other ↦ Stands-set nodes p (leading_to (node_at nodes p) l) e other.1 h
    ]

-- more nodes at the end
pub IsChain-grown : (nodes ns : List Node) (l : NodeLink) (es : List Placed) → IsChain nodes l es → IsChain (nodes ++ ns) l es
IsChain-grown nodes ns l [] h = h
IsChain-grown nodes ns l (e ∷ es) h =
    let inside : place_of e < length nodes = h.1.inside in
    let same : node_at (nodes ++ ns) (place_of e) ≡ node_at nodes (place_of e) = get_or_append_left nodes ns _ (place_of e) inside in
    let longer = length-append nodes ns in (
      h.0,
      record {
        inside = omega (arith, longer);
        is = rw same h.1.is;
      },
      subst (λ (m : Node). IsChain (nodes ++ ns) m.next es) (sym same) (IsChain-grown nodes ns (next_at nodes (place_of e)) es h.2),
    )

-- a node less at the end, which the chain does not visit
pub IsChain-front : (nodes : List Node) (n : Node) (l : NodeLink) (es : List Placed) → times_at (length nodes) es ≡ 0 → IsChain (nodes ++ n ∷ []) l es → IsChain nodes l es
IsChain-front nodes n l [] away h = h
IsChain-front nodes n l (e ∷ es) away h =
    let apart = apart-first (length nodes) e es away in
    let longer = length-append nodes (n ∷ []) in
    let inside : place_of e < length nodes = (let i = h.1.inside in omega (arith, i, longer, apart)) in
    let same : node_at (nodes ++ n ∷ []) (place_of e) ≡ node_at nodes (place_of e) = get_or_append_left nodes (n ∷ []) _ (place_of e) inside in (
      h.0,
      record {
        inside = inside;
        is = rw same at h.1.is;
      },
      IsChain-front nodes n (next_at nodes (place_of e)) es (apart-rest (length nodes) e es away) (subst (λ (m : Node). IsChain (nodes ++ n ∷ []) m.next es) same h.2),
    )

-- from a link on there is one chain at most
pub IsChain-unique : (nodes : List Node) (l : NodeLink) (es ds : List Placed) → IsChain nodes l es → IsChain nodes l ds → es ≡ ds
IsChain-unique nodes l [] [] h k = refl
IsChain-unique nodes l [] (d ∷ ds) h k = absurd (let e : None ≡ Some (place_of d) = sym h ∙ k.0 in cc)
IsChain-unique nodes l (e ∷ es) [] h k = absurd (let f : None ≡ Some (place_of e) = sym k ∙ h.0 in cc)
IsChain-unique nodes l (e ∷ es) (d ∷ ds) h k =
    let both : Some (place_of e) ≡ Some (place_of d) = sym h.0 ∙ k.0 in
    let place : place_of e ≡ place_of d = cc in
    let same : e ≡ d = sym h.1.is ∙ ap (placed_at nodes) place ∙ k.1.is in
    let rest = IsChain-unique nodes (next_at nodes (place_of e)) es ds h.2 (rw (← place) at k.2) in
    ap (λ c. c ∷ es) same ∙ ap (λ c. d ∷ c) rest

-- the last of a list stands in it
pub times_at-last : (q : ℕ) (es : List Placed) → last_place es ≡ Some q → 0 < times_at q es
times_at-last q [] last = absurd (cc)
times_at-last q (e ∷ []) last =
    let at : place_of e ≡ q = cc in
    let one = times_at-first e [] in
    rw (← at) (omega (arith, one))
times_at-last q (e ∷ f ∷ es) last =
    let rest = times_at-last q (f ∷ es) last in
    let all = count_by-cons (λ d. place_of d == q) e (f ∷ es) in
    omega (arith, all, rest)

-- the node behind the last of `before` is taken out: that one leads to the node after it
pub IsChain-unlinked : (nodes : List Node) (l : NodeLink) (before : List Placed) (q : ℕ) (x : Placed) (after : List Placed) → last_place before ≡ Some q → times_at q after ≡ 0 → times_at q before ≤ 1 → IsChain nodes l (before ++ x ∷ after) → IsChain (set nodes q (leading_to (node_at nodes q) (next_at nodes (place_of x)))) l (before ++ after)
IsChain-unlinked nodes l [] q x after last away once h = absurd (cc)
IsChain-unlinked nodes l (e ∷ []) q x after last away once h =
    let at : place_of e ≡ q = cc in
    let inside : q < length nodes = (let i = h.1.inside in omega arith) in
    let n : Node = leading_to (node_at nodes q) (next_at nodes (place_of x)) in
    let now : next_at (set nodes q n) (place_of e) ≡ next_at nodes (place_of x) = rw at (ap (λ m. m.next) (get_or-set_same nodes q n _ inside)) in
    (h.0, Stands-relinked nodes q (next_at nodes (place_of x)) e h.1, subst (λ (k : NodeLink). IsChain (set nodes q n) k after) (sym now) (IsChain-set nodes q n (next_at nodes (place_of x)) after away h.2.2))
IsChain-unlinked nodes l (e ∷ f ∷ before) q x after last away once h =
    let all = count_by-cons (λ d. place_of d == q) e (f ∷ before) in
    let n : Node = leading_to (node_at nodes q) (next_at nodes (place_of x)) in
    let last_one = times_at-last q (f ∷ before) last in
    let apart : place_of e ≢ q = λ same.
    (let one : one_if (place_of e == q) ≡ 1 = rw (eq-eqb (place_of e) q same) refl in absurd (omega (arith, all, once, last_one, one))) in
    let now : node_at (set nodes q n) (place_of e) ≡ node_at nodes (place_of e) = get_or-set_other nodes q (place_of e) n _ apart in
    (h.0, Stands-set nodes q n e apart h.1, subst (λ (m : Node). IsChain (set nodes q n) m.next ((f ∷ before) ++ after)) (sym now) (IsChain-unlinked nodes (next_at nodes (place_of e)) (f ∷ before) q x after last away (omega (arith, all, once)) h.2))
