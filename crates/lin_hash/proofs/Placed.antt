-- The nodes by their places.
use Rattle.std.proofs.Common.{◌≡◌, ℕ, zero, suc, ◌+◌, ◌<◌, ◌≤◌, Bool, cond, ◌==◌, List, [], ◌∷◌, ◌++◌, length, get_or, set, map, refl, sym, ap, ◌∙◌, arith, inl, inr}
use Rattle.std.specs.List.{count_by}
use Rattle.std.proofs.lemmas.Bool.Decides.{eqb_tells}
use Rattle.lin_hash.specs.declared.node.NodeLink.{NodeLink}
use Rattle.lin_hash.specs.declared.node.Node.{Node}
use Rattle.lin_hash.specs.Nodes.{node_at, leading_to, entry_of, entries_of}
use Rattle.lin_hash.specs.Chains.{Placed, place_of, entry_in, placed_from}
use Rattle.lin_hash.proofs.Moves.{count_by-cons}

-- 1 where a test passes
abbrev pub one_if : Bool → ℕ
one_if b = cond b 1 0

-- how often a place stands in a list
abbrev pub times_at : ℕ → List Placed → ℕ
times_at p es = count_by (λ e. place_of e == p) es

-- what a node has, where it stands at a place
abbrev pub placed : Node → ℕ → Placed
placed n k = (n.hash, (n.reference, k))

pub count_by-placed : (test : Placed → Bool) (k : ℕ) (n : Node) (ns : List Node) → count_by test (placed_from k (n ∷ ns)) ≡ one_if (test (placed n k)) + count_by test (placed_from (k + 1) ns)
count_by-placed test k n ns = count_by-cons test (placed n k) (placed_from (k + 1) ns)

-- one node changes
pub count_by-placed_set : (test : Placed → Bool) (k : ℕ) (ns : List Node) (i : ℕ) (n : Node) (j : ℕ) → j ≡ k + i → i < length ns → count_by test (placed_from k (set ns i n)) + one_if (test (placed (node_at ns i) j)) ≡ count_by test (placed_from k ns) + one_if (test (placed n j))
count_by-placed_set test k [] i n j e h = absurd (omega arith)
count_by-placed_set test k (x ∷ ns) zero n j e h =
    let same : j ≡ k = omega arith in
    let new = count_by-placed test k n ns in
    let old = count_by-placed test k x ns in
    rw same (omega (arith, new, old))
count_by-placed_set test k (x ∷ ns) (suc i) n j e h =
    let rest = count_by-placed_set test (k + 1) ns i n j (omega arith) (omega arith) in
    let new = count_by-placed test k x (set ns i n) in
    let old = count_by-placed test k x ns in
    omega (arith, new, old, rest)

-- only a link changes
pub placed-relinked : (k : ℕ) (ns : List Node) (i : ℕ) (l : NodeLink) → placed_from k (set ns i (leading_to (node_at ns i) l)) ≡ placed_from k ns
placed-relinked k [] i l = refl
placed-relinked k (x ∷ ns) zero l = refl
placed-relinked k (x ∷ ns) (suc i) l = ap (λ r. placed x k ∷ r) (placed-relinked (k + 1) ns i l)

-- the entries by place are the entries
pub entries-placed : (k : ℕ) (ns : List Node) → map entry_in (placed_from k ns) ≡ entries_of ns
entries-placed k [] = refl
entries-placed k (x ∷ ns) = ap (λ r. entry_of x ∷ r) (entries-placed (k + 1) ns)

pub entries-relinked : (ns : List Node) (i : ℕ) (l : NodeLink) → entries_of (set ns i (leading_to (node_at ns i) l)) ≡ entries_of ns
entries-relinked ns i l =
    sym (entries-placed 0 (set ns i (leading_to (node_at ns i) l))) ∙ ap (map entry_in) (placed-relinked 0 ns i l) ∙ entries-placed 0 ns

-- a node more at the end
pub placed-push : (k : ℕ) (ns : List Node) (n : Node) (j : ℕ) → j ≡ k + length ns → placed_from k (ns ++ n ∷ []) ≡ placed_from k ns ++ placed n j ∷ []
placed-push k [] n j e = let same : k ≡ j = omega arith in ap (λ i. placed n i ∷ []) same
placed-push k (x ∷ ns) n j e = ap (λ r. placed x k ∷ r) (placed-push (k + 1) ns n j (omega arith))

-- the node at a place stands there
pub placed-there : (k : ℕ) (ns : List Node) (i : ℕ) (d : Placed) (j : ℕ) → j ≡ k + i → i < length ns → get_or (placed_from k ns) i d ≡ placed (node_at ns i) j
placed-there k [] i d j e h = absurd (omega arith)
placed-there k (x ∷ ns) zero d j e h = let same : k ≡ j = omega arith in ap (placed x) same
placed-there k (x ∷ ns) (suc i) d j e h = placed-there (k + 1) ns i d j (omega arith) (omega arith)

pub length-placed : (k : ℕ) (ns : List Node) → length (placed_from k ns) ≡ length ns
length-placed k [] = refl
length-placed k (x ∷ ns) = ap suc (length-placed (k + 1) ns)

-- no place stands there twice
pub times_at-below : (k : ℕ) (ns : List Node) (p : ℕ) → p < k → times_at p (placed_from k ns) ≡ 0
times_at-below k [] p h = refl
times_at-below k (x ∷ ns) p h =
    let rest = times_at-below (k + 1) ns p (omega arith) in
    let all = count_by-placed (λ e. place_of e == p) k x ns in
    let apart : one_if (k == p) ≡ 0 = elim (eqb_tells k p) [ inl same ↦ absurd (let e = same.1 in omega arith) | inr other ↦ rw other.0 refl ] in
    omega (arith, all, apart, rest)

pub times_at-once : (k : ℕ) (ns : List Node) (p : ℕ) → times_at p (placed_from k ns) ≤ 1
times_at-once k [] p = omega arith
times_at-once k (x ∷ ns) p =
    let all = count_by-placed (λ e. place_of e == p) k x ns in
    let rest = times_at-once (k + 1) ns p in
    elim (eqb_tells k p) [
      | inl same ↦
          let none = times_at-below (k + 1) ns p (let e = same.1 in omega arith) in
          let one : one_if (k == p) ≡ 1 = rw same.0 refl in
          omega (arith, all, none, one)
      | inr other ↦
          let none : one_if (k == p) ≡ 0 = rw other.0 refl in
          omega (arith, all, rest, none)
    ]
