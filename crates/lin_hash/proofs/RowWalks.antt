-- Walks along a chain of rows, of as many nodes at most as there are.
use Rattle.std.proofs.Common.{◌≡◌, ℕ, zero, suc, ◌≤◌, List, [], ◌∷◌, length, refl, ap, ◌∙◌, arith}
use Rattle.part_raw.specs.declared.tuple_ref.TupleRef.{TupleRef}
use Rattle.lin_hash.specs.declared.node.NodeLink.{NodeLink}
use Rattle.lin_hash.specs.declared.row_node.RowNode.{RowNode}
use Rattle.lin_hash.specs.Nodes.{list_at}
use Rattle.lin_hash.specs.RowChains.{IsLinked, RowsEndWithin, row_entries_from, row_entry_at, row_next_at}

-- where there are no more nodes on a chain than that
pub RowsEndWithin-from_chain : (n : ℕ) (nodes : List RowNode) (behind l : NodeLink) (es : List (ℕ × TupleRef)) → IsLinked nodes behind l es → length es ≤ n → RowsEndWithin n nodes l
RowsEndWithin-from_chain zero nodes behind l [] h short = rw h tt
RowsEndWithin-from_chain zero nodes behind l (e ∷ es) h short = absurd (omega arith)
RowsEndWithin-from_chain (suc n) nodes behind l [] h short = rw h tt
RowsEndWithin-from_chain (suc n) nodes behind l (e ∷ es) h short =
    rw h.0 (h.1.inside, RowsEndWithin-from_chain n nodes l (row_next_at nodes e.1.number) es h.2 (omega arith))

pub row_entries_from-chain : (n : ℕ) (nodes : List RowNode) (behind l : NodeLink) (es : List (ℕ × TupleRef)) → IsLinked nodes behind l es → length es ≤ n → row_entries_from n nodes l ≡ es
row_entries_from-chain zero nodes behind l [] h short = refl
row_entries_from-chain zero nodes behind l (e ∷ es) h short = absurd (omega arith)
row_entries_from-chain (suc n) nodes behind l [] h short = ap (list_at (λ p. row_entry_at nodes p ∷ row_entries_from n nodes (row_next_at nodes p))) h
row_entries_from-chain (suc n) nodes behind l (e ∷ es) h short =
    let rest = row_entries_from-chain n nodes l (row_next_at nodes e.1.number) es h.2 (omega arith) in
    let own : row_entry_at nodes e.1.number ≡ e = ap (λ hash. (hash, e.1)) h.1.hash in
    ap (list_at (λ p. row_entry_at nodes p ∷ row_entries_from n nodes (row_next_at nodes p))) h.0
    ∙ ap (λ x. x ∷ row_entries_from n nodes (row_next_at nodes e.1.number)) own ∙ ap (λ r. e ∷ r) rest
