use Rattle.std.proofs.Common.{◌≡◌, ◌≢◌, ◌<◌, ◌^◌, ℕ, ◌∷◌, length, Some, sym, ap, subst, ◌∙◌, arith}
use Rattle.mm_index.specs.Bag.{with_hash}
use Rattle.lin_hash.proofs.Walks.{ends-step, walk-step, walk-smaller, with_hash-hit, with_hash-miss}
use Rattle.lin_hash.specs.declared.row_chain.RowChain.{RowChain}
use Rattle.lin_hash.specs.declared.row_node.RowNode.{RowNode}
use Rattle.lin_hash.specs.RowBlocks.{row_nodes_in}
use Rattle.lin_hash.specs.Nodes.{leads_to}
use Rattle.lin_hash.specs.RowNodes.{row_at, row_node_at}
use Rattle.lin_hash.specs.RowChains.{RowsEndWithin, row_entries_from, row_next_at, row_entry_at}
use Rattle.lin_hash.specs.RowRest.{row_chain_rest}
use Rattle.lin_hash.proofs.row_chain.RowChainIterator.next.Goals as goal

pub row_node_in-node-requires : goal.row_node_in-node-requires
row_node_in-node-requires c =
    let s : RowChain = c.args.self.now in
    let n : ℕ = length (row_nodes_in s.blocks.now) in
    let p : ℕ = c.in-Some.place in
    let is : leads_to c.loop-place.rest ≡ Some p = sym c.place.ensures ∙ c.in-Some.is in
    let ends = c.loop-place.invariant.ends in
    (ends-step (length (row_nodes_in s.blocks.now)) (row_next_at (row_nodes_in s.blocks.now)) n c.loop-place.rest p is ends).0

pub invariant_of-self : goal.invariant_of-self
invariant_of-self c =
    let s : RowChain = c.args.self.now in
    let n : ℕ = length (row_nodes_in s.blocks.now) in
    let p : ℕ = c.in-Some.place in
    let is : leads_to c.loop-place.rest ≡ Some p = sym c.place.ensures ∙ c.in-Some.is in
    let ends = c.loop-place.invariant.ends in
    record {
      few = subst (λ (d : RowChain). length (row_nodes_in d.blocks.now) < 2 ^ 32) (sym c.loop-place.invariant.same) s.few;
      ends =
          rw c.row_node_in-node.ensures (subst (λ (d : RowChain). RowsEndWithin (length (row_nodes_in d.blocks.now)) (row_nodes_in d.blocks.now) (row_next_at (row_nodes_in s.blocks.now) p)) (sym c.loop-place.invariant.same)
          (ends-step (length (row_nodes_in s.blocks.now)) (row_next_at (row_nodes_in s.blocks.now)) n c.loop-place.rest p is ends).1);
    }

pub returns-then-node-self-clause-steps : goal.returns-then-node-self-clause-steps
returns-then-node-self-clause-steps c =
    let s : RowChain = c.args.self.now in
    let n : ℕ = length (row_nodes_in s.blocks.now) in
    let p : ℕ = c.in-Some.place in
    let is : leads_to c.loop-place.rest ≡ Some p = sym c.place.ensures ∙ c.in-Some.is in
    let ends = c.loop-place.invariant.ends in
    let steps : row_chain_rest s ≡ row_at p ∷ with_hash s.hash (row_entries_from n (row_nodes_in s.blocks.now) (row_next_at (row_nodes_in s.blocks.now) p)) =
    sym c.loop-place.invariant.left ∙ ap (with_hash s.hash) (walk-step (length (row_nodes_in s.blocks.now)) (row_next_at (row_nodes_in s.blocks.now)) (row_entry_at (row_nodes_in s.blocks.now)) n c.loop-place.rest p is ends)
    ∙ with_hash-hit s.hash (row_node_at (row_nodes_in s.blocks.now) p).hash (row_at p) (row_entries_from n (row_nodes_in s.blocks.now) (row_next_at (row_nodes_in s.blocks.now) p)) (sym (ap (λ (m : RowNode). m.hash) c.row_node_in-node.ensures) ∙ c.if-node-self.true ∙ ap (λ (d : RowChain). d.hash) c.loop-place.invariant.same) in
    let same : with_hash s.hash (row_entries_from n (row_nodes_in s.blocks.now) (row_next_at (row_nodes_in s.blocks.now) p)) ≡ with_hash c.loop-place.self.hash (row_entries_from (length (row_nodes_in c.loop-place.self.blocks.now)) (row_nodes_in c.loop-place.self.blocks.now) (row_next_at (row_nodes_in s.blocks.now) p)) =
    ap (λ (d : RowChain). with_hash d.hash (row_entries_from (length (row_nodes_in d.blocks.now)) (row_nodes_in d.blocks.now) (row_next_at (row_nodes_in s.blocks.now) p))) (sym c.loop-place.invariant.same) in
    rw c.row_node_in-node.ensures (steps ∙ ap (λ rest. row_at p ∷ rest) same)

pub returns-then-node-self-clause-goes : goal.returns-then-node-self-clause-goes
returns-then-node-self-clause-goes c =
    let s : RowChain = c.args.self.now in
    let n : ℕ = length (row_nodes_in s.blocks.now) in
    let p : ℕ = c.in-Some.place in
    let is : leads_to c.loop-place.rest ≡ Some p = sym c.place.ensures ∙ c.in-Some.is in
    let ends = c.loop-place.invariant.ends in
    let steps : row_chain_rest s ≡ row_at p ∷ with_hash s.hash (row_entries_from n (row_nodes_in s.blocks.now) (row_next_at (row_nodes_in s.blocks.now) p)) =
    sym c.loop-place.invariant.left ∙ ap (with_hash s.hash) (walk-step (length (row_nodes_in s.blocks.now)) (row_next_at (row_nodes_in s.blocks.now)) (row_entry_at (row_nodes_in s.blocks.now)) n c.loop-place.rest p is ends)
    ∙ with_hash-hit s.hash (row_node_at (row_nodes_in s.blocks.now) p).hash (row_at p) (row_entries_from n (row_nodes_in s.blocks.now) (row_next_at (row_nodes_in s.blocks.now) p)) (sym (ap (λ (m : RowNode). m.hash) c.row_node_in-node.ensures) ∙ c.if-node-self.true ∙ ap (λ (d : RowChain). d.hash) c.loop-place.invariant.same) in
    let same : with_hash s.hash (row_entries_from n (row_nodes_in s.blocks.now) (row_next_at (row_nodes_in s.blocks.now) p)) ≡ with_hash c.loop-place.self.hash (row_entries_from (length (row_nodes_in c.loop-place.self.blocks.now)) (row_nodes_in c.loop-place.self.blocks.now) (row_next_at (row_nodes_in s.blocks.now) p)) =
    ap (λ (d : RowChain). with_hash d.hash (row_entries_from (length (row_nodes_in d.blocks.now)) (row_nodes_in d.blocks.now) (row_next_at (row_nodes_in s.blocks.now) p))) (sym c.loop-place.invariant.same) in
    let left = ap length steps in
    let left_same = ap length same in
    let step = c.row_node_in-node.ensures in
    record {
      on = λ finite. (tt, tt, rw step (omega (arith, left, left_same)));
      keeps = tt;
      rests = λ finite. tt;
    }

pub loop-place-smaller : goal.loop-place-smaller
loop-place-smaller c =
    let s : RowChain = c.args.self.now in
    let n : ℕ = length (row_nodes_in s.blocks.now) in
    let p : ℕ = c.in-Some.place in
    let is : leads_to c.loop-place.rest ≡ Some p = sym c.place.ensures ∙ c.in-Some.is in
    let ends = c.loop-place.invariant.ends in
    rw c.row_node_in-node.ensures (walk-smaller (length (row_nodes_in s.blocks.now)) (row_next_at (row_nodes_in s.blocks.now)) (row_entry_at (row_nodes_in s.blocks.now)) n c.loop-place.rest p is ends)

pub loop-place-preserved : goal.loop-place-preserved
loop-place-preserved c =
    let s : RowChain = c.args.self.now in
    let n : ℕ = length (row_nodes_in s.blocks.now) in
    let p : ℕ = c.in-Some.place in
    let is : leads_to c.loop-place.rest ≡ Some p = sym c.place.ensures ∙ c.in-Some.is in
    let ends = c.loop-place.invariant.ends in
    let apart : (row_node_at (row_nodes_in s.blocks.now) p).hash ≢ s.hash = λ e. c.if-node-self.false (ap (λ (m : RowNode). m.hash) c.row_node_in-node.ensures ∙ e ∙ sym (ap (λ (d : RowChain). d.hash) c.loop-place.invariant.same)) in
    record {
      same = c.loop-place.invariant.same;
      ends = rw c.row_node_in-node.ensures ((ends-step (length (row_nodes_in s.blocks.now)) (row_next_at (row_nodes_in s.blocks.now)) n c.loop-place.rest p is ends).1);
      left =
          rw c.row_node_in-node.ensures (sym (with_hash-miss s.hash (row_node_at (row_nodes_in s.blocks.now) p).hash (row_at p) (row_entries_from n (row_nodes_in s.blocks.now) (row_next_at (row_nodes_in s.blocks.now) p)) apart)
          ∙ sym (ap (with_hash s.hash) (walk-step (length (row_nodes_in s.blocks.now)) (row_next_at (row_nodes_in s.blocks.now)) (row_entry_at (row_nodes_in s.blocks.now)) n c.loop-place.rest p is ends)) ∙ c.loop-place.invariant.left);
    }
