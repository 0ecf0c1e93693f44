use Rattle.std.proofs.Common.{◌≡◌, ◌≢◌, ℕ, ◌∷◌, length, Some, sym, ap, subst, ◌∙◌, arith}
use Rattle.mm_index.specs.Bag.{with_hash}
use Rattle.lin_hash.specs.declared.chain.Chain.{Chain}
use Rattle.lin_hash.specs.declared.node.Node.{Node}
use Rattle.lin_hash.specs.Blocks.{nodes_in}
use Rattle.lin_hash.specs.Nodes.{leads_to, node_at, next_at, entries_from, entry_at}
use Rattle.lin_hash.specs.Rest.{chain_rest}
use Rattle.lin_hash.specs.Walks.{EndsWithin}
use Rattle.lin_hash.proofs.Walks.{with_hash-hit, with_hash-miss, ends-step, walk-step, walk-smaller}
use Rattle.lin_hash.proofs.chain.ChainIterator.next.Goals as goal

pub node_in-node-requires : goal.node_in-node-requires
node_in-node-requires c =
    let s : Chain = c.args.self.now in
    let n : ℕ = length (nodes_in s.blocks.now) in
    let p : ℕ = c.in-Some.place in
    let is : leads_to c.loop-place.rest ≡ Some p = sym c.place.ensures ∙ c.in-Some.is in
    let ends = c.loop-place.invariant.ends in
    (ends-step (length (nodes_in s.blocks.now)) (next_at (nodes_in s.blocks.now)) n c.loop-place.rest p is ends).0

pub invariant_of-self : goal.invariant_of-self
invariant_of-self c =
    let s : Chain = c.args.self.now in
    let n : ℕ = length (nodes_in s.blocks.now) in
    let p : ℕ = c.in-Some.place in
    let is : leads_to c.loop-place.rest ≡ Some p = sym c.place.ensures ∙ c.in-Some.is in
    let ends = c.loop-place.invariant.ends in
    record {
      ends =
          rw c.node_in-node.ensures (subst (λ (d : Chain). EndsWithin (length (nodes_in d.blocks.now)) (nodes_in d.blocks.now) (next_at (nodes_in s.blocks.now) p)) (sym c.loop-place.invariant.same)
          (ends-step (length (nodes_in s.blocks.now)) (next_at (nodes_in s.blocks.now)) n c.loop-place.rest p is ends).1);
    }

pub returns-then-node-self-clause-steps : goal.returns-then-node-self-clause-steps
returns-then-node-self-clause-steps c =
    let s : Chain = c.args.self.now in
    let n : ℕ = length (nodes_in s.blocks.now) in
    let p : ℕ = c.in-Some.place in
    let is : leads_to c.loop-place.rest ≡ Some p = sym c.place.ensures ∙ c.in-Some.is in
    let ends = c.loop-place.invariant.ends in
    let steps : chain_rest s ≡ (node_at (nodes_in s.blocks.now) p).reference ∷ with_hash s.hash (entries_from n (nodes_in s.blocks.now) (next_at (nodes_in s.blocks.now) p)) =
    sym c.loop-place.invariant.left ∙ ap (with_hash s.hash) (walk-step (length (nodes_in s.blocks.now)) (next_at (nodes_in s.blocks.now)) (entry_at (nodes_in s.blocks.now)) n c.loop-place.rest p is ends)
    ∙ with_hash-hit s.hash (node_at (nodes_in s.blocks.now) p).hash (node_at (nodes_in s.blocks.now) p).reference (entries_from n (nodes_in s.blocks.now) (next_at (nodes_in s.blocks.now) p)) (sym (ap (λ (m : Node). m.hash) c.node_in-node.ensures) ∙ c.if-node-self.true ∙ ap (λ (d : Chain). d.hash) c.loop-place.invariant.same) in
    let same : with_hash s.hash (entries_from n (nodes_in s.blocks.now) (next_at (nodes_in s.blocks.now) p)) ≡ with_hash c.loop-place.self.hash (entries_from (length (nodes_in c.loop-place.self.blocks.now)) (nodes_in c.loop-place.self.blocks.now) (next_at (nodes_in s.blocks.now) p)) =
    ap (λ (d : Chain). with_hash d.hash (entries_from (length (nodes_in d.blocks.now)) (nodes_in d.blocks.now) (next_at (nodes_in s.blocks.now) p))) (sym c.loop-place.invariant.same) in
    rw c.node_in-node.ensures (steps ∙ ap (λ rest. (node_at (nodes_in s.blocks.now) p).reference ∷ rest) same)

pub returns-then-node-self-clause-goes : goal.returns-then-node-self-clause-goes
returns-then-node-self-clause-goes c =
    let s : Chain = c.args.self.now in
    let n : ℕ = length (nodes_in s.blocks.now) in
    let p : ℕ = c.in-Some.place in
    let is : leads_to c.loop-place.rest ≡ Some p = sym c.place.ensures ∙ c.in-Some.is in
    let ends = c.loop-place.invariant.ends in
    let steps : chain_rest s ≡ (node_at (nodes_in s.blocks.now) p).reference ∷ with_hash s.hash (entries_from n (nodes_in s.blocks.now) (next_at (nodes_in s.blocks.now) p)) =
    sym c.loop-place.invariant.left ∙ ap (with_hash s.hash) (walk-step (length (nodes_in s.blocks.now)) (next_at (nodes_in s.blocks.now)) (entry_at (nodes_in s.blocks.now)) n c.loop-place.rest p is ends)
    ∙ with_hash-hit s.hash (node_at (nodes_in s.blocks.now) p).hash (node_at (nodes_in s.blocks.now) p).reference (entries_from n (nodes_in s.blocks.now) (next_at (nodes_in s.blocks.now) p)) (sym (ap (λ (m : Node). m.hash) c.node_in-node.ensures) ∙ c.if-node-self.true ∙ ap (λ (d : Chain). d.hash) c.loop-place.invariant.same) in
    let same : with_hash s.hash (entries_from n (nodes_in s.blocks.now) (next_at (nodes_in s.blocks.now) p)) ≡ with_hash c.loop-place.self.hash (entries_from (length (nodes_in c.loop-place.self.blocks.now)) (nodes_in c.loop-place.self.blocks.now) (next_at (nodes_in s.blocks.now) p)) =
    ap (λ (d : Chain). with_hash d.hash (entries_from (length (nodes_in d.blocks.now)) (nodes_in d.blocks.now) (next_at (nodes_in s.blocks.now) p))) (sym c.loop-place.invariant.same) in
    let left = ap length steps in
    let left_same = ap length same in
    let step = c.node_in-node.ensures in
    record {
      on = λ finite. (tt, tt, rw step (omega (arith, left, left_same)));
      keeps = tt;
      rests = λ finite. tt;
    }

pub loop-place-smaller : goal.loop-place-smaller
loop-place-smaller c =
    let s : Chain = c.args.self.now in
    let n : ℕ = length (nodes_in s.blocks.now) in
    let p : ℕ = c.in-Some.place in
    let is : leads_to c.loop-place.rest ≡ Some p = sym c.place.ensures ∙ c.in-Some.is in
    let ends = c.loop-place.invariant.ends in
    rw c.node_in-node.ensures (walk-smaller (length (nodes_in s.blocks.now)) (next_at (nodes_in s.blocks.now)) (entry_at (nodes_in s.blocks.now)) n c.loop-place.rest p is ends)

pub loop-place-preserved : goal.loop-place-preserved
loop-place-preserved c =
    let s : Chain = c.args.self.now in
    let n : ℕ = length (nodes_in s.blocks.now) in
    let p : ℕ = c.in-Some.place in
    let is : leads_to c.loop-place.rest ≡ Some p = sym c.place.ensures ∙ c.in-Some.is in
    let ends = c.loop-place.invariant.ends in
    let apart : (node_at (nodes_in s.blocks.now) p).hash ≢ s.hash = λ e. c.if-node-self.false (ap (λ (m : Node). m.hash) c.node_in-node.ensures ∙ e ∙ sym (ap (λ (d : Chain). d.hash) c.loop-place.invariant.same)) in
    record {
      same = c.loop-place.invariant.same;
      ends = rw c.node_in-node.ensures ((ends-step (length (nodes_in s.blocks.now)) (next_at (nodes_in s.blocks.now)) n c.loop-place.rest p is ends).1);
      left =
          rw c.node_in-node.ensures (sym (with_hash-miss s.hash (node_at (nodes_in s.blocks.now) p).hash (node_at (nodes_in s.blocks.now) p).reference (entries_from n (nodes_in s.blocks.now) (next_at (nodes_in s.blocks.now) p)) apart)
          ∙ sym (ap (with_hash s.hash) (walk-step (length (nodes_in s.blocks.now)) (next_at (nodes_in s.blocks.now)) (entry_at (nodes_in s.blocks.now)) n c.loop-place.rest p is ends)) ∙ c.loop-place.invariant.left);
    }
