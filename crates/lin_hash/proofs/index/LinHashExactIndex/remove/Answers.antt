use Rattle.std.proofs.Common.{◌-◌, ◌*◌, ap, arith, inl, inr}
use Rattle.std.proofs.lemmas.Bool.{cases_lt}
use Rattle.lin_hash.specs.Held.{table_buckets}
use Rattle.mm_index.proofs.Bags.{length-same_bag}
use Rattle.lin_hash.proofs.index.LinHashExactIndex.remove.Goals as goal

pub invariant_of-self : goal.invariant_of-self
invariant_of-self c =
    let n = length-same_bag _ _ c.remove_entry.ensures.entries in
    let counted = c.self.invariant.counted in
    let dense = c.self.invariant.dense in
    let few = c.self.invariant.few in
    record {
      counted = omega (arith, n, counted);
      dense = elim (cases_lt (2 * (c.self.inside.len - 1)) (table_buckets c.self.inside.table)) [
        | inl few ↦ elim (cases_lt 4 (table_buckets c.self.inside.table)) [
          | inl above ↦ let folded = c.remove_entry.ensures.folded few above in omega arith
          | inr upto ↦ let same = c.remove_entry.ensures.first upto in omega arith
        ]
        | inr many ↦ let same = c.remove_entry.ensures.unfolded many in omega arith
      ];
      housed =
          let housed = c.self.invariant.housed in
          let heads = c.remove_entry.ensures.heads in
          omega (arith, housed, heads);
      noded =
          let noded = c.self.invariant.noded in
          let nodes = c.remove_entry.ensures.nodes in
          omega (arith, n, counted, noded, nodes);
      few = omega (arith, n, counted, few);
    }

pub returns-clause-folded : goal.returns-clause-folded
returns-clause-folded c = λ h k.
    let n = length-same_bag _ _ c.remove_entry.ensures.entries in
    let b = ap (λ t. t.buckets) c.self.view_is in
    let counted = c.self.invariant.counted in
    let folded = c.remove_entry.ensures.folded (omega arith) (omega arith) in
    omega arith

pub returns-clause-unfolded : goal.returns-clause-unfolded
returns-clause-unfolded c = λ h.
    let n = length-same_bag _ _ c.remove_entry.ensures.entries in
    let b = ap (λ t. t.buckets) c.self.view_is in
    let counted = c.self.invariant.counted in
    let unfolded = c.remove_entry.ensures.unfolded (omega arith) in
    omega arith

pub returns-clause-room : goal.returns-clause-room
returns-clause-room c =
    let n = length-same_bag _ _ c.remove_entry.ensures.entries in
    let room = ap (λ h. h.room) c.self.view_is in
    let counted = c.self.invariant.counted in
    let housed = c.self.invariant.housed in
    let heads = c.remove_entry.ensures.heads in
    omega (arith, n, room, counted, housed, heads)
