use Rattle.std.proofs.Common.{◌+◌, ◌*◌, ap, arith, inl, inr}
use Rattle.std.proofs.lemmas.Bool.{cases_lt}
use Rattle.lin_hash.specs.Held.{table_buckets}
use Rattle.mm_index.proofs.Bags.{length-same_bag}
use Rattle.lin_hash.proofs.index.LinHashExactIndex.insert.Goals as goal

pub invariant_of-self : goal.invariant_of-self
invariant_of-self c =
    let n = length-same_bag _ _ c.insert_entry.ensures.entries in
    let counted = c.self.invariant.counted in
    let dense = c.self.invariant.dense in
    let few = c.self.invariant.few in
    record {
      counted = omega (arith, n, counted);
      dense = elim (cases_lt (2 * table_buckets c.self.inside.table) (c.self.inside.len + 1)) [
        | inl many ↦ let split = c.insert_entry.ensures.split many in omega arith
        | inr few ↦ let unsplit = c.insert_entry.ensures.unsplit few in omega arith
      ];
      housed =
          let room = ap (λ h. h.room) c.self.view_is in
          let heads = c.insert_entry.ensures.heads in
          let reserved = c.requires.reserved in
          omega (arith, counted, room, heads, reserved);
      noded =
          let noded = c.self.invariant.noded in
          let room = ap (λ h. h.room) c.self.view_is in
          let nodes = c.insert_entry.ensures.nodes in
          let reserved = c.requires.reserved in
          omega (arith, noded, room, nodes, reserved);
      few =
          let room = ap (λ h. h.room) c.self.view_is in
          let reserved = c.requires.reserved in
          omega (arith, few, room, reserved);
    }

pub returns-clause-split : goal.returns-clause-split
returns-clause-split c = λ h.
    let n = length-same_bag _ _ c.insert_entry.ensures.entries in
    let b = ap (λ t. t.buckets) c.self.view_is in
    let counted = c.self.invariant.counted in
    let split = c.insert_entry.ensures.split (omega arith) in
    omega arith

pub returns-clause-unsplit : goal.returns-clause-unsplit
returns-clause-unsplit c = λ h.
    let n = length-same_bag _ _ c.insert_entry.ensures.entries in
    let b = ap (λ t. t.buckets) c.self.view_is in
    let counted = c.self.invariant.counted in
    let unsplit = c.insert_entry.ensures.unsplit (omega arith) in
    omega arith

pub returns-clause-room : goal.returns-clause-room
returns-clause-room c =
    let n = length-same_bag _ _ c.insert_entry.ensures.entries in
    let room = ap (λ h. h.room) c.self.view_is in
    let heads = c.insert_entry.ensures.heads in
    omega (arith, n, room, heads)
