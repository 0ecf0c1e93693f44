use Rattle.std.proofs.Common.{◌+◌, ◌*◌, length, ap, arith, inl, inr}
use Rattle.std.proofs.lemmas.Bool.{cases_lt}
use Rattle.lin_hash.specs.RowsHeld.{rows_buckets}
use Rattle.mm_index.proofs.Bags.{length-same_bag}
use Rattle.lin_hash.proofs.row_hash.RowHash.insert.Goals as goal

pub invariant_of-self : goal.invariant_of-self
invariant_of-self c =
    let n = length-same_bag _ _ c.insert_row.ensures.entries in
    let counted = c.self.invariant.counted in
    let dense = c.self.invariant.dense in
    let entries = ap (λ h. length h.entries) c.self.view_is in
    record {
      counted = omega (arith, n, counted);
      dense = elim (cases_lt (2 * rows_buckets c.self.inside.table) (c.self.inside.len + 1)) [
        | inl many ↦ let split = c.insert_row.ensures.split many in omega arith
        | inr few ↦ let unsplit = c.insert_row.ensures.unsplit few in omega arith
      ];
      housed =
          let room = ap (λ h. h.room) c.self.view_is in
          let heads = c.insert_row.ensures.heads in
          let reserved = c.requires.reserved in
          omega (arith, counted, room, heads, reserved);
      few = let short = c.requires.short in omega (arith, short, counted, entries);
    }

pub returns-clause-split : goal.returns-clause-split
returns-clause-split c = λ h.
    let n = length-same_bag _ _ c.insert_row.ensures.entries in
    let b = ap (λ t. t.buckets) c.self.view_is in
    let counted = c.self.invariant.counted in
    let split = c.insert_row.ensures.split (omega arith) in
    omega arith

pub returns-clause-unsplit : goal.returns-clause-unsplit
returns-clause-unsplit c = λ h.
    let n = length-same_bag _ _ c.insert_row.ensures.entries in
    let b = ap (λ t. t.buckets) c.self.view_is in
    let counted = c.self.invariant.counted in
    let unsplit = c.insert_row.ensures.unsplit (omega arith) in
    omega arith

pub returns-clause-room : goal.returns-clause-room
returns-clause-room c =
    let n = length-same_bag _ _ c.insert_row.ensures.entries in
    let room = ap (λ h. h.room) c.self.view_is in
    let heads = c.insert_row.ensures.heads in
    omega (arith, n, room, heads)

pub insert_row-requires-clause-absent : goal.insert_row-requires-clause-absent
insert_row-requires-clause-absent c = rw (← ap (λ h. h.entries) c.self.view_is) at c.requires.absent
