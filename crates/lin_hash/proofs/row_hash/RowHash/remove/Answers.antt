use Rattle.std.proofs.Common.{◌-◌, ◌*◌, ap, arith, inl, inr}
use Rattle.std.proofs.lemmas.Bool.{cases_lt}
use Rattle.lin_hash.specs.RowsHeld.{rows_buckets}
use Rattle.mm_index.proofs.Bags.{length-same_bag}
use Rattle.lin_hash.proofs.row_hash.RowHash.remove.Goals as goal

pub invariant_of-self : goal.invariant_of-self
invariant_of-self c =
    let n = length-same_bag _ _ (c.remove_row.ensures.entries c.requires.0 (rw (← ap (λ h. h.entries) c.self.view_is) at c.requires.1)) in
    let counted = c.self.invariant.counted in
    let dense = c.self.invariant.dense in
    let few = c.self.invariant.few in
    record {
      counted = omega (arith, n, counted);
      dense = elim (cases_lt (2 * (c.self.inside.len - 1)) (rows_buckets c.self.inside.table)) [
        | inl few ↦ elim (cases_lt 4 (rows_buckets c.self.inside.table)) [
          | inl above ↦ let folded = c.remove_row.ensures.folded few above in omega arith
          | inr upto ↦ let same = c.remove_row.ensures.first upto in omega arith
        ]
        | inr many ↦ let same = c.remove_row.ensures.unfolded many in omega arith
      ];
      housed =
          let housed = c.self.invariant.housed in
          let heads = c.remove_row.ensures.heads in
          omega (arith, housed, heads);
      few = omega (arith, n, counted, few);
    }

pub returns-clause-folded : goal.returns-clause-folded
returns-clause-folded c = λ h k.
    let n = length-same_bag _ _ (c.remove_row.ensures.entries c.requires.0 (rw (← ap (λ h. h.entries) c.self.view_is) at c.requires.1)) in
    let b = ap (λ t. t.buckets) c.self.view_is in
    let counted = c.self.invariant.counted in
    let folded = c.remove_row.ensures.folded (omega arith) (omega arith) in
    omega arith

pub returns-clause-unfolded : goal.returns-clause-unfolded
returns-clause-unfolded c = λ h.
    let n = length-same_bag _ _ (c.remove_row.ensures.entries c.requires.0 (rw (← ap (λ h. h.entries) c.self.view_is) at c.requires.1)) in
    let b = ap (λ t. t.buckets) c.self.view_is in
    let counted = c.self.invariant.counted in
    let unfolded = c.remove_row.ensures.unfolded (omega arith) in
    omega arith

pub returns-clause-room : goal.returns-clause-room
returns-clause-room c =
    let n = length-same_bag _ _ (c.remove_row.ensures.entries c.requires.0 (rw (← ap (λ h. h.entries) c.self.view_is) at c.requires.1)) in
    let room = ap (λ h. h.room) c.self.view_is in
    let counted = c.self.invariant.counted in
    let housed = c.self.invariant.housed in
    let heads = c.remove_row.ensures.heads in
    omega (arith, n, room, counted, housed, heads)
