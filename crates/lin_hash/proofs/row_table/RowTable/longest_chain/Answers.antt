use Rattle.std.proofs.Common.{◌≡◌, length, arith, vec_len}
use Rattle.lin_hash.proofs.RowLongest.{ends-hung, longest-hung}
use Rattle.lin_hash.proofs.row_table.RowTable.longest_chain.Goals as goal

pub longest-requires-clause-end : goal.longest-requires-clause-end
longest-requires-clause-end c =
    let t = c.self.inside in
    rw c.as_slice.ensures.value (ends-hung t.address.level t.address.mark t.nodes.items t.heads.items c.self.invariant.hung)

pub returns : goal.returns
returns c =
    let t = c.self.inside in
    let end = c.longest.ensures in
    let number : vec_len t.heads ≡ length t.heads.items = omega (arith, t.heads.ok.0) in
    rw (← c.self.view_is)
    (longest-hung t.address.level t.address.mark t.nodes.items t.heads.items c.self.invariant.hung (vec_len t.heads) c.longest.result number
    (rw c.as_slice.ensures.value at end.within) (rw c.as_slice.ensures.value at end.reached))
