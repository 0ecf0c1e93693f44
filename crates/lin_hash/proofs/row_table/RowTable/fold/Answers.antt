use Rattle.std.proofs.Common.{arith}
use Rattle.lin_hash.specs.Nodes.{no_link}
use Rattle.lin_hash.specs.RowNodes.{rows_of}
use Rattle.lin_hash.specs.RowChains.{IsRowChain}
use Rattle.lin_hash.proofs.Hanging.{AreHungBy-fold, IsSplit-lowered}
use Rattle.lin_hash.proofs.row_table.RowTable.fold.Goals as goal

pub link_from-requires-clause-loose : goal.link_from-requires-clause-loose
link_from-requires-clause-loose c =
    let t = c.self.inside in
    let h = c.self.invariant.hung in
    let a = c.lowered-self-inside.result in
    let split = IsSplit-lowered t.address.level t.address.mark a.level a.mark h.chains h.addressed c.lowered-self-inside.ensures.back c.lowered-self-inside.ensures.halved in
    let folded = AreHungBy-fold (IsRowChain t.nodes.items) t.address.level t.address.mark a.level a.mark t.heads.items c.pop.new.self.items c.in-Some.last (rows_of t.nodes.items) h c.in-Some.ensures.items split in
    rw c.deref_mut.ensures.value (no_link, (λ e. absurd (omega arith)), folded.0, folded.1, folded.2)
