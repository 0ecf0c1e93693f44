use Rattle.lin_hash.specs.Chains.{IsChain, all_placed}
use Rattle.lin_hash.proofs.Hanging.{AreHungBy-fold, IsSplit-lowered}
use Rattle.lin_hash.proofs.table.Table.fold.Goals as goal

pub link_from-requires-clause-loose : goal.link_from-requires-clause-loose
link_from-requires-clause-loose c =
    let t = c.self.inside in
    let h = c.self.invariant.hung in
    let a = c.lowered-self-inside.result in
    let split = IsSplit-lowered t.address.level t.address.mark a.level a.mark h.chains h.addressed c.lowered-self-inside.ensures.back c.lowered-self-inside.ensures.halved in
    rw c.deref_mut.ensures.value
    (AreHungBy-fold (IsChain t.nodes.items) t.address.level t.address.mark a.level a.mark t.heads.items c.pop.new.self.items c.in-Some.last (all_placed t.nodes.items) h c.in-Some.ensures.items split)
