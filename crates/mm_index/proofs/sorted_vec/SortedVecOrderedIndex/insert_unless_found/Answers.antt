use Rattle.std.proofs.Common.{◌≡◌, ◌∙◌, ap, sym}
use Rattle.mm_index.proofs.Placed.{insert_placed_at}
use Rattle.mm_index.proofs.sorted_vec.SortedVecOrderedIndex.insert_unless_found.Goals as goal

pub returns-in-Err-clause-inserted : goal.returns-in-Err-clause-inserted
returns-in-Err-clause-inserted g c =
    let same : c.as_slice.result.now ≡ c.args.self.now.items = c.as_slice.ensures.value ∙ ap (λ h. h.items) c.self.view_is in
    rw c.insert_at.ensures.items
    (sym (insert_placed_at (g.P.Probe.place c.args.probe.now) c.args.r c.args.self.now.items c.in-Err.place
    (rw same at c.in-Err.ensures.below) (rw same at c.in-Err.ensures.above)))
