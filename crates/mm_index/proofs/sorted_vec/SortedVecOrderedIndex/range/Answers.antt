use Rattle.std.proofs.Common.{◌≡◌, ◌∙◌, ◌++◌, ap, sym}
use Rattle.mm_index.proofs.Ranged.{in_range_at}
use Rattle.mm_index.proofs.sorted_vec.SortedVecOrderedIndex.range.Goals as goal

pub returns-clause-ok : goal.returns-clause-ok
returns-clause-ok g c =
    let held : c.self.inside.refs.items ≡ c.args.self.now.items = ap (λ h. h.items) c.self.view_is in
    let same : c.as_slice-refs.result.now ≡ c.args.self.now.items = c.as_slice-refs.ensures.value ∙ held in
    let answers = c.first_not_below-first.ensures.probe.answers in
    let first = c.first_not_below-first.ensures in
    let end = c.first_not_equal-end.ensures in
    let placed = in_range_at (g.P.Probe.place c.args.probe.now) c.args.self.now.items c.first_not_below-first.result
    (rw same at first.below) c.first_not_equal-end.result end.from_first (rw same at end.bound)
    (rw (same, answers) at end.equal) (rw (same, answers) at end.above)
    in
    rw (c.in_ok-extend_from_slice.ensures.items, same) (ap (λ ys. c.args.out.now.items ++ ys) (sym placed))
