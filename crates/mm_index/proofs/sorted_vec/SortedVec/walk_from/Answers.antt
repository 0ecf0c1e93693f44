use Rattle.std.proofs.Common.{◌≡◌, ◌∙◌, ap, sym}
use Rattle.std.proofs.lemmas.List.{take_rest}
use Rattle.mm_index.proofs.Ranged.{from_range_at}
use Rattle.mm_index.proofs.sorted_vec.SortedVec.walk_from.Goals as goal

pub returns-clause-rest : goal.returns-clause-rest
returns-clause-rest g c =
    let held : c.self.inside.refs.items ≡ c.args.self.now.items = ap (λ h. h.items) c.self.view_is in
    let same : c.as_slice-refs.result.now ≡ c.args.self.now.items = c.as_slice-refs.ensures.value ∙ held in
    let placed = from_range_at _ c.args.self.now.items c.first_not_below-first.result
    (rw same at c.first_not_below-first.ensures.below) (rw same at c.first_not_below-first.ensures.not_below) in
    rw (take_rest c.as_slice-refs.result.now c.first_not_below-first.result, same) (sym placed)
