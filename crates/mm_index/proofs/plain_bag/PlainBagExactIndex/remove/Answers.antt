use Rattle.std.proofs.Common.{◌≡◌, ◌∙◌, ap}
use Rattle.mm_index.proofs.Bags.{IsSameBag-swap_remove}
use Rattle.mm_index.proofs.plain_bag.PlainBagExactIndex.remove.Goals as goal

pub returns-clause-entries : goal.returns-clause-entries
returns-clause-entries c =
    let held : c.self.inside.pairs.items ≡ c.args.self.now.entries = ap (λ b. b.entries) c.self.view_is in
    let same : c.as_slice.result.now ≡ c.args.self.now.entries = c.as_slice.ensures.value ∙ held in
    rw (c.swap_remove.ensures.items, held)
    (IsSameBag-swap_remove c.args.self.now.entries c.place_of-place.result (c.args.hash, c.args.r) c.swap_remove.result
    (rw same at c.place_of-place.ensures.bound) (rw same at c.place_of-place.ensures.found))
