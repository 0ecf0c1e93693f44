use Rattle.std.proofs.Common.{◌≡◌, ◌∙◌, ap, sym}
use Rattle.std.proofs.lemmas.List.Elements.{All-contains}
use Rattle.mm_index.proofs.Placed.{remove_by_at}
use Rattle.mm_index.proofs.sorted_vec.SortedVecOrderedIndex.remove.Goals as goal

pub returns-clause-items : goal.returns-clause-items
returns-clause-items g c =
    let held : c.self.inside.refs.items ≡ c.args.self.now.items = ap (λ h. h.items) c.self.view_is in
    let same : c.as_slice.result.now ≡ c.args.self.now.items = c.as_slice.ensures.value ∙ held in
    let placed = remove_by_at _ _ (g.met.O.TupleOrder.is_strict c.args.probe.now.order.now c.requires.sound) c.args.probe.now.sought c.args.self.now.items
    c.place_by_order-place.result c.requires.covered (All-contains (g.O.TupleOrder.covers c.args.probe.now.order.now) c.args.self.now.items c.args.probe.now.sought c.requires.covered c.requires.held)
    (rw same at c.place_by_order-place.ensures.below) (rw same at c.place_by_order-place.ensures.not_below)
    c.requires.rising c.requires.held
    in
    rw (c.remove.ensures.items, held) (sym placed.1)
