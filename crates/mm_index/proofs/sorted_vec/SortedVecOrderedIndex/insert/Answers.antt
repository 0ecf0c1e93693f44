use Rattle.std.proofs.Common.{◌≡◌, ◌∙◌, ap, sym}
use Rattle.mm_index.proofs.Placed.{insert_by_at, IsRising-insert_by}
use Rattle.mm_index.proofs.sorted_vec.SortedVecOrderedIndex.insert.Goals as goal

pub returns-clause-items : goal.returns-clause-items
returns-clause-items g c =
    let same : c.as_slice.result.now ≡ c.args.self.now.items = c.as_slice.ensures.value ∙ ap (λ h. h.items) c.self.view_is in
    rw (c.insert_at.ensures.items, c.sought-r.ensures)
    (sym (insert_by_at _ _ (g.met.O.TupleOrder.is_strict c.args.probe.now.order.now c.requires.sound) c.args.probe.now.sought c.args.self.now.items
    c.place_by_order-place.result c.requires.covered c.requires.r_covered
    (rw same at c.place_by_order-place.ensures.below) (rw same at c.place_by_order-place.ensures.not_below) c.requires.absent))

pub returns-clause-rising : goal.returns-clause-rising
returns-clause-rising g c =
    rw (returns-clause-items g c)
    (IsRising-insert_by _ _ (g.met.O.TupleOrder.is_strict c.args.probe.now.order.now c.requires.sound) c.args.probe.now.sought c.args.self.now.items
    c.requires.covered c.requires.r_covered c.requires.rising)
