use Rattle.std.proofs.Common.{◌∙◌, List, not, ap, subst, sym, lit<}
use Rattle.part_raw.specs.declared.tuple_ref.TupleRef.{TupleRef}
use Rattle.mm_index.specs.Order.{IsRising}
use Rattle.mm_index.proofs.Placed.{IsRising-insert_by}
use Rattle.ttree.specs.Held.{items_of_tree}
use Rattle.ttree.proofs.Ordered.{NeverFalls-by_order, insert_placed-by}
use Rattle.common_lemmas.proofs.Options.{at_none}
use Rattle.ttree.proofs.tree.TTree.insert.Goals as goal

pub insert_unless_found-found-requires : goal.insert_unless_found-found-requires
insert_unless_found-found-requires g c =
    let strict = g.met.O.TupleOrder.is_strict c.args.probe.now.order.now c.requires.sound in (
      lit< tt,
      (
        c.requires.reserved,
        (
          c.requires.short,
          (
            (c.requires.sound, c.requires.r_covered),
            (c.requires.covered, (NeverFalls-by_order _ _ strict c.args.probe.now.sought _ c.requires.covered c.requires.r_covered c.requires.rising)),
          ),
        ),
      ),
    )

pub returns-clause-items : goal.returns-clause-items
returns-clause-items g c =
    let inserted = at_none c.insert_unless_found-found.result _ (c.is_none.ensures ∙ ap not c.if-prove.false) c.insert_unless_found-found.ensures.inserted in
    (rw c.sought-r.ensures at inserted) ∙ insert_placed-by (g.O.TupleOrder.cmp c.args.probe.now.order.now) c.args.probe.now.sought (items_of_tree c.args.self.now)

pub returns-clause-rising : goal.returns-clause-rising
returns-clause-rising g c =
    let cmp = g.O.TupleOrder.cmp c.args.probe.now.order.now in
    let strict = g.met.O.TupleOrder.is_strict c.args.probe.now.order.now c.requires.sound in
    subst (λ (xs : List TupleRef). IsRising cmp xs) (sym (returns-clause-items g c))
    (IsRising-insert_by (g.O.TupleOrder.covers c.args.probe.now.order.now) cmp strict c.args.probe.now.sought (items_of_tree c.args.self.now) c.requires.covered c.requires.r_covered c.requires.rising)
