use Rattle.std.proofs.Common.{List, get_or, sym, subst}
use Rattle.std.specs.List.{Contains}
use Rattle.part_raw.specs.declared.tuple_ref.TupleRef.{TupleRef}
use Rattle.ttree_node.specs.Look.{position}
use Rattle.ttree.specs.Held.{items_of_tree}
use Rattle.ttree.proofs.Ends.{held_here, none_in_gap}
use Rattle.ttree.proofs.tree.TTree.find.Goals as goal

pub returns-in-Ok-clause-held : goal.returns-in-Ok-clause-held
returns-in-Ok-clause-held g c =
    let none : TupleRef = record { number = 0 } in
    let z = position c.search-found.result.0 in
    let hit = rw c.in-Ok.is at c.search-found.ensures.hit in
    subst (λ (xs : List TupleRef). Contains (items_of_tree c.args.self.now) (get_or xs c.in-Ok.index none)) (sym c.items.ensures)
    (held_here c.args.self.now.tree z c.search-found.ensures.whole c.in-Ok.index none hit.index)

pub returns-in-Err-clause-none : goal.returns-in-Err-clause-none
returns-in-Err-clause-none g c =
    none_in_gap c.args.self.now.tree (position c.search-found.result.0) c.search-found.ensures.whole (g.P.Probe.place c.args.probe.now) c.in-Err.field-0
    (rw c.in-Err.is at c.search-found.ensures.gap)
