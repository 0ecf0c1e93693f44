use Rattle.std.proofs.Common.{◌∙◌, All, List, get_or, sym, ap, subst}
use Rattle.std.specs.List.{Contains}
use Rattle.part_raw.specs.declared.tuple_ref.TupleRef.{TupleRef}
use Rattle.ttree_node.specs.Tree.{items_of}
use Rattle.ttree_node.specs.Look.{position}
use Rattle.ttree.specs.Held.{items_of_tree}
use Rattle.ttree.proofs.Descent.{All-here}
use Rattle.ttree.proofs.Ends.{held_here}
use Rattle.ttree.proofs.tree.TTree.find_by_way.Goals as goal

pub place-requires-clause-may_ask : goal.place-requires-clause-may_ask
place-requires-clause-may_ask g c =
    let CanPlace : TupleRef → Type 0 = g.P.Probe.can_place c.args.probe.now in
    let z = position c.args.way.now.last in
    let held : All CanPlace (items_of z.here) = All-here g.row.MAX c.args.self.now.tree z c.requires.way.last_same CanPlace c.requires.placed in
    let here : All CanPlace c.items.result.now = subst (λ (items : List TupleRef). All CanPlace items) (sym c.items.ensures) held in
    let found = c.in-Some.ensures.lookup in
    subst CanPlace (sym found.1) (here c.args.way.now.high c.in-Some.item.now found.3.0)

pub returns-then-is_eq-clause-held : goal.returns-then-is_eq-clause-held
returns-then-is_eq-clause-held g c =
    let z = position c.args.way.now.last in
    let found = c.in-Some.ensures.lookup in
    let r = c.in-Some.item.now in
    let l = rw c.items.ensures at found.3.0 in
    subst (Contains (items_of_tree c.args.self.now)) (sym (found.1 ∙ ap (λ (xs : List TupleRef). get_or xs c.args.way.now.high r) c.items.ensures))
    (held_here c.args.self.now.tree z c.requires.way.last_same c.args.way.now.high r l)
