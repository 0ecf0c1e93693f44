use Rattle.std.proofs.Common.{◌≡◌, ◌∙◌, ap, subst, sym, arith}
use Rattle.std.specs.List.{insert}
use Rattle.part_raw.specs.declared.tuple_ref.TupleRef.{TupleRef}
use Rattle.ttree_node.specs.Tree.{Tree, Zipper, Label, whole, list, size, items_of, with_items}
use Rattle.ttree_node.specs.Editor.{position, tree_at}
use Rattle.ttree.specs.Shape.{IsTTree, ParentsAreFull}
use Rattle.ttree.proofs.Fullness.{full-with_items}
use Rattle.ttree.proofs.Refits.{items_now}
use Rattle.ttree.proofs.Replacing.{whole-new_items}
use Rattle.ttree.proofs.Places.{size-with_items}
use Rattle.ttree.proofs.Puts.{list_put, length_insert}
use Rattle.ttree.proofs.insert.put_with_room.Given.{Over}
use Rattle.ttree.proofs.insert.put_with_room.Goals as goal
use Rattle.ttree.proofs.insert.put_with_room.Goals.{After-put}

now : (g : Over) (c : After-put g) → tree_at c.put.new.self ≡ whole (with_items (insert (items_of (position c.args.editor.now).here) c.args.index c.args.r) (position c.args.editor.now))
now g c = c.put.ensures.tree ∙ ap (λ (y : Zipper (Label TupleRef)). whole y) c.put.ensures.items

pub returns-clause-fit : goal.returns-clause-fit
returns-clause-fit g c =
    let z : Zipper (Label TupleRef) = position c.args.editor.now in
    let xs = insert (items_of z.here) c.args.index c.args.r in
    let n = length_insert (items_of z.here) c.args.index c.args.r in
    subst (λ (t : Tree (Label TupleRef)). IsTTree g.row.MIN g.row.MAX t) (sym (now g (goal.at.returns-clause-fit g c).After-put))
    (whole-new_items g.row.MIN g.row.MAX z.above z.here xs (subst (λ (t : Tree (Label TupleRef)). IsTTree g.row.MIN g.row.MAX t) c.requires.tree c.requires.fit) (omega (arith, n)) (omega (arith, n, c.requires.free)) (omega (arith, n)) (items_now z xs c.requires.node))

pub returns-clause-parents : goal.returns-clause-parents
returns-clause-parents g c = λ full.
    let z : Zipper (Label TupleRef) = position c.args.editor.now in
    let xs = insert (items_of z.here) c.args.index c.args.r in
    let n = length_insert (items_of z.here) c.args.index c.args.r in
    subst (λ (t : Tree (Label TupleRef)). ParentsAreFull g.row.MAX t) (sym (now g (goal.at.returns-clause-parents g c).After-put))
    (full-with_items g.row.MAX z xs (omega (arith, n)) (subst (λ (t : Tree (Label TupleRef)). ParentsAreFull g.row.MAX t) c.requires.tree full))

pub returns-clause-list : goal.returns-clause-list
returns-clause-list g c =
    ap (λ (t : Tree (Label TupleRef)). list t) (now g (goal.at.returns-clause-list g c).After-put) ∙ list_put (position c.args.editor.now) c.args.index c.args.r c.requires.node

pub returns-clause-nodes : goal.returns-clause-nodes
returns-clause-nodes g c =
    let z : Zipper (Label TupleRef) = position c.args.editor.now in
    let same = ap (λ (t : Tree (Label TupleRef)). size t) (now g (goal.at.returns-clause-nodes g c).After-put) ∙ size-with_items (insert (items_of z.here) c.args.index c.args.r) z ∙ sym (ap (λ (t : Tree (Label TupleRef)). size t) c.requires.tree) in
    omega (arith, same, c.put.ensures.spares)
