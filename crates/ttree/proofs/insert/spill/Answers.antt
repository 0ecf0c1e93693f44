use Rattle.std.proofs.Common.{◌≡◌, ◌∙◌, ◌-◌, ◌<◌, ◌≤◌, List, length, ap, subst, sym, true, arith, lit<}
use Rattle.std.specs.List.{insert, remove}
use Rattle.std.proofs.lemmas.List.{length-drop}
use Rattle.part_raw.specs.declared.tuple_ref.TupleRef.{TupleRef}
use Rattle.ttree_node.specs.Tree.{Tree, Zipper, Label, whole, list, size, items_of, is_node, with_items}
use Rattle.ttree_node.specs.Editor.{position, tree_at}
use Rattle.ttree.specs.Shape.{IsTTree, ParentsAreFull}
use Rattle.ttree.proofs.Fullness.{full-with_items}
use Rattle.ttree.specs.Searching.{with_item}
use Rattle.ttree.proofs.Descent.{few_here}
use Rattle.ttree.proofs.Ends.{items_in_each}
use Rattle.ttree.proofs.Replacing.{whole-new_items}
use Rattle.ttree.proofs.Refits.{items_again, items_now, node_still}
use Rattle.ttree.proofs.Places.{size-with_items}
use Rattle.ttree.proofs.Puts.{spilt, length_spilt, list_spilt, length_list_spilt}
use Rattle.ttree.proofs.insert.spill.Goals as goal

pub put-requires : goal.put-requires
put-requires g c =
    let z : Zipper (Label TupleRef) = position c.args.editor.now in
    let xs = items_of z.here in
    let there = c.cut-least.ensures.items in
    let items : items_of (position c.cut-least.new.self).here ≡ remove xs 0 = ap (λ (y : Zipper (Label TupleRef)). items_of y.here) there ∙ items_now z (remove xs 0) c.requires.node in
    let node : is_node (position c.cut-least.new.self).here ≡ true = ap (λ (y : Zipper (Label TupleRef)). is_node y.here) there ∙ node_still z (remove xs 0) ∙ c.requires.node in
    let few : length xs ≤ g.row.MAX = few_here g.row.MAX (tree_at c.args.editor.now) z (sym c.requires.tree) (items_in_each g.row.MIN g.row.MAX (tree_at c.args.editor.now) c.requires.fit) in
    let left = ap (λ (ys : List TupleRef). length ys) items in
    (lit< tt, (node, (omega (arith, left, length-drop 1 xs, c.requires.within), omega (arith, left, length-drop 1 xs, few, c.requires.full, c.requires.two))))

pub put_before-requires : goal.put_before-requires
put_before-requires g c =
    let z : Zipper (Label TupleRef) = position c.args.editor.now in
    let xs = items_of z.here in
    let some : 0 < length xs = omega (arith, c.requires.full, c.requires.two) in
    let ys : List TupleRef = spilt z c.args.index c.args.r some in
    let cut = c.cut-least.ensures.items in
    let items : items_of (position c.cut-least.new.self).here ≡ remove xs 0 = ap (λ (y : Zipper (Label TupleRef)). items_of y.here) cut ∙ items_now z (remove xs 0) c.requires.node in
    let there : position c.put.new.self ≡ with_items ys z = c.put.ensures.items ∙ (λ k. with_items (insert (items k) (c.args.index - 1) c.args.r) (cut k)) ∙ items_again z (remove xs 0) ys in
    let tree : tree_at c.put.new.self ≡ whole (with_items ys z) = c.put.ensures.tree ∙ ap (λ (y : Zipper (Label TupleRef)). whole y) there in
    let n = length_spilt z c.args.index c.args.r some in
    let held : items_of (position c.put.new.self).here ≡ ys = ap (λ (y : Zipper (Label TupleRef)). items_of y.here) there ∙ items_now z ys c.requires.node in
    let few : length xs ≤ g.row.MAX = few_here g.row.MAX (tree_at c.args.editor.now) z (sym c.requires.tree) (items_in_each g.row.MIN g.row.MAX (tree_at c.args.editor.now) c.requires.fit) in
    let fit : IsTTree g.row.MIN g.row.MAX (whole z) = subst (λ (t : Tree (Label TupleRef)). IsTTree g.row.MIN g.row.MAX t) c.requires.tree c.requires.fit in (
      lit< tt,
      (
        c.requires.some,
        (
          c.requires.ordered,
          (
            c.requires.two,
            (
              ap (λ (y : Zipper (Label TupleRef)). is_node y.here) there ∙ node_still z ys ∙ c.requires.node,
              (
                omega (arith, ap (λ (us : List TupleRef). length us) held, n, c.requires.full),
                (
                  c.put.ensures.tree,
                  (
                    subst (λ (t : Tree (Label TupleRef)). IsTTree g.row.MIN g.row.MAX t) (sym tree) (whole-new_items g.row.MIN g.row.MAX z.above z.here ys fit (omega (arith, n, some)) (omega (arith, n, few)) (omega (arith, n)) (items_now z ys c.requires.node)),
                    (
                      omega (arith, ap (λ (t : Tree (Label TupleRef)). length (list t)) tree, length_list_spilt z c.args.index c.args.r some c.requires.node, ap (λ (t : Tree (Label TupleRef)). length (list t)) c.requires.tree, c.requires.short),
                      omega (arith, c.put.ensures.spares, c.cut-least.ensures.spares, c.requires.spare),
                    ),
                  ),
                ),
              ),
            ),
          ),
        ),
      ),
    )

pub returns-clause-parents : goal.returns-clause-parents
returns-clause-parents g c = λ two full.
    let z : Zipper (Label TupleRef) = position c.args.editor.now in
    let xs = items_of z.here in
    let some : 0 < length xs = omega (arith, c.requires.full, c.requires.two) in
    let ys : List TupleRef = spilt z c.args.index c.args.r some in
    let cut = c.cut-least.ensures.items in
    let items : items_of (position c.cut-least.new.self).here ≡ remove xs 0 = ap (λ (y : Zipper (Label TupleRef)). items_of y.here) cut ∙ items_now z (remove xs 0) c.requires.node in
    let there : position c.put.new.self ≡ with_items ys z = c.put.ensures.items ∙ (λ k. with_items (insert (items k) (c.args.index - 1) c.args.r) (cut k)) ∙ items_again z (remove xs 0) ys in
    let tree : tree_at c.put.new.self ≡ whole (with_items ys z) = c.put.ensures.tree ∙ ap (λ (y : Zipper (Label TupleRef)). whole y) there in
    let n = length_spilt z c.args.index c.args.r some in
    let parents : ParentsAreFull g.row.MAX (whole z) = subst (λ (t : Tree (Label TupleRef)). ParentsAreFull g.row.MAX t) c.requires.tree full in
    c.put_before.ensures.parents two (subst (λ (t : Tree (Label TupleRef)). ParentsAreFull g.row.MAX t) (sym tree) (full-with_items g.row.MAX z ys (omega (arith, n)) parents))

pub returns-clause-list : goal.returns-clause-list
returns-clause-list g c =
    let z : Zipper (Label TupleRef) = position c.args.editor.now in
    let xs = items_of z.here in
    let some : 0 < length xs = omega (arith, c.requires.full, c.requires.two) in
    let ys : List TupleRef = spilt z c.args.index c.args.r some in
    let cut = c.cut-least.ensures.items in
    let items : items_of (position c.cut-least.new.self).here ≡ remove xs 0 = ap (λ (y : Zipper (Label TupleRef)). items_of y.here) cut ∙ items_now z (remove xs 0) c.requires.node in
    let there : position c.put.new.self ≡ with_items ys z = c.put.ensures.items ∙ (λ k. with_items (insert (items k) (c.args.index - 1) c.args.r) (cut k)) ∙ items_again z (remove xs 0) ys in
    c.put_before.ensures.list ∙ ap (λ (y : Zipper (Label TupleRef)). with_item 0 c.cut-least.result y) there
    ∙ list_spilt z c.args.index c.args.r some c.cut-least.result c.requires.node c.requires.inside c.cut-least.ensures.item

pub returns-clause-nodes : goal.returns-clause-nodes
returns-clause-nodes g c =
    let z : Zipper (Label TupleRef) = position c.args.editor.now in
    let y : Zipper (Label TupleRef) = position c.cut-least.new.self in
    let put = ap (λ (t : Tree (Label TupleRef)). size t) c.put.ensures.tree ∙ (λ i. size (whole (c.put.ensures.items i))) ∙ size-with_items (insert (items_of y.here) (c.args.index - 1) c.args.r) y in
    let cut = (λ i. size (whole (c.cut-least.ensures.items i))) ∙ size-with_items (remove (items_of z.here) 0) z ∙ sym (ap (λ (t : Tree (Label TupleRef)). size t) c.requires.tree) in
    omega (arith, put ∙ cut, c.put_before.ensures.nodes, c.put.ensures.spares, c.cut-least.ensures.spares)
