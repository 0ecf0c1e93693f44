use Rattle.std.proofs.Common.{true, ◌≡◌, ◌∙◌, ◌+◌, List, [], ◌∷◌, get_or, length, Ordering, ap, subst, sym, lit<, arith, rules}
use Rattle.std.specs.List.{All, Contains}
use Rattle.part_raw.specs.declared.tuple_ref.TupleRef.{TupleRef}
use Rattle.mm_index.specs.Order.{insert_placed}
use Rattle.mm_index.specs.Range.{NeverFalls}
use Rattle.mm_index.proofs.Placed.{insert_placed_split}
use Rattle.ttree_node.specs.Tree.{Tree, Zipper, Label, is_root, whole, list, size, with_leaf, list_until, list_from}
use Rattle.ttree_node.specs.Editor.{position, tree_at}
use Rattle.ttree_node.specs.Seen.{tree_of, shown}
use Rattle.ttree.specs.Room.{nodes_of, nodes_at}
use Rattle.ttree.specs.Shape.{HasItemsInEach, ParentsAreFull}
use Rattle.ttree.proofs.Ends.{items_in_each, held_here, none_in_gap}
use Rattle.ttree.proofs.Fullness.{full_first}
use Rattle.ttree.proofs.Cuts.{list_cut}
use Rattle.ttree.proofs.Ordered.{insert_placed_first}
use Rattle.ttree.proofs.Puts.{length_with_item, list_first, size_first}
use Rattle.ttree.proofs.insert.insert_unless_found.Given.{Over}
use Rattle.ttree.proofs.insert.insert_unless_found.Goals as goal
use Rattle.ttree.proofs.insert.insert_unless_found.Goals.{After-edit-editor, After-new_leaf}

-- the editor begins at the root
top : (g : Over) (c : After-edit-editor g) → is_root (position c.edit-editor.result).above ≡ true
top g c = ap (λ (y : Zipper (Label TupleRef)). is_root y.above) c.edit-editor.ensures.root

seen : (g : Over) (c : After-edit-editor g) → tree_of c.args.nodes.now ≡ whole (position c.edit-editor.result)
seen g c = ap (λ (y : Zipper (Label TupleRef)). whole y) (sym c.edit-editor.ensures.root)

-- ---- the first reference of all

hung : (g : Over) (c : After-new_leaf g) → tree_at c.new_leaf.new.self ≡ whole (with_leaf c.args.r (position c.edit-editor.result))
hung g c = c.new_leaf.ensures.tree ∙ ap (λ (y : Zipper (Label TupleRef)). whole y) c.new_leaf.ensures.leaf

first : (g : Over) (c : After-new_leaf g) → (list (tree_of c.args.nodes.now) ≡ []) × (list (tree_at c.new_leaf.new.self) ≡ c.args.r ∷ [])
first g c =
    let its = list_first (position c.edit-editor.result) c.args.r (ap (λ (y : Zipper (Label TupleRef)). is_root y.above) c.edit-editor.ensures.root) (sym c.has_node.ensures ∙ c.if-not-has_node.true) in
    (ap (λ (y : Zipper (Label TupleRef)). list (whole y)) (sym c.edit-editor.ensures.root) ∙ its.0, ap (λ (t : Tree (Label TupleRef)). list t) (hung g c) ∙ its.1)

pub returns-then-not-has_node-clause-list : goal.returns-then-not-has_node-clause-list
returns-then-not-has_node-clause-list g c =
    let place : TupleRef → Ordering = g.P.Probe.place c.args.probe.now in
    let its = first g (goal.at.returns-then-not-has_node-clause-list g c).After-new_leaf in
    let after : list (tree_at c.new_leaf.new.self) ≡ insert_placed place c.args.r (list (tree_of c.args.nodes.now)) =
    its.1 ∙ sym (insert_placed_first place c.args.r) ∙ ap (λ (xs : List TupleRef). insert_placed place c.args.r xs) (sym its.0) in
    search (rules, after)

pub returns-then-not-has_node-clause-none : goal.returns-then-not-has_node-clause-none
returns-then-not-has_node-clause-none g c = λ k d l. absurd (omega (arith, ap (λ (xs : List TupleRef). length xs) (first g (goal.at.returns-then-not-has_node-clause-none g c).After-new_leaf).0, l))

pub returns-then-not-has_node-clause-one : goal.returns-then-not-has_node-clause-one
returns-then-not-has_node-clause-one g c =
    let its = first g (goal.at.returns-then-not-has_node-clause-one g c).After-new_leaf in
    let after : length (list (tree_at c.new_leaf.new.self)) ≡ length (list (tree_of c.args.nodes.now)) + 1 = omega (arith, ap (λ (xs : List TupleRef). length xs) its.1, ap (λ (xs : List TupleRef). length xs) its.0) in
    search (rules, after)

pub returns-then-not-has_node-clause-asks : goal.returns-then-not-has_node-clause-asks
returns-then-not-has_node-clause-asks g c = λ some. absurd (omega (arith, ap (λ (xs : List TupleRef). length xs) (first g (goal.at.returns-then-not-has_node-clause-asks g c).After-new_leaf).0, some))

pub returns-then-not-has_node-clause-parents : goal.returns-then-not-has_node-clause-parents
returns-then-not-has_node-clause-parents g c = λ two full.
    let at = goal.at.returns-then-not-has_node-clause-parents g c in
    let after : ParentsAreFull g.row.MAX (tree_at c.new_leaf.new.self) =
    subst (λ (t : Tree (Label TupleRef)). ParentsAreFull g.row.MAX t) (sym (hung g at.After-new_leaf)) (full_first g.row.MAX (position c.edit-editor.result) c.args.r (top g at.After-edit-editor)) in
    search (rules, after)

pub returns-then-not-has_node-clause-nodes : goal.returns-then-not-has_node-clause-nodes
returns-then-not-has_node-clause-nodes g c =
    let at = goal.at.returns-then-not-has_node-clause-nodes g c in
    let after : nodes_at c.new_leaf.new.self ≡ nodes_of (shown c.args.nodes.now) = omega (
      arith,
      ap (λ (t : Tree (Label TupleRef)). size t) (hung g at.After-new_leaf),
      ap (λ (t : Tree (Label TupleRef)). size t) (seen g at.After-edit-editor),
      size_first (position c.edit-editor.result) c.args.r (top g at.After-edit-editor) (sym c.has_node.ensures ∙ c.if-not-has_node.true),
      c.new_leaf.ensures.spares,
    ) in
    search (rules, after)

-- ---- the search, and where it ends

pub locate_to_edit-requires : goal.locate_to_edit-requires
locate_to_edit-requires g c =
    let d = (goal.at.locate_to_edit-requires g c).After-edit-editor in (
      lit< tt,
      (
        (top g d),
        (
          sym c.has_node.ensures ∙ c.if-not-has_node.false,
          (
            subst (λ (t : Tree (Label TupleRef)). HasItemsInEach g.row.MAX t) (seen g d) (items_in_each g.row.MIN g.row.MAX (tree_of c.args.nodes.now) c.requires.fit),
            (
              c.requires.sound,
              (
                subst (λ (t : Tree (Label TupleRef)). All (g.P.Probe.can_place c.args.probe.now) (list t)) (seen g d) c.requires.placed,
                (subst (λ (t : Tree (Label TupleRef)). NeverFalls (g.P.Probe.place c.args.probe.now) (list t)) (seen g d) c.requires.in_order, tt),
              ),
            ),
          ),
        ),
      ),
    )

pub returns-in-Ok-clause-held : goal.returns-in-Ok-clause-held
returns-in-Ok-clause-held g c =
    let d = (goal.at.returns-in-Ok-clause-held g c).After-edit-editor in
    let none : TupleRef = record { number = 0 } in
    let w : Zipper (Label TupleRef) = position c.locate_to_edit.new.editor in
    let t : Tree (Label TupleRef) = tree_of c.args.nodes.now in
    subst (λ (xs : List TupleRef). Contains (list t) (get_or xs c.in-Ok.index none)) (sym c.items.ensures)
    (held_here t w (c.locate_to_edit.ensures.whole ∙ sym (seen g d)) c.in-Ok.index none c.in-Ok.ensures.hit.index)

pub returns-in-Err-clause-none : goal.returns-in-Err-clause-none
returns-in-Err-clause-none g c =
    let d = (goal.at.returns-in-Err-clause-none g c).After-edit-editor in
    none_in_gap (tree_of c.args.nodes.now) (position c.locate_to_edit.new.editor) (c.locate_to_edit.ensures.whole ∙ sym (seen g d)) (g.P.Probe.place c.args.probe.now) c.in-Err.index c.in-Err.ensures.gap

pub returns-in-Err-clause-list : goal.returns-in-Err-clause-list
returns-in-Err-clause-list g c =
    let d = (goal.at.returns-in-Err-clause-list g c).After-edit-editor in
    let w : Zipper (Label TupleRef) = position c.locate_to_edit.new.editor in
    let place : TupleRef → Ordering = g.P.Probe.place c.args.probe.now in
    let same : whole w ≡ tree_of c.args.nodes.now = c.locate_to_edit.ensures.whole ∙ sym (seen g d) in
    let after : list (tree_at c.put_at.new.editor) ≡ insert_placed place c.args.r (list (tree_of c.args.nodes.now)) =
    c.put_at.ensures.list ∙ sym (insert_placed_split place c.args.r (list_until c.in-Err.index w) (list_from c.in-Err.index w) c.in-Err.ensures.gap.below c.in-Err.ensures.gap.above)
    ∙ ap (λ (xs : List TupleRef). insert_placed place c.args.r xs) (sym (ap (λ (t : Tree (Label TupleRef)). list t) (sym same) ∙ list_cut c.in-Err.index w)) in
    search (rules, after)

pub returns-in-Err-clause-one : goal.returns-in-Err-clause-one
returns-in-Err-clause-one g c =
    let d = (goal.at.returns-in-Err-clause-one g c).After-edit-editor in
    let w : Zipper (Label TupleRef) = position c.locate_to_edit.new.editor in
    let same : whole w ≡ tree_of c.args.nodes.now = c.locate_to_edit.ensures.whole ∙ sym (seen g d) in
    let after : length (list (tree_at c.put_at.new.editor)) ≡ length (list (tree_of c.args.nodes.now)) + 1 =
    ap (λ (xs : List TupleRef). length xs) c.put_at.ensures.list ∙ length_with_item w c.in-Err.index c.args.r ∙ ap (λ (t : Tree (Label TupleRef)). length (list t) + 1) same in
    search (rules, after)
