use Rattle.std.proofs.Common.{◌≡◌, ◌∙◌, ◌-◌, ◌<◌, ℕ, List, [], get_or, length, Ordering, ap, subst, sym, lit<, arith, rules}
use Rattle.std.specs.List.{All}
use Rattle.std.specs.declared.cmp.Ordering.TheVariants.{Less}
use Rattle.part_raw.specs.declared.tuple_ref.TupleRef.{TupleRef}
use Rattle.mm_index.specs.Order.{insert_placed}
use Rattle.mm_index.specs.Range.{NeverFalls}
use Rattle.mm_index.proofs.Placed.{insert_placed_split}
use Rattle.common_lemmas.proofs.Orders.{is_lt-Less}
use Rattle.ttree_node.specs.Tree.{Tree, Zipper, Label, whole, list, items_of, list_after, list_until, list_from}
use Rattle.ttree_node.specs.Editor.{position, tree_at}
use Rattle.ttree_node.specs.Seen.{tree_of}
use Rattle.ttree.specs.Searching.{IsGap}
use Rattle.ttree.proofs.Cuts.{list_cut}
use Rattle.ttree.proofs.Descent.{All-here, some_here}
use Rattle.ttree.proofs.Ends.{items_in_each, none_in_gap}
use Rattle.ttree.proofs.LastNode.{gap-last}
use Rattle.ttree.proofs.insert.insert_last.Given.{Over}
use Rattle.ttree.proofs.insert.insert_last.Goals as goal
use Rattle.ttree.proofs.insert.insert_last.Goals.{After-to_rightmost, Else-not-is_lt}

abbrev none : TupleRef
none = record { number = 0 }

same : (g : Over) (c : After-to_rightmost g) → whole (position c.to_rightmost.new.editor) ≡ tree_of c.args.nodes.now
same g c = c.to_rightmost.ensures.whole ∙ ap (λ (y : Zipper (Label TupleRef)). whole y) c.edit-editor.ensures.root

some : (g : Over) (c : After-to_rightmost g) → 0 < length (items_of (position c.to_rightmost.new.editor).here)
some g c = some_here g.row.MAX (tree_of c.args.nodes.now) (position c.to_rightmost.new.editor) (same g c) (items_in_each g.row.MIN g.row.MAX (tree_of c.args.nodes.now) c.requires.fit) c.to_rightmost.ensures.node

pub overflow_sub-last : goal.overflow_sub-last
overflow_sub-last g c = omega (arith, ap (λ (xs : List TupleRef). length xs) c.items-count.ensures, some g (goal.at.overflow_sub-last g c).After-to_rightmost)

pub bounds-items-count : goal.bounds-items-count
bounds-items-count g c =
    omega (arith, ap (λ (xs : List TupleRef). length xs) c.items-count.ensures, ap (λ (xs : List TupleRef). length xs) c.items.ensures, some g (goal.at.bounds-items-count g c).After-to_rightmost)

pub place-requires-clause-may_ask : goal.place-requires-clause-may_ask
place-requires-clause-may_ask g c =
    let d = (goal.at.place-requires-clause-may_ask g c).After-to_rightmost in
    let w : Zipper (Label TupleRef) = position c.to_rightmost.new.editor in
    let held : All (g.P.Probe.can_place c.args.probe.now) (items_of w.here) = All-here g.row.MAX (tree_of c.args.nodes.now) w (same g d) (g.P.Probe.can_place c.args.probe.now) c.requires.placed in
    rw (c.items.ensures, c.items-count.ensures) (held (length (items_of w.here) - 1) none (omega (arith, some g d)))

pub put_at-requires : goal.put_at-requires
put_at-requires g c =
    let d = (goal.at.put_at-requires g c).After-to_rightmost in
    let count = ap (λ (xs : List TupleRef). length xs) c.items-count.ensures in (
      lit< tt,
      (
        c.requires.some,
        (
          c.requires.ordered,
          (
            c.requires.two,
            (
              c.to_rightmost.ensures.node,
              (omega (arith, count), (λ e. absurd (omega (arith, e, count, some g d)), (λ e. c.to_rightmost.ensures.open, (search rules, (search rules, (search rules, search rules)))))),
            ),
          ),
        ),
      ),
    )

-- the last item of all stands below the range
gap : (g : Over) (c : Else-not-is_lt g) → whole (position c.to_rightmost.new.editor) ≡ tree_of c.args.nodes.now → 0 < length (items_of (position c.to_rightmost.new.editor).here)
    → IsGap (g.P.Probe.place c.args.probe.now) (position c.to_rightmost.new.editor) (length (items_of (position c.to_rightmost.new.editor).here))
gap g c same some =
    let place : TupleRef → Ordering = g.P.Probe.place c.args.probe.now in
    let w : Zipper (Label TupleRef) = position c.to_rightmost.new.editor in
    let after : list_after w.above ≡ [] = c.to_rightmost.ensures.behind ∙ ap (λ (y : Zipper (Label TupleRef)). list_after y.above) c.edit-editor.ensures.root in
    let less : place (get_or (items_of w.here) (length (items_of w.here) - 1) none) ≡ Less =
    rw (c.items.ensures, c.items-count.ensures) at (sym c.place.ensures.value ∙ is_lt-Less c.place.result (sym c.is_lt.ensures ∙ c.if-not-is_lt.false)) in
    let in_order : NeverFalls place (list (whole w)) = subst (λ (u : Tree (Label TupleRef)). NeverFalls place (list u)) (sym same) c.requires.in_order in
    gap-last place w in_order none some c.to_rightmost.ensures.open after less

pub returns-clause-none : goal.returns-clause-none
returns-clause-none g c = λ last.
    let at = goal.at.returns-clause-none g c in
    let d = at.After-to_rightmost in
    let w : Zipper (Label TupleRef) = position c.to_rightmost.new.editor in
    none_in_gap (tree_of c.args.nodes.now) w (same g d) (g.P.Probe.place c.args.probe.now) (length (items_of w.here)) (gap g at.Else-not-is_lt (same g d) (some g d))

pub returns-clause-list : goal.returns-clause-list
returns-clause-list g c =
    let at = goal.at.returns-clause-list g c in
    let d = at.After-to_rightmost in
    let place : TupleRef → Ordering = g.P.Probe.place c.args.probe.now in
    let w : Zipper (Label TupleRef) = position c.to_rightmost.new.editor in
    let n : ℕ = length c.items-count.result.now in
    let here : IsGap place w n = subst (λ (xs : List TupleRef). IsGap place w (length xs)) (sym c.items-count.ensures) (gap g at.Else-not-is_lt (same g d) (some g d)) in
    let after : list (tree_at c.put_at.new.editor) ≡ insert_placed place c.args.r (list (tree_of c.args.nodes.now)) =
    c.put_at.ensures.list ∙ sym (insert_placed_split place c.args.r (list_until n w) (list_from n w) here.below here.above)
    ∙ ap (λ (xs : List TupleRef). insert_placed place c.args.r xs) (sym (ap (λ (u : Tree (Label TupleRef)). list u) (sym (same g d)) ∙ list_cut n w)) in
    λ last. search (rules, after)
