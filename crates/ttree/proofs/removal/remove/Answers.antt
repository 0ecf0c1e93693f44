use Rattle.std.specs.declared.cmp.Ordering.TheVariants.{Equal}
use Rattle.std.proofs.Common.{◌≡◌, ◌≢◌, ◌∙◌, ◌+◌, List, ◌∷◌, ◌++◌, length, get_or, All, ap, subst, sym, lit<, arith, rules, length-append}
use Rattle.part_raw.specs.declared.tuple_ref.TupleRef.{TupleRef}
use Rattle.std.specs.List.{Contains}
use Rattle.std.proofs.lemmas.List.Elements.{All-contains}
use Rattle.mm_index.specs.Order.{IsRising, remove_by}
use Rattle.mm_index.specs.Range.{NeverFalls}
use Rattle.mm_index.proofs.Placed.{cmp_itself}
use Rattle.ttree_node.specs.Tree.{Tree, Zipper, Label, is_root, whole, list, items_of, list_until, list_from}
use Rattle.ttree_node.specs.Editor.{position, tree_at}
use Rattle.ttree_node.specs.Seen.{tree_of}
use Rattle.ttree.specs.Shape.{HasItemsInEach}
use Rattle.ttree.specs.Searching.{IsHitIn, IsGap}
use Rattle.ttree.proofs.Ends.{items_in_each, held_here, none_in_gap}
use Rattle.ttree.proofs.Ordered.{NeverFalls-by_order}
use Rattle.ttree.proofs.Removed.{held_node, list_item, list_without, remove_by_rising}
use Rattle.ttree.proofs.removal.remove.Given.{Over}
use Rattle.ttree.proofs.removal.remove.Goals as goal
use Rattle.ttree.proofs.removal.remove.Goals.{After-locate_to_edit}

pub locate_to_edit-requires : goal.locate_to_edit-requires
locate_to_edit-requires g c =
    let z : Zipper (Label TupleRef) = position c.edit-editor.result in
    let seen = ap (λ (y : Zipper (Label TupleRef)). whole y) (sym c.edit-editor.ensures.root) in
    let top = ap (λ (y : Zipper (Label TupleRef)). is_root y.above) c.edit-editor.ensures.root in
    let covers = g.O.TupleOrder.covers c.args.probe.now.order.now in
    let cmp = g.O.TupleOrder.cmp c.args.probe.now.order.now in
    let held : Contains (list (whole z)) c.args.probe.now.sought = subst (λ (t : Tree (Label TupleRef)). Contains (list t) c.args.probe.now.sought) seen c.requires.held in
    let covered : All covers (list (whole z)) = subst (λ (t : Tree (Label TupleRef)). All covers (list t)) seen c.requires.covered in
    let rising : IsRising cmp (list (whole z)) = subst (λ (t : Tree (Label TupleRef)). IsRising cmp (list t)) seen c.requires.rising in
    let r_covered : covers c.args.probe.now.sought = All-contains covers (list (whole z)) c.args.probe.now.sought covered held in
    let in_order : NeverFalls (λ q. cmp q c.args.probe.now.sought) (list (whole z)) =
    NeverFalls-by_order covers cmp (g.met.O.TupleOrder.is_strict c.args.probe.now.order.now c.requires.sound) c.args.probe.now.sought (list (whole z)) covered r_covered rising in
    let known : cmp c.sought-sought.result c.args.probe.now.sought ≡ Equal =
    rw c.sought-sought.ensures (cmp_itself covers cmp (g.met.O.TupleOrder.is_strict c.args.probe.now.order.now c.requires.sound) c.args.probe.now.sought r_covered) in (
      lit< tt,
      (
        top,
        (
          held_node z c.args.probe.now.sought top held,
          (
            subst (λ (t : Tree (Label TupleRef)). HasItemsInEach g.row.MAX t) seen (items_in_each g.row.MIN g.row.MAX (tree_of c.args.nodes.now) c.requires.fit),
            (
              (c.requires.sound, r_covered),
              (covered, (in_order, known)),
            ),
          ),
        ),
      ),
    )

same : (g : Over) (c : After-locate_to_edit g) → whole (position c.locate_to_edit.new.editor) ≡ tree_of c.args.nodes.now
same g c = c.locate_to_edit.ensures.whole ∙ ap (λ (y : Zipper (Label TupleRef)). whole y) c.edit-editor.ensures.root

pub unreachable-requires : goal.unreachable-requires
unreachable-requires g c =
    let around = same g (goal.at.unreachable-requires g c).After-locate_to_edit in
    let w : Zipper (Label TupleRef) = position c.locate_to_edit.new.editor in
    let covers = g.O.TupleOrder.covers c.args.probe.now.order.now in
    let cmp = g.O.TupleOrder.cmp c.args.probe.now.order.now in
    let xs : List TupleRef = list (tree_of c.args.nodes.now) in
    let gap : IsGap (λ q. cmp q c.args.probe.now.sought) w c.in-Err.field-0 = c.in-Err.ensures.gap in
    All-contains (λ q. cmp q c.args.probe.now.sought ≢ Equal) xs c.args.probe.now.sought (none_in_gap (tree_of c.args.nodes.now) w around (λ q. cmp q c.args.probe.now.sought) c.in-Err.field-0 gap) c.requires.held
    (cmp_itself covers cmp (g.met.O.TupleOrder.is_strict c.args.probe.now.order.now c.requires.sound) c.args.probe.now.sought (All-contains covers xs c.args.probe.now.sought c.requires.covered c.requires.held))

pub returns-clause-list : goal.returns-clause-list
returns-clause-list g c =
    let around = same g (goal.at.returns-clause-list g c).After-locate_to_edit in
    let w : Zipper (Label TupleRef) = position c.locate_to_edit.new.editor in
    let covers = g.O.TupleOrder.covers c.args.probe.now.order.now in
    let cmp = g.O.TupleOrder.cmp c.args.probe.now.order.now in
    let strict = g.met.O.TupleOrder.is_strict c.args.probe.now.order.now c.requires.sound in
    let i = c.in-Ok.index in
    let xs : List TupleRef = list (tree_of c.args.nodes.now) in
    let bs : List TupleRef = list_until i w in let cs : List TupleRef = list_from (i + 1) w in
    let hit : IsHitIn (λ q. cmp q c.args.probe.now.sought) (items_of w.here) i = c.in-Ok.ensures.hit in
    let q : TupleRef = get_or (items_of w.here) i c.args.probe.now.sought in
    let held = held_here (tree_of c.args.nodes.now) w around i c.args.probe.now.sought hit.index in
    let is_r : q ≡ c.args.probe.now.sought = strict.strict q c.args.probe.now.sought (All-contains covers xs q c.requires.covered held) (All-contains covers xs c.args.probe.now.sought c.requires.covered c.requires.held) (hit.equal c.args.probe.now.sought) in
    let is : xs ≡ bs ++ c.args.probe.now.sought ∷ cs = ap (λ (t : Tree (Label TupleRef)). list t) (sym around) ∙ list_item i w c.args.probe.now.sought hit.index ∙ (λ j. bs ++ is_r j ∷ cs) in
    let gone : remove_by cmp c.args.probe.now.sought (bs ++ c.args.probe.now.sought ∷ cs) ≡ bs ++ cs =
    remove_by_rising covers cmp strict c.args.probe.now.sought bs cs (subst (λ (ys : List TupleRef). All covers ys) is c.requires.covered) (subst (λ (ys : List TupleRef). IsRising cmp ys) is c.requires.rising) in
    let after : list (tree_at c.take_out.new.editor) ≡ remove_by cmp c.args.probe.now.sought xs =
    c.take_out.ensures.list ∙ list_without i w hit.index ∙ sym gone ∙ ap (λ (ys : List TupleRef). remove_by cmp c.args.probe.now.sought ys) (sym is) in
    search (rules, after)

pub returns-clause-one : goal.returns-clause-one
returns-clause-one g c =
    let around = same g (goal.at.returns-clause-one g c).After-locate_to_edit in
    let w : Zipper (Label TupleRef) = position c.locate_to_edit.new.editor in
    let cmp = g.O.TupleOrder.cmp c.args.probe.now.order.now in
    let i = c.in-Ok.index in
    let bs : List TupleRef = list_until i w in let cs : List TupleRef = list_from (i + 1) w in
    let hit : IsHitIn (λ q. cmp q c.args.probe.now.sought) (items_of w.here) i = c.in-Ok.ensures.hit in
    let q : TupleRef = get_or (items_of w.here) i c.args.probe.now.sought in
    let old : length (list (tree_of c.args.nodes.now)) ≡ length (bs ++ q ∷ cs) = ap (λ (t : Tree (Label TupleRef)). length (list t)) (sym around) ∙ ap (λ (ys : List TupleRef). length ys) (list_item i w c.args.probe.now.sought hit.index) in
    let new : length (list (tree_at c.take_out.new.editor)) ≡ length (bs ++ cs) = ap (λ (ys : List TupleRef). length ys) (c.take_out.ensures.list ∙ list_without i w hit.index) in
    let after : length (list (tree_at c.take_out.new.editor)) + 1 ≡ length (list (tree_of c.args.nodes.now)) = omega (arith, old, new, length-append bs (q ∷ cs), length-append bs cs) in
    search (rules, after)
