use Rattle.std.proofs.Common.{◌≡◌, ◌+◌, ◌*◌, ◌∙◌, length, ap, sym, arith, lit<}
use Rattle.std.specs.Int.{div_ceil}
use Rattle.part_raw.specs.declared.tuple_ref.TupleRef.{TupleRef}
use Rattle.ttree_node.specs.Tree.{Tree, Label, list, size}
use Rattle.ttree_node.specs.TreeWithSpares.{TreeWithSpares}
use Rattle.ttree.specs.Held.{items_of_tree}
use Rattle.ttree.specs.Room.{nodes_for}
use Rattle.ttree.proofs.Ends.{items_in_each}
use Rattle.ttree.proofs.Heights.{few_nodes}
use Rattle.ttree.proofs.Occupancy.{nodes_for_is, room_reserved, room_grows}
use Rattle.ttree.proofs.tree.TTree.reserve.Given.{Over}
use Rattle.ttree.proofs.tree.TTree.reserve.Goals as goal
use Rattle.ttree.proofs.tree.TTree.reserve.Goals.{After-min-more}

pub reserve-requires : goal.reserve-requires
reserve-requires g c =
    let t = c.self.inside.tree.tree in
    let few = few_nodes g.row.MAX t (items_in_each g.row.MIN g.row.MAX t c.self.invariant.fit) in
    (lit< tt, omega (arith, few, c.requires, c.self.invariant.short, c.min-more.ensures, c.saturating_sub.ensures, c.if-more-gt0.true))

-- so many nodes suffice for all references
enough : (g : Over) (c : After-min-more g) → 1 + c.div_ceil-enough.result ≡ nodes_for g.row.MIN (length (items_of_tree c.self.inside.tree) + c.args.n)
enough g c =
    ap (λ k. 1 + k) c.div_ceil-enough.ensures ∙ ap (λ k. 1 + div_ceil (2 * (k + c.args.n)) g.row.MIN) c.self.invariant.counted ∙ sym (nodes_for_is g.row.MIN (length (items_of_tree c.self.inside.tree) + c.args.n))

pub returns-in_ok-reserve-clause-reserved : goal.returns-in_ok-reserve-clause-reserved
returns-in_ok-reserve-clause-reserved g c =
    let p = c.self.inside.tree in let q = c.reserve.new.self in
    let more = c.min-more.result in
    room_reserved g.row.MIN (size p.tree) (size q.tree) p.spares q.spares (length (items_of_tree p)) (length (items_of_tree q))
    (ap (λ (t : Tree (Label TupleRef)). size t) c.reserve.ensures.tree) (ap (λ (t : Tree (Label TupleRef)). length (list t)) c.reserve.ensures.tree) c.args.n more c.self.invariant.some
    (omega (arith, c.min-more.ensures, c.saturating_sub.ensures, c.saturating_sub-2.ensures, c.self.invariant.all_nodes, c.spares-spares.ensures, enough g (goal.at.returns-in_ok-reserve-clause-reserved g c).After-min-more))
    (omega (arith, c.in_ok-reserve.ensures.ok, c.spares-spares.ensures))

pub returns-in_ok-reserve-clause-room : goal.returns-in_ok-reserve-clause-room
returns-in_ok-reserve-clause-room g c =
    let p = c.args.self.now in let q = c.reserve.new.self in
    let tree : q.tree ≡ p.tree = c.reserve.ensures.tree ∙ ap (λ (r : TreeWithSpares). r.tree) c.self.view_is in
    room_grows g.row.MIN (size p.tree) (size q.tree) p.spares q.spares (length (items_of_tree p)) (length (items_of_tree q))
    (ap (λ (t : Tree (Label TupleRef)). size t) tree) (ap (λ (t : Tree (Label TupleRef)). length (list t)) tree)
    (omega (arith, c.in_ok-reserve.ensures.ok, ap (λ (r : TreeWithSpares). r.spares) c.self.view_is))

pub returns-in_ok-reserve-clause-nodes : goal.returns-in_ok-reserve-clause-nodes
returns-in_ok-reserve-clause-nodes g c =
    let p = c.args.self.now in let q = c.reserve.new.self in
    let tree : q.tree ≡ p.tree = c.reserve.ensures.tree ∙ ap (λ (r : TreeWithSpares). r.tree) c.self.view_is in
    let same = ap (λ (r : TreeWithSpares). nodes_for g.row.MIN (length (items_of_tree r) + c.args.n)) c.self.view_is in
    omega (
      arith,
      ap (λ (t : Tree (Label TupleRef)). size t) tree,
      ap (λ (r : TreeWithSpares). size r.tree) c.self.view_is,
      ap (λ (r : TreeWithSpares). r.spares) c.self.view_is,
      c.in_ok-reserve.ensures.ok,
      c.min-more.ensures,
      c.saturating_sub.ensures,
      c.saturating_sub-2.ensures,
      c.self.invariant.all_nodes,
      c.spares-spares.ensures,
      enough g (goal.at.returns-in_ok-reserve-clause-nodes g c).After-min-more,
      same,
      c.if-more-gt0.true,
    )

pub returns-else-more-gt0-clause-reserved : goal.returns-else-more-gt0-clause-reserved
returns-else-more-gt0-clause-reserved g c =
    let p = c.self.inside.tree in let q = c.args.self.now in
    let more = c.min-more.result in
    room_reserved g.row.MIN (size p.tree) (size q.tree) p.spares q.spares (length (items_of_tree p)) (length (items_of_tree q))
    (ap (λ (r : TreeWithSpares). size r.tree) (sym c.self.view_is)) (ap (λ (r : TreeWithSpares). length (items_of_tree r)) (sym c.self.view_is)) c.args.n more c.self.invariant.some
    (omega (arith, c.min-more.ensures, c.saturating_sub.ensures, c.saturating_sub-2.ensures, c.self.invariant.all_nodes, c.spares-spares.ensures, enough g (goal.at.returns-else-more-gt0-clause-reserved g c).After-min-more))
    (omega (arith, ap (λ (r : TreeWithSpares). r.spares) c.self.view_is, c.if-more-gt0.false))
