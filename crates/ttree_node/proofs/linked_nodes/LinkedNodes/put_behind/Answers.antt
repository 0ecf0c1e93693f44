use Rattle.std.proofs.Common.{◌∙◌, ◌+◌, ◌++◌, ◌≤◌, sym, subst, length, List, Result, Ok, Err, IsOk, OnOk}
use Rattle.part_raw.specs.declared.tuple_ref.TupleRef.{TupleRef}
use Rattle.ttree_node.specs.Held.{set_node}
use Rattle.ttree_node.specs.Lends.{with_node}
use Rattle.ttree_node.specs.Tree.{with_items}
use Rattle.ttree_node.specs.Seen.{position_at}
use Rattle.ttree_node.proofs.Relabels.{Now, now_whole, reitemed}
use Rattle.ttree_node.proofs.Visit.{visit, items_seen}
use Rattle.ttree_node.proofs.linked_nodes.LinkedNodes.put_behind.Given.{Over}
use Rattle.ttree_node.proofs.linked_nodes.LinkedNodes.put_behind.Goals as goal

-- What holds at `Ok` holds of a result that is `Ok`.
at_ok : {T E P : Type 0} (r : Result T E) → IsOk r → OnOk r P → P
at_ok (Ok x) is p = p
at_ok (Err e) is p = absurd (cc)

now : (g : Over) (c : goal.After-self-1 g)
    → Now (record c.self.inside.parts { nodes = with_node c.self.inside.parts.nodes c.unwrap.result.at (record c.get_mut-node.result.now { items = c.try_extend_from_slice-fits.new.self }) }) c.args.place
    (with_items (c.get_mut-node.result.now.items.items ++ c.args.items.now) (position_at c.args.self.now c.args.place))
now g c =
    let n = c.get_mut-node.result.now in let q = c.unwrap.result.at in
    let v = visit c.args.self.now c.self.inside.parts c.self.view_is c.self.invariant c.args.place c.unwrap.result c.unwrap.ensures c.requires.placed n c.get_mut-node.ensures.value in
    let e = c.try_extend_from_slice-fits.ensures in
    let there = at_ok c.try_extend_from_slice-fits.result (e.variant.1 (subst (λ (xs : List TupleRef). length xs + length c.args.items.now ≤ g.row.MAX) (sym (items_seen c.args.self.now c.args.place n v)) c.requires.room)) e.ok in
    reitemed c.args.self.now _ c.args.place n v (λ i. (c.self.view_is i).root) (λ i. (c.self.view_is i).free) (λ i. (c.self.view_is i).spares) q c.unwrap.ensures (n.items.items ++ c.args.items.now)
    (λ i. set_node q (record n { items = record { items = there i } }) (c.self.view_is i).nodes.held)

pub invariant_of-self : goal.invariant_of-self
invariant_of-self g c = (now g c).sound

pub returns-clause-placed : goal.returns-clause-placed
returns-clause-placed g c = (now g c).placed

pub returns-clause-items : goal.returns-clause-items
returns-clause-items g c =
    let n = c.get_mut-node.result.now in
    let v = visit c.args.self.now c.self.inside.parts c.self.view_is c.self.invariant c.args.place c.unwrap.result c.unwrap.ensures c.requires.placed n c.get_mut-node.ensures.value in
    (now g c).position ∙ (λ i. with_items (items_seen c.args.self.now c.args.place n v i ++ c.args.items.now) (position_at c.args.self.now c.args.place))

pub returns-clause-tree : goal.returns-clause-tree
returns-clause-tree g c = now_whole _ _ _ (now g c)
