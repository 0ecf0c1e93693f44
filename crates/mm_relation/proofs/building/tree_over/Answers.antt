use Rattle.std.proofs.Common.{◌≡◌, length, ap, arith}
use Rattle.std.proofs.lemmas.Result.{IfOk-weaker}
use Rattle.ttree_node.specs.TreeWithSpares.{TreeWithSpares}
use Rattle.ttree.specs.Held.{items_of_tree}
use Rattle.mm_index.proofs.Bags.{length-same_bag}
use Rattle.mm_relation.specs.State.{TreeServes}
use Rattle.mm_relation.proofs.building.tree_over.Goals as goal

pub tree_of-requires : goal.tree_of-requires
tree_of-requires g c =
    let same : length c.in_ok-refs.refs.items ≡ length (items_of_tree c.args.by_key.now) = length-same_bag _ _ c.in_ok-refs.ensures.bag in
    let read : length c.as_slice.result.now ≡ length c.in_ok-refs.refs.items = ap length c.as_slice.ensures.value in
    omega (arith, c.requires.keyed.lists.count, c.requires.few)

pub returns : goal.returns
returns g c = record {
  serves =
      let keys = g.R.LinkedKeys.keys c.args.others.now in
      let list = items_of_tree c.args.by_key.now in
      IfOk-weaker c.tree_of.result (λ (t : TreeWithSpares). items_of_tree t ≡ c.as_slice.result.now) (λ (t : TreeWithSpares). TreeServes keys c.args.rows.now.tuples list (c.args.column.0, t.tree))
      (λ t items. record {
        bag = rw (items, c.as_slice.ensures.value) c.in_ok-refs.ensures.bag;
        rising = rw (items, c.as_slice.ensures.value) c.in_ok-refs.ensures.rising;
      })
      c.tree_of.ensures;
}
