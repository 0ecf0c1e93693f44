use Rattle.std.proofs.Common.{Some, get_or}
use Rattle.mm_relation.specs.State.{tree_list, no_keys}
use Rattle.mm_relation.proofs.Placing.{NeverFalls-value}
use Rattle.mm_relation.proofs.KeyOrder.{key_readable}
use Rattle.mm_relation.proofs.relation.Relation.key_search.Goals as goal

pub returns-clause-placed : goal.returns-clause-placed
returns-clause-placed c =
    rw (← c.self.view_is)
    (λ k d l. key_readable c.self.inside.rows.tuples (get_or (tree_list c.self.inside.by_key.tree) k d) (c.self.invariant.0.keyed.lists.held k d l))

pub returns-clause-in_order : goal.returns-clause-in_order
returns-clause-in_order c =
    rw (← c.self.view_is)
    (NeverFalls-value no_keys 0 c.self.inside.rows.tuples (Some c.args.key.now) (tree_list c.self.inside.by_key.tree) c.self.invariant.0.keyed.rising)
