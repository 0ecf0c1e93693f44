use Rattle.std.proofs.Common.{◌∙◌, ap, length}
use Rattle.mm_relation.specs.State.{RowTree, tree_list}
use Rattle.mm_relation.proofs.Searches.{key_length, tree_length}
use Rattle.mm_relation.proofs.relation.Relation.tree_shape.Goals as goal

pub returns-clause-key : goal.returns-clause-key
returns-clause-key c = λ first.
    c.table_tree_shape.ensures.told.items ∙ ap (λ (t : RowTree). length (tree_list t)) c.tree.ensures
    ∙ key_length c.args.self.now c.a_relation_is_kept.ensures c.args.column.0 first

pub returns-clause-declared : goal.returns-clause-declared
returns-clause-declared c = λ keys current.
    c.table_tree_shape.ensures.told.items ∙ ap (λ (t : RowTree). length (tree_list t)) c.tree.ensures
    ∙ tree_length keys c.args.self.now c.a_relation_is_kept.ensures current c.args.column.0 c.requires
