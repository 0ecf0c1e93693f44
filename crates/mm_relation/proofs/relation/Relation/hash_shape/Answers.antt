use Rattle.std.proofs.Common.{◌∙◌, ap, length}
use Rattle.mm_relation.proofs.Searches.{hash_length}
use Rattle.mm_relation.proofs.relation.Relation.hash_shape.Goals as goal

pub returns-clause-rows : goal.returns-clause-rows
returns-clause-rows c = λ keys current.
    c.shape.ensures.told.items ∙ ap length c.hash.ensures.entries
    ∙ hash_length keys c.args.self.now c.a_relation_is_kept.ensures current c.args.column.0 c.requires
