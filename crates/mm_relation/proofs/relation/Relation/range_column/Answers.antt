use Rattle.mm_relation.proofs.Searches.{digits_of_32}
use Rattle.mm_relation.proofs.relation.Relation.range_column.Goals as goal

pub returns-clause-most_asked : goal.returns-clause-most_asked
returns-clause-most_asked g c = rw (c.tree.ensures, digits_of_32) at c.range.ensures.most_asked
