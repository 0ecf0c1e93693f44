use Rattle.std.proofs.Common.{arith}
use Rattle.mm_relation.proofs.Searches.{most_of}
use Rattle.mm_relation.proofs.relation.Relation.walk_column.Goals as goal

pub returns-clause-most_asked : goal.returns-clause-most_asked
returns-clause-most_asked g c = omega (arith, c.walk_from.ensures.most_asked, most_of _ _ c.tree.ensures)
