use Rattle.std.proofs.Common.{arith}
use Rattle.mm_relation.proofs.Searches.{digits_of_32}
use Rattle.mm_relation.proofs.relation.Relation.find.Goals as goal

pub returns-clause-most_asked : goal.returns-clause-most_asked
returns-clause-most_asked g c = rw (← c.self.view_is) (omega (arith, c.find.ensures.most_asked, digits_of_32))
