use Rattle.mm_statements.proofs.NotedMeanings.{doubted-noted}
use Rattle.mm_statements.proofs.database.Database.leave.Goals as goal

pub invariant_of-self-2 : goal.invariant_of-self-2
invariant_of-self-2 c =
    doubted-noted c.self.inside.held.session.database c.leave.new.self.session.database c.self.inside.noted c.doubt.new.self c.self.inside.statements c.doubt.ensures
    c.self.invariant
