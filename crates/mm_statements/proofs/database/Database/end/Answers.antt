use Rattle.mm_statements.proofs.NotedMeanings.{doubted-noted}
use Rattle.mm_statements.proofs.database.Database.end.Goals as goal

pub invariant_of-self : goal.invariant_of-self
invariant_of-self g c =
    doubted-noted c.self.inside.held.session.database c.end-ended.new.self.session.database c.self.inside.noted c.doubt.new.self c.self.inside.statements c.doubt.ensures
    c.self.invariant

pub returns-clause-ok : goal.returns-clause-ok
returns-clause-ok g c = rw (← c.self.view_is) c.end-ended.ensures.ok

pub returns-clause-write : goal.returns-clause-write
returns-clause-write g c = rw (← c.self.view_is) c.end-ended.ensures.write
