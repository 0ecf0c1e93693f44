use Rattle.mm_statements.proofs.NotedMeanings.{doubted-noted}
use Rattle.mm_statements.proofs.database.Database.share.Goals as goal

pub invariant_of-other : goal.invariant_of-other
invariant_of-other c =
    doubted-noted c.other.inside.held.session.database c.in_ok-held.held.session.database c.other.inside.noted c.doubt.new.self c.other.inside.statements c.doubt.ensures
    c.other.invariant
