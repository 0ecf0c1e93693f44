use Rattle.std.proofs.Common.{Ok, ap, sym}
use Rattle.mm_statements.proofs.NotedMeanings.{doubted-noted, noted-stays}
use Rattle.mm_statements.proofs.database.Database.rollback.Goals as goal

pub invariant_of-self-then-not-kept : goal.invariant_of-self-then-not-kept
invariant_of-self-then-not-kept c =
    doubted-noted c.self.inside.held.session.database c.rollback.new.self.session.database c.self.inside.noted c.doubt.new.self c.self.inside.statements c.doubt.ensures
    c.self.invariant

pub invariant_of-self-else-not-kept : goal.invariant_of-self-else-not-kept
invariant_of-self-else-not-kept c =
    noted-stays c.self.inside.held.session.database c.rollback.new.self.session.database c.self.inside.noted c.self.inside.statements
    (sym (c.in_ok-kept.ensures.tables (ap Ok c.if-not-kept.false))) c.self.invariant
