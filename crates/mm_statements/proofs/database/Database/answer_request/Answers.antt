use Rattle.mm_statements.proofs.NotedMeanings.{doubted-noted}
use Rattle.mm_statements.proofs.Requests.{answered-noted, declares-none}
use Rattle.mm_statements.proofs.database.Database.answer_request.Goals as goal

pub invariant_of-self-then-may_declare : goal.invariant_of-self-then-may_declare
invariant_of-self-then-may_declare c =
    doubted-noted c.self.inside.held.session.database c.answer_request.new.self.session.database c.self.inside.noted c.doubt.new.self c.self.inside.statements
    c.doubt.ensures c.self.invariant

pub returns-then-may_declare-clause-run : goal.returns-then-may_declare-clause-run
returns-then-may_declare-clause-run c = rw (← c.self.view_is) c.in_ok-answer_request.ensures.run

-- A request that declares and drops no table leaves names and columns, and what is noted stays so.
pub invariant_of-self-else-may_declare : goal.invariant_of-self-else-may_declare
invariant_of-self-else-may_declare c =
    answered-noted c.self.inside.held.session.limits c.self.inside.held.session.database _ _ c.answer_request.new.self.session.database c.self.inside.noted
    c.self.inside.statements c.in_ok-answer_request.ensures.ok.answers
    (declares-none c.args.line.now c.args.block.now c.may_declare.result c.may_declare.ensures c.if-may_declare.false) c.self.invariant

pub returns-else-may_declare-clause-run : goal.returns-else-may_declare-clause-run
returns-else-may_declare-clause-run c = rw (← c.self.view_is) c.in_ok-answer_request.ensures.run
