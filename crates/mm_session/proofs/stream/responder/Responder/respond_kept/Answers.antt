use Rattle.mm_session.proofs.stream.responder.Responder.respond_kept.Goals as goal

pub returns-clause-answers : goal.returns-clause-answers
returns-clause-answers c = λ line is has. c.respond.ensures.answers line (c.judged-line.ensures line is) has
