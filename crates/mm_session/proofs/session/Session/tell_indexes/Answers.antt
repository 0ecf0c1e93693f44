use Rattle.std.proofs.Common.{subst}
use Rattle.mm_session.specs.IndexAnswers.{AnswersIndexes}
use Rattle.mm_session.specs.Sessions.{State}
use Rattle.mm_session.proofs.session.Session.tell_indexes.Goals as goal

pub returns : goal.returns
returns c =
    subst (λ (s : State). AnswersIndexes s.catalog c.args.name.now c.tell_indexes.new.answer) c.self.view_is
    (rw c.catalog.ensures at c.tell_indexes.ensures)
