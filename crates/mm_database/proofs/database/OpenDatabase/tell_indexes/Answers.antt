use Rattle.std.proofs.Common.{refl, subst}
use Rattle.mm_session.specs.IndexAnswers.{AnswersIndexes}
use Rattle.mm_session.specs.Sessions.{State}
use Rattle.mm_database.proofs.database.OpenDatabase.tell_indexes.Goals as goal

pub returns : goal.returns
returns c = record {
  inner = refl;
  answer = subst (λ (s : State). AnswersIndexes s.catalog c.args.name.now c.tell_indexes.new.answer) c.session.ensures c.tell_indexes.ensures;
  rows = record { shown = refl; queried = refl; columns = refl };
  reason = refl;
}
