use Rattle.std.proofs.Common.{◌∙◌, sym}
use Rattle.mm_session.proofs.AnswerTexts.{answer_text-one}
use Rattle.mm_session.proofs.answer.Answer.tell_changed.Goals as goal

pub returns-then-count-eq1 : goal.returns-then-count-eq1
returns-then-count-eq1 c = rw c.if-count-eq1.true (c.set.ensures ∙ sym answer_text-one)
