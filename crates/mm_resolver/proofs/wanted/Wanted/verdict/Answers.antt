use Rattle.std.proofs.Common.{◌∙◌, sym}
use Rattle.mm_resolver.proofs.Answered.{late-passed, late-refused}
use Rattle.mm_resolver.proofs.wanted.Wanted.verdict.Goals as goal

pub returns-in-Some : goal.returns-in-Some
returns-in-Some c = λ needs late asked last.
    rw (sym asked.wrong ∙ c.if-self.false, sym asked.past ∙ c.if-self-2.false) (sym (late-refused late c.in-Some.refusal (sym c.in-Some.is ∙ last)))

pub returns-in-None : goal.returns-in-None
returns-in-None c = λ needs late asked last.
    rw (sym asked.wrong ∙ c.if-self.false, sym asked.past ∙ c.if-self-2.false) (sym (late-passed late (sym c.in-None.is ∙ last)))
