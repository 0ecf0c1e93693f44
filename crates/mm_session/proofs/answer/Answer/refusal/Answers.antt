use Rattle.std.proofs.Common.{◌≡◌, ◌++◌, Some, sym, ◌∙◌}
use Rattle.std.proofs.lemmas.Bool.Decides.{Decides-eqb}
use Rattle.std.proofs.lemmas.Slice.Eq.{strip_prefix_is}
use lib.Chars.{codes}
use Rattle.mm_session.proofs.Refused.{tells-error, number-of_digits}
use Rattle.mm_session.proofs.answer.Answer.refusal.Goals as goal

pub returns-in-len2-up : goal.returns-in-len2-up
returns-in-len2-up c =
    let words = c.in-Some.words.now in
    let begins : c.deref.result.now ≡ codes "error " ++ words =
    strip_prefix_is Decides-eqb c.deref.result.now (codes "error ") (Some c.in-Some.words) c.in-Some.ensures.cases in
    tells-error c.args.self.now words c.two_digits.result (sym c.self.view_is ∙ sym c.deref.ensures.value ∙ begins)
    (λ r rest is. c.two_digits.ensures ∙ number-of_digits words r rest is)
