use Rattle.std.proofs.Common.{◌≡◌, ◌∷◌, None, Some, sym, ◌∙◌, arith}
use Rattle.std.proofs.lemmas.Str.Pattern.{strip_prefix_char, strip_suffix_char}
use Rattle.mm_lang.proofs.Marks.{ok-text, both-marks}
use Rattle.mm_lang.proofs.texts.between_marks.Goals as goal

pub returns-in_err-behind : goal.returns-in_err-behind
returns-in_err-behind c =
    let same : c.in_ok-literal.literal.now ≡ c.args.characters.now =
    ok-text c.args.characters.now c.from_utf8.result c.in_ok-literal.literal c.from_utf8.ensures.cases (sym c.ok.ensures.value ∙ c.in_ok-literal.was) in
    let none = strip_prefix_char 39 c.in_ok-literal.literal.now None c.in_err-behind.ensures.cases (omega arith) in
    rw c.from_residual-in_err-behind.ensures (λ utf8 inner e. none _ (same ∙ e))

pub returns : goal.returns
returns c =
    let same : c.in_ok-literal.literal.now ≡ c.args.characters.now =
    ok-text c.args.characters.now c.from_utf8.result c.in_ok-literal.literal c.from_utf8.ensures.cases (sym c.ok.ensures.value ∙ c.in_ok-literal.was) in
    let first : c.in_ok-literal.literal.now ≡ 39 ∷ c.in_ok-behind.behind.now =
    strip_prefix_char 39 c.in_ok-literal.literal.now (Some c.in_ok-behind.behind) c.in_ok-behind.ensures.cases (omega arith) in
    both-marks c.args.characters.now c.in_ok-behind.behind.now c.strip_suffix.result (sym same ∙ first)
    (strip_suffix_char 39 c.in_ok-behind.behind.now c.strip_suffix.result c.strip_suffix.ensures.cases (omega arith))
