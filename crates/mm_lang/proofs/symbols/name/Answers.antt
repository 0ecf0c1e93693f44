use Rattle.std.proofs.Common.{List, ℕ, refl, sym, ◌∙◌, Result, Ok, Err}
use Rattle.std.specs.Str.{IsUtf8, IsValidUpTo, valid_up_to}
use Rattle.std.specs.declared.str.Utf8Error.{Utf8Error}
use denote.Bor.{Bor}
use Rattle.std.specs.Result.{IsOk, MatchResult}
use Rattle.std.proofs.Common.{◌≡◌}
use Rattle.mm_lang.proofs.Fronts.{name-utf8}
use Rattle.mm_lang.proofs.symbols.name.Goals as goal

utf8-ok : (bs : List ℕ) (r : Result (Bor (List ℕ)) Utf8Error)
    → MatchResult r (λ s. (s.now ≡ bs) × IsUtf8 bs) (λ e. (IsUtf8 bs → ⊥) × IsValidUpTo bs (valid_up_to e)) → IsUtf8 bs → IsOk r
utf8-ok bs (Ok s) cases utf8 = refl
utf8-ok bs (Err e) cases utf8 = absurd (cases.0 utf8)

pub unwrap-text-requires : goal.unwrap-text-requires
unwrap-text-requires c =
    utf8-ok c.split_lexeme.result.0.now c.from_utf8.result c.from_utf8.ensures.cases
    (name-utf8 c.split_lexeme.result.0.now (sym c.is_whole_name.ensures ∙ c.if-not-is_whole_name.false))
