use Rattle.std.proofs.Common.{subst}
use Rattle.plain_tables.specs.Spelling.{IsSymbol, Literal}
use Rattle.mm_lang.proofs.Fronts.{passed-error, begins-value, begins-no_value, no-literal}
use Rattle.mm_lang.proofs.items.ValueItem.read.Goals as goal

pub returns-in_err-value-clause-syntax : goal.returns-in_err-value-clause-syntax
returns-in_err-value-clause-syntax c = λ syntax.
    begins-no_value c.args.line.now
    (no-literal c.args.line.now c.split_lexeme.result.0.now c.split_lexeme.ensures.lexeme
    (c.in_err-value.ensures.syntax (passed-error c.from_residual.ensures.1 syntax)))

pub returns-clause-item : goal.returns-clause-item
returns-clause-item c =
    begins-value c.args.line.now c.split_lexeme.result.1.now c.in_ok-value.field-0
    (subst (λ w. IsSymbol w (Literal c.in_ok-value.field-0)) c.split_lexeme.ensures.lexeme c.in_ok-value.ensures.value) c.split_lexeme.ensures.after
