use Rattle.mm_lang.proofs.Fronts.{passed-error}
use Rattle.mm_lang.proofs.SlotFronts.{begins-no_slot}
use Rattle.mm_lang.proofs.slots.SlotItemImpl.read.Goals as goal

pub returns-in_err-value-clause-syntax : goal.returns-in_err-value-clause-syntax
returns-in_err-value-clause-syntax c = λ syntax.
    begins-no_slot c.args.line.now _ _ c.eq.result c.split_lexeme.ensures.lexeme c.if-eq.false c.eq.ensures c.as_slice.ensures
    (c.in_err-value.ensures.syntax (passed-error c.from_residual.ensures.1 syntax))
