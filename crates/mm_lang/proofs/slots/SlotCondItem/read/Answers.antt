use Rattle.std.proofs.Common.{refl}
use Rattle.mm_lang.specs.Parsing.{compared_symbols}
use Rattle.mm_lang.specs.Statements.{slot_symbol, slot_by, condition_by}
use Rattle.mm_lang.proofs.Fronts.{passed-error, begins-as, begins-none_as}
use Rattle.mm_lang.proofs.slots.SlotCondItem.read.Goals as goal

pub returns-in_err-column-clause-syntax : goal.returns-in_err-column-clause-syntax
returns-in_err-column-clause-syntax c = λ syntax.
    begins-none_as (compared_symbols (slot_by slot_symbol)) (condition_by slot_symbol) (λ x. (x.column, x.op, x.slot)) (λ x. refl) c.args.line.now
    (c.in_err-column.ensures.syntax (passed-error c.from_residual.ensures.1 syntax))

pub returns-clause-item : goal.returns-clause-item
returns-clause-item c =
    begins-as (compared_symbols (slot_by slot_symbol)) (condition_by slot_symbol) (λ x. (x.column, x.op, x.slot)) (λ x. refl) c.args.line.now
    (record { column = c.in_ok-column.column; op = c.in_ok-column.op; slot = c.in_ok-column.slot }) c.in_ok-column.line.now
    c.in_ok-column.ensures.item
