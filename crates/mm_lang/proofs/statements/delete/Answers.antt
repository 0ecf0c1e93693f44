use Rattle.std.proofs.Common.{map, arith, ap, ◌∙◌}
use Rattle.mm_lang.specs.Statements.{slot_symbol, condition_by}
use Rattle.mm_lang.proofs.Fronts.{passed-error}
use Rattle.mm_lang.proofs.StatementParts.{delete-done, written-back, delete-none}
use Rattle.mm_lang.proofs.statements.delete.Goals as goal

pub returns-in_err-table-clause-syntax : goal.returns-in_err-table-clause-syntax
returns-in_err-table-clause-syntax c = λ syntax of.
    delete-none c.args.line.now (c.in_err-table.ensures.syntax (passed-error c.from_residual.ensures.1 syntax) of)

pub returns-clause-statement : goal.returns-clause-statement
returns-clause-statement c =
    rw (written-back c.in_ok-table.conditions.len c.number_holes.new.items _ _ c.from_vec.ensures (omega (arith, c.as_mut_slice.ensures.len)))
    (delete-done c.args.line.now c.in_ok-table.table _ _ (c.number_holes.ensures.symbols ∙ ap (map (condition_by slot_symbol)) c.as_mut_slice.ensures.value)
    c.number_holes.ensures.numbers c.in_ok-table.ensures.parts)
