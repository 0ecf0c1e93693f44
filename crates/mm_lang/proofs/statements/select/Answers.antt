use Rattle.std.proofs.Common.{◌≡◌, rules, map, arith, ap, ◌∙◌}
use Rattle.mm_lang.specs.Statements.{slot_symbol, condition_by}
use Rattle.mm_lang.proofs.Fronts.{passed-error}
use Rattle.mm_lang.proofs.StatementParts.{select-done, written-back, select-none}
use Rattle.mm_lang.proofs.statements.select.Goals as goal

pub returns-in_err-distinct-clause-syntax : goal.returns-in_err-distinct-clause-syntax
returns-in_err-distinct-clause-syntax c = λ syntax of.
    select-none c.args.line.now (c.in_err-distinct.ensures.syntax (passed-error c.from_residual.ensures.1 syntax) of)

pub returns-clause-statement : goal.returns-clause-statement
returns-clause-statement c =
    let parts = c.in_ok-distinct.field-0 in
    let joined : c.from_vec.result ≡ parts.joins.items = search rules in
    let old : c.as_mut_slice.result.now ≡ parts.conditions.items = search rules in
    rw (joined, written-back c.in_ok-distinct.field-0.conditions.len c.number_holes.new.items _ _ c.from_vec-2.ensures (omega (arith, c.as_mut_slice.ensures.len)))
    (select-done c.args.line.now _ _ _ _ _ _ (c.number_holes.ensures.symbols ∙ ap (map (condition_by slot_symbol)) old)
    c.number_holes.ensures.numbers c.in_ok-distinct.ensures.parts)
