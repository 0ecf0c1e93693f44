use Rattle.mm_lang.proofs.Fronts.{passed-error}
use Rattle.mm_lang.proofs.Selects.{no-items, no-from}
use Rattle.mm_lang.proofs.parser.select_parts.Goals as goal

pub returns-in_err-items-clause-syntax : goal.returns-in_err-items-clause-syntax
returns-in_err-items-clause-syntax g c = λ syntax of.
    no-items g.C.Item.symbols c.args.line.now _ _ c.distinct-distinct.ensures
    (c.in_err-items.ensures.syntax (passed-error c.from_residual.ensures.1 syntax)) of

pub returns-in_err-table-clause-syntax : goal.returns-in_err-table-clause-syntax
returns-in_err-table-clause-syntax g c = λ syntax of.
    no-from g.C.Item.symbols c.args.line.now _ _ _ _ c.distinct-distinct.ensures c.in_ok-items.ensures.items of
    (c.in_err-table.ensures.syntax (passed-error c.from_residual-in_err-table.ensures.1 syntax))

pub returns-clause-parts : goal.returns-clause-parts
returns-clause-parts g c = record {
  some = c.in_ok-items.ensures.items.some;
  front = c.distinct-distinct.result.1.now;
  begins = c.distinct-distinct.ensures.found;
  behind = c.in_ok-items.rest.now;
  found = c.in_ok-items.ensures.items.found;
  tail = c.in_ok-table.ensures.parts;
}
