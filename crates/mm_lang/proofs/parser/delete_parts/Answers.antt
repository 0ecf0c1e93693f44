use Rattle.std.proofs.Common.{sym}
use Rattle.plain_tables.specs.Spelling.{Name}
use Rattle.mm_lang.proofs.Fronts.{passed-error}
use Rattle.mm_lang.proofs.Productions.{behind-symbol, no-tail_of_delete}
use Rattle.mm_lang.proofs.parser.delete_parts.Goals as goal

pub returns-in_err-conditions-clause-syntax : goal.returns-in_err-conditions-clause-syntax
returns-in_err-conditions-clause-syntax g c = λ syntax of.
    no-tail_of_delete g.C.Item.symbols c.args.line.now _ c.in_ok-table.ensures.name.2 of
    (c.in_err-conditions.ensures.syntax (passed-error c.from_residual-in_err-conditions.ensures.1 syntax))

pub returns-clause-parts : goal.returns-clause-parts
returns-clause-parts g c =
    behind-symbol c.args.line.now _ (Name c.in_ok-table.table) _ (sym c.in_ok-table.ensures.name.1, rw c.in_ok-table.ensures.name.1 c.in_ok-table.ensures.name.0)
    c.in_ok-table.ensures.name.2 c.in_ok-conditions.ensures.conditions
