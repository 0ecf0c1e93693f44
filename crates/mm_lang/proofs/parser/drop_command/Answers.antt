use Rattle.mm_lang.proofs.Fronts.{passed-error}
use Rattle.std.proofs.Common.{[], ◌∷◌, refl, sym, ◌∙◌}
use lib.Chars.{codes}
use Rattle.plain_tables.specs.Spelling.{Keyword, Name, index_symbols}
use Rattle.plain_tables.specs.declared.command.Command.TheVariants.{DropTable, DropIndex}
use Rattle.plain_tables.proofs.FirstWords.{different}
use Rattle.mm_lang.proofs.Productions.{behind-symbol, symbols-behind, completed, drop-only}
use Rattle.mm_lang.proofs.parser.drop_command.Goals as goal

pub returns-in_err-table-clause-syntax : goal.returns-in_err-table-clause-syntax
returns-in_err-table-clause-syntax c = λ syntax.
    drop-only c.args.line.now
    (λ table whole. c.in_err-table.ensures.syntax (passed-error c.from_residual.ensures.1 syntax) table (symbols-behind _ _ (Keyword (codes "table")) (Name table ∷ []) c.in-Some.ensures.1 whole))
    (λ table column k whole. different (codes "table") (codes "index") refl (sym c.in-Some.ensures.0 ∙ whole.1.0))

pub returns-in-Some-clause-command : goal.returns-in-Some-clause-command
returns-in-Some-clause-command c =
    completed c.args.line.now (DropTable c.in_ok-table.table) tt
    (behind-symbol c.args.line.now _ (Keyword (codes "table")) (Name c.in_ok-table.table ∷ []) c.in-Some.ensures.0 c.in-Some.ensures.1 c.in_ok-table.ensures.name)

pub returns-in_err-table-2-clause-syntax : goal.returns-in_err-table-2-clause-syntax
returns-in_err-table-2-clause-syntax c = λ syntax.
    drop-only c.args.line.now (λ table whole. c.in_default.ensures whole.1.0)
    (λ table column k whole. c.in_err-table-2.ensures.syntax (passed-error c.from_residual-in_err-table-2.ensures.1 syntax) table column k
    (symbols-behind _ _ (Keyword (codes "index")) (index_symbols table column k) c.in_ok-front.ensures.1 whole))

pub returns-clause-command : goal.returns-clause-command
returns-clause-command c =
    let t = c.in_ok-table-2 in
    completed c.args.line.now (DropIndex t.table t.column t.kind) tt
    (behind-symbol c.args.line.now _ (Keyword (codes "index")) (index_symbols t.table t.column t.kind) c.in_ok-front.ensures.0 c.in_ok-front.ensures.1 c.in_ok-table-2.ensures.parts)
