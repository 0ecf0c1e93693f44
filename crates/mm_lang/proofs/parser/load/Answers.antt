use Rattle.std.proofs.Common.{[], ◌∷◌, sym}
use Rattle.plain_tables.specs.Spelling.{Name, Count}
use Rattle.plain_tables.specs.declared.command.Command.TheVariants.{Load}
use Rattle.mm_lang.proofs.Productions.{behind-symbol, symbols-behind, completed, load-only}
use Rattle.mm_lang.proofs.parser.load.Goals as goal

pub returns-in_err-bytes-clause-syntax : goal.returns-in_err-bytes-clause-syntax
returns-in_err-bytes-clause-syntax c = λ _.
    load-only c.args.line.now (λ table bytes whole. c.in_err-bytes.ensures bytes (symbols-behind _ _ (Name table) (Count bytes ∷ []) c.in_ok-table.ensures.name.2 whole))

pub returns-clause-command : goal.returns-clause-command
returns-clause-command c =
    completed c.args.line.now (Load c.in_ok-table.table c.in_ok-bytes.bytes) tt
    (behind-symbol c.args.line.now _ (Name c.in_ok-table.table) (Count c.in_ok-bytes.bytes ∷ []) (sym c.in_ok-table.ensures.name.1, rw c.in_ok-table.ensures.name.1 c.in_ok-table.ensures.name.0)
    c.in_ok-table.ensures.name.2 c.in_ok-bytes.ensures)
