use Rattle.mm_lang.proofs.parser.command.Goals as goal

pub returns-in-Delete-clause-syntax : goal.returns-in-Delete-clause-syntax
returns-in-Delete-clause-syntax c = rw c.in-Delete.is c.delete.ensures.syntax

pub returns-in-Drop-clause-syntax : goal.returns-in-Drop-clause-syntax
returns-in-Drop-clause-syntax c = rw c.in-Drop.is (λ syntax text. c.drop_command.ensures.syntax syntax)

pub returns-in-Dump-clause-syntax : goal.returns-in-Dump-clause-syntax
returns-in-Dump-clause-syntax c = rw c.in-Dump.is (λ syntax text. c.dump.ensures.syntax syntax)

pub returns-in-Index-clause-syntax : goal.returns-in-Index-clause-syntax
returns-in-Index-clause-syntax c = rw c.in-Index.is (λ syntax text. c.index.ensures.syntax syntax)

pub returns-in-Insert-clause-syntax : goal.returns-in-Insert-clause-syntax
returns-in-Insert-clause-syntax c = rw c.in-Insert.is c.insert.ensures.syntax

pub returns-in-Load-clause-syntax : goal.returns-in-Load-clause-syntax
returns-in-Load-clause-syntax c = rw c.in-Load.is (λ syntax text. c.load.ensures.syntax syntax)

pub returns-in-Select-clause-syntax : goal.returns-in-Select-clause-syntax
returns-in-Select-clause-syntax c = rw c.in-Select.is c.select.ensures.syntax

pub returns-in-Table-clause-syntax : goal.returns-in-Table-clause-syntax
returns-in-Table-clause-syntax c = rw c.in-Table.is c.table.ensures.syntax

pub returns-in-Tables-clause-syntax : goal.returns-in-Tables-clause-syntax
returns-in-Tables-clause-syntax c = rw c.in-Tables.is (λ syntax text. c.tables.ensures.syntax syntax)

pub returns-in-Update-clause-syntax : goal.returns-in-Update-clause-syntax
returns-in-Update-clause-syntax c = rw c.in-Update.is c.update.ensures.syntax
