use Rattle.mm_resolver.proofs.statements.resolve_statement.Goals as goal

pub returns-in-Insert-clause-refused : goal.returns-in-Insert-clause-refused
returns-in-Insert-clause-refused g c = rw c.in-Insert.is c.resolve_slot_insert.ensures.refused

pub returns-in-Update-clause-refused : goal.returns-in-Update-clause-refused
returns-in-Update-clause-refused g c = rw c.in-Update.is c.resolve_slot_update.ensures.refused

pub returns-in-Delete-clause-refused : goal.returns-in-Delete-clause-refused
returns-in-Delete-clause-refused g c = rw c.in-Delete.is c.resolve_slot_delete.ensures.refused
