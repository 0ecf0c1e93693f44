use Rattle.lin_hash.proofs.row_hash.insert_row.Goals as goal

pub insert-requires-clause-absent : goal.insert-requires-clause-absent
insert-requires-clause-absent c = rw c.in-Some.is at c.requires.absent
