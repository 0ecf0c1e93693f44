use Rattle.mm_transactions.proofs.log.UndoLog.len.Goals as goal

pub returns : goal.returns
returns c = rw (← c.self.view_is) c.self.invariant.count
