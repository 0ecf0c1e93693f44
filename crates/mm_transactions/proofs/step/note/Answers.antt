use Rattle.std.proofs.Common.{arith}
use Rattle.mm_transactions.proofs.Steps.{joined_noted}
use Rattle.mm_transactions.proofs.step.note.Goals as goal

pub returns-else-not-join-clause-noted : goal.returns-else-not-join-clause-noted
returns-else-not-join-clause-noted c =
    joined_noted c.args.steps.now.items c.join.new.steps.items c.args.step (c.join.ensures.joined c.if-not-join.false) c.requires.steps c.args.rows (omega (arith, c.if-rows-ne1.false))
