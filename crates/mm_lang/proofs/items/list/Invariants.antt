use Rattle.std.proofs.Common.{length}
use Rattle.mm_lang.proofs.Lists.{HasRead}
use Rattle.mm_lang.proofs.items.list.Given as goal

abbrev pub invariant-loop-items : goal.invariant-loop-items
invariant-loop-items g l = HasRead g.T.Item.symbols l.fn.between l.fn.line l.items.items l.rest

abbrev pub decreases-loop-items : goal.decreases-loop-items
decreases-loop-items g l = length l.rest
