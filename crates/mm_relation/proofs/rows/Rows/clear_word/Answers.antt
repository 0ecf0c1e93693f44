use Rattle.std.proofs.Common.{◌+◌, ◌*◌, arith}
use Rattle.mm_relation.proofs.Settling.{none_passed}
use Rattle.mm_relation.proofs.rows.Rows.clear_word.Goals as goal

pub returns-then-lacks_word-clause-none : goal.returns-then-lacks_word-clause-none
returns-then-lacks_word-clause-none c =
    rw (← c.self.view_is)
    (none_passed c.self.inside.hidden c.self.inside.store.tuples (c.args.place * 64) (c.args.place * 64 + 64)
    (λ slot after before. c.lacks_word.ensures c.if-lacks_word.true slot (omega (arith, after, before)))
    (rw (← c.self.view_is) at c.requires.none))
