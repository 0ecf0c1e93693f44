use Rattle.std.proofs.Common.{arith}
use Rattle.mm_lang.proofs.Marks.{quoted-other, quoted-two}
use Rattle.mm_lang.proofs.lexemes.quoted_length.Goals as goal

pub loop-at-preserved-then-characters-at-ne39 : goal.loop-at-preserved-then-characters-at-ne39
loop-at-preserved-then-characters-at-ne39 c = (
  omega arith,
  omega (
    arith,
    c.loop-at.invariant.1,
    quoted-other c.args.characters.now c.loop-at.at c.loop-at-test.true c.if-characters-at-ne39.true,
  ),
)

pub loop-at-preserved : goal.loop-at-preserved
loop-at-preserved c = (
  omega arith,
  omega (
    arith,
    c.loop-at.invariant.1,
    quoted-two c.args.characters.now c.loop-at.at c.if-at-characters.true c.if-characters-at-ne39.false c.if-characters-at-eq39.true,
  ),
)
