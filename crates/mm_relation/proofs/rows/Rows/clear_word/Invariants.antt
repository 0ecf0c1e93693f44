use Rattle.std.proofs.Common.{◌+◌, ◌*◌}
use Rattle.mm_relation.specs.Settling.{DropsHidden, HasNoneBefore}
use Rattle.mm_relation.proofs.rows.Rows.clear_word.Given as goal

abbrev pub invariant-loop-bit : goal.invariant-loop-bit
invariant-loop-bit l = record {
  drops : DropsHidden l.fn.self l.self;
  none : HasNoneBefore (l.place * 64 + l.bit) l.self.aside.hidden;
}
