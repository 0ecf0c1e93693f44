use Rattle.std.proofs.Common.{◌*◌}
use Rattle.mm_relation.specs.Settling.{DropsHidden, HasNoneBefore}
use Rattle.mm_relation.proofs.rows.Rows.clear_hidden.Given as goal

abbrev pub invariant-loop-place : goal.invariant-loop-place
invariant-loop-place l = record {
  drops : DropsHidden l.fn.self l.self;
  none : HasNoneBefore (l.place * 64) l.self.aside.hidden;
}
