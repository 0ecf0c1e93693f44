use Rattle.std.proofs.Common.{◌∙◌}
use Rattle.mm_relation.proofs.Room.{keep_then}
use Rattle.mm_relation.proofs.reserving.cover_slots.Goals as goal

pub returns-in_err-cover-clause-keeps : goal.returns-in_err-cover-clause-keeps
returns-in_err-cover-clause-keeps c = keep_then 0 0 0 0 c.args.indexes.now c.loop-slot.indexes c.cover.new.indexes c.loop-slot.invariant.keeps c.cover.ensures.keeps

pub loop-slot-preserved : goal.loop-slot-preserved
loop-slot-preserved c = record {
  same = c.cover.ensures.same ∙ c.loop-slot.invariant.same;
  keeps = keep_then 0 0 0 0 c.args.indexes.now c.loop-slot.indexes c.cover.new.indexes c.loop-slot.invariant.keeps c.cover.ensures.keeps;
}
