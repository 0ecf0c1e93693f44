use Rattle.std.proofs.Common.{◌≡◌, ◌-◌, map}
use Rattle.mm_relation.specs.Indexes.{seen, KeepRoom}
use Rattle.mm_relation.proofs.reserving.cover_slots.Given as goal

abbrev pub invariant-loop-slot : goal.invariant-loop-slot
invariant-loop-slot l = record { same : map seen l.indexes ≡ map seen l.fn.indexes; keeps : KeepRoom 0 0 l.fn.indexes l.indexes }

abbrev pub decreases-loop-slot : goal.decreases-loop-slot
decreases-loop-slot l = l.to - l.slot
