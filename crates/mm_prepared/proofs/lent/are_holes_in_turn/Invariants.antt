use Rattle.std.proofs.Common.{◌≡◌, map, take}
use Rattle.plain_statements.specs.Filling.{slot_value}
use Rattle.mm_prepared.proofs.lent.are_holes_in_turn.Given as goal

abbrev pub invariant-loop-place : goal.invariant-loop-place
invariant-loop-place l = map (slot_value l.values) (take l.place l.slots) ≡ take l.place l.values
