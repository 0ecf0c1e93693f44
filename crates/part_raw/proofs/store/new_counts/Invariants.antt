use Rattle.std.proofs.Common.{◌≡◌, map, take, vec_len}
use Rattle.std.specs.Vec.{vec_capacity}
use Rattle.part_raw.specs.declared.store.Occupancy.{Occupancy}
use Rattle.part_raw.specs.Counted.{zeros}
use Rattle.part_raw.proofs.store.new_counts.Given as goal

abbrev pub invariant-loop-occupancy : goal.invariant-loop-occupancy
invariant-loop-occupancy l = record {
  made : l.counts.items ≡ map zeros (map (λ (o : Occupancy). o.has_block) (take l.occupancy-index l.occupancies.items));
  many : vec_len l.counts ≡ l.occupancy-index;
  room : vec_capacity l.counts ≡ vec_len l.occupancies;
}
