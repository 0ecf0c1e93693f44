use Rattle.std.proofs.Common.{◌≡◌, length, map, take}
use Rattle.mm_prepared.proofs.filling.items.fill_in_place.Given as goal

-- The items so far are what those of the template become.
abbrev pub invariant-loop-place : goal.invariant-loop-place
invariant-loop-place g l = record {
  filled : take l.place l.kept ≡ map (g.S.Fill.filled l.values) (take l.place l.items);
  many : length l.kept ≡ length l.items;
}
