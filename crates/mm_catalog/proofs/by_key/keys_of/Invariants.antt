use Rattle.std.proofs.Common.{◌≡◌, ◌≤◌, length, map, take, vec_capacity}
use Rattle.mm_catalog.specs.LoadOrder.{row_at}
use Rattle.mm_catalog.proofs.by_key.keys_of.Given as goal

abbrev pub invariant-loop-place : goal.invariant-loop-place
invariant-loop-place l = record {
  count : length l.keys.items ≡ l.place;
  room : length l.rows ≤ vec_capacity l.keys;
  so_far : map (row_at l.rows) l.keys.items ≡ take l.place l.rows;
}
