use Rattle.std.proofs.Common.{◌≡◌, take}
use Rattle.mm_shared.proofs.noted.are_same_columns.Given as goal

-- so many columns are the same
abbrev pub invariant-loop-place : goal.invariant-loop-place
invariant-loop-place l = take l.place l.a ≡ take l.place l.b
