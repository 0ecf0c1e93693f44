use Rattle.std.proofs.Common.{◌≡◌, ℕ, ◌-◌, ◌<◌, ◌≤◌, true, length, vec_len}
use Rattle.part_raw.specs.Open.{has_block_at}
use Rattle.part_raw.proofs.store.bare_from.Given as goal

abbrev pub invariant-loop-part : goal.invariant-loop-part
invariant-loop-part l = (l.from ≤ l.part) × ((part : ℕ) → l.from ≤ part → part < l.part → part < length l.occupancies.items → has_block_at l.occupancies.items part ≡ true)

abbrev pub decreases-loop-part : goal.decreases-loop-part
decreases-loop-part l = vec_len l.occupancies - l.part
