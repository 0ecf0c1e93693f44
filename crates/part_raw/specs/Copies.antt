-- Blocks that are copied one by one. No public clause cites this module.
use Rattle.std.specs.Prelude.{◌≡◌, ℕ, List, length, take, Option}
use Rattle.part_raw.specs.declared.store.Occupancy.{Occupancy}
use Rattle.part_raw.specs.Open.{AreKept}

-- they are the first of the blocks of these partitions
pub record AreFirst {T : Type 0} (width : ℕ) (blocks : List (List (Option T))) (occupancies : List Occupancy) : Type 0 where
  pub all : List (List (Option T))
  pub kept : AreKept width all occupancies
  pub first : blocks ≡ take (length blocks) all
