-- What a block ends as where a `&mut` to some of its places is given out.
use Rattle.std.specs.Prelude.{ℕ, List, Option}
use Rattle.std.specs.Borrow.{Fml, RattleType, MutBor, Array, Lends}
use Rattle.std.specs.List.{refill}
use Rattle.part_raw.specs.Rows.{put_run}
use Rattle.part_raw.specs.contracts.block.Block.{the_row as block_row}

-- the places from one on end with the last values written through the slice, which are as many as they were
abbrev pub LendsPlaces : (T : RattleType) → MutBor (List (Option T.Denot)) → ℕ → ℕ → MutBor (List T.Denot) → Fml
LendsPlaces T places from count r = Lends (block_row T) (Array T 0) places r (λ row. put_run places.now from (refill count r.now row))
