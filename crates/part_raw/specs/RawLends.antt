-- What the places of a block end as where a `&mut` to some of them is given out.
use Rattle.std.specs.Prelude.{ℕ, List}
use Rattle.std.specs.Borrow.{Fml, RattleType, MutBor, Array, Lends}
use Rattle.std.specs.List.{refill}
use Rattle.part_raw.specs.Rows.{put_run}
use Rattle.part_raw.specs.declared.raw.Slots.{Slots}
use Rattle.part_raw.specs.contracts.raw.Slots.{the_row}

-- the places with these as the values from one on
abbrev pub with_run : {T : Type 0} → Slots T → ℕ → List T → Slots T
with_run slots from row = record { ptr = slots.ptr; held = put_run slots.held from row }

-- the places from one on end with the last values written through the slice, which are as many as they were
abbrev pub LendsRun : (T : RattleType) → MutBor (Slots T.Denot) → ℕ → ℕ → MutBor (List T.Denot) → Fml
LendsRun T slots from count r = Lends (the_row T) (Array T 0) slots r (λ row. with_run slots.now from (refill count r.now row))
