-- How a block keeps its places. No public clause cites this module.
use Rattle.std.specs.Prelude.{◌≡◌, ◌<◌, length}
use Rattle.std.specs.declared.alloc.Global.{Global}
use Rattle.part_raw.specs.declared.raw.Slots.{Slots}
use Rattle.part_raw.specs.declared.raw.Deed.{Deed}

-- the deed is for as many places as there are, and where there are any it is that of their block
pub record IsBlock {T : Type 0} (places : Slots T) (deed : Deed T Global) (alloc : Global) : Type 0 where
  pub count : deed.count ≡ length places.held
  pub at : 0 < deed.count → deed.at ≡ places.ptr
  pub by : 0 < deed.count → deed.alloc ≡ alloc
