-- The room for what selects find.
use Rattle.std.specs.Prelude.{◌≡◌, ◌*◌, ◌≤◌, []}
use Rattle.std.specs.Vec.{vec_capacity}
use Rattle.temp_list.specs.Keyed.{IsSmall}
use Rattle.mm_session.specs.declared.room.SelectRoom.{SelectRoom}

-- The room holds no rows, and takes at most 64 KiB for them, and as much to sort them: the reference of a row is four bytes.
pub record IsBounded (room : SelectRoom) : Type 0 where
  pub none : room.rows.items ≡ []
  pub most : 4 * vec_capacity room.rows ≤ 65536
  pub sorter : IsSmall room.sorter
