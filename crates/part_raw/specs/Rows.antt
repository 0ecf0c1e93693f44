-- How the places of a partition make rows: a slot is so many places as a row is wide, one behind the other.
use Rattle.std.specs.Prelude.{◌≡◌, ℕ, zero, suc, ◌+◌, ◌*◌, ◌<◌, ◌≤◌, List, [], ◌∷◌, map, length, take, drop, Option, Some, None, is_some, slice_index_or, slice_set}
use Rattle.part_raw.specs.declared.TheConstants.{SLOTS}

module _ {T : Type 0} where
  -- so many places from this one on
  abbrev pub window : ℕ → ℕ → List (Option T) → List (Option T)
  window from count places = take count (drop from places)

  -- each of these places holds a value
  abbrev pub IsRun : List (Option T) → ℕ → ℕ → Type 0
  IsRun places from count = (from + count ≤ length places) × ((row : List T) × (window from count places ≡ map Some row))

  abbrev pub put_before : T → Option (List T) → Option (List T)
  put_before value None = None
  put_before value (Some row) = Some (value ∷ row)

  -- the values of these places, where each holds one
  unfoldable pub row_of : List (Option T) → Option (List T)
  row_of [] = Some []
  row_of (None ∷ rest) = None
  row_of (Some value ∷ rest) = put_before value (row_of rest)

  -- the rows of so many slots, each of so many places
  unfoldable pub rows_of : ℕ → ℕ → List (Option T) → List (Option (List T))
  rows_of width zero places = []
  rows_of width (suc count) places = row_of (take width places) ∷ rows_of width count (drop width places)

  -- a partition has all slots where it has places, and else none
  abbrev pub slots_of : List (Option T) → ℕ
  slots_of [] = 0
  slots_of (place ∷ places) = SLOTS

  -- the rows of a partition's slots
  abbrev pub rows_in : ℕ → List (Option T) → List (Option (List T))
  rows_in width places = rows_of width (slots_of places) places

  -- a row is written into the places from this one on
  unfoldable pub put_run : List (Option T) → ℕ → List T → List (Option T)
  put_run places from [] = places
  put_run places from (value ∷ row) = slice_set (put_run places (suc from) row) from (Some value)

  -- so many places from this one on are emptied
  unfoldable pub clear_run : List (Option T) → ℕ → ℕ → List (Option T)
  clear_run places from zero = places
  clear_run places from (suc count) = slice_set (clear_run places from count) (from + count) None

  -- there are places, one for each value of each slot's row, and in each slot all of them hold a value or none does
  pub record IsLaid (width : ℕ) (places : List (Option T)) : Type 0 where
    pub some : 0 < length places
    pub count : length places ≡ SLOTS * width
    pub whole : (slot i : ℕ) → slot < SLOTS → i < width → is_some (slice_index_or places (slot * width + i) None) ≡ is_some (slice_index_or (rows_in width places) slot None)
