-- How the partitions keep the tuples. No public clause cites this module.
use Rattle.std.specs.Prelude.{◌≡◌, ◌≢◌, ℕ, ◌+◌, ◌/◌, ◌%◌, ◌<◌, ◌==◌, Bool, List, [], ◌∷◌, length, Option, Some, None, is_some, is_none, count_by, slice_index, slice_index_or}
use Rattle.std.specs.Int.{bit_at}
use Rattle.std.specs.FinMap.{insert, empty}
use Rattle.part_raw.specs.declared.TheConstants.{SLOTS}
use Rattle.part_raw.specs.declared.bitmap.TheConstants.{WORD_BITS}
use Rattle.part_raw.specs.TupleRefs.{ref_to}
use Rattle.part_raw.specs.Store.{Tuples}

-- whether the bit of this slot is set
abbrev pub is_set : List ℕ → ℕ → Bool
is_set words slot = bit_at (slice_index words (slot / WORD_BITS)) (slot % WORD_BITS) == 1

-- the bit of this slot is this, and the others are as they were
pub record ChangesBit (old new : List ℕ) (slot : ℕ) (bit : Bool) : Type 0 where
  pub changed : is_set new slot ≡ bit
  pub others : (other : ℕ) → other < SLOTS → other ≢ slot → is_set new other ≡ is_set old other

module _ {T : Type 0} where
  -- the bit of each that holds a tuple is set, and no other
  pub record IsPartition (words : List ℕ) (slots : List (Option T)) : Type 0 where
    pub count : length slots ≡ SLOTS
    pub bits : (slot : ℕ) → slot < SLOTS → is_set words slot ≡ is_some (slice_index_or slots slot None)

  -- the same of a partition that may have no slot
  pub record IsPlace (words : List ℕ) (slots : List (Option T)) : Type 0 where
    pub count : 0 < length slots → length slots ≡ SLOTS
    pub bits : (slot : ℕ) → slot < SLOTS → is_set words slot ≡ is_some (slice_index_or slots slot None)

  -- none of the slots holds a tuple
  pub record IsVacant (slots : List (Option T)) : Type 0 where
    pub count : length slots ≡ SLOTS
    pub empty : (slot : ℕ) → slice_index_or slots slot None ≡ None

  -- how many slots hold no tuple
  abbrev pub vacancies : List (Option T) → ℕ
  vacancies slots = count_by is_none slots

  -- the tuples of these slots of a partition, from this slot on, put into a map
  unfoldable pub add_slots : ℕ → ℕ → List (Option T) → Tuples T → Tuples T
  add_slots part slot [] tuples = tuples
  add_slots part slot (None ∷ rest) tuples = add_slots part (slot + 1) rest tuples
  add_slots part slot (Some tuple ∷ rest) tuples = insert (add_slots part (slot + 1) rest tuples) (ref_to part slot) tuple

  -- the tuples of these partitions, of which the first has this number
  unfoldable pub tuples_from : ℕ → List (List (Option T)) → Tuples T
  tuples_from part [] = empty
  tuples_from part (slots ∷ rest) = add_slots part 0 slots (tuples_from (part + 1) rest)

  -- the tuples of all partitions
  abbrev pub tuples_of : List (List (Option T)) → Tuples T
  tuples_of = tuples_from 0
