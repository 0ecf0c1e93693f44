-- The counts of a store: a number for each slot of each partition, where counts are kept.
use Rattle.std.specs.Prelude.{ℕ, Bool, if◌then◌else◌, List, [], replicate, slice_index, slice_index_or}
use Rattle.part_raw.specs.declared.TheConstants.{SLOTS}
use Rattle.part_raw.specs.declared.tuple_ref.TupleRef.{TupleRef}
use Rattle.part_raw.specs.TupleRefs.{part_of, slot_of}
use Rattle.part_raw.specs.Mapped.{mapped}
use Rattle.part_raw.specs.Store.{Store, Tuples, store}

-- a count of 0 for each slot of a partition, which has slots or none
abbrev pub zeros : Bool → List ℕ
zeros has_slots = if has_slots then replicate SLOTS 0 else []

-- the number that is kept for the slot of a reference, or 0
abbrev pub number_of : List (List ℕ) → TupleRef → ℕ
number_of counts r = slice_index (slice_index_or counts (part_of r) []) (slot_of r)

module _ {T : Type 0} where
  -- each reference to a tuple, with the number of its slot
  abbrev pub counts_of : List (List ℕ) → Tuples (List T) → Tuples ℕ
  counts_of counts tuples = mapped (λ r cells. number_of counts r) tuples

  -- the store of these tuples and numbers
  abbrev pub seen : ℕ → Tuples (List T) → List (List ℕ) → ℕ → Bool → Store T
  seen width tuples counts free counted = store width tuples (counts_of counts tuples) free counted
