-- Where the slots of a set are.
use Rattle.std.specs.Prelude.{◌≡◌, ℕ, ◌/◌, ◌<◌, ◌≤◌, true, false, List, slice_index_or, length}
use Rattle.std.specs.List.{Contains}
use Rattle.part_raw.specs.declared.tuple_ref.TupleRef.{TupleRef}
use Rattle.mm_relation.specs.Rows.{has_slot}

-- a set of no slots
abbrev pub HasNoSlot : List ℕ → Type 0
HasNoSlot words = (slot : ℕ) → has_slot words slot ≡ false

-- each slot of a set is in a word from the first of these up to the second
abbrev pub LieWithin : List ℕ → ℕ → ℕ → Type 0
LieWithin words from to = (slot : ℕ) → has_slot words slot ≡ true → (from ≤ slot / 64) × (slot / 64 < to)

-- the set of the slots of rows
pub record HasSlotsOf (words : List ℕ) (rows : List TupleRef) : Type 0 where
  pub each : (k : ℕ) (d : TupleRef) → k < length rows → has_slot words (slice_index_or rows k d).number ≡ true
  pub none_else : (r : TupleRef) → has_slot words r.number ≡ true → Contains rows r
