-- How a store keeps its partitions: their blocks, which slots hold a tuple, and the list of the partitions with a free
-- slot. No public clause cites this module.
use Rattle.std.specs.Prelude.{◌≡◌, ℕ, zero, suc, ◌+◌, ◌^◌, ◌<◌, ◌≤◌, ◌↔◌, Bool, true, false, cond, if◌then◌else◌, List, [], map, length, Option, Some, None, count_by, sum_by, slice_index_or, nat_lt}
use Rattle.std.specs.FinMap.{len}
use Rattle.part_raw.specs.declared.TheConstants.{SLOTS, MAX_WIDTH}
use Rattle.part_raw.specs.Rows.{IsLaid, rows_in, slots_of}
use Rattle.part_raw.specs.Layout.{is_set, IsPlace, vacancies, tuples_of}
use Rattle.part_raw.specs.declared.store.Occupancy.{Occupancy}

-- from the first on, so many partitions are open and name the next, and the last names none
abbrev pub IsOpenList : (ℕ → Bool) → (ℕ → Option ℕ) → ℕ → Option ℕ → Type 0
IsOpenList is_open next zero None = Unit {0}
IsOpenList is_open next zero (Some part) = ⊥
IsOpenList is_open next (suc count) None = ⊥
IsOpenList is_open next (suc count) (Some part) = (is_open part ≡ true) × IsOpenList is_open next count (next part)

-- how many of the first n are open
abbrev pub below : (ℕ → Bool) → ℕ → ℕ
below is_open zero = 0
below is_open (suc n) = below is_open n + cond (is_open n) 1 0

-- the words of a partition's bitmap
abbrev pub words_at : List Occupancy → ℕ → List ℕ
words_at occupancies part = slice_index_or (map (λ o. o.held.words) occupancies) part []

-- the partition that it names as the next in the list
abbrev pub next_at : List Occupancy → ℕ → Option ℕ
next_at occupancies part = slice_index_or (map (λ o. o.next_open) occupancies) part None

-- whether the partition has a block
abbrev pub has_block_at : List Occupancy → ℕ → Bool
has_block_at occupancies part = slice_index_or (map (λ o. o.has_block) occupancies) part false

-- each of the partition's bits is set
abbrev pub AllSet : List Occupancy → ℕ → Type 0
AllSet occupancies part = (slot : ℕ) → slot < SLOTS → is_set (words_at occupancies part) slot ≡ true

-- where the partition has a block, one of its bits is set
abbrev pub HoldsWhereBlock : List Occupancy → ℕ → Type 0
HoldsWhereBlock occupancies part = has_block_at occupancies part ≡ true → (slot : ℕ) × (slot < SLOTS) × (is_set (words_at occupancies part) slot ≡ true)

-- a partition is open where it has a block and not each of its bits is set
abbrev pub Tells : (ℕ → Bool) → List Occupancy → Type 0
Tells is_open occupancies = (part : ℕ) → part < length occupancies
    → (has_block_at occupancies part ≡ false → is_open part ≡ false) × (has_block_at occupancies part ≡ true → (is_open part ≡ false) ↔ AllSet occupancies part)

module _ {T : Type 0} where
  -- whether a slot is free
  abbrev pub has_vacancy : List (Option T) → Bool
  has_vacancy slots = nat_lt 0 (vacancies slots)

  abbrev pub slots_at : List (List (Option T)) → ℕ → List (Option T)
  slots_at blocks part = slice_index_or blocks part []

  -- whether this partition has a free slot
  abbrev pub open_at : List (List (Option T)) → ℕ → Bool
  open_at blocks part = has_vacancy (slots_at blocks part)

  -- each block has its bitmap, and what has no slot is told to have no block
  pub record HaveBitmaps (blocks : List (List (Option T))) (occupancies : List Occupancy) : Type 0 where
    pub as_many : length occupancies ≡ length blocks
    pub bits : (part : ℕ) → part < length blocks → IsPlace (words_at occupancies part) (slots_at blocks part)
    pub told : (part : ℕ) → part < length blocks → has_block_at occupancies part ≡ nat_lt 0 (length (slots_at blocks part))

  -- each block has its bitmap, the free slots are counted, each slot is free or holds a tuple, and the list holds every
  -- partition with a free slot. A partition with no block has no slot
  pub record IsStore (blocks : List (List (Option T))) (occupancies : List Occupancy) (free : ℕ) (first_open : Option ℕ) : Type 0 where
    pub mapped : HaveBitmaps blocks occupancies
    pub counted : free ≡ sum_by vacancies blocks
    pub total : len (tuples_of blocks) + free ≡ sum_by length blocks
    pub open_count : ℕ
    pub all_open : open_count ≡ count_by has_vacancy blocks
    pub linked : IsOpenList (open_at blocks) (next_at occupancies) open_count first_open
    pub numbered : length blocks < 2 ^ 24

module _ {T : Type 0} where
  -- the row that each slot of each block holds
  abbrev pub tables : ℕ → List (List (Option T)) → List (List (Option (List T)))
  tables width blocks = map (rows_in width) blocks

  -- each block that has places is laid for this width
  abbrev pub AreLaid : ℕ → List (List (Option T)) → Type 0
  AreLaid width blocks = (part : ℕ) (block : List (Option T)) → part < length blocks → block ≡ slice_index_or blocks part block → 0 < length block → IsLaid width block

  -- each block that has places is laid for this width, and each has its bitmap
  pub record AreKept (width : ℕ) (blocks : List (List (Option T))) (occupancies : List Occupancy) : Type 0 where
    pub laid : AreLaid width blocks
    pub mapped : HaveBitmaps (tables width blocks) occupancies

  -- the blocks' places are the slots of a store whose tuples have this width
  pub record IsTable (width : ℕ) (blocks : List (List (Option T))) (occupancies : List Occupancy) (free : ℕ) (first_open : Option ℕ) : Type 0 where
    pub wide : 0 < width
    pub fits : width ≤ MAX_WIDTH
    pub laid : AreLaid width blocks
    pub store : IsStore (tables width blocks) occupancies free first_open

  -- the counts of a partition are as many as its slots
  abbrev pub HaveCounts : List (List (Option T)) → List (List ℕ) → Type 0
  HaveCounts blocks counts = (part : ℕ) → part < length counts → length (slice_index_or counts part []) ≡ slots_of (slice_index_or blocks part [])

  -- there are as many counts as blocks where counts are kept, and else none
  abbrev pub AreBeside : Bool → List (List (Option T)) → List (List ℕ) → Type 0
  AreBeside counted blocks counts = length counts ≡ (if counted then length blocks else 0)

  -- the blocks are a table, and the counts are beside them
  pub record IsStocked (counted : Bool) (width : ℕ) (blocks : List (List (Option T))) (counts : List (List ℕ)) (occupancies : List Occupancy) (free : ℕ) (first_open : Option ℕ) : Type 0 where
    pub beside : AreBeside counted blocks counts
    pub own : HaveCounts blocks counts
    pub table : IsTable width blocks occupancies free first_open
