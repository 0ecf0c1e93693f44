-- Rows: what contracts see of one, and what the store holds for it: its cells side by side, the key's the first, and beside them
-- the number of links that name it.
use Rattle.std.specs.Prelude.{◌≡◌, ◌≢◌, ℕ, ◌+◌, ◌/◌, ◌%◌, ◌<◌, ◌≤◌, ◌==◌, Bool, true, not, List, [], ◌∷◌, IsSome, Some, length, refl, slice_index_or, unwrap_or}
use Rattle.std.specs.Int.{bit_at}
use Rattle.std.specs.Coded.{Coded, code_by, coded×, coded_bool, coded_list, coded_ℕ}
use Rattle.std.specs.FinMap as finite
use Rattle.part_raw.specs.TupleRefs.{ref_code}
use Rattle.part_raw.specs.declared.tuple_ref.TupleRef.{TupleRef}
use Rattle.part_raw.specs.Store.{Tuples, Store}
use Rattle.part_raw.specs.Mapped.{mapped}
use Rattle.plain_tables.specs.declared.value.Value.{Value}
use Rattle.plain_tables.specs.declared.value.Value.TheVariants.{Null}
use Rattle.mm_relation.specs.declared.row.Cell.{Cell}
use Rattle.mm_relation.specs.declared.row.Cell.TheVariants.{Held, Link}

-- a row: its key, which is the first column, and its cells, which are the other columns
pub record Row : Type 0 where
  pub key : Value
  pub cells : List Cell

-- a row is stored as its fields, one behind the other
abbrev pub row_code : Coded Value → Coded Cell → Coded Row
row_code value cell = code_by (Value × List Cell) (coded× value (coded_list cell)) (λ t. (t.key, t.cells)) (λ p. record { key = p.0; cells = p.1 }) (λ _. refl)

-- the cells of a row in the order of its columns: the first holds its key
abbrev pub StartsWithKey : List Cell → Type 0
StartsWithKey all = (key : Value) × (cells : List Cell) × (all ≡ Held key ∷ cells)

-- the key that a first cell holds
abbrev pub key_in : Cell → Value
key_in (Held key) = key
key_in (Link to) = Null

-- the row of all these cells
abbrev pub row_of : List Cell → Row
row_of [] = record { key = Null; cells = [] }
row_of (first ∷ rest) = record { key = key_in first; cells = rest }

-- how many links name the row under a reference
abbrev pub referrers_at : Tuples ℕ → TupleRef → ℕ
referrers_at referrers r = unwrap_or (finite.get referrers r) 0

-- no link names any of the rows
abbrev pub HaveNoReferrers : Tuples Row → Tuples ℕ → Type 0
HaveNoReferrers rows referrers = (r : TupleRef) → IsSome (finite.get rows r) → referrers_at referrers r ≡ 0

-- What a store holds aside of the rows that are seen: how many links name each, and whether there is memory for these numbers; the rows
-- that are hidden; and of how many rows it owes that they can come back
pub record Aside : Type 0 where
  pub numbers : Tuples ℕ
  pub counted : Bool
  pub hidden : Tuples Row
  pub owed : ℕ

abbrev pub with_number : Aside → TupleRef → ℕ → Aside
with_number aside r n = record aside { numbers = finite.insert aside.numbers r n }

abbrev pub without_number : Aside → TupleRef → Aside
without_number aside r = record aside { numbers = finite.remove aside.numbers r }

-- how many columns the rows have, the rows, how many links name each, and how many rows more can be put with no memory
pub record RowStore : Type 0 where
  pub width : ℕ
  pub tuples : Tuples Row
  pub aside : Aside
  pub free : ℕ

abbrev pub row_store_code : Coded Row → Coded RowStore
row_store_code row =
    code_by (ℕ × (Tuples Row × (Tuples ℕ × (Bool × (Tuples Row × (ℕ × ℕ))))))
    (coded× coded_ℕ (coded× (finite.code ref_code row) (coded× (finite.code ref_code coded_ℕ) (coded× coded_bool (coded× (finite.code ref_code row) (coded× coded_ℕ coded_ℕ))))))
    (λ s. (s.width, (s.tuples, (s.aside.numbers, (s.aside.counted, (s.aside.hidden, (s.aside.owed, s.free)))))))
    (λ p. record { width = p.0; tuples = p.1.0; aside = record { numbers = p.1.1.0; counted = p.1.1.1.0; hidden = p.1.1.1.1.0; owed = p.1.1.1.1.1.0 }; free = p.1.1.1.1.1.1 }) (λ _. refl)

abbrev pub row_store : ℕ → Tuples Row → Aside → ℕ → RowStore
row_store width tuples aside free = record { width = width; tuples = tuples; aside = aside; free = free }

-- the same rows, but for one that is hidden, or shown again with no links that name it
abbrev pub with_hidden : RowStore → TupleRef → Row → RowStore
with_hidden s r row = row_store s.width (finite.remove s.tuples r) (record s.aside { numbers = finite.remove s.aside.numbers r; hidden = finite.insert s.aside.hidden r row }) s.free

abbrev pub with_shown : RowStore → TupleRef → Row → RowStore
with_shown s r row = row_store s.width (finite.insert s.tuples r row) (record s.aside { numbers = finite.insert s.aside.numbers r 0; hidden = finite.remove s.aside.hidden r }) s.free

abbrev pub rows_in : Tuples (List Cell) → Tuples Row
rows_in tuples = mapped (λ r cells. row_of cells) tuples

-- whether a slot is one of a set, which has a bit for each, 64 in a word
abbrev pub has_slot : List ℕ → ℕ → Bool
has_slot words slot = bit_at (slice_index_or words (slot / 64) 0) (slot % 64) == 1

-- this slot came into the set or went out of it, and no other
pub record ChangesSlot (old new : List ℕ) (slot : ℕ) (bit : Bool) : Type 0 where
  pub changed : has_slot new slot ≡ bit
  pub others : (other : ℕ) → other ≢ slot → has_slot new other ≡ has_slot old other

-- what stands in the slots of a set, and in all others
abbrev pub among : {X : Type 0} → List ℕ → Tuples X → Tuples X
among words tuples = finite.retain_keys tuples (λ r. has_slot words r.number)

abbrev pub outside : {X : Type 0} → List ℕ → Tuples X → Tuples X
outside words tuples = finite.retain_keys tuples (λ r. not (has_slot words r.number))

-- what a store of cells has beside the rows that are seen, where the rows in these slots are hidden and so many are owed
abbrev pub aside_of : Store Cell → List ℕ → ℕ → Aside
aside_of s hidden owed = record { numbers = outside hidden s.counts; counted = s.counted; hidden = rows_in (among hidden s.tuples); owed = owed }

-- the rows of a store of cells, but for those that are hidden
abbrev pub rows_of : Store Cell → List ℕ → ℕ → RowStore
rows_of s hidden owed = row_store s.width (rows_in (outside hidden s.tuples)) (aside_of s hidden owed) s.free

-- each tuple has a cell for each column, and the first holds the row's key
abbrev pub AreRows : ℕ → Tuples (List Cell) → Type 0
AreRows width tuples = (r : TupleRef) (cells : List Cell) → finite.get tuples r ≡ Some cells → (length cells ≡ width) × StartsWithKey cells

-- Some of the rows of a store are hidden: those in these slots. So many they are, and so many rows are owed.
pub record IsParted (width : ℕ) (tuples : Tuples (List Cell)) (counts : Tuples ℕ) (hidden : List ℕ) (hidden_count owed : ℕ) : Type 0 where
  pub rows : AreRows width tuples
  -- each row has its number, which is 0 where it is hidden
  pub numbered : (r : TupleRef) → IsSome (finite.get tuples r) → IsSome (finite.get counts r)
  pub held : (r : TupleRef) → has_slot hidden r.number ≡ true → IsSome (finite.get tuples r)
  pub unnamed : (r : TupleRef) → has_slot hidden r.number ≡ true → finite.get counts r ≡ Some 0
  -- they were counted, and are no more than what is owed
  pub count : finite.len (among hidden tuples) ≡ hidden_count
  pub others : finite.len (outside hidden tuples) + hidden_count ≡ finite.len tuples
  pub within : hidden_count ≤ owed
  pub few : owed ≤ 16777216
  -- where rows are owed each row can be hidden without memory
  pub covered : 0 < owed → (r : TupleRef) → IsSome (finite.get tuples r) → r.number / 64 < length hidden
