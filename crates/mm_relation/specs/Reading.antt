-- What a row's columns hold, read through links.
use Rattle.std.specs.Prelude.{◌≡◌, ℕ, ◌-◌, ◌<◌, ◌==◌, if◌then◌else◌, Option, Some, None, slice_get}
use Rattle.std.specs.Option.{option_and_then}
use Rattle.std.specs.FinMap as map
use Rattle.part_raw.specs.declared.tuple_ref.TupleRef.{TupleRef}
use Rattle.part_raw.specs.Store.{Tuples}
use Rattle.plain_tables.specs.declared.value.Value.{Value}
use Rattle.plain_tables.specs.Hashes.{low_hash}
use Rattle.mm_relation.specs.declared.row.Cell.{Cell}
use Rattle.mm_relation.specs.declared.row.Cell.TheVariants.{Held, Link}
use Rattle.mm_relation.specs.Rows.{Row}

-- from reference column and reference to the key of the row that it names, where it is held
abbrev pub Keys : Type 0
Keys = ℕ → TupleRef → Option Value

-- the value of a cell in a column
abbrev pub cell_value : Keys → ℕ → Cell → Option Value
cell_value keys column (Held value) = Some value
cell_value keys column (Link to) = keys column to

-- the value in a column of a row: in column 0 its key
abbrev pub row_value : Keys → ℕ → Row → Option Value
row_value keys column t = if column == 0 then Some t.key else option_and_then (cell_value keys column) (slice_get t.cells (column - 1))

-- the value in a column of a row that is held
abbrev pub value_at : Keys → ℕ → Tuples Row → TupleRef → Option Value
value_at keys column tuples r = option_and_then (row_value keys column) (map.get tuples r)

-- the key of a row: what `value_at` of column 0 is under any keys
abbrev pub key_at : Tuples Row → TupleRef → Option Value
key_at tuples r = option_and_then (λ t. Some t.key) (map.get tuples r)

-- a row of the map holds this link in this column
abbrev pub HoldsLink : Tuples Row → ℕ → TupleRef → Type 0
HoldsLink tuples column to = (r : TupleRef) × (t : Row) × (0 < column) × (map.get tuples r ≡ Some t) × (slice_get t.cells (column - 1) ≡ Some (Link to))

-- two keys maps tell the same of each link that the rows hold
abbrev pub AgreeOnLinks : Tuples Row → Keys → Keys → Type 0
AgreeOnLinks tuples keys others = (column : ℕ) (to : TupleRef) → HoldsLink tuples column to → others column to ≡ keys column to

-- the hash modulo 2^32 of what a row has in a column, 0 where there is nothing to read
abbrev pub hash_of_value : Option Value → ℕ
hash_of_value None = 0
hash_of_value (Some value) = low_hash value

abbrev pub hash_at : Keys → ℕ → Tuples Row → TupleRef → ℕ
hash_at keys column rows r = hash_of_value (value_at keys column rows r)

-- the row that a cell links to
abbrev pub link_of : Cell → Option TupleRef
link_of (Held value) = None
link_of (Link to) = Some to

-- the row that the link in a column names
abbrev pub link_in : ℕ → Row → Option TupleRef
link_in column t = if column == 0 then None else option_and_then link_of (slice_get t.cells (column - 1))
