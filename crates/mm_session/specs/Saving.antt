-- A dump of a whole database, piece by piece: which bytes are at which place, and where it goes on.
use Rattle.std.specs.Prelude.{◌≡◌, ℕ, ◌+◌, ◌-◌, ◌<◌, ◌≤◌, List, [], ◌∷◌, ◌++◌, Bool, true, false, ◌&&◌, if◌then◌else◌, nat_lt, Option, None, Some, IsSome, Contains, ◌⊎◌, codes, decimal, length, map, slice_get, take, zip}
use Rattle.std.specs.FinMap as finite
use Rattle.std.specs.List.{flat_map, filter_map, sum_by}
use Rattle.std.specs.Option.{option_map}
use Rattle.part_raw.specs.declared.tuple_ref.TupleRef.{TupleRef}
use Rattle.plain_tables.specs.AnswerText.{text_line}
use Rattle.plain_tables.specs.Csv.{block_text}
use Rattle.plain_tables.specs.Databases.{Database}
use Rattle.plain_tables.specs.Effects.{column_names}
use Rattle.plain_tables.specs.Queries.{value_at}
use Rattle.plain_tables.specs.Spelling.{canonical_spelling}
use Rattle.plain_tables.specs.Tables.{Table, Row}
use Rattle.plain_tables.specs.declared.command.Command.{Command}
use Rattle.plain_tables.specs.declared.command.Command.TheVariants as command
use Rattle.plain_tables.specs.declared.condition.Op.TheVariants as op
use Rattle.plain_tables.specs.declared.numbers.TableNumber.{TableNumber}
use Rattle.plain_tables.specs.declared.schema.ColKind.{ColKind}
use Rattle.plain_tables.specs.declared.schema.ColKind.TheVariants as kind
use Rattle.plain_tables.specs.declared.schema.Column.{Column}
use Rattle.plain_tables.specs.declared.value.Value.{Value}
use Rattle.plain_tables.specs.declared.value.Value.TheVariants as value
use Rattle.mm_relation.specs.State.{RelationState, tree_list}
use Rattle.mm_catalog.specs.Picked.{seen_values}
use Rattle.mm_catalog.specs.Seen.{database_of}
use Rattle.mm_catalog.specs.State.{CatalogState}
use Rattle.temp_list.specs.Reading.{standing, value_in}
use Rattle.mm_session.specs.Listing.{command_lines}
use Rattle.mm_session.specs.declared.saving.SaveFault.{SaveFault}
use Rattle.mm_session.specs.declared.saving.SaveFault.TheVariants as fault
use Rattle.mm_session.specs.declared.saving.SavePlace.{SavePlace}
use Rattle.mm_session.specs.declared.saving.SavePlace.TheVariants as place

-- ---- the lines of tables

-- the first line, with the version of the form
abbrev pub first_line : List ℕ
first_line = text_line (codes "# mmdb dump 1")

-- the command that declares a table
abbrev pub declaration : Table → Command
declaration table = command.Table table.name (record { columns = table.columns })

-- the commands that declare its indexes
abbrev pub index_declarations : Table → List Command
index_declarations table = filter_map (λ i. option_map (λ c. command.Index table.name c.name i.1) (slice_get table.columns i.0)) table.indexes

-- the last line: how many tables there are, and how many rows they have
abbrev pub last_line : Database → List ℕ
last_line tables =
    text_line (codes "# end of the dump: " ++ (decimal (length tables) ++ (codes " tables, " ++ (decimal (sum_by (λ t. length t.rows) tables) ++ codes " rows"))))

-- ---- empty texts in references that take nulls, of which a load makes nulls

-- whether a column takes nulls
abbrev pub takes_null : ColKind → Bool
takes_null (kind.RefOrNull table) = true
takes_null other = false

-- whether a value is the empty text
abbrev pub is_empty_text : Value → Bool
is_empty_text (value.Text []) = true
is_empty_text other = false

-- the name of the key
abbrev pub key_name : List Column → List ℕ
key_name [] = []
key_name (column ∷ columns) = column.name

-- update TABLE set COLUMN = '' where NAME = KEY
abbrev pub emptying : List ℕ → List ℕ → List ℕ → Value → Command
emptying table column name key =
    command.Update table (record { column = column; value = value.Text [] } ∷ [])
    (record { column = record { table = None; column = name }; op = op.Eq; value = key } ∷ [])

-- that command for a value in a column, if it is such a text
abbrev pub emptying_at : List ℕ → List ℕ → Value → Column × Value → List Command
emptying_at table name key (column, v) = if takes_null column.kind && is_empty_text v then emptying table column.name name key ∷ [] else []

-- those of a row
abbrev pub emptyings : List ℕ → List Column → Row → List Command
emptyings table columns row = flat_map (emptying_at table (key_name columns) (value_at row 0)) (zip columns row)

-- the value has a line feed in it, so no line can spell it
abbrev pub HasLineFeed : Value → Type 0
HasLineFeed (value.Text text) = Contains text 10
HasLineFeed other = ⊥

-- the row has such texts, and a key that no line can spell
abbrev pub IsUnspellable : List ℕ → List Column → Row → Type 0
IsUnspellable table columns row = HasLineFeed (value_at row 0) × (0 < length (emptyings table columns row))

-- ---- rows

-- the rows of a relation behind one, in the order of their keys: those whose keys are above its key. Behind none are all.
abbrev pub rows_behind : CatalogState → RelationState → Option TupleRef → List TupleRef
rows_behind c s None = tree_list s.by_key
rows_behind c s (Some r) = standing c.relations s 0 op.Gt (value_in c.relations s 0 r)

-- the block of rows, under the names of the columns
abbrev pub block_of : List Column → List Row → List ℕ
block_of columns rows = block_text (column_names columns) rows

-- the line that loads the block of rows, the block, and the updates of these rows
abbrev pub rows_text : List ℕ → List Column → List Row → List ℕ
rows_text table columns rows =
    (text_line (canonical_spelling (command.Load table (length (block_of columns rows)))) ++ block_of columns rows)
    ++ command_lines (flat_map (emptyings table columns) rows)

-- The piece is that of the first rows of these, so many, and 16,384 at most. Their block is within the limit, and that of one more row,
-- if there is one, is not. Their updates can be spelled. The save goes on behind the last of them.
pub record IsPieceOfRows (c : CatalogState) (n : TableNumber) (t : Table) (s : RelationState) (refs : List TupleRef) (bytes : List ℕ) (next : Option SavePlace) : Type 0 where
  pub count : ℕ
  pub some : 0 < count
  pub few : count ≤ 16384
  pub last : TupleRef
  pub ends : slice_get refs (count - 1) ≡ Some last
  pub within : length (block_of t.columns (map (seen_values c s) (take count refs))) ≤ c.limits.block
  pub full : count < 16384 → count < length refs → c.limits.block < length (block_of t.columns (map (seen_values c s) (take (count + 1) refs)))
  pub spelled : (row : Row) → Contains (map (seen_values c s) (take count refs)) row → ¬ (IsUnspellable t.name t.columns row)
  pub made : bytes ≡ rows_text t.name t.columns (map (seen_values c s) (take count refs))
  pub next_place : next ≡ Some (place.Rows n (Some last))

-- ---- places

-- what is said of the table of a number and its relation
abbrev pub OfTableAt : CatalogState → TableNumber → (Table → RelationState → Type 0) → Type 0
OfTableAt c n P = (t : Table) (s : RelationState) → slice_get (database_of c) n.0 ≡ Some t → slice_get c.relations n.0 ≡ Some s → P t s

-- the table of the place is there, and so is its row, if it has one
abbrev pub IsPlace : CatalogState → SavePlace → Type 0
IsPlace c (place.Rows n None) = n.0 < length (database_of c)
IsPlace c (place.Rows n (Some r)) = (s : RelationState) × (slice_get c.relations n.0 ≡ Some s) × IsSome (finite.get s.rows r)
IsPlace c (place.Indexes n) = n.0 < length (database_of c)
IsPlace c other = Unit {0}

-- the place of the first rows of the table of a number, or of the last line if there is none
abbrev pub place_from : CatalogState → ℕ → SavePlace
place_from c n = if nat_lt n (length (database_of c)) then place.Rows (record { 0 = n }) None else place.End

-- ---- pieces

-- The piece at a place has these bytes, and the save goes on there.
abbrev pub IsPiece : CatalogState → SavePlace → List ℕ → Option SavePlace → Type 0
IsPiece c place.Declarations bytes next =
    (bytes ≡ first_line ++ command_lines (map declaration (database_of c))) × (next ≡ Some (place_from c 0))
IsPiece c (place.Rows n after) bytes next =
    OfTableAt c n (λ t s.
    ((rows_behind c s after ≡ []) × (bytes ≡ []) × (next ≡ Some (place.Indexes n)))
    ⊎ IsPieceOfRows c n t s (rows_behind c s after) bytes next)
IsPiece c (place.Indexes n) bytes next =
    OfTableAt c n (λ t s. bytes ≡ command_lines (index_declarations t)) × (next ≡ Some (place_from c (n.0 + 1)))
IsPiece c place.End bytes next = (bytes ≡ last_line (database_of c)) × (next ≡ None)

-- the first of the rows has no room in a block, even alone
abbrev pub IsTooLong : CatalogState → Table → RelationState → List TupleRef → Type 0
IsTooLong c t s refs = (r : TupleRef) × (slice_get refs 0 ≡ Some r) × (c.limits.block < length (block_of t.columns (seen_values c s r ∷ [])))

-- one of the rows has updates that no line can spell
abbrev pub AreUnspellable : CatalogState → Table → RelationState → List TupleRef → Type 0
AreUnspellable c t s refs = (r : TupleRef) × Contains refs r × IsUnspellable t.name t.columns (seen_values c s r)

-- Why there is no piece at a place. There may be no memory for any. Else it isn't there, or it is, and its rows have none.
abbrev pub IsDeclined : CatalogState → SavePlace → SaveFault → Type 0
IsDeclined c at (fault.NoMemory refused) = Unit {0}
IsDeclined c at fault.NoSuchPlace = ¬ (IsPlace c at)
IsDeclined c (place.Rows n after) fault.RowTooLong = IsPlace c (place.Rows n after) × OfTableAt c n (λ t s. IsTooLong c t s (rows_behind c s after))
IsDeclined c (place.Rows n after) fault.Unspellable = IsPlace c (place.Rows n after) × OfTableAt c n (λ t s. AreUnspellable c t s (rows_behind c s after))
IsDeclined c at other = ⊥
