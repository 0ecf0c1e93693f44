-- What is answered to who asks how the indexes of a table stand.
use Rattle.std.specs.Prelude.{◌≡◌, ◌==◌, ◌/◌, ◌<◌, ◌⊎◌, ℕ, List, [], ◌∷◌, ◌++◌, Option, Some, None, if◌then◌else◌, length, position, slice_get, slice_index_or}
use Rattle.std.specs.Fmt.{decimal}
use Rattle.std.specs.List.{flat_map}
use Rattle.std.specs.Option.{option_map, option_map_or}
use Rattle.std.specs.Str.{IsUtf8}
use lib.Chars.{codes}
use Rattle.plain_tables.specs.AnswerText.{text_line, refusal_text}
use Rattle.plain_tables.specs.Databases.{is_named}
use Rattle.plain_tables.specs.References.{all_indexes}
use Rattle.plain_tables.specs.Spelling.{index_word}
use Rattle.plain_tables.specs.declared.refusal.Refusal.{Refusal}
use Rattle.plain_tables.specs.declared.refusal.Refusal.TheVariants.{NoMemory, NotUtf8, NoSuchTable}
use Rattle.plain_tables.specs.declared.schema.Column.{Column}
use Rattle.mm_catalog.specs.Indexes.{kind_of, TellsIndex}
use Rattle.mm_catalog.specs.Seen.{database_of}
use Rattle.mm_catalog.specs.State.{CatalogState}
use Rattle.mm_catalog.specs.declared.indexes.IndexShape.{IndexShape}
use Rattle.mm_catalog.specs.declared.indexes.IndexShape.TheVariants.{Tree, Hash}
use Rattle.mm_catalog.specs.declared.indexes.TableIndex.{TableIndex}

-- how many references a node has in the mean, rounded down
abbrev pub fill_of : (nodes items : ℕ) → ℕ
fill_of nodes items = if nodes == 0 then 0 else items / nodes

-- the numbers of an index, each where its kind has it: rows, height, nodes, references to a node, buckets, longest chain
abbrev pub numbers_of : IndexShape → List (Option ℕ)
numbers_of (Tree t) = Some t.items ∷ Some t.height ∷ Some t.nodes ∷ Some (fill_of t.nodes t.items) ∷ None ∷ None ∷ []
numbers_of (Hash h) = Some h.items ∷ None ∷ None ∷ None ∷ Some h.buckets ∷ Some h.longest ∷ []

-- a field behind a comma, with a number or empty
abbrev pub number_field : Option ℕ → List ℕ
number_field None = 44 ∷ []
number_field (Some n) = 44 ∷ decimal n

abbrev pub column_name : List Column → ℕ → List ℕ
column_name columns column = option_map_or (λ c. c.name) (slice_get columns column) []

-- the record of an index: the name of its column, its kind, and its numbers
abbrev pub index_line : List Column → TableIndex → List ℕ
index_line columns told =
    text_line (column_name columns told.column.0 ++ (44 ∷ (index_word (kind_of told.shape) ++ flat_map number_field (numbers_of told.shape))))

-- the names of what a record has
abbrev pub heading_line : List ℕ
heading_line = text_line (codes "column,kind,rows,height,nodes,fill,buckets,longest")

-- This is told of the indexes of a table with these columns: of each of them, in their order.
pub record AreIndexesOf (c : CatalogState) (table : ℕ) (all_columns : List Column) (told : List TableIndex) : Type 0 where
  pub columns : option_map (λ t. t.columns) (slice_get (database_of c) table) ≡ Some all_columns
  pub number : option_map (λ t. length (all_indexes t)) (slice_get (database_of c) table) ≡ Some (length told)
  pub each : (k : ℕ) (d : TableIndex) → k < length told → TellsIndex c table k (slice_index_or told k d)

-- The records of a table's indexes were added.
abbrev pub AddsRecords : CatalogState → ℕ → (before after : List ℕ) → Type 0
AddsRecords c table before after =
    (columns : List Column) × (told : List TableIndex) × AreIndexesOf c table columns told × (after ≡ before ++ flat_map (index_line columns) told)

-- So was in front of them how many they are, and the names of what they have.
abbrev pub AddsIndexes : CatalogState → ℕ → (before after : List ℕ) → Type 0
AddsIndexes c table before after =
    (columns : List Column) × (told : List TableIndex) × AreIndexesOf c table columns told
    × (after ≡ before ++ (text_line (codes "rows " ++ decimal (length told)) ++ (heading_line ++ flat_map (index_line columns) told)))

-- Why nothing is told of a table of that name.
pub data TellsNothing (c : CatalogState) (name : List ℕ) : Refusal → Type 0 where
  no_memory : TellsNothing c name NoMemory
  not_utf8 : ¬ (IsUtf8 name) → TellsNothing c name NotUtf8
  no_such_table : position (is_named name) (database_of c) ≡ None → TellsNothing c name NoSuchTable

-- The answer to who asks for the indexes of the table of that name: these, or why they are not told.
abbrev pub AnswersIndexes : CatalogState → (name answer : List ℕ) → Type 0
AnswersIndexes c name answer =
    ((table : ℕ) × (position (is_named name) (database_of c) ≡ Some table) × AddsIndexes c table [] answer)
    ⊎ ((refusal : Refusal) × TellsNothing c name refusal × (answer ≡ refusal_text refusal))
