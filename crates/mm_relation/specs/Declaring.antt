-- What it does to a relation to be made, to have an index declared or dropped, and to be told where links lead.
use Rattle.std.specs.Prelude.{Bool, false, not, ◌&&◌, ◌≡◌, ℕ, ◌==◌, if◌then◌else◌, [], ◌∷◌, ◌++◌, List, Some, None, length, replicate, slice_set}
use Rattle.std.specs.FinMap as finite
use Rattle.part_raw.specs.declared.tuple_ref.TupleRef.{TupleRef}
use Rattle.ttree.specs.Held.{empty}
use Rattle.plain_tables.specs.declared.schema.Schema.{Schema}
use Rattle.plain_tables.specs.declared.schema.IndexKind.{IndexKind}
use Rattle.plain_tables.specs.declared.schema.IndexKind.TheVariants.{Tree, Hash}
use Rattle.plain_tables.specs.declared.numbers.ColumnNumber.{ColumnNumber}
use Rattle.plain_tables.specs.declared.numbers.TableNumber.{TableNumber}
use Rattle.mm_relation.specs.declared.numbers.DeclaredIndex.{DeclaredIndex}
use Rattle.mm_relation.specs.declared.index.IndexOn.{IndexOn}
use Rattle.mm_relation.specs.Indexes.{Indexes, declaration_of}
use Rattle.mm_relation.specs.State.{RelationState, RowTree, is_tree}

-- these columns and nothing else: no row, no declared index, no column whose links lead anywhere
abbrev pub new_relation : Schema → RelationState
new_relation schema =
    record { schema = schema; targets = replicate (length schema.columns) None; declared = []; rows = finite.empty; referrers = finite.empty; by_key = empty; trees = []; hashes = []; buckets = []; counted = false; hidden = finite.empty; owed = 0 }

-- the declaration of an index
abbrev pub declaration : ColumnNumber → IndexKind → DeclaredIndex
declaration column kind = record { column = column; kind = kind }

-- the new indexes are the old ones and this one, the last
abbrev pub IsAdded : DeclaredIndex → Indexes → Indexes → Type 0
IsAdded index old new = (on : IndexOn) × (declaration_of on ≡ index) × (new ≡ old ++ on ∷ [])

-- the new relation has one declared index more, the last, and nothing else changed: some tree, or a hash with some entries in some number
-- of buckets
abbrev pub IsDeclaredOf : IndexKind → ColumnNumber → RelationState → RelationState → Type 0
IsDeclaredOf Tree column old new =
    (tree : RowTree) × (new ≡ record old { declared = old.declared ++ declaration column Tree ∷ []; trees = old.trees ++ (column.0, tree) ∷ [] })
IsDeclaredOf Hash column old new =
    (entries : List (ℕ × TupleRef)) × (buckets : ℕ)
    × (new ≡ record old { declared = old.declared ++ declaration column Hash ∷ []; hashes = old.hashes ++ (column.0, entries) ∷ []; buckets = old.buckets ++ (column.0, buckets) ∷ [] })

abbrev pub IsDeclared : RelationState → RelationState → DeclaredIndex → Type 0
IsDeclared old new index = IsDeclaredOf index.kind index.column old new

-- the list without its first element that passes
abbrev pub without_first : {A : Type 0} → (A → Bool) → List A → List A
without_first test [] = []
without_first test (x ∷ rest) = if test x then rest else x ∷ without_first test rest

-- the two kinds are one
abbrev pub is_kind : IndexKind → IndexKind → Bool
is_kind Tree kind = is_tree kind
is_kind Hash kind = not (is_tree kind)

-- the two declarations are one: on one column, of one kind
abbrev pub is_index : DeclaredIndex → DeclaredIndex → Bool
is_index index other = (other.column.0 == index.column.0) && is_kind index.kind other.kind

-- the first such declared index is gone, and nothing else changed
abbrev pub without_of : IndexKind → ℕ → RelationState → RelationState
without_of Tree column s = record s { trees = without_first (λ t. t.0 == column) s.trees }
without_of Hash column s = record s { hashes = without_first (λ h. h.0 == column) s.hashes; buckets = without_first (λ b. b.0 == column) s.buckets }

abbrev pub without_index : RelationState → DeclaredIndex → RelationState
without_index s index = without_of index.kind index.column.0 (record s { declared = without_first (is_index index) s.declared })

-- the links in this column lead into this table
abbrev pub with_target : RelationState → ℕ → TableNumber → RelationState
with_target s column table = record s { targets = slice_set s.targets column (Some table.0) }
