-- What a relation is seen as, what it keeps by itself, and what holds of it beside the relations that its links lead into.
use Rattle.std.specs.List.{list_any}
use Rattle.std.specs.Prelude.{Bool, true, false, not, filter, ◌≡◌, ℕ, zero, ◌<◌, ◌≤◌, ◌==◌, if◌then◌else◌, IsTrue, [], ◌∷◌, List, Option, Some, None, IsSome, refl, length, map, slice_get, All, Contains}
use Rattle.std.specs.Coded.{Coded, code_by, coded×, coded_bool, coded_ℕ, coded_list, coded_option}
use Rattle.std.specs.Option.{option_and_then}
use Rattle.std.specs.FinMap as finite
use Rattle.part_raw.specs.TupleRefs.{ref_code}
use Rattle.part_raw.specs.declared.tuple_ref.TupleRef.{TupleRef}
use Rattle.part_raw.specs.Store.{Tuples}
use Rattle.mm_index.specs.Bag.{IsSameBag}
use Rattle.mm_index.specs.Order.{IsRising}
use Rattle.ttree.specs.Held.{Tree as LabelledTree, Label, empty, list, tree_code, label_code}
use Rattle.plain_tables.specs.declared.value.Value.{Value}
use Rattle.plain_tables.specs.declared.schema.Schema.{Schema}
use Rattle.plain_tables.specs.declared.schema.IndexKind.{IndexKind}
use Rattle.plain_tables.specs.declared.schema.IndexKind.TheVariants.{Tree, Hash}
use Rattle.mm_relation.specs.Rows.{Row}
use Rattle.mm_relation.specs.declared.numbers.DeclaredIndex.{DeclaredIndex}
use Rattle.mm_relation.specs.Reading.{Keys, key_at, row_value, hash_at}
use Rattle.mm_relation.specs.Order.{KeysDiffer, column_cmp}

-- a tree of references to rows, in nodes that hold many each
abbrev pub RowTree : Type 0
RowTree = LabelledTree (Label TupleRef)

-- the references of a tree, in its order
abbrev pub tree_list : RowTree → List TupleRef
tree_list t = list t

-- The schema; the table that each column's links lead into; the declared indexes; the rows; how many links name each; the key's
-- tree; the column and the tree of each declared tree; the column and the entries of each declared hash; the column and the number
-- of buckets of each; whether there is memory for the numbers of links; the rows that are hidden; and how many rows are owed, that is,
-- can come back without memory.
pub record RelationState : Type 0 where
  pub schema : Schema
  pub targets : List (Option ℕ)
  pub declared : List DeclaredIndex
  pub rows : Tuples Row
  pub referrers : Tuples ℕ
  pub by_key : RowTree
  pub trees : List (ℕ × RowTree)
  pub hashes : List (ℕ × List (ℕ × TupleRef))
  pub buckets : List (ℕ × ℕ)
  pub counted : Bool
  pub hidden : Tuples Row
  pub owed : ℕ

abbrev pub state_code : Coded Schema → Coded DeclaredIndex → Coded Row → Coded RelationState
state_code schema index row =
    code_by (Schema × (List (Option ℕ) × (List DeclaredIndex × (Tuples Row × (Tuples ℕ × (RowTree × (List (ℕ × RowTree) × (List (ℕ × List (ℕ × TupleRef)) × (List (ℕ × ℕ) × (Bool × (Tuples Row × ℕ)))))))))))
    (coded× schema (coded× (coded_list (coded_option coded_ℕ)) (coded× (coded_list index) (coded× (finite.code ref_code row) (coded× (finite.code ref_code coded_ℕ) (coded× (tree_code (label_code ref_code)) (coded× (coded_list (coded× coded_ℕ (tree_code (label_code ref_code)))) (coded× (coded_list (coded× coded_ℕ (coded_list (coded× coded_ℕ ref_code)))) (coded× (coded_list (coded× coded_ℕ coded_ℕ)) (coded× coded_bool (coded× (finite.code ref_code row) coded_ℕ)))))))))))
    (λ s. (s.schema, (s.targets, (s.declared, (s.rows, (s.referrers, (s.by_key, (s.trees, (s.hashes, (s.buckets, (s.counted, (s.hidden, s.owed))))))))))))
    (λ p. record { schema = p.0; targets = p.1.0; declared = p.1.1.0; rows = p.1.1.1.0; referrers = p.1.1.1.1.0; by_key = p.1.1.1.1.1.0; trees = p.1.1.1.1.1.1.0; hashes = p.1.1.1.1.1.1.1.0; buckets = p.1.1.1.1.1.1.1.1.0; counted = p.1.1.1.1.1.1.1.1.1.0; hidden = p.1.1.1.1.1.1.1.1.1.1.0; owed = p.1.1.1.1.1.1.1.1.1.1.1 }) (λ _. refl)

-- no link leads anywhere: what an order by keys needs of links
abbrev pub no_keys : Keys
no_keys = λ _ _. None

-- the keys of the rows in these tables, by the table that each column's links lead into
abbrev pub linked_keys : List (Option ℕ) → List RelationState → Keys
linked_keys targets tables column to =
    option_and_then (λ s. key_at s.rows to) (option_and_then (slice_get tables) (option_and_then (λ t. t) (slice_get targets column)))

-- the list has each row once, and nothing else
pub record ListsRows (rows : Tuples Row) (list : List TupleRef) : Type 0 where
  pub held : All (λ r. IsSome (finite.get rows r)) list
  pub count : length list ≡ finite.len rows
  pub listed : (r : TupleRef) → IsSome (finite.get rows r) → Contains list r

-- the list has the rows in the order of their keys, which differ
pub record IsKeyed (rows : Tuples Row) (list : List TupleRef) : Type 0 where
  pub keys_differ : KeysDiffer rows
  pub lists : ListsRows rows list
  pub rising : IsRising (column_cmp no_keys 0 rows) list

-- the columns with a declared tree, and those with a declared hash, in the order of their declaration
abbrev pub is_tree : IndexKind → Bool
is_tree Tree = true
is_tree Hash = false

abbrev pub columns_with_tree : List DeclaredIndex → List ℕ
columns_with_tree declared = map (λ d. d.column.0) (filter (λ d. is_tree d.kind) declared)

abbrev pub columns_with_hash : List DeclaredIndex → List ℕ
columns_with_hash declared = map (λ d. d.column.0) (filter (λ d. not (is_tree d.kind)) declared)

-- what a relation keeps by itself
pub record IsKept (s : RelationState) : Type 0 where
  pub keyed : IsKeyed s.rows (tree_list s.by_key)
  pub few : finite.len s.rows ≤ 16777216
  pub width : length s.targets ≡ length s.schema.columns
  pub trees : map (λ t. t.0) s.trees ≡ columns_with_tree s.declared
  pub hashes : map (λ h. h.0) s.hashes ≡ columns_with_hash s.declared
  pub within : All (λ d. d.column.0 < length s.targets) s.declared

-- a row whose every column has a value under these keys
abbrev pub IsReadable : Keys → ℕ → Row → Type 0
IsReadable keys width t = (column : ℕ) → column < width → IsSome (row_value keys column t)

-- a tree on a column serves these references: it lists each once, in the column's order
pub record TreeServes (keys : Keys) (rows : Tuples Row) (refs : List TupleRef) (t : ℕ × RowTree) : Type 0 where
  pub bag : IsSameBag (tree_list t.1) refs
  pub rising : IsRising (column_cmp keys t.0 rows) (tree_list t.1)

-- a hash on a column serves these references: it has each once, under the hash of its value
abbrev pub HashServes : Keys → Tuples Row → List TupleRef → ℕ × List (ℕ × TupleRef) → Type 0
HashServes keys rows refs h = IsSameBag h.1 (map (λ r. (hash_at keys h.0 rows r, r)) refs)

-- under these keys each row can be read, and each declared index serves the rows
pub record IsCurrent (keys : Keys) (s : RelationState) : Type 0 where
  pub readable : (r : TupleRef) (t : Row) → finite.get s.rows r ≡ Some t → IsReadable keys (length s.targets) t
  pub trees : All (TreeServes keys s.rows (tree_list s.by_key)) s.trees
  pub hashes : All (HashServes keys s.rows (tree_list s.by_key)) s.hashes

-- the first tree on a column
abbrev pub tree_of : ℕ → List (ℕ × RowTree) → RowTree
tree_of column [] = empty
tree_of column (t ∷ rest) = if t.0 == column then t.1 else tree_of column rest

-- a tree stands on this column
abbrev pub HasColumn : ℕ → List (ℕ × RowTree) → Type 0
HasColumn column trees = IsTrue (list_any (λ t. t.0 == column) trees)

-- some row has this key
abbrev pub HasKey : Tuples Row → Value → Type 0
HasKey rows key = (r : TupleRef) × (key_at rows r ≡ Some key)

-- a row that is lent, how many links name it, and the table that each column's links lead into
pub record LentRow : Type 0 where
  pub row : Row
  pub referrers : ℕ
  pub targets : List (Option ℕ)

-- the entries of the first hash on a column
abbrev pub entries_on : ℕ → List (ℕ × List (ℕ × TupleRef)) → List (ℕ × TupleRef)
entries_on column [] = []
entries_on column (h ∷ rest) = if h.0 == column then h.1 else entries_on column rest

-- the number of buckets of the first hash on a column
abbrev pub buckets_on : ℕ → List (ℕ × ℕ) → ℕ
buckets_on column [] = zero
buckets_on column (b ∷ rest) = if b.0 == column then b.1 else buckets_on column rest

-- a hash stands on this column
abbrev pub HasHashColumn : ℕ → List (ℕ × List (ℕ × TupleRef)) → Type 0
HasHashColumn column hashes = IsTrue (list_any (λ h. h.0 == column) hashes)
