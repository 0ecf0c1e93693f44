-- What a row's coming and going does to one declared index, and to all of them.
use Rattle.std.specs.Prelude.{Bool, true, false, not, filter, ◌≡◌, ℕ, ◌^◌, ◌+◌, ◌<◌, ◌≤◌, max, [], ◌∷◌, List, IsTrue, IsSome, length, map, All, Contains, slice_index_or}
use Rattle.part_raw.specs.declared.tuple_ref.TupleRef.{TupleRef}
use Rattle.std.specs.FinMap.{get}
use Rattle.part_raw.specs.Store.{Tuples}
use Rattle.ttree_node.specs.TreeWithSpares.{TreeWithSpares}
use Rattle.ttree.specs.Held.{empty, size}
use Rattle.ttree.specs.Room.{room_of}
use Rattle.lin_hash.specs.HeldRows.{HeldRows, IsCovered}
use Rattle.mm_index.specs.Bag.{IsSameBag}
use Rattle.mm_index.specs.Order.{IsRising, insert_by, remove_by}
use Rattle.plain_tables.specs.declared.schema.IndexKind.{IndexKind}
use Rattle.plain_tables.specs.declared.numbers.ColumnNumber.{ColumnNumber}
use Rattle.mm_relation.specs.Rows.{Row}
use Rattle.mm_relation.specs.declared.row.Cell.{Cell}
use Rattle.mm_relation.specs.declared.numbers.DeclaredIndex.{DeclaredIndex}
use Rattle.mm_relation.specs.declared.index.Index.{Index}
use Rattle.mm_relation.specs.declared.index.Index.TheVariants.{Tree, Hash}
use Rattle.mm_relation.specs.declared.index.IndexOn.{IndexOn}
use Rattle.mm_relation.specs.State.{RowTree, tree_list, is_tree, TreeServes, HashServes}
use Rattle.mm_relation.specs.Settings.{sets_column}
use Rattle.mm_relation.specs.Reading.{Keys, value_at, row_value, hash_at}
use Rattle.mm_relation.specs.Order.{column_cmp}

-- the declared indexes in the order of their declaration
abbrev pub Indexes : Type 0
Indexes = List IndexOn

-- which of the two an index is
abbrev pub kind_in : Index → IndexKind
kind_in (Tree t) = IndexKind.Tree
kind_in (Hash h) = IndexKind.Hash

-- the tree that it is
abbrev pub tree_in : Index → RowTree
tree_in (Tree t) = t.tree
tree_in (Hash h) = empty

-- the entries of the hash that it is
abbrev pub entries_in : Index → List (ℕ × TupleRef)
entries_in (Tree t) = []
entries_in (Hash h) = h.entries

-- the number of buckets of the hash that it is
abbrev pub buckets_in : Index → ℕ
buckets_in (Tree t) = 0
buckets_in (Hash h) = h.buckets

-- how many inserts it is sure of
abbrev pub room_in : Index → ℕ
room_in (Tree t) = room_of 30 t
room_in (Hash h) = h.room

-- it has memory for the node of this row, where rows have nodes of their own
abbrev pub CoversIn : TupleRef → Index → Type 0
CoversIn r (Tree t) = Unit {0}
CoversIn r (Hash h) = IsCovered h.covered r

-- how many spare nodes a tree has
abbrev pub spares_in : Index → ℕ
spares_in (Tree t) = t.spares
spares_in (Hash h) = 0

-- a tree has no more spare nodes than nodes in use, but for a few
abbrev pub HasFewSpares : IndexOn → Type 0
HasFewSpares on = spares_in on.index ≤ max (size (tree_in on.index)) 64

-- of how many inserts it is to be sure: so many in a tree, and so many in a hash
abbrev pub sure : ℕ → ℕ → Index → ℕ
sure trees hashes (Tree t) = trees
sure trees hashes (Hash h) = hashes

-- how an index was declared
abbrev pub declared_as : ColumnNumber → Index → DeclaredIndex
declared_as column index = record { column = column; kind = kind_in index }

abbrev pub declaration_of : IndexOn → DeclaredIndex
declaration_of on = declared_as on.column on.index

-- an index as a relation shows it: its declaration, its tree where it is one, and its entries and the number of its buckets where
-- it is a hash
pub record SeenIndex : Type 0 where
  pub declaration : DeclaredIndex
  pub tree : RowTree
  pub entries : List (ℕ × TupleRef)
  pub buckets : ℕ

abbrev pub seen_as : ColumnNumber → Index → SeenIndex
seen_as column index = record { declaration = declared_as column index; tree = tree_in index; entries = entries_in index; buckets = buckets_in index }

abbrev pub seen : IndexOn → SeenIndex
seen on = seen_as on.column on.index

-- the trees among them, and the hashes, each with its column
abbrev pub trees_of : List SeenIndex → List (ℕ × RowTree)
trees_of all = map (λ s. (s.declaration.column.0, s.tree)) (filter (λ s. is_tree s.declaration.kind) all)

abbrev pub hashes_of : List SeenIndex → List (ℕ × List (ℕ × TupleRef))
hashes_of all = map (λ s. (s.declaration.column.0, s.entries)) (filter (λ s. not (is_tree s.declaration.kind)) all)

-- the numbers of buckets of the hashes, each with its column
abbrev pub all_buckets : List SeenIndex → List (ℕ × ℕ)
all_buckets all = map (λ s. (s.declaration.column.0, s.buckets)) (filter (λ s. not (is_tree s.declaration.kind)) all)

-- one thing where a test passes, and another where it doesn't
abbrev pub Where : Bool → Type 0 → Type 0 → Type 0
Where true A B = A
Where false A B = B

-- the tree rises over the rows, which can be read in its column
pub record IsRisingTree (keys : Keys) (rows : Tuples Row) (column : ℕ) (t : TreeWithSpares) : Type 0 where
  pub readable : All (λ q. IsSome (value_at keys column rows q)) (tree_list t.tree)
  pub rising : IsRising (column_cmp keys column rows) (tree_list t.tree)

-- a tree on a column can take in this row
pub record TreeAwaits (keys : Keys) (rows : Tuples Row) (r : TupleRef) (column : ℕ) (t : TreeWithSpares) : Type 0 where
  pub room : 0 < room_of 30 t
  pub short : length (tree_list t.tree) < 2 ^ 32
  pub absent : Contains (tree_list t.tree) r → ⊥
  pub r_readable : IsSome (value_at keys column rows r)
  pub tree : IsRisingTree keys rows column t

-- the tree with this row besides
pub record TreeGains (keys : Keys) (rows : Tuples Row) (r : TupleRef) (column : ℕ) (old new : TreeWithSpares) : Type 0 where
  pub room : room_of 30 old ≤ room_of 30 new + 1
  pub items : tree_list new.tree ≡ insert_by (column_cmp keys column rows) r (tree_list old.tree)
  pub rising : IsRising (column_cmp keys column rows) (tree_list new.tree)

-- the tree lists this row
pub record TreeHas (keys : Keys) (rows : Tuples Row) (r : TupleRef) (column : ℕ) (t : TreeWithSpares) : Type 0 where
  pub held : Contains (tree_list t.tree) r
  pub tree : IsRisingTree keys rows column t

-- the tree without this row
pub record TreeLoses (keys : Keys) (rows : Tuples Row) (r : TupleRef) (column : ℕ) (old new : TreeWithSpares) : Type 0 where
  pub room : room_of 30 old ≤ room_of 30 new
  pub items : tree_list new.tree ≡ remove_by (column_cmp keys column rows) r (tree_list old.tree)
  pub rising : IsRising (column_cmp keys column rows) (tree_list new.tree)

-- a hash on a column can take in this row
pub record HashAwaits (keys : Keys) (rows : Tuples Row) (r : TupleRef) (column : ℕ) (h : HeldRows) : Type 0 where
  pub room : 0 < h.room
  pub short : length h.entries < 2 ^ 32
  pub covered : IsCovered h.covered r
  pub absent : (hash : ℕ) → Contains h.entries (hash, r) → ⊥
  pub r_readable : IsSome (value_at keys column rows r)

-- the hash with this row besides
pub record HashGains (keys : Keys) (rows : Tuples Row) (r : TupleRef) (column : ℕ) (old new : HeldRows) : Type 0 where
  pub room : old.room ≤ new.room + 1
  pub entries : IsSameBag new.entries ((hash_at keys column rows r, r) ∷ old.entries)
  pub nodes : new.covered ≡ old.covered

-- the hash has this row
pub record HashHas (keys : Keys) (rows : Tuples Row) (r : TupleRef) (column : ℕ) (h : HeldRows) : Type 0 where
  pub held : Contains h.entries (hash_at keys column rows r, r)

-- the hash without this row, for which it keeps memory
pub record HashLoses (keys : Keys) (rows : Tuples Row) (r : TupleRef) (column : ℕ) (old new : HeldRows) : Type 0 where
  pub room : old.room + 1 ≤ new.room
  pub entries : IsSameBag old.entries ((hash_at keys column rows r, r) ∷ new.entries)
  pub covered : IsCovered new.covered r
  pub nodes : new.covered ≡ old.covered

-- an index on a column can take in this row
abbrev pub AwaitsAs : Keys → Tuples Row → TupleRef → ℕ → Index → Type 0
AwaitsAs keys rows r column (Tree t) = TreeAwaits keys rows r column t
AwaitsAs keys rows r column (Hash h) = HashAwaits keys rows r column h

abbrev pub Awaits : Keys → Tuples Row → TupleRef → IndexOn → Type 0
Awaits keys rows r on = AwaitsAs keys rows r on.column.0 on.index

-- it is of the same kind, with this row besides
abbrev pub GainsAs : Keys → Tuples Row → TupleRef → ℕ → Index → Index → Type 0
GainsAs keys rows r column (Tree t) (Tree u) = TreeGains keys rows r column t u
GainsAs keys rows r column (Hash h) (Hash g) = HashGains keys rows r column h g
GainsAs keys rows r column (Tree t) (Hash g) = ⊥
GainsAs keys rows r column (Hash h) (Tree u) = ⊥

abbrev pub Gains : Keys → Tuples Row → TupleRef → IndexOn → IndexOn → Type 0
Gains keys rows r old new = (new.column ≡ old.column) × GainsAs keys rows r old.column.0 old.index new.index

-- it has this row
abbrev pub HasAs : Keys → Tuples Row → TupleRef → ℕ → Index → Type 0
HasAs keys rows r column (Tree t) = TreeHas keys rows r column t
HasAs keys rows r column (Hash h) = HashHas keys rows r column h

abbrev pub Has : Keys → Tuples Row → TupleRef → IndexOn → Type 0
Has keys rows r on = HasAs keys rows r on.column.0 on.index

-- it is of the same kind, without this row
abbrev pub LosesAs : Keys → Tuples Row → TupleRef → ℕ → Index → Index → Type 0
LosesAs keys rows r column (Tree t) (Tree u) = TreeLoses keys rows r column t u
LosesAs keys rows r column (Hash h) (Hash g) = HashLoses keys rows r column h g
LosesAs keys rows r column (Tree t) (Hash g) = ⊥
LosesAs keys rows r column (Hash h) (Tree u) = ⊥

abbrev pub Loses : Keys → Tuples Row → TupleRef → IndexOn → IndexOn → Type 0
Loses keys rows r old new = (new.column ≡ old.column) × LosesAs keys rows r old.column.0 old.index new.index

-- it serves these references
abbrev pub Serves : Keys → Tuples Row → List TupleRef → SeenIndex → Type 0
Serves keys rows refs s = Where (is_tree s.declaration.kind) (TreeServes keys rows refs (s.declaration.column.0, s.tree)) (HashServes keys rows refs (s.declaration.column.0, s.entries))

-- a declared index stands on this column
abbrev pub IsColumn : Indexes → ℕ → Type 0
IsColumn all column = Contains (map (λ d. d.column.0) (map declaration_of all)) column

-- each row has a value in each column with an index
abbrev pub CanRead : Keys → Tuples Row → Indexes → Type 0
CanRead keys rows all = (c : ℕ) (q : TupleRef) → IsColumn all c → IsSome (get rows q) → IsSome (value_at keys c rows q)

-- this row has a value in each column with an index
abbrev pub CanReadRow : Keys → Row → Indexes → Type 0
CanReadRow keys row all = (c : ℕ) → IsColumn all c → IsSome (row_value keys c row)

-- each index changed so, and none came or went
pub record Each (P : IndexOn → IndexOn → Type 0) (old new : Indexes) : Type 0 where
  pub count : length new ≡ length old
  pub at : (k : ℕ) (d : IndexOn) → k < length old → P (slice_index_or old k d) (slice_index_or new k d)

-- all can take in this row, all have it, and all serve these references
abbrev pub Await : Keys → Tuples Row → TupleRef → Indexes → Type 0
Await keys rows r all = All (Awaits keys rows r) all

abbrev pub Have : Keys → Tuples Row → TupleRef → Indexes → Type 0
Have keys rows r all = All (Has keys rows r) all

abbrev pub Serve : Keys → Tuples Row → List TupleRef → Indexes → Type 0
Serve keys rows refs all = All (Serves keys rows refs) (map seen all)

-- the row comes into each, or goes out of each
abbrev pub Gain : Keys → Tuples Row → TupleRef → Indexes → Indexes → Type 0
Gain keys rows r old new = Each (Gains keys rows r) old new

abbrev pub Lose : Keys → Tuples Row → TupleRef → Indexes → Indexes → Type 0
Lose keys rows r old new = Each (Loses keys rows r) old new

-- the trees are sure of so many inserts, and the hashes of so many
abbrev pub HaveRooms : ℕ → ℕ → Indexes → Type 0
HaveRooms trees hashes all = All (λ on. sure trees hashes on.index ≤ room_in on.index) all

-- the trees are sure of so many inserts, and the hashes of one
abbrev pub HaveRoom : ℕ → Indexes → Type 0
HaveRoom n all = HaveRooms n 1 all

-- each has memory for the node of this row
abbrev pub Cover : TupleRef → Indexes → Type 0
Cover r all = All (λ on. CoversIn r on.index) all

-- the trees are sure of so many inserts fewer at most, and the hashes of so many; each has each row's node still
pub record KeepRoom (trees hashes : ℕ) (old new : Indexes) : Type 0 where
  pub room : (t h : ℕ) → HaveRooms (t + trees) (h + hashes) old → HaveRooms t h new
  pub covered : (r : TupleRef) → Cover r old → Cover r new

-- as cells are set in the row, it goes out of an index whose column is set, and comes in again; the others stay as they are
abbrev pub LosesSet : Keys → Tuples Row → TupleRef → List (ColumnNumber × Cell) → IndexOn → IndexOn → Type 0
LosesSet keys rows r sets old new = Where (sets_column sets old.column.0) (Loses keys rows r old new) (new ≡ old)

abbrev pub AwaitsSet : Keys → Tuples Row → TupleRef → List (ColumnNumber × Cell) → IndexOn → Type 0
AwaitsSet keys rows r sets on = IsTrue (sets_column sets on.column.0) → Awaits keys rows r on

abbrev pub GainsSet : Keys → Tuples Row → TupleRef → List (ColumnNumber × Cell) → IndexOn → IndexOn → Type 0
GainsSet keys rows r sets old new = Where (sets_column sets old.column.0) (Gains keys rows r old new) (new ≡ old)

abbrev pub LoseSet : Keys → Tuples Row → TupleRef → List (ColumnNumber × Cell) → Indexes → Indexes → Type 0
LoseSet keys rows r sets old new = Each (LosesSet keys rows r sets) old new

abbrev pub AwaitSet : Keys → Tuples Row → TupleRef → List (ColumnNumber × Cell) → Indexes → Type 0
AwaitSet keys rows r sets all = All (AwaitsSet keys rows r sets) all

abbrev pub GainSet : Keys → Tuples Row → TupleRef → List (ColumnNumber × Cell) → Indexes → Indexes → Type 0
GainSet keys rows r sets old new = Each (GainsSet keys rows r sets) old new
