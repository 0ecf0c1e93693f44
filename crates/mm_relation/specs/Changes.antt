-- What the calls of a relation do to it.
use Rattle.std.specs.Prelude.{Bool, ◌≡◌, ℕ, ◌-◌, ◌<◌, ◌≤◌, ◌==◌, ◌||◌, if◌then◌else◌, IsTrue, List, [], ◌∷◌, None, Result, Ok, Err}
use Rattle.std.specs.List.{list_any}
use Rattle.std.specs.FinMap as finite
use Rattle.part_raw.specs.declared.tuple_ref.TupleRef.{TupleRef}
use Rattle.plain_tables.specs.declared.value.Value.{Value}
use Rattle.plain_tables.specs.declared.schema.IndexKind.{IndexKind}
use Rattle.plain_tables.specs.declared.schema.IndexKind.TheVariants.{Tree, Hash}
use Rattle.mm_relation.specs.Rows.{Row}
use Rattle.mm_relation.specs.declared.row.Cell.{Cell}
use Rattle.mm_relation.specs.declared.refusal.RowRefusal.{RowRefusal}
use Rattle.mm_relation.specs.declared.refusal.RowRefusal.TheVariants.{KeyExists, Full, NoMemory}
use Rattle.plain_tables.specs.declared.numbers.ColumnNumber.{ColumnNumber}
use Rattle.mm_relation.specs.Settings.{CellsSet}
use Rattle.mm_relation.specs.State.{RelationState, RowTree, tree_list, tree_of, HasKey, entries_on, buckets_on}

-- all but the rows, and with them the indexes' contents, is as it was
pub record KeepsSchema (old new : RelationState) : Type 0 where
  pub schema : new.schema ≡ old.schema
  pub targets : new.targets ≡ old.targets
  pub declared : new.declared ≡ old.declared
  pub counted : new.counted ≡ old.counted
  pub hidden : new.hidden ≡ old.hidden
  pub owed : new.owed ≡ old.owed

-- one row more, under a reference that was free; no link names it
pub record IsInserted (old new : RelationState) (r : TupleRef) (row : Row) : Type 0 where
  pub free : finite.get old.rows r ≡ None
  pub rows : new.rows ≡ finite.insert old.rows r row
  pub referrers : new.referrers ≡ finite.insert old.referrers r 0
  pub keeps : KeepsSchema old new

-- this row less
pub record IsRemoved (old new : RelationState) (r : TupleRef) : Type 0 where
  pub rows : new.rows ≡ finite.remove old.rows r
  pub referrers : new.referrers ≡ finite.remove old.referrers r
  pub keeps : KeepsSchema old new

-- this row is hidden: it is no row any longer, and its cells and its reference stay its own
pub record IsHidden (old new : RelationState) (r : TupleRef) (row : Row) : Type 0 where
  pub rows : new.rows ≡ finite.remove old.rows r
  pub referrers : new.referrers ≡ finite.remove old.referrers r
  pub keeps : KeepsSchema (record old { hidden = finite.insert old.hidden r row }) new

-- this hidden row is a row again; no link names it, and one row fewer is owed
pub record IsShown (old new : RelationState) (r : TupleRef) (row : Row) : Type 0 where
  pub rows : new.rows ≡ finite.insert old.rows r row
  pub referrers : new.referrers ≡ finite.insert old.referrers r 0
  pub keeps : KeepsSchema (record old { hidden = finite.remove old.hidden r; owed = old.owed - 1 }) new

-- these cells are set in exactly these rows
pub record IsChanged (old new : RelationState) (rs : List TupleRef) (sets : List (ColumnNumber × Cell)) : Type 0 where
  pub rows : CellsSet old.rows new.rows rs sets
  pub referrers : new.referrers ≡ old.referrers
  pub keeps : KeepsSchema old new

-- these cells are set in this row, and one row fewer is owed
abbrev pub IsChangedBack : RelationState → RelationState → TupleRef → List (ColumnNumber × Cell) → Type 0
IsChangedBack old new r sets = IsChanged (record old { owed = old.owed - 1 }) new (r ∷ []) sets

-- KeyExists where the key is there, then Full where the relation is full, running out of memory aside
abbrev pub IsToldRightly : RelationState → Value → Result TupleRef RowRefusal → Type 0
IsToldRightly s key (Ok r) = (HasKey s.rows key → ⊥) × (finite.len s.rows < 16777216)
IsToldRightly s key (Err KeyExists) = HasKey s.rows key
IsToldRightly s key (Err Full) = (HasKey s.rows key → ⊥) × (16777216 ≤ finite.len s.rows)
IsToldRightly s key (Err NoMemory) = Unit {0}

-- why a row that there is room for didn't come in, by whether its key is there
abbrev pub IsPlacedRightly : Type 0 → Result TupleRef RowRefusal → Type 0
IsPlacedRightly key_held (Ok r) = key_held → ⊥
IsPlacedRightly key_held (Err KeyExists) = key_held
IsPlacedRightly key_held (Err Full) = ⊥
IsPlacedRightly key_held (Err NoMemory) = Unit {0}

-- a row as it comes in
abbrev pub new_row : Value → List Cell → Row
new_row key cells = record { key = key; cells = cells }

-- whether an index of this kind is declared on this column
abbrev pub has_declared_on : RelationState → ℕ → IndexKind → Bool
has_declared_on s column Tree = list_any (λ t. t.0 == column) s.trees
has_declared_on s column Hash = list_any (λ h. h.0 == column) s.hashes

-- whether a tree stands on this column: the key's own, or a declared one
abbrev pub has_tree_on : RelationState → ℕ → Bool
has_tree_on s column = (column == 0) || list_any (λ t. t.0 == column) s.trees

abbrev pub HasTree : RelationState → ℕ → Type 0
HasTree s column = IsTrue (has_tree_on s column)

-- the tree on this column
abbrev pub tree_on : RelationState → ℕ → RowTree
tree_on s column = if column == 0 then s.by_key else tree_of column s.trees

-- the references that it lists, in the column's order
abbrev pub list_of : RelationState → ℕ → List TupleRef
list_of s column = tree_list (tree_on s column)

-- whether a hash stands on this column
abbrev pub has_hash_on : RelationState → ℕ → Bool
has_hash_on s column = list_any (λ h. h.0 == column) s.hashes

abbrev pub HasHash : RelationState → ℕ → Type 0
HasHash s column = IsTrue (has_hash_on s column)

-- the entries of the hash on this column
abbrev pub entries_of : RelationState → ℕ → List (ℕ × TupleRef)
entries_of s column = entries_on column s.hashes

-- the number of buckets of the hash on this column
abbrev pub buckets_of : RelationState → ℕ → ℕ
buckets_of s column = buckets_on column s.buckets

-- so many links name this row, and nothing else is different
abbrev pub with_referrers : RelationState → TupleRef → ℕ → RelationState
with_referrers s r n = record s { referrers = finite.insert s.referrers r n }
