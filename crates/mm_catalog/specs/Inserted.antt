-- A row that comes into one relation among others.
use Rattle.std.specs.Prelude.{◌≡◌, ◌⊎◌, ℕ, ◌<◌, ◌≤◌, ◌++◌, ◌∷◌, List, Some, None, length, slice_get, slice_set, take, drop}
use Rattle.std.specs.FinMap as finite
use Rattle.part_raw.specs.declared.tuple_ref.TupleRef.{TupleRef}
use Rattle.plain_tables.specs.declared.refusal.Refusal.{Refusal}
use Rattle.plain_tables.specs.declared.refusal.Refusal.TheVariants.{KeyExists, NoReferencedRow, TableFull, NoMemory}
use Rattle.plain_tables.specs.declared.value.Value.{Value}
use Rattle.mm_relation.specs.Rows.{Row, row_of}
use Rattle.mm_relation.specs.declared.row.Cell.{Cell}
use Rattle.mm_relation.specs.Changes.{IsInserted, new_row}
use Rattle.mm_relation.specs.State.{RelationState, IsKept, IsCurrent, HasKey, linked_keys}
use Rattle.mm_catalog.specs.Cells.{AreCellsOf, NamesNone, SomeNamesNone}
use Rattle.mm_catalog.specs.Linked.{row_links, target_at}
use Rattle.mm_catalog.specs.Counted.{AreCountedBy, naming, none}

-- why the value behind these cells has none: their key is there, or the value is to name a row and names none
abbrev pub IsNotNamed : List RelationState → RelationState → List Cell → Value → Refusal → Type 0
IsNotNamed relations s cells value refusal =
    (0 < length cells) × ((HasKey s.rows (row_of cells).key × (refusal ≡ KeyExists None)) ⊎ ((HasKey s.rows (row_of cells).key → ⊥) × (refusal ≡ NoReferencedRow None) × NamesNone relations (target_at s.targets (length cells)) value))

-- the row of these values can come in: its key is new, each row that it is to name is there, and there are fewer rows than the most
pub record CanComeIn (relations : List RelationState) (s : RelationState) (most : ℕ) (values : List Value) (key : Value) (behind : List Cell) : Type 0 where
  pub rest : List Value
  pub split : values ≡ key ∷ rest
  pub fresh : HasKey s.rows key → ⊥
  pub cells : AreCellsOf relations s.targets rest behind
  pub room : finite.len s.rows < most

-- why a row of this key and these values behind it cannot come in
pub data IsKeptOut (relations : List RelationState) (s : RelationState) (most : ℕ) (key : Value) (rest : List Value) : Refusal → Type 0 where
  no_memory : IsKeptOut relations s most key rest NoMemory
  key_there : HasKey s.rows key → IsKeptOut relations s most key rest (KeyExists None)
  none_named : (HasKey s.rows key → ⊥) → SomeNamesNone relations s.targets rest → IsKeptOut relations s most key rest (NoReferencedRow None)
  full : (HasKey s.rows key → ⊥) → (cells : List Cell) → AreCellsOf relations s.targets rest cells → most ≤ finite.len s.rows → IsKeptOut relations s most key rest (TableFull None)

-- the same of the row of these values
pub record CannotComeIn (relations : List RelationState) (s : RelationState) (most : ℕ) (values : List Value) (refusal : Refusal) : Type 0 where
  pub key : Value
  pub rest : List Value
  pub split : values ≡ key ∷ rest
  pub why : IsKeptOut relations s most key rest refusal

-- A row came into a relation under a reference, and each row of those before it that its links name has a referrer more for each.
pub record IsTakenIn (before now : List RelationState) (old new : RelationState) (r : TupleRef) (row : Row) : Type 0 where
  pub inserted : IsInserted old new r row
  pub kept : IsKept new
  pub current : IsCurrent (linked_keys old.targets before) new
  pub counted : AreCountedBy before now (naming (row_links old.targets row)) none

-- the row of this key and these values behind it came into a relation, under this reference
pub record IsInsertedBeside (before now : List RelationState) (old new : RelationState) (most : ℕ) (key : Value) (rest : List Value) (r : TupleRef) : Type 0 where
  pub cells : List Cell
  pub are : AreCellsOf before old.targets rest cells
  pub fresh : HasKey old.rows key → ⊥
  pub room : finite.len old.rows < most
  pub taken : IsTakenIn before now old new r (new_row key cells)

-- the row of these values came into the relation of a number, under this reference
pub record IsInsertedAt (old new : List RelationState) (n most : ℕ) (values : List Value) (r : TupleRef) : Type 0 where
  pub before : RelationState
  pub after : RelationState
  pub front : List RelationState
  pub key : Value
  pub cells : List Cell
  pub there : slice_get old n ≡ Some before
  pub list : new ≡ front ++ slice_set (drop n old) 0 after
  pub row : CanComeIn (take n old) before most values key cells
  pub taken : IsTakenIn (take n old) front before after r (new_row key cells)

-- the row of these values cannot come into the relation of a number
pub record IsRefusedAt (relations : List RelationState) (n most : ℕ) (values : List Value) (refusal : Refusal) : Type 0 where
  pub relation : RelationState
  pub there : slice_get relations n ≡ Some relation
  pub row : CannotComeIn (take n relations) relation most values refusal
