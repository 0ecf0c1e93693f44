-- The cells of rows, of which those in reference columns are links.
use Rattle.std.specs.Prelude.{◌≡◌, ◌≢◌, ℕ, zero, suc, ◌+◌, List, ◌∷◌, Option, Some, None, IsSome, length, slice_get}
use Rattle.std.specs.Option.{option_and_then}
use Rattle.part_raw.specs.declared.tuple_ref.TupleRef.{TupleRef}
use Rattle.plain_tables.specs.declared.value.Value.{Value}
use Rattle.plain_tables.specs.declared.value.Value.TheVariants.{Null}
use Rattle.mm_relation.specs.declared.row.Cell.{Cell}
use Rattle.mm_relation.specs.declared.row.Cell.TheVariants.{Held, Link}
use Rattle.mm_relation.specs.Reading.{key_at}
use Rattle.mm_relation.specs.State.{RelationState, HasKey}
use Rattle.mm_catalog.specs.Linked.{target_at}

-- the relation that the links of a column lead into, if they lead into one
abbrev pub target_in : List RelationState → Option ℕ → Option RelationState
target_in relations target = option_and_then (slice_get relations) target

-- the value of a cell in a column whose links lead into that relation
abbrev pub read_in : List RelationState → Option ℕ → Cell → Option Value
read_in relations target (Held value) = Some value
read_in relations target (Link to) = option_and_then (λ s. key_at s.rows to) (target_in relations target)

-- a link or null, where links lead into a relation
abbrev pub IsLinkOrNull : Option ℕ → Cell → Type 0
IsLinkOrNull target cell = (value : Value) → IsSome target → cell ≡ Held value → value ≡ Null

-- a cell that reads as this value, and is a link or null where links lead into a relation
pub record IsCellOf (relations : List RelationState) (target : Option ℕ) (value : Value) (cell : Cell) : Type 0 where
  pub read : read_in relations target cell ≡ Some value
  pub linked : IsLinkOrNull target cell

-- the cell of a value that names this row, or else is held itself
abbrev pub cell_for : Value → Option TupleRef → Cell
cell_for value None = Held value
cell_for value (Some to) = Link to

-- the value is to name a row of the relation that links lead into, and none of its rows has it for a key
pub record NamesNone (relations : List RelationState) (target : Option ℕ) (value : Value) : Type 0 where
  pub some : value ≢ Null
  pub relation : RelationState
  pub there : target_in relations target ≡ Some relation
  pub absent : HasKey relation.rows value → ⊥

-- the cells of the first values behind the key
abbrev pub AreFirstCells : List RelationState → List (Option ℕ) → List Value → List Cell → Type 0
AreFirstCells relations targets values cells =
    (k : ℕ) (value : Value) (cell : Cell) → slice_get values k ≡ Some value → slice_get cells k ≡ Some cell → IsCellOf relations (target_at targets (k + 1)) value cell

-- the cells of the values behind the key, one for each
pub record AreCellsOf (relations : List RelationState) (targets : List (Option ℕ)) (values : List Value) (cells : List Cell) : Type 0 where
  pub count : length cells ≡ length values
  pub each : AreFirstCells relations targets values cells

-- one of the values behind the key names no row
abbrev pub SomeNamesNone : List RelationState → List (Option ℕ) → List Value → Type 0
SomeNamesNone relations targets values =
    (k : ℕ) × (value : Value) × (slice_get values k ≡ Some value) × NamesNone relations (target_at targets (k + 1)) value

-- the cells of a row of this key and these values behind it, the key's the first
pub record AreRowCells (relations : List RelationState) (targets : List (Option ℕ)) (key : Value) (rest : List Value) (cells : List Cell) : Type 0 where
  pub behind : List Cell
  pub split : cells ≡ Held key ∷ behind
  pub are : AreCellsOf relations targets rest behind

-- where the links of a column lead; the key is a value of the row's own
abbrev pub led_to : List (Option ℕ) → ℕ → Option ℕ
led_to targets zero = None
led_to targets (suc column) = target_at targets (suc column)
