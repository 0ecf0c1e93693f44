-- Table: a name, columns, declared indexes and rows in key order.
use Rattle.std.specs.Prelude.{◌≡◌, ℕ, List, ◌++◌, ◌∷◌, take, Bool}
use Rattle.std.specs.List.{AllPairs, filter, list_any}
use Rattle.std.specs.declared.cmp.Ordering.{Ordering}
use Rattle.std.specs.declared.cmp.Ordering.TheVariants.{Less}
use Rattle.std.specs.Ordering.{is_lt, is_eq}
use Rattle.std.specs.Cmp.Lexicographic.{slice_cmp}
use Rattle.plain_tables.specs.Values.{value_cmp}
use Rattle.plain_tables.specs.declared.value.Value.{Value}
use Rattle.plain_tables.specs.declared.schema.Column.{Column}
use Rattle.plain_tables.specs.declared.schema.IndexKind.{IndexKind}

-- a row is a list of values, one for each column
abbrev pub Row : Type 0
Row = List Value

-- A table has a name, columns, declared indexes and rows. An index is the number of its column, and its kind.
pub record Table : Type 0 where
  pub name : List ℕ
  pub columns : List Column
  pub indexes : List (ℕ × IndexKind)
  pub rows : List Row

-- the key of a row is its first value, and rows are ordered by their keys
abbrev pub key_cmp : Row → Row → Ordering
key_cmp r s = slice_cmp value_cmp (take 1 r) (take 1 s)

-- the rows rise strictly by their keys
abbrev pub AreRising : List Row → Type 0
AreRising rows = AllPairs (λ r s. key_cmp r s ≡ Less) rows

-- whether a row with the key of this one is among the rows
abbrev pub has_key_of : Row → List Row → Bool
has_key_of row rows = list_any (λ r. is_eq (key_cmp r row)) rows

-- the rows with one more: those of smaller keys, the row, those of greater keys
abbrev pub with_row : Row → List Row → List Row
with_row row rows = filter (λ r. is_lt (key_cmp r row)) rows ++ row ∷ filter (λ r. is_lt (key_cmp row r)) rows
