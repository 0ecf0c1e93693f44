-- What is read of the rows of relations that are lent, and which of them pass tests.
use Rattle.std.specs.Prelude.{◌≡◌, ◌==◌, ◌&&◌, Bool, not, ℕ, ◌+◌, ◌<◌, List, ◌++◌, Option, Some, None, drop, length, slice_get, take}
use Rattle.std.specs.List.{All, filter, list_all}
use Rattle.part_raw.specs.declared.tuple_ref.TupleRef.{TupleRef}
use Rattle.plain_tables.specs.declared.condition.Op.{Op}
use Rattle.plain_tables.specs.declared.resolved.Test.{Test}
use Rattle.plain_tables.specs.declared.value.Value.{Value}
use Rattle.plain_tables.specs.declared.value.Value.TheVariants.{Null}
use Rattle.plain_tables.specs.Queries.{stands}
use Rattle.plan_chooser.specs.Plans.{is_range}
use Rattle.mm_relation.specs.Reading.{value_at}
use Rattle.mm_relation.specs.State.{tree_list, RelationState, IsKept, IsCurrent, linked_keys}

-- Relations that stand rightly among each other: each keeps what a relation keeps by itself, and is current under the keys that
-- its links lead to.
pub record AreSound (relations : List RelationState) : Type 0 where
  pub each : All (λ s. IsKept s × IsCurrent (linked_keys s.targets relations) s) relations

-- the value that is read, or null where there is none to read
abbrev pub or_null : Option Value → Value
or_null None = Null
or_null (Some value) = value

-- the value that the row under a reference has in a column
abbrev pub value_in : List RelationState → RelationState → ℕ → TupleRef → Value
value_in relations s column r = or_null (value_at (linked_keys s.targets relations) column s.rows r)

-- whether the row under a reference passes tests
abbrev pub row_passes : List RelationState → RelationState → List Test → TupleRef → Bool
row_passes relations s tests r = list_all (λ t. stands t.op (value_in relations s t.column.0 r) t.value) tests

-- the rows that pass, in the order of their keys
abbrev pub passing : List RelationState → RelationState → List Test → List TupleRef
passing relations s tests = filter (row_passes relations s tests) (tree_list s.by_key)

-- each test's column is there
abbrev pub HasColumns : RelationState → List Test → Type 0
HasColumns s tests = All (λ t. t.column.0 < length s.schema.columns) tests

-- the rows whose value in a column stands so to a value, in the order of their keys
abbrev pub standing : List RelationState → RelationState → ℕ → Op → Value → List TupleRef
standing relations s column op value = filter (λ r. stands op (value_in relations s column r) value) (tree_list s.by_key)

-- whether a test bounds the values of a column: it is on that column, by any operator but <>
abbrev pub bounds : ℕ → Test → Bool
bounds column test = is_range test.op && (test.column.0 == column)

-- the tests that do not bound a column
abbrev pub unbounded : ℕ → List Test → List Test
unbounded column tests = filter (λ t. not (bounds column t)) tests

-- the tests but the one with this number
abbrev pub all_but : ℕ → List Test → List Test
all_but n tests = take n tests ++ drop (n + 1) tests

-- whether a value passes each test that bounds its column
abbrev pub is_between : ℕ → List Test → Value → Bool
is_between column tests v = list_all (λ t. stands t.op v t.value) (filter (bounds column) tests)

-- the rows whose value in a column passes each test that bounds it, in the order of their keys
abbrev pub between : List RelationState → RelationState → ℕ → List Test → List TupleRef
between relations s column tests = filter (λ r. is_between column tests (value_in relations s column r)) (tree_list s.by_key)

-- what is said of the relation of a table
abbrev pub OfRelation : List RelationState → ℕ → (RelationState → Type 0) → Type 0
OfRelation relations table P = (s : RelationState) → slice_get relations table ≡ Some s → P s
