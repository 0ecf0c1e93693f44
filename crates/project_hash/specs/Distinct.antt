-- Lists without rows that are shown alike.
use Rattle.std.specs.Prelude.{◌≡◌, ◌↔◌, List, All, AllPairs, Contains, map}
use Rattle.std.specs.Cmp.{IsTotalOrder}
use Rattle.std.specs.Cmp.Lexicographic.{slice_cmp, lists_total}
use Rattle.std.specs.declared.cmp.Ordering.{Ordering}
use Rattle.std.specs.declared.cmp.Ordering.TheVariants.{Less}
use Rattle.part_raw.specs.declared.tuple_ref.TupleRef.{TupleRef}
use Rattle.plain_tables.specs.declared.value.Value.{Value}
use Rattle.plain_tables.specs.Values.{value_cmp, value_cmp_total}
use Rattle.mm_relation.specs.State.{RelationState}
use Rattle.temp_list.specs.Lists.{ListState, value_of}

-- the values that a list shows of a row
abbrev pub shown_values : List RelationState → ListState → List TupleRef → List Value
shown_values relations list row = map (value_of relations list.sources row) list.columns

-- the values that a list shows, row by row
abbrev pub shown_rows : List RelationState → ListState → List (List Value)
shown_rows relations list = map (shown_values relations list) list.rows

-- lists of values compared by their first values, then by their second, and so on
abbrev pub values_cmp : List Value → List Value → Ordering
values_cmp = slice_cmp value_cmp

pub values_cmp_total : IsTotalOrder values_cmp
values_cmp_total = lists_total value_cmp_total

-- each list of values stands before those behind it, and none stands there twice
abbrev pub AreRising : List (List Value) → Type 0
AreRising lists = AllPairs (λ v w. values_cmp v w ≡ Less) lists

-- The new list has some rows of the old one: those that it shows rise, and what the old one shows is shown.
pub record IsDistinctOf (relations : List RelationState) (old new : ListState) : Type 0 where
  pub sources : new.sources ≡ old.sources
  pub columns : new.columns ≡ old.columns
  pub some : All (Contains old.rows) new.rows
  pub rising : AreRising (shown_rows relations new)
  pub all : All (Contains (shown_rows relations new)) (shown_rows relations old)

-- Law: what a list shows without repeats, in order, is one list of lists of values.
abbrev pub RisingListsAreOne : Type 0
RisingListsAreOne = (xs ys : List (List Value)) → AreRising xs → AreRising ys → All (Contains ys) xs → All (Contains xs) ys → xs ≡ ys

-- two lists have the same members, however often
abbrev pub ShowsTheSame : List (List Value) → List (List Value) → Type 0
ShowsTheSame xs ys = (values : List Value) → Contains xs values ↔ Contains ys values

-- Law: a list without duplicates shows the values that occur, and no others. So two such lists of one list show the same, in
-- one order.
abbrev pub DistinctShowsTheSame : Type 0
DistinctShowsTheSame = (relations : List RelationState) (old new : ListState) → IsDistinctOf relations old new → ShowsTheSame (shown_rows relations old) (shown_rows relations new)
