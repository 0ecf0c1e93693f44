-- The laws of lists.
use Rattle.std.specs.Prelude.{◌≡◌, List}
use Rattle.std.specs.List.Sorted.{IsSorted}
use Rattle.mm_index.specs.Bag.{IsSameBag}
use Rattle.mm_relation.specs.State.{RelationState}
use Rattle.temp_list.specs.Reading.{AreSound}
use Rattle.temp_list.specs.Lists.{ListState, IsOver, keys_cmp}

-- two lists are over the same sources of these relations
pub record AreOver (relations : List RelationState) (one other : ListState) : Type 0 where
  pub sound : AreSound relations
  pub first : IsOver relations one
  pub second : IsOver relations other
  pub sources : other.sources ≡ one.sources

-- Law: two lists of the same rows, each as often, have them in the same order, where both are in the order of their keys.
abbrev pub SortedAreOne : Type 0
SortedAreOne =
    (relations : List RelationState) (one other : ListState) → AreOver relations one other → IsSameBag one.rows other.rows
    → IsSorted (keys_cmp relations one.sources) one.rows → IsSorted (keys_cmp relations one.sources) other.rows → one.rows ≡ other.rows

-- Law: a list that has the same rows as one that is over relations, each as often, is over them too.
abbrev pub SameAreOver : Type 0
SameAreOver =
    (relations : List RelationState) (one other : ListState) → IsOver relations one → other.sources ≡ one.sources → other.columns ≡ one.columns
    → IsSameBag other.rows one.rows → IsOver relations other
