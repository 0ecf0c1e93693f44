-- What it does to the other relations that one of them goes, or comes back.
use Rattle.std.specs.Prelude.{◌≡◌, ℕ, zero, suc, ◌<◌, ◌^◌, ◌++◌, List, Some, drop, length, map, slice_get, slice_set, take}
use Rattle.std.specs.Option.{option_map}
use Rattle.mm_relation.specs.State.{RelationState}
use Rattle.mm_catalog.specs.declared.renumbering.Renumbering.{Renumbering}
use Rattle.mm_catalog.specs.declared.renumbering.Renumbering.TheVariants.{Back, Gone}
use Rattle.mm_catalog.specs.Linked.{target_at, relation_links}
use Rattle.mm_catalog.specs.Counted.{AreCountedBy, naming, none}

-- the number that what has this number has once another one is gone: those behind that move up
abbrev pub moved_up : ℕ → ℕ → ℕ
moved_up zero zero = zero
moved_up zero (suc n) = n
moved_up (suc gone) zero = zero
moved_up (suc gone) (suc n) = suc (moved_up gone n)

-- the number of what has this number once another has come to a place: those from there on move down
abbrev pub moved_down : ℕ → ℕ → ℕ
moved_down zero n = suc n
moved_down (suc place) zero = zero
moved_down (suc place) (suc n) = suc (moved_down place n)

-- how numbers move: the table of a number is gone, or one comes back at a number
abbrev pub moved_by : Renumbering → ℕ → ℕ
moved_by (Gone table) = moved_up table.0
moved_by (Back table) = moved_down table.0

-- a relation whose links in one column lead into the same table, once the numbers have moved so, and one whose links all do
abbrev pub with_column_moved : (ℕ → ℕ) → ℕ → RelationState → RelationState
with_column_moved moved column s =
    record s { targets = slice_set s.targets column (option_map moved (target_at s.targets column)) }

abbrev pub renumbered : (ℕ → ℕ) → RelationState → RelationState
renumbered moved s = record s { targets = map (option_map moved) s.targets }

-- there is a target for each column, and none is too large to move
pub record CanBeRenumbered (s : RelationState) : Type 0 where
  pub wide : length s.targets ≡ length s.schema.columns
  pub small : (column table : ℕ) → target_at s.targets column ≡ Some table → table < 2 ^ 63

-- The rows that the relation of a number names have as many referrers fewer as its links name them. It and those behind
-- it are as they were.
pub record IsUnlinked (old new : List RelationState) (n : ℕ) : Type 0 where
  pub front : List RelationState
  pub relation : RelationState
  pub there : slice_get old n ≡ Some relation
  pub list : new ≡ front ++ drop n old
  pub counted : AreCountedBy (take n old) front none (naming (relation_links relation))

-- the links of the first columns lead where they should, and those of the others where they led
pub record IsRenumberedUpTo (moved : ℕ → ℕ) (old : RelationState) (i : ℕ) (s : RelationState) : Type 0 where
  pub same : s ≡ record old { targets = s.targets }
  pub wide : length s.targets ≡ length old.targets
  pub moved_first : s.targets ≡ map (option_map moved) (take i old.targets) ++ drop i old.targets
