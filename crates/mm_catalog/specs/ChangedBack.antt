-- Rows of one relation among others whose cells are set to what they were.
use Rattle.std.specs.Prelude.{◌≡◌, ℕ, ◌+◌, ◌<◌, ◌≤◌, List, Some, ◌*◌, ◌-◌, ◌≢◌, IsSome, Option, All, AllPairs, Contains, drop, length, slice_get, slice_set, take, ◌++◌}
use Rattle.std.specs.FinMap as finite
use Rattle.std.specs.Option.{option_map}
use Rattle.part_raw.specs.declared.tuple_ref.TupleRef.{TupleRef}
use Rattle.mm_relation.specs.Reading.{cell_value}
use Rattle.mm_relation.specs.Settings.{with_cells}
use Rattle.mm_relation.specs.State.{IsCurrent, IsKept, RelationState, linked_keys}
use Rattle.mm_catalog.specs.Assigned.{CellSet, set_links}
use Rattle.mm_catalog.specs.Counted.{AreCountedBy, HaveAtLeast, HaveRoom, IsHeldIn, LeadIntoCounted, naming}
use Rattle.mm_catalog.specs.Linked.{relation_links}
use Rattle.mm_catalog.specs.Recounted.{KeepsColumns}

-- Each row has so many referrers more, and so many fewer, as the second relation has links to it that the first has not, and the other
-- way round. The links that come are of so many cells.
pub record AreRelinked (old new : List RelationState) (before after : RelationState) (cells : ℕ) : Type 0 where
  pub more : ℕ → TupleRef → ℕ
  pub fewer : ℕ → TupleRef → ℕ
  pub few : (table : ℕ) (r : TupleRef) → more table r ≤ cells
  pub counted : AreCountedBy old new more fewer
  pub links : (table : ℕ) (r : TupleRef) → more table r + naming (relation_links before) table r ≡ naming (relation_links after) table r + fewer table r

-- Cells fit a row of a relation beside those before it: each is in a column of its own behind the key, it can be read there, and the
-- row that it names is there.
pub record CellsFit (before : List RelationState) (targets : List (Option ℕ)) (sets : List CellSet) : Type 0 where
  pub behind_key : All (λ c. 0 < c.0.0) sets
  pub columns : All (λ c. c.0.0 < length targets) sets
  pub apart : AllPairs (λ c d. c.0.0 ≡ d.0.0 → ⊥) sets
  pub readable : All (λ c. IsSome (cell_value (linked_keys targets before) c.0.0 c.1)) sets
  pub named : All (IsHeldIn before) (set_links targets sets)

-- A row of a relation, which owes it, can have these cells beside the relations before it, and there is room for the referrers.
pub record CanBeChangedBack (before : List RelationState) (s : RelationState) (r : TupleRef) (sets : List CellSet) : Type 0 where
  pub kept : All IsKept before
  pub own : IsKept s
  pub held : IsSome (finite.get s.rows r)
  pub fit : CellsFit before s.targets sets
  pub counted : LeadIntoCounted before s.targets
  pub enough : HaveAtLeast before (naming (relation_links s))
  pub room : HaveRoom before (length sets)
  pub owed : finite.len s.hidden < s.owed
  pub current : IsCurrent (linked_keys s.targets before) s

-- the cells of the row of a number, among those of rows that have so many each
abbrev pub cells_of_row : ℕ → List CellSet → ℕ → List CellSet
cells_of_row width cells k = take width (drop (k * width) cells)

-- each of these rows, which a relation owes, can have its cells, and there is room for the referrers
pub record CanAllBeChangedBack (before : List RelationState) (s : RelationState) (rs : List TupleRef) (width : ℕ) (cells : List CellSet) : Type 0 where
  pub kept : All IsKept before
  pub held : All (λ r. IsSome (finite.get s.rows r)) rs
  pub once : AllPairs (λ q r. q ≢ r) rs
  pub count : length cells ≡ length rs * width
  pub fit : (k : ℕ) → k < length rs → CellsFit before s.targets (cells_of_row width cells k)
  pub counted : LeadIntoCounted before s.targets
  pub enough : HaveAtLeast before (naming (relation_links s))
  pub room : HaveRoom before (length rs * width)
  pub owed : finite.len s.hidden + length rs ≤ s.owed
  pub current : IsCurrent (linked_keys s.targets before) s

-- these rows have their cells, and are owed no longer; no other row differs
pub record AreChangedBack (old new : RelationState) (rs : List TupleRef) (width : ℕ) (cells : List CellSet) : Type 0 where
  pub changed : (k : ℕ) (r : TupleRef) → slice_get rs k ≡ Some r → finite.get new.rows r ≡ option_map (with_cells (cells_of_row width cells k)) (finite.get old.rows r)
  pub others : (r : TupleRef) → (Contains rs r → ⊥) → finite.get new.rows r ≡ finite.get old.rows r
  pub referrers : new.referrers ≡ old.referrers
  pub hidden : new.hidden ≡ old.hidden
  pub owed : new.owed ≡ old.owed - length rs
  pub keeps : KeepsColumns old new

-- these rows of the relation of a number have their cells, and the rows that they name and named are counted anew
pub record AreChangedBackAt (old new : List RelationState) (n : ℕ) (rs : List TupleRef) (width : ℕ) (cells : List CellSet) : Type 0 where
  pub front : List RelationState
  pub before : RelationState
  pub after : RelationState
  pub there : slice_get old n ≡ Some before
  pub list : new ≡ front ++ slice_set (drop n old) 0 after
  pub linked : AreRelinked (take n old) front before after (length rs * width)
  pub changed : AreChangedBack before after rs width cells
  pub kept : IsKept after
  pub current : IsCurrent (linked_keys before.targets (take n old)) after
