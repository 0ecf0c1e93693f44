-- What of a catalog an undone change restores: all but the shape of the indexes and the numbers of referrers.
use Rattle.std.specs.Prelude.{◌≡◌, ◌≢◌, ℕ, ◌+◌, ◌-◌, ◌*◌, ◌<◌, ◌≤◌, not, Bool, List, [], ◌∷◌, Option, Some, IsSome, All, ◌++◌, drop, length, map, slice_get, slice_set, take}
use Rattle.std.specs.List.{AllPairs, list_any}
use Rattle.std.specs.Option.{option_map_or}
use Rattle.std.specs.Ordering.{eq_by_cmp}
use Rattle.std.specs.FinMap as finite
use Rattle.part_raw.specs.TupleRefs.{ref_cmp}
use Rattle.part_raw.specs.declared.tuple_ref.TupleRef.{TupleRef}
use Rattle.part_raw.specs.Store.{Tuples}
use Rattle.plain_tables.specs.declared.command.Limits.{Limits}
use Rattle.plain_tables.specs.declared.schema.Schema.{Schema}
use Rattle.mm_relation.specs.Rows.{Row}
use Rattle.mm_relation.specs.Settings.{with_cells}
use Rattle.mm_relation.specs.State.{RelationState}
use Rattle.mm_relation.specs.declared.numbers.DeclaredIndex.{DeclaredIndex}
use Rattle.mm_catalog.specs.Assigned.{CellSet}
use Rattle.mm_catalog.specs.ChangedBack.{cells_of_row}
use Rattle.mm_catalog.specs.Consistent.{IsConsistent}
use Rattle.mm_catalog.specs.State.{CatalogState}

-- the schema; the table that each column's links lead into; the declared indexes; whether links to its rows are counted; the rows; the hidden
-- rows; how many rows are owed
pub record RelationOutline : Type 0 where
  pub schema : Schema
  pub targets : List (Option ℕ)
  pub declared : List DeclaredIndex
  pub counted : Bool
  pub rows : Tuples Row
  pub hidden : Tuples Row
  pub owed : ℕ

-- the limits, the names, and the outline of each relation
pub record Outline : Type 0 where
  pub limits : Limits
  pub names : List (List ℕ)
  pub relations : List RelationOutline

abbrev pub relation_outline : RelationState → RelationOutline
relation_outline s = record { schema = s.schema; targets = s.targets; declared = s.declared; counted = s.counted; rows = s.rows; hidden = s.hidden; owed = s.owed }

abbrev pub outline_of : CatalogState → Outline
outline_of c = record { limits = c.limits; names = c.names; relations = map relation_outline c.relations }

-- whether a reference is one of these
abbrev pub is_among : List TupleRef → TupleRef → Bool
is_among refs r = list_any (eq_by_cmp ref_cmp r) refs

-- it is the outline of a catalog that is consistent
abbrev pub IsOutline : Outline → Type 0
IsOutline o = (c : CatalogState) × IsConsistent c × (outline_of c ≡ o)

-- the rows without those of these references
abbrev pub without : List TupleRef → Tuples Row → Tuples Row
without refs rows = finite.retain_keys rows (λ r. not (is_among refs r))

-- the rows, and with them those that others have under these references
abbrev pub with_those : List TupleRef → Tuples Row → Tuples Row → Tuples Row
with_those [] others rows = rows
with_those (r ∷ refs) others rows = option_map_or (λ row. finite.insert (with_those refs others rows) r row) (finite.get others r) (with_those refs others rows)

-- the rows, where those of these references have so many cells each again, one row's behind the other's
abbrev pub with_row_cells : List TupleRef → ℕ → List CellSet → Tuples Row → Tuples Row
with_row_cells [] width cells rows = rows
with_row_cells (r ∷ refs) width cells rows =
    option_map_or (λ row. finite.insert (with_row_cells refs width (drop width cells) rows) r (with_cells (take width cells) row)) (finite.get rows r) (with_row_cells refs width (drop width cells) rows)

-- the list with another element in the place of a number, if there is one
abbrev pub changed_at : {A : Type 0} → (A → A) → ℕ → List A → List A
changed_at change n xs = option_map_or (λ x. slice_set xs n (change x)) (slice_get xs n) xs

-- the list with others in the places of these numbers
abbrev pub changed_each : {A : Type 0} → (A → A) → List ℕ → List A → List A
changed_each change [] xs = xs
changed_each change (n ∷ numbers) xs = changed_at change n (changed_each change numbers xs)

-- the outline without the rows of these references of the table of a number
abbrev pub without_rows : ℕ → List TupleRef → Outline → Outline
without_rows n refs o = record o { relations = changed_at (λ s. record s { rows = without refs s.rows }) n o.relations }

-- the hidden rows of these references are rows again, and are owed no longer
abbrev pub shown : List TupleRef → RelationOutline → RelationOutline
shown refs s = record s { rows = with_those refs s.hidden s.rows; hidden = without refs s.hidden; owed = s.owed - length refs }

-- the outline where the hidden rows of these references of the table of a number are shown
abbrev pub with_shown : ℕ → List TupleRef → Outline → Outline
with_shown n refs o = record o { relations = changed_at (shown refs) n o.relations }

-- these rows have so many cells each again, and are owed no longer
abbrev pub changed_back : List TupleRef → ℕ → List CellSet → RelationOutline → RelationOutline
changed_back refs width cells s = record s { rows = with_row_cells refs width cells s.rows; owed = s.owed - length refs }

abbrev pub with_changed_back : ℕ → List TupleRef → ℕ → List CellSet → Outline → Outline
with_changed_back n refs width cells o = record o { relations = changed_at (changed_back refs width cells) n o.relations }

-- the table of a number has a row under each of these references, each given once
pub record HoldsOnce (o : Outline) (n : ℕ) (refs : List TupleRef) : Type 0 where
  pub relation : RelationOutline
  pub there : slice_get o.relations n ≡ Some relation
  pub held : All (λ r. IsSome (finite.get relation.rows r)) refs
  pub once : AllPairs (λ q r. q ≢ r) refs

-- the table of a number has the rows of these references more, and nothing else differs
pub record HasRowsMore (old new : Outline) (n : ℕ) (refs : List TupleRef) : Type 0 where
  pub held : HoldsOnce new n refs
  pub others : without_rows n refs new ≡ old

-- rows came into the table of a number, and their references stand behind those of a list
pub record HaveCome (old new : CatalogState) (n : ℕ) (before after : List TupleRef) : Type 0 where
  pub refs : List TupleRef
  pub more : HasRowsMore (outline_of old) (outline_of new) n refs
  pub list : after ≡ before ++ refs

-- The table of a number hides a row under each of these references, each given once. They are owed beside the other hidden rows.
pub record HidesOnce (o : Outline) (n : ℕ) (refs : List TupleRef) : Type 0 where
  pub relation : RelationOutline
  pub there : slice_get o.relations n ≡ Some relation
  pub hidden : All (λ r. IsSome (finite.get relation.hidden r)) refs
  pub once : AllPairs (λ q r. q ≢ r) refs
  pub owed : length refs + finite.len (without refs relation.hidden) ≤ relation.owed

-- the rows of these references of the table of a number are hidden now, and nothing else differs
pub record HasRowsHidden (old new : Outline) (n : ℕ) (refs : List TupleRef) : Type 0 where
  pub hides : HidesOnce new n refs
  pub others : with_shown n refs new ≡ old

-- The table of a number has a row under each of these references, each given once, and owes them beside its hidden rows. There are
-- so many cells for each, in columns of their own behind the key.
pub record OwesCells (o : Outline) (n : ℕ) (refs : List TupleRef) (width : ℕ) (cells : List CellSet) : Type 0 where
  pub relation : RelationOutline
  pub there : slice_get o.relations n ≡ Some relation
  pub held : All (λ r. IsSome (finite.get relation.rows r)) refs
  pub once : AllPairs (λ q r. q ≢ r) refs
  pub owed : length refs + finite.len relation.hidden ≤ relation.owed
  pub count : length cells ≡ length refs * width
  pub narrow : width ≤ length relation.targets
  pub behind_key : All (λ c. 0 < c.0.0) cells
  pub columns : All (λ c. c.0.0 < length relation.targets) cells
  pub apart : (k : ℕ) → k < length refs → AllPairs (λ c d. c.0.0 ≡ d.0.0 → ⊥) (cells_of_row width cells k)

-- cells of rows of the table of a number are others now, and nothing else differs
pub record HasCellsChanged (old new : Outline) (n : ℕ) (refs : List TupleRef) (width : ℕ) (cells : List CellSet) : Type 0 where
  pub owes : OwesCells new n refs width cells
  pub others : with_changed_back n refs width cells new ≡ old

-- cells of rows of the table of a number are others now, and those before stand behind the cells of a list
pub record HaveChanged (old new : CatalogState) (n : ℕ) (refs : List TupleRef) (width : ℕ) (before after : List CellSet) : Type 0 where
  pub cells : List CellSet
  pub changed : HasCellsChanged (outline_of old) (outline_of new) n refs width cells
  pub list : after ≡ before ++ cells
