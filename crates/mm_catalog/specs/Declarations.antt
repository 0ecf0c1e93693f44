-- What it is to declare a table or an index, and to take that back, by the outlines before and after.
use Rattle.std.specs.Prelude.{◌≡◌, ℕ, ◌+◌, ◌-◌, ◌<◌, false, List, Some, All, Contains, length, slice_get, take}
use Rattle.std.specs.FinMap as finite
use Rattle.mm_relation.specs.Declaring.{is_index, without_first}
use Rattle.mm_relation.specs.declared.numbers.DeclaredIndex.{DeclaredIndex}
use Rattle.mm_catalog.specs.Outline.{Outline, RelationOutline, changed_at, changed_each}

-- ---- tables

-- all but the last
abbrev pub but_last : {A : Type 0} → List A → List A
but_last xs = take (length xs - 1) xs

-- the links to its rows are counted no longer
abbrev pub uncounted : RelationOutline → RelationOutline
uncounted s = record s { counted = false }

-- the outline without its last table, where the tables of these numbers count links no longer
abbrev pub without_last : List ℕ → Outline → Outline
without_last gained o = record o { names = but_last o.names; relations = changed_each uncounted gained (but_last o.relations) }

-- the last table has no rows, and it neither hides nor owes any
pub record EndsInEmpty (o : Outline) : Type 0 where
  pub last : RelationOutline
  pub there : slice_get o.relations (length o.relations - 1) ≡ Some last
  pub rows : last.rows ≡ finite.empty
  pub hidden : last.hidden ≡ finite.empty
  pub owed : last.owed ≡ 0

-- these are numbers of tables before the last
abbrev pub AreBeforeLast : List ℕ → Outline → Type 0
AreBeforeLast numbers o = All (λ n. n + 1 < length o.relations) numbers

-- There is one table more, which is empty and stands last. Those of these numbers count the links to their rows now, and nothing else
-- differs.
pub record HasTableMore (old new : Outline) (gained : List ℕ) : Type 0 where
  pub last : EndsInEmpty new
  pub before_last : AreBeforeLast gained new
  pub others : without_last gained new ≡ old

-- ---- indexes

-- the declared indexes without the first like this one
abbrev pub undeclared : DeclaredIndex → RelationOutline → RelationOutline
undeclared index s = record s { declared = without_first (is_index index) s.declared }

-- the outline where the table of a number has this index no longer
abbrev pub without_declared : ℕ → DeclaredIndex → Outline → Outline
without_declared n index o = record o { relations = changed_at (undeclared index) n o.relations }

-- the table of a number has this index
pub record Declares (o : Outline) (n : ℕ) (index : DeclaredIndex) : Type 0 where
  pub relation : RelationOutline
  pub there : slice_get o.relations n ≡ Some relation
  pub declared : Contains relation.declared index

-- the table of a number has this index more, and nothing else differs
pub record HasIndexMore (old new : Outline) (n : ℕ) (index : DeclaredIndex) : Type 0 where
  pub declares : Declares new n index
  pub others : without_declared n index new ≡ old
