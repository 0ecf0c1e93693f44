-- What it is to undo changes, the newest first.
use Rattle.std.specs.Prelude.{Bool, true, false, ◌≡◌, ℕ, ◌≤◌, List, [], ◌∷◌, if◌then◌else◌, length, map, nat_lt}
use Rattle.part_raw.specs.declared.tuple_ref.TupleRef.{TupleRef}
use Rattle.mm_relation.specs.Taken.{DroppedState}
use Rattle.mm_relation.specs.declared.numbers.DeclaredIndex.{DeclaredIndex}
use Rattle.mm_catalog.specs.Assigned.{CellSet}
use Rattle.mm_catalog.specs.Declarations.{AreBeforeLast, Declares, EndsInEmpty, without_declared, without_last}
use Rattle.mm_catalog.specs.DroppedTables.{CanHaveTable, DroppedTableState, with_table}
use Rattle.mm_catalog.specs.Outline.{Outline, HidesOnce, HoldsOnce, IsOutline, OwesCells, with_changed_back, with_shown, without_rows}
use Rattle.mm_catalog.specs.Unindexed.{CanHaveIndex, with_index_of}

-- A change: the rows of these references came into the table of a number, or went out of it and are hidden, or values were assigned to
-- them. Then so many cells of each were these, one row's behind the other's. Or a table was declared, which stands last, and the tables
-- of these numbers count links since. Or a table was dropped, or an index of the table of a number was declared or dropped.
pub data Change : Type 0 where
  Came : ℕ → List TupleRef → Change
  Went : ℕ → List TupleRef → Change
  Updated : ℕ → List TupleRef → ℕ → List CellSet → Change
  TableDeclared : List ℕ → Change
  TableDropped : DroppedTableState → Change
  IndexDeclared : ℕ → DeclaredIndex → Change
  IndexDropped : ℕ → DroppedState → Change

-- the outline before a change
abbrev pub before : Change → Outline → Outline
before (Came n refs) o = without_rows n refs o
before (Went n refs) o = with_shown n refs o
before (Updated n refs width cells) o = with_changed_back n refs width cells o
before (TableDeclared gained) o = without_last gained o
before (TableDropped table) o = with_table table o
before (IndexDeclared n index) o = without_declared n index o
before (IndexDropped n index) o = with_index_of n index o

-- the outline when so many changes had been noted
abbrev pub undone : ℕ → List Change → Outline → Outline
undone mark [] o = o
undone mark (c ∷ changes) o = if nat_lt (length changes) mark then o else undone mark changes (before c o)

-- what was changed is as the change left it
abbrev pub IsReady : Change → Outline → Type 0
IsReady (Came n refs) o = HoldsOnce o n refs
IsReady (Went n refs) o = HidesOnce o n refs
IsReady (Updated n refs width cells) o = OwesCells o n refs width cells
IsReady (TableDeclared gained) o = EndsInEmpty o × AreBeforeLast gained o
IsReady (TableDropped table) o = CanHaveTable o table
IsReady (IndexDeclared n index) o = Declares o n index
IsReady (IndexDropped n index) o = CanHaveIndex o n index

-- each change can be undone, once those after it are
abbrev pub CanUndo : List Change → Outline → Type 0
CanUndo [] o = Unit {0}
CanUndo (c ∷ changes) o = IsReady c o × IsOutline (before c o) × CanUndo changes (before c o)

-- Each change can be undone, once those after it are, and they lead back to an outline.
abbrev pub LeadBack : List Change → Outline → Outline → Type 0
LeadBack [] o old = o ≡ old
LeadBack (c ∷ changes) o old = IsReady c o × IsOutline (before c o) × LeadBack changes (before c o) old

-- Each open transaction began with at most as many changes as the one in it, and the outermost with none. The innermost stands
-- first, and so many changes there are.
abbrev pub AreMarks : List ℕ → ℕ → Type 0
AreMarks [] count = count ≡ 0
AreMarks (mark ∷ marks) count = (mark ≤ count) × AreMarks marks mark

-- whether a change leaves which tables there are, and their columns
abbrev pub keeps_tables : Change → Bool
keeps_tables (TableDeclared gained) = false
keeps_tables (TableDropped table) = false
keeps_tables c = true

-- there are the same tables, of the same columns
pub record HaveSameTables (old new : Outline) : Type 0 where
  pub names : new.names ≡ old.names
  pub schemas : map (λ s. s.schema) new.relations ≡ map (λ s. s.schema) old.relations
