-- What a log of changes is seen as.
use Rattle.std.specs.Prelude.{◌≡◌, ℕ, zero, suc, ◌+◌, ◌-◌, ◌*◌, ◌<◌, ◌≤◌, ◌++◌, List, [], ◌∷◌, Some, drop, length, map, refl, reverse, slice_get, take}
use Rattle.std.specs.Coded.{Coded, code_by, coded×, coded_list, coded_ℕ}
use Rattle.part_raw.specs.declared.tuple_ref.TupleRef.{TupleRef}
use Rattle.mm_relation.specs.Declaring.{declaration}
use Rattle.mm_relation.specs.State.{RelationState}
use Rattle.mm_catalog.specs.Assigned.{CellSet}
use Rattle.mm_catalog.specs.Changes.{KeepsDatabase}
use Rattle.mm_catalog.specs.Outline.{Outline}
use Rattle.mm_catalog.specs.State.{CatalogState}
use Rattle.mm_transactions.specs.declared.step.Kind.{Kind}
use Rattle.mm_transactions.specs.declared.step.Kind.TheVariants as kind
use Rattle.mm_transactions.specs.declared.step.Step.{Step}
use Rattle.mm_transactions.specs.Undoing.{Change, Came, Went, Updated, TableDeclared, TableDropped, IndexDeclared, IndexDropped, CanUndo, HaveSameTables, IsReady, LeadBack, before, undone}

-- the changes of the open transactions, the newest first, and how many there were when each began, the innermost first
pub record LogState : Type 0 where
  pub changes : List Change
  pub marks : List ℕ

abbrev pub log_code : Coded Change → Coded LogState
log_code change = code_by (List Change × List ℕ) (coded× (coded_list change) (coded_list coded_ℕ)) (λ l. (l.changes, l.marks)) (λ p. record { changes = p.0; marks = p.1 }) (λ _. refl)

-- the change of a kind
abbrev pub change_of : Kind → ℕ → List TupleRef → List CellSet → Change
change_of (kind.Came more) n refs cells = Came n refs
change_of (kind.Went more) n refs cells = Went n refs
change_of (kind.Updated width more) n refs cells = Updated n refs width cells
change_of (kind.TableDeclared gained) n refs cells = TableDeclared (map (λ t. t.0) gained.items)
change_of (kind.TableDropped dropped) n refs cells = TableDropped dropped
change_of (kind.IndexDeclared column k) n refs cells = IndexDeclared n (declaration column k)
change_of (kind.IndexDropped dropped) n refs cells = IndexDropped n dropped

-- how many commands of one row a kind stands for behind its first
abbrev pub more_of : Kind → ℕ
more_of (kind.Came more) = more
more_of (kind.Went more) = more
more_of (kind.Updated width more) = more
more_of (kind.TableDeclared gained) = 0
more_of (kind.TableDropped dropped) = 0
more_of (kind.IndexDeclared column k) = 0
more_of (kind.IndexDropped dropped) = 0

-- how many cells of each row it changed
abbrev pub width_of : Kind → ℕ
width_of (kind.Came more) = 0
width_of (kind.Went more) = 0
width_of (kind.Updated width more) = width
width_of (kind.TableDeclared gained) = 0
width_of (kind.TableDropped dropped) = 0
width_of (kind.IndexDeclared column k) = 0
width_of (kind.IndexDropped dropped) = 0

-- the kind of each of its commands
abbrev pub alone : Kind → Kind
alone (kind.Came more) = kind.Came 0
alone (kind.Went more) = kind.Went 0
alone (kind.Updated width more) = kind.Updated width 0
alone (kind.TableDeclared gained) = kind.TableDeclared gained
alone (kind.TableDropped dropped) = kind.TableDropped dropped
alone (kind.IndexDeclared column k) = kind.IndexDeclared column k
alone (kind.IndexDropped dropped) = kind.IndexDropped dropped

-- so many changes of one row each, the newest first, and those before them, by the references and the cells that there were then
abbrev pub one_by_one : ℕ → Kind → ℕ → (List TupleRef → List CellSet → List Change) → List TupleRef → List CellSet → List Change
one_by_one zero k n earlier refs cells = earlier refs cells
one_by_one (suc more) k n earlier refs cells =
    change_of k n (drop (length refs - 1) refs) (drop (length cells - width_of k) cells) ∷ one_by_one more k n earlier (take (length refs - 1) refs) (take (length cells - width_of k) cells)

-- the changes of steps, the newest first, whose references and cells are these, the oldest first
abbrev pub changes_of : List Step → List TupleRef → List CellSet → List Change
changes_of [] refs cells = []
changes_of (step ∷ older) refs cells =
    one_by_one (more_of step.kind) (alone step.kind) step.table.0
    (λ rs cs. change_of (alone step.kind) step.table.0 (drop step.start rs) (drop step.cells_start cs) ∷ changes_of older (take step.start rs) (take step.cells_start cs)) refs cells

-- The references and the cells of each step begin among the first so many, behind those of the steps before it. There are enough for
-- its commands of one row.
abbrev pub AreSteps : List Step → ℕ → ℕ → Type 0
AreSteps [] count cells = Unit {0}
AreSteps (step ∷ older) count cells =
    (more_of step.kind + step.start ≤ count) × (more_of step.kind * width_of step.kind + step.cells_start ≤ cells) × AreSteps older step.start step.cells_start

-- the references and the cells of the steps are these, and so many commands they are
pub record ArePlaced (steps : List Step) (refs : List TupleRef) (cells : List CellSet) (commands : ℕ) : Type 0 where
  pub placed : AreSteps steps (length refs) (length cells)
  pub count : commands ≡ length (changes_of steps refs cells)

-- a command of one row was noted in the newest step
pub record IsJoined (old new : List Step) (noted : Step) : Type 0 where
  pub older : List Step
  pub step : Step
  pub joined : Step
  pub old_is : old ≡ older ++ step ∷ []
  pub new_is : new ≡ older ++ joined ∷ []
  pub table : step.table.0 ≡ noted.table.0
  pub kind : alone step.kind ≡ noted.kind
  pub same : joined ≡ record step { kind = joined.kind }
  pub alike : alone joined.kind ≡ alone step.kind
  pub more : more_of joined.kind ≡ suc (more_of step.kind)

-- a command of so many rows was noted behind the steps
pub record IsStepNoted (old new : List Step) (step : Step) (rows : ℕ) : Type 0 where
  pub changes : (refs more : List TupleRef) (cells others : List CellSet) → length refs ≡ step.start → length cells ≡ step.cells_start → length more ≡ rows → length others ≡ rows * width_of step.kind
      → changes_of (reverse new) (refs ++ more) (cells ++ others) ≡ change_of step.kind step.table.0 more others ∷ changes_of (reverse old) refs cells
  pub steps : AreSteps (reverse new) (rows + step.start) (rows * width_of step.kind + step.cells_start)

-- the newest command of steps was taken out of them, as a step of its own
pub record IsNewest (old new : List Step) (step : Step) (refs cells : ℕ) : Type 0 where
  pub changes : (rs : List TupleRef) (cs : List CellSet) → length rs ≡ refs → length cs ≡ cells
      → changes_of (reverse old) rs cs ≡ change_of step.kind step.table.0 (drop step.start rs) (drop step.cells_start cs) ∷ changes_of (reverse new) (take step.start rs) (take step.cells_start cs)
  pub start : step.start ≤ refs
  pub cells_start : step.cells_start ≤ cells
  pub steps : AreSteps (reverse new) step.start step.cells_start

-- the changes of so many commands, by each of which one row came into the table of a number, the newest first, where these are the last references
abbrev pub arrivals : ℕ → ℕ → List TupleRef → List Change
arrivals n zero refs = []
arrivals n (suc count) refs = Came n (drop (length refs - 1) refs) ∷ arrivals n count (take (length refs - 1) refs)

-- so many commands, by each of which one row came into the table of a number, were taken out of steps, whose newest they were
pub record AreArrivals (old new : List Step) (n count refs cells : ℕ) : Type 0 where
  pub some : 0 < count
  pub few : count ≤ refs
  pub changes : (rs : List TupleRef) (cs : List CellSet) → length rs ≡ refs → length cs ≡ cells
      → changes_of (reverse old) rs cs ≡ arrivals n count rs ++ changes_of (reverse new) (take (refs - count) rs) cs
  pub steps : AreSteps (reverse new) (refs - count) cells

-- a change was made of the old outline, and noted as the newest
pub record IsNoted (old new : Outline) (log now : LogState) : Type 0 where
  pub change : Change
  pub ready : IsReady change new
  pub undone : before change new ≡ old
  pub changes : now.changes ≡ change ∷ log.changes
  pub marks : now.marks ≡ log.marks

-- changes were made of the old outline, one after the other or none, and noted as the newest
pub record AreNoted (old new : Outline) (log now : LogState) : Type 0 where
  pub made : List Change
  pub undone : LeadBack made new old
  pub changes : now.changes ≡ made ++ log.changes
  pub marks : now.marks ≡ log.marks

-- the newest change was undone, and is no longer noted
pub record IsUndone (old new : Outline) (log now : LogState) : Type 0 where
  pub change : Change
  pub undone : new ≡ before change old
  pub changes : log.changes ≡ change ∷ now.changes
  pub marks : now.marks ≡ log.marks

-- The newest changes were undone, one or more and at most so many, and are no longer noted. The tables are the same.
pub record AreUndone (count : ℕ) (old new : Outline) (log now : LogState) : Type 0 where
  pub fewer : length now.changes < length log.changes
  pub most : length log.changes ≤ length now.changes + count
  pub marks : now.marks ≡ log.marks
  pub ready : CanUndo now.changes new
  pub earlier : (m : ℕ) → m ≤ length now.changes → undone m now.changes new ≡ undone m log.changes old
  pub tables : HaveSameTables old new

-- the catalog differs at most in hidden rows, and in how many rows are owed
pub record AreSettled (old new : CatalogState) : Type 0 where
  pub database : KeepsDatabase old new
  pub names : new.names ≡ old.names
  pub count : length new.relations ≡ length old.relations
  pub each : (k : ℕ) (s t : RelationState) → slice_get old.relations k ≡ Some s → slice_get new.relations k ≡ Some t → t ≡ record s { hidden = t.hidden; owed = t.owed }
