-- The changes that the steps of a log are.
use Rattle.std.proofs.Common.{◌≡◌, Bool, false, ℕ, zero, suc, ◌+◌, ◌-◌, ◌*◌, ◌<◌, ◌≤◌, List, [], ◌∷◌, ◌++◌, Option, Some, None, IsSome, refl, sym, ap, ◌∙◌, subst, arith, length, reverse, take, drop, filter, get_or, map, not, set}
use Rattle.std.specs.FinMap.{get}
use Rattle.std.specs.List.{All, list_any, slice_get}
use Rattle.std.specs.Option.{option_map, option_map_or}
use Rattle.std.proofs.lemmas.Bool.{false_from_ne_true, not_from_false, true≢false}
use Rattle.std.proofs.lemmas.List.{length-append, length-map, length-reverse, length-set, length-take-le, reverse-append, take_all, take_more, take_more_set}
use Rattle.std.proofs.Math.Nat.{suc-mul}
use Rattle.std.proofs.Math.Seq.{drop-append_seam, take-append_seam}
use Rattle.mm_transactions.specs.declared.step.Kind.TheVariants as kind
use Rattle.std.proofs.lemmas.List.Folds.{list_any_at}
use Rattle.std.proofs.lemmas.Option.{same_Some, slice_get-map, slice_get_within}
use Rattle.common_lemmas.proofs.Filters.{filter_all}
use Rattle.common_lemmas.proofs.Places.{set_itself, slice_get-inside}
use Rattle.part_raw.specs.declared.tuple_ref.TupleRef.{TupleRef}
use Rattle.plain_tables.specs.Databases.{Database}
use Rattle.plain_tables.specs.Doing.{done, with_table, without_index}
use Rattle.plain_tables.specs.Effects.{Done, refused}
use Rattle.plain_tables.specs.declared.refusal.Refusal.TheVariants.{NoSuchTable}
use Rattle.plain_tables.specs.References.{is_index}
use Rattle.plain_tables.specs.ResolvedLaws.{IsMeant}
use Rattle.plain_tables.specs.Tables.{Table}
use Rattle.plain_tables.specs.declared.numbers.ColumnNumber.{ColumnNumber}
use Rattle.plain_tables.specs.declared.numbers.TableNumber.{TableNumber}
use Rattle.plain_tables.specs.declared.resolved.Resolved.TheVariants as resolved
use Rattle.plain_tables.specs.declared.schema.IndexKind.{IndexKind}
use Rattle.mm_relation.specs.Declaring.{declaration}
use Rattle.mm_catalog.specs.Assigned.{CellSet}
use Rattle.mm_catalog.specs.Changes.{IsDone}
use Rattle.mm_catalog.specs.Consistent.{IsConsistent}
use Rattle.mm_catalog.specs.Declarations.{Declares}
use Rattle.mm_catalog.specs.Loaded.{AreFreeRows}
use Rattle.mm_catalog.specs.Outline.{HoldsOnce, IsOutline, RelationOutline, outline_of, relation_outline, without_rows}
use Rattle.mm_catalog.specs.Picked.{HoldsRows}
use Rattle.mm_catalog.specs.Seen.{database_of}
use Rattle.mm_catalog.specs.State.{CatalogState}
use Rattle.mm_catalog.specs.Unindexed.{has_index}
use Rattle.mm_catalog.proofs.Tables.{database-length}
use Rattle.mm_catalog.proofs.Unnamed.{free_without}
use Rattle.mm_transactions.specs.Log.{AreSteps, ArePlaced, IsJoined, IsNewest, IsStepNoted, alone, change_of, changes_of, more_of, one_by_one, width_of}
use Rattle.mm_transactions.specs.Undoing.{Change}
use Rattle.mm_transactions.specs.declared.step.Kind.{Kind}
use Rattle.mm_transactions.specs.declared.step.Step.{Step}

-- ---- how many changes there are

-- how many commands steps stand for
abbrev commands_of : List Step → ℕ
commands_of [] = 0
commands_of (step ∷ older) = more_of step.kind + suc (commands_of older)

length-one_by_one : (more : ℕ) (k : Kind) (n m : ℕ) (earlier : List TupleRef → List CellSet → List Change) → ((rs : List TupleRef) (cs : List CellSet) → length (earlier rs cs) ≡ m) → (refs : List TupleRef) (cells : List CellSet)
    → length (one_by_one more k n earlier refs cells) ≡ more + m
length-one_by_one zero k n m earlier count refs cells = omega (arith, count refs cells)
length-one_by_one (suc more) k n m earlier count refs cells = omega (arith, length-one_by_one more k n m earlier count (take (length refs - 1) refs) (take (length cells - width_of k) cells))

length-changes_of : (steps : List Step) (refs : List TupleRef) (cells : List CellSet) → length (changes_of steps refs cells) ≡ commands_of steps
length-changes_of [] refs cells = refl
length-changes_of (step ∷ older) refs cells =
    length-one_by_one (more_of step.kind) (alone step.kind) step.table.0 (suc (commands_of older))
    (λ rs cs. change_of (alone step.kind) step.table.0 (drop step.start rs) (drop step.cells_start cs) ∷ changes_of older (take step.start rs) (take step.cells_start cs))
    (λ rs cs. ap suc (length-changes_of older (take step.start rs) (take step.cells_start cs))) refs cells

few_of : (steps : List Step) (count cells : ℕ) → AreSteps steps count cells → commands_of steps ≤ length steps + count
few_of [] count cells lie = omega arith
few_of (step ∷ older) count cells lie = omega (arith, lie.0, few_of older step.start step.cells_start lie.2)

-- there is at most one command for each step and each reference
pub few_commands : (steps : List Step) (refs : List TupleRef) (cells : List CellSet) (commands : ℕ) → ArePlaced (reverse steps) refs cells commands → commands ≤ length steps + length refs
few_commands steps refs cells commands h =
    omega (arith, h.count, length-changes_of (reverse steps) refs cells, few_of (reverse steps) (length refs) (length cells) h.placed, length-reverse steps)

pub some_steps : (steps : List Step) (refs : List TupleRef) (cells : List CellSet) → 0 < length (changes_of (reverse steps) refs cells) → 0 < length steps
some_steps [] refs cells some = absurd (omega (arith, some))
some_steps (step ∷ steps) refs cells some = omega arith

-- ---- a command is noted, or taken out

-- the last element of a list, and another one in its place
pub last_of : {A : Type 0} (xs : List A) (d : A) → 0 < length xs → xs ≡ take (length xs - 1) xs ++ get_or xs (length xs - 1) d ∷ []
last_of xs d some =
    let back : length xs - 1 + 1 ≡ length xs = omega arith in
    sym (take_all (length xs - 1 + 1) xs (omega arith)) ∙ take_more xs (length xs - 1) d (omega arith)

pub last_set : {A : Type 0} (xs : List A) (y : A) → 0 < length xs → set xs (length xs - 1) y ≡ take (length xs - 1) xs ++ y ∷ []
last_set xs y some =
    let back : length xs - 1 + 1 ≡ length xs = omega arith in
    sym (take_all (length xs - 1 + 1) (set xs (length xs - 1) y) (omega (arith, length-set xs (length xs - 1) y))) ∙ take_more_set xs (length xs - 1) y (omega arith)

-- the newest step is alike a command of one row, and stands for one more
pub joined_last : (steps : List Step) (last : ℕ) (step joined noted : Step) → 0 < length steps → last ≡ length steps - 1 → step ≡ get_or steps last step → step.table.0 ≡ noted.table.0
    → joined ≡ record step { kind = joined.kind } → (alone step.kind ≡ noted.kind) × (alone joined.kind ≡ alone step.kind) × (more_of joined.kind ≡ suc (more_of step.kind))
    → IsJoined steps (set steps last joined) noted
joined_last steps last step joined noted some at is table same taken =
    record {
      older = take (length steps - 1) steps;
      step = step;
      joined = joined;
      old_is = last_of steps step some ∙ ap (λ (s : Step). take (length steps - 1) steps ++ s ∷ []) (ap (λ n. get_or steps n step) (sym at) ∙ sym is);
      new_is = ap (λ n. set steps n joined) at ∙ last_set steps joined some;
      table = table;
      kind = taken.0;
      same = same;
      alike = taken.1;
      more = taken.2;
    }

pub width_alone : (k : Kind) → width_of (alone k) ≡ width_of k
width_alone (kind.Came more) = refl
width_alone (kind.Went more) = refl
width_alone (kind.Updated width more) = refl
width_alone (kind.TableDeclared gained) = refl
width_alone (kind.TableDropped dropped) = refl
width_alone (kind.IndexDeclared column k) = refl
width_alone (kind.IndexDropped dropped) = refl

-- the changes of a step and of older ones, by the parts of the step
abbrev pub changes_by : ℕ → Kind → ℕ → ℕ → ℕ → List Step → List TupleRef → List CellSet → List Change
changes_by more k n start from older refs cells =
    one_by_one more k n (λ rs cs. change_of k n (drop start rs) (drop from cs) ∷ changes_of older (take start rs) (take from cs)) refs cells

module _ (old new : List Step) (noted : Step) (j : IsJoined old new noted) (placed : AreSteps (reverse old) noted.start noted.cells_start) where
  width_joined : width_of j.joined.kind ≡ width_of noted.kind
  width_joined = sym (width_alone j.joined.kind) ∙ ap width_of (j.alike ∙ j.kind)

  width_step : width_of j.step.kind ≡ width_of noted.kind
  width_step = sym (width_alone j.step.kind) ∙ ap width_of j.kind

  backwards : (steps : List Step) (step : Step) → steps ≡ j.older ++ step ∷ [] → reverse steps ≡ step ∷ reverse j.older
  backwards steps step e = ap reverse e ∙ reverse-append j.older (step ∷ [])

  joined_changes : (refs more : List TupleRef) (cells others : List CellSet) → length more ≡ 1 → length others ≡ 1 * width_of noted.kind
      → changes_of (reverse new) (refs ++ more) (cells ++ others) ≡ change_of noted.kind noted.table.0 more others ∷ changes_of (reverse old) refs cells
  joined_changes refs more cells others one width =
      let m = more_of j.step.kind in
      let k = noted.kind in
      let n = noted.table.0 in
      let o = reverse j.older in
      let seam : length (refs ++ more) - 1 ≡ length refs = omega (arith, one, length-append refs more) in
      let edge : length (cells ++ others) - width_of k ≡ length cells = omega (arith, width, length-append cells others) in
      ap (λ (ss : List Step). changes_of ss (refs ++ more) (cells ++ others)) (backwards new j.joined j.new_is)
      ∙ (λ i. changes_by (j.more i) ((j.alike ∙ j.kind) i) ((ap (λ (s : Step). s.table.0) j.same ∙ j.table) i) (j.same i).start (j.same i).cells_start o (refs ++ more) (cells ++ others))
      ∙ (λ i. change_of k n (drop (seam i) (refs ++ more)) (drop (edge i) (cells ++ others)) ∷ changes_by m k n j.step.start j.step.cells_start o (take (seam i) (refs ++ more)) (take (edge i) (cells ++ others)))
      ∙ (λ i. change_of k n (drop-append_seam refs more i) (drop-append_seam cells others i) ∷ changes_by m k n j.step.start j.step.cells_start o (take-append_seam refs more i) (take-append_seam cells others i))
      ∙ sym (ap (λ (changes : List Change). change_of k n more others ∷ changes)
      (ap (λ (ss : List Step). changes_of ss refs cells) (backwards old j.step j.old_is) ∙ (λ i. changes_by m (j.kind i) (j.table i) j.step.start j.step.cells_start o refs cells)))

  joined_steps : AreSteps (reverse new) (1 + noted.start) (1 * width_of noted.kind + noted.cells_start)
  joined_steps =
      let h : AreSteps (j.step ∷ reverse j.older) noted.start noted.cells_start = subst (λ (ss : List Step). AreSteps ss noted.start noted.cells_start) (backwards old j.step j.old_is) placed in
      let start = ap (λ (s : Step). s.start) j.same in
      let from = ap (λ (s : Step). s.cells_start) j.same in
      let cells : more_of j.joined.kind * width_of j.joined.kind ≡ more_of j.step.kind * width_of j.step.kind + width_of noted.kind =
      (λ i. j.more i * width_joined i) ∙ suc-mul (more_of j.step.kind) (width_of noted.kind) ∙ ap (λ w. more_of j.step.kind * w + width_of noted.kind) (sym width_step) in
      subst (λ (ss : List Step). AreSteps ss (1 + noted.start) (1 * width_of noted.kind + noted.cells_start)) (sym (backwards new j.joined j.new_is)) (
        omega (arith, h.0, start, j.more),
        omega (arith, h.1, from, cells),
        subst (λ n. AreSteps (reverse j.older) n j.joined.cells_start) (sym start) (subst (λ n. AreSteps (reverse j.older) j.step.start n) (sym from) h.2),
      )

  pub joined_noted : (rows : ℕ) → rows ≡ 1 → IsStepNoted old new noted rows
  joined_noted rows one =
      subst (IsStepNoted old new noted) (sym one) (record { changes = λ refs more cells others start from. joined_changes refs more cells others; steps = joined_steps })

module _ (steps mid new : List Step) (step : Step) (rows : ℕ) (noted : IsStepNoted mid new step rows) (same : mid ≡ steps)
    (refs all more : List TupleRef) (cells every others : List CellSet) (f : all ≡ refs ++ more) (g : every ≡ cells ++ others)
    (start : step.start ≡ length refs) (from : step.cells_start ≡ length cells) (count : length more ≡ rows) (width : length others ≡ rows * width_of step.kind) where
  noted_change : changes_of (reverse new) all every ≡ change_of step.kind step.table.0 more others ∷ changes_of (reverse steps) refs cells
  noted_change =
      (λ i. changes_of (reverse new) (f i) (g i))
      ∙ noted.changes refs more cells others (sym start) (sym from) count width
      ∙ ap (λ (ss : List Step). change_of step.kind step.table.0 more others ∷ changes_of (reverse ss) refs cells) same

  noted_placed : (commands : ℕ) → ArePlaced (reverse steps) refs cells commands → ArePlaced (reverse new) all every (commands + 1)
  noted_placed commands h =
      let long : length all ≡ rows + step.start = omega (arith, ap length f, length-append refs more, start, count) in
      let broad : length every ≡ rows * width_of step.kind + step.cells_start = omega (arith, ap length g, length-append cells others, from, width) in
      record {
        placed = subst (λ n. AreSteps (reverse new) n (length every)) (sym long) (subst (λ n. AreSteps (reverse new) (rows + step.start) n) (sym broad) noted.steps);
        count = omega (arith, h.count, ap length noted_change);
      }

  pub noted_so : (commands : ℕ) → ArePlaced (reverse steps) refs cells commands
      → (changes_of (reverse new) all every ≡ change_of step.kind step.table.0 more others ∷ changes_of (reverse steps) refs cells) × ArePlaced (reverse new) all every (commands + 1)
  noted_so commands h = (noted_change, noted_placed commands h)

module _ (old new : List Step) (step : Step) (refs : List TupleRef) (cells : List CellSet) (newest : IsNewest old new step (length refs) (length cells)) (commands : ℕ) (h : ArePlaced (reverse old) refs cells commands) where
  newest_count : commands ≡ suc (length (changes_of (reverse new) (take step.start refs) (take step.cells_start cells)))
  newest_count = h.count ∙ ap length (newest.changes refs cells refl refl)

  pub newest_some : 0 < commands
  newest_some = omega (arith, newest_count)

  pub newest_placed : (rs : List TupleRef) (cs : List CellSet) → rs ≡ take step.start refs → cs ≡ take step.cells_start cells → ArePlaced (reverse new) rs cs (commands - 1)
  newest_placed rs cs f g =
      let long : length rs ≡ step.start = ap length f ∙ length-take-le step.start refs newest.start in
      let broad : length cs ≡ step.cells_start = ap length g ∙ length-take-le step.cells_start cells newest.cells_start in
      record {
        placed = subst (λ n. AreSteps (reverse new) n (length cs)) (sym long) (subst (λ n. AreSteps (reverse new) step.start n) (sym broad) newest.steps);
        count = omega (arith, newest_count, ap (λ (r : List TupleRef). length (changes_of (reverse new) r (take step.cells_start cells))) f, ap (λ (c : List CellSet). length (changes_of (reverse new) rs c)) g);
      }

-- ---- rows that can be taken back

module _ (c : CatalogState) (ok : IsConsistent c) (n : ℕ) (refs : List TupleRef) (ready : HoldsOnce (outline_of c) n refs) where
  pub table_there : n < length (database_of c)
  table_there =
      let within = slice_get_within (map relation_outline c.relations) n ready.relation ready.there in
      omega (arith, within, length-map c.relations relation_outline, database-length c ok.named)

  pub rows_there : HoldsRows c n refs
  rows_there s there =
      let same : ready.relation ≡ relation_outline s =
      same_Some ready.relation (relation_outline s) (sym ready.there ∙ slice_get-map relation_outline c.relations n ∙ ap (option_map relation_outline) there) in
      subst (λ (o : RelationOutline). All (λ r. IsSome (get o.rows r)) refs) same ready.held

  pub rows_free : IsOutline (without_rows n refs (outline_of c)) → AreFreeRows c n refs
  rows_free stands = free_without c stands.0 ok stands.1 n refs stands.2 rows_there

-- there is a relation of the number of a table that has rows
pub held_there : (c : CatalogState) (n : ℕ) (refs : List TupleRef) → HoldsOnce (outline_of c) n refs → n < length c.relations
held_there c n refs h = omega (arith, slice_get_within (map relation_outline c.relations) n h.relation h.there, length-map c.relations relation_outline)

-- an index can be dropped of a table that declares it
pub can_drop : (c : CatalogState) (ok : IsConsistent c) (n : TableNumber) (column : ColumnNumber) (k : IndexKind) → Declares (outline_of c) n.0 (declaration column k) → IsMeant c.limits (database_of c) (resolved.DropIndex n column k)
can_drop c ok n column k declares =
    let within = slice_get_within (map relation_outline c.relations) n.0 declares.relation declares.there in
    let table = slice_get-inside (database_of c) n.0 (omega (arith, within, length-map c.relations relation_outline, database-length c ok.named)) in
    (table.0, table.1, tt)

-- ---- what is not there

-- tests that no element passes keep all
kept_all : {A : Type 0} (test : A → Bool) (xs : List A) → list_any test xs ≡ false → filter (λ x. not (test x)) xs ≡ xs
kept_all test xs none =
    filter_all (λ x. not (test x)) xs (λ k d l. not_from_false (test (get_or xs k d)) (false_from_ne_true (test (get_or xs k d)) (λ e. true≢false (sym (list_any_at test xs k d l e) ∙ none))))

-- what the drop of an index leaves, by the table that it is of
abbrev left_by : ColumnNumber → IndexKind → TableNumber → Database → Option Table → Database
left_by column k n tables o = (option_map_or (λ table. record { database = with_table n (without_index column k table) tables; outcome = Done }) o (refused tables NoSuchTable)).database

-- where there is no such index, the drop of one is done
pub none_dropped : (c : CatalogState) (n : TableNumber) (column : ColumnNumber) (k : IndexKind) → has_index (database_of c) n.0 column k ≡ false → IsDone c c (resolved.DropIndex n column k)
none_dropped c n column k none =
    record { database = same (slice_get (database_of c) n.0) refl; limits = refl }
  where
    tables : Database
    tables = database_of c

    same : (o : Option Table) → slice_get tables n.0 ≡ o → tables ≡ (done c.limits tables (resolved.DropIndex n column k)).database
    same None e = ap (left_by column k n tables) (sym e)
    same (Some table) e =
        let left = kept_all (is_index column k) table.indexes (sym (ap (λ o. option_map_or (λ t. list_any (is_index column k) t.indexes) o false) e) ∙ none) in
        let whole : set tables n.0 (without_index column k table) ≡ tables = ap (λ indexes. set tables n.0 (record table { indexes = indexes })) left ∙ set_itself tables n.0 table e in
        sym whole ∙ ap (left_by column k n tables) (sym e)
