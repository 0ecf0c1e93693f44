-- Many rows: what comes of the statement of a number with many rows of values.
use Rattle.std.proofs.Common.{◌≡◌, ◌≢◌, ◌∙◌, ℕ, ◌+◌, List, [], ◌∷◌, map, refl, sym, ap, subst, Option, Some, None, Result, Ok, Err}
use Rattle.std.specs.Prelude.{IfErr, IfOk, IsSome, IsSomeAnd, IsTrue, OnErr}
use Rattle.std.specs.List.{All, slice_get}
use Rattle.std.specs.Option.{option_map}
use Rattle.std.proofs.lemmas.List.Elements.{All-cons, All-head, All-nil, All-tail}
use Rattle.std.proofs.lemmas.Option.{same_Some}
use Rattle.plain_tables.specs.Commands.{effect_of_resolved}
use Rattle.plain_tables.specs.Databases.{Database}
use Rattle.plain_tables.specs.Doing.{done}
use Rattle.plain_tables.specs.Effects.{Changed, Done, Dumped, Effect, Listed, Outcome, Refused, Rows, refused}
use Rattle.plain_tables.specs.Resolving.{resolved_of}
use Rattle.plain_tables.specs.ResolvedLaws.{HasWidth, IsInsertable, IsMeant, OfTable, emptied}
use Rattle.plain_tables.specs.Tables.{Row, Table}
use Rattle.plain_tables.specs.declared.command.Limits.{Limits}
use Rattle.plain_tables.specs.declared.numbers.TableNumber.{TableNumber}
use Rattle.plain_tables.specs.declared.refusal.Refusal.{Refusal}
use Rattle.plain_tables.specs.declared.refusal.Refusal.TheVariants.{NotACommand}
use Rattle.plain_tables.specs.declared.resolved.Resolved.{Resolved}
use Rattle.plain_tables.specs.declared.resolved.Resolved.TheVariants as resolved
use Rattle.plain_tables.specs.declared.value.Value.{Value}
use Rattle.plain_tables.proofs.Changes.{own_rows_change}
use Rattle.plain_tables.proofs.ResolvedCommands.{resolved_are_meant}
use Rattle.plain_statements.specs.declared.resolution.Resolution.{Resolution}
use Rattle.plain_statements.specs.declared.resolution.Template.TheVariants as template
use Rattle.plain_statements.specs.declared.statement.Slot.{Slot}
use Rattle.plain_statements.specs.declared.statement.Statement.{Statement}
use Rattle.plain_statements.specs.Executing.{executed}
use Rattle.plain_statements.specs.Filling.{filled, slot_value}
use Rattle.plain_statements.specs.Finishing.{filled_template, finished}
use Rattle.plain_statements.specs.Laws.{Refuses, Resolves}
use Rattle.plain_statements.specs.StatementSpelling.{SpellsStatement}
use Rattle.mm_prepared.specs.Many.{IsChangeWith, after_outcome, all_or_none, each_in_turn, effect_with, effect_with_each, executed_many, first_unfit, or_none, unless_refused}
use Rattle.mm_prepared.proofs.ManyRows.{Inserts, first-same, fit-each, inserts-load}
use Rattle.plain_statements.proofs.Schemas.{resolution-stays}
use Rattle.mm_session.specs.Changing.{HasChanged, IsChange}
use Rattle.mm_session.specs.OneRequest.{StaysInStream}
use Rattle.mm_session.specs.Sessions.{State}
use Rattle.mm_prepared.specs.Kept.{IsKnown, KeptStatement, SameSeen, named, seen}
use Rattle.mm_prepared.specs.declared.kept.Prepared.{Prepared}
use Rattle.mm_prepared.specs.declared.kept.Statements.{Statements}
use Rattle.mm_shared.specs.Held.{Held}
use Rattle.mm_statements.specs.Databases.{DatabaseState, KeepsTables, statement_at}
use Rattle.mm_statements.specs.Many.{EndsBy, HasFailed, IsDeclinedWithMany, IsEffectOfMany, IsMeaning, outcome_in_record}
use Rattle.mm_statements.specs.Resolving.{IsUnresolved}
use Rattle.mm_statements.specs.Right.{AreNoted, AreRight}
use Rattle.mm_shared.specs.declared.noted.NotedTables.{NotedTables}
use Rattle.mm_statements.specs.declared.faults.ExecuteFault.{ExecuteFault}
use Rattle.mm_statements.specs.declared.faults.ExecuteFault.TheVariants as fault
use Rattle.mm_statements.proofs.Changes.{change-schemas, same_schemas}
use Rattle.mm_statements.proofs.Executing.{known-resolves}
use Rattle.mm_statements.proofs.Finished.{finished-is, finished-rows, rows-change}
use Rattle.mm_statements.proofs.Given.{filled-given}
use Rattle.mm_statements.proofs.NotedMeanings.{noted-stays}
use Rattle.mm_statements.proofs.Seen.{same-seen, state_of, statement-seen}

-- ---- one row

-- a change that a row of values makes is an insert, an update or a delete
pub change-is : (r : Resolution) (row : List Value) (is : IsChangeWith r row) → IsChange is.command
change-is r row is =
    rows-change is.command (finished-rows row r is.command is.means)
    (λ query same. let bad : Err NotACommand ≡ Ok (resolved.Select query) = rw same at is.change in cc)

pub effect-is : (limits : Limits) (r : Resolution) (tables : Database) (row : List Value) (is : IsChangeWith r row)
    → effect_with limits r tables row ≡ done limits tables is.command
effect-is limits r tables row is = ap (effect_of_resolved limits tables) is.means

-- it leaves the names and columns of tables
pub row-schemas : (limits : Limits) (r : Resolution) (tables : Database) (row : List Value) → IsChangeWith r row
    → map emptied (effect_with limits r tables row).database ≡ map emptied tables
row-schemas limits r tables row is =
    ap (λ (e : Effect). map emptied e.database) (effect-is limits r tables row is) ∙ change-schemas limits tables is.command (change-is r row is)

pub meaning-stays : (tables others : Database) (r : Resolution) → map emptied others ≡ map emptied tables → IsMeaning tables r → IsMeaning others r
meaning-stays tables others r same (line, (s, spelled, resolves)) =
    (line, (s, spelled, resolution-stays tables others s r (sym same) resolves))

-- with values of 64 bits it is as a line can mean it
pub row-meant : (limits : Limits) (tables : Database) (r : Resolution) (row : List Value) (c : Resolved) → IsMeaning tables r → All HasWidth row
    → finished row r ≡ Ok c → IsMeant limits tables c
row-meant limits tables r row c (line, (s, spelled, resolves)) widths is =
    resolved_are_meant [] limits tables (filled row s) c (filled-given row widths line s spelled) (resolves row ∙ is)

-- ---- many rows

module _ (limits : Limits) (s : Statement) (r : Resolution) where
  after-same : (k count : ℕ) (f g : ℕ → Database → Effect) (tables : Database) (o : Outcome) → ((n : ℕ) → f n tables ≡ g n tables)
      → after_outcome k count f tables o ≡ after_outcome k count g tables o
  after-same k count f g tables (Changed n) same = same (count + n)
  after-same k count f g tables (Refused why) same = refl
  after-same k count f g tables o same = same count

  in-turn-same : (rows : List (List Value)) (k count : ℕ) (tables : Database) → Resolves tables s r → All (IsChangeWith r) rows
      → each_in_turn (λ d row. executed limits d s row) rows k count tables ≡ each_in_turn (effect_with limits r) rows k count tables
  in-turn-same [] k count tables resolves all = refl
  in-turn-same (row ∷ rows) k count tables resolves all =
      let executes : ℕ → Database → Effect = each_in_turn (λ d row. executed limits d s row) rows (k + 1) in
      let affects : ℕ → Database → Effect = each_in_turn (effect_with limits r) rows (k + 1) in
      let e : Effect = effect_with limits r tables row in
      let same : executed limits tables s row ≡ e = ap (effect_of_resolved limits tables) (resolves row) in
      let is = All-head (IsChangeWith r) row rows all in
      ap (λ (it : Effect). after_outcome k count executes it.database it.outcome) same
      ∙ after-same k count executes affects e.database e.outcome
      (λ n. in-turn-same rows (k + 1) n e.database (resolution-stays tables e.database s r (sym (row-schemas limits r tables row is)) resolves)
      (All-tail (IsChangeWith r) row rows all))

  unfit-same : (tables : Database) (rows : List (List Value)) (o : Option Refusal) → Resolves tables s r → first_unfit r rows ≡ o
      → executed_many limits tables s rows ≡ unless_refused tables o (all_or_none tables (each_in_turn (λ d row. executed limits d s row) rows 1 0 tables))
  unfit-same tables rows o resolves is =
      ap (λ found. unless_refused tables found (all_or_none tables (each_in_turn (λ d row. executed limits d s row) rows 1 0 tables)))
      (first-same (λ row. resolved_of [] tables (filled row s)) (λ row. finished row r) resolves rows ∙ is)

  -- where each makes a change
  pub many-done : (tables : Database) (rows : List (List Value)) → Resolves tables s r → first_unfit r rows ≡ None
      → executed_many limits tables s rows ≡ all_or_none tables (effect_with_each limits r rows tables)
  many-done tables rows resolves none =
      unfit-same tables rows None resolves none ∙ ap (all_or_none tables) (in-turn-same rows 1 0 tables resolves (fit-each r rows none))

  -- where one makes none
  pub many-refused : (tables : Database) (rows : List (List Value)) (why : Refusal) → Resolves tables s r → first_unfit r rows ≡ Some why
      → executed_many limits tables s rows ≡ refused tables why
  many-refused tables rows why resolves is = unfit-same tables rows (Some why) resolves is

-- a statement that is refused whatever is bound is refused so with some rows
pub many-refusing : (limits : Limits) (tables : Database) (s : Statement) (rows : List (List Value)) (why : Refusal) → rows ≢ [] → Refuses tables s why
    → executed_many limits tables s rows ≡ refused tables why
many-refusing limits tables s [] why some refuses = absurd (some refl)
many-refusing limits tables s (row ∷ rows) why some refuses = rw (refuses row) refl

-- ---- inserts

-- the row that an insert with these slots makes of values
abbrev pub row_with : List Slot → List Value → Row
row_with slots values = map (slot_value values) slots

pub insert-means : (r : Resolution) (n : TableNumber) (slots : List Slot) (row : List Value) → r.template ≡ template.Insert n slots → IsChangeWith r row
    → finished row r ≡ Ok (resolved.Insert n (row_with slots row))
insert-means r n slots row at is =
    is.means ∙ ap Ok (sym (finished-is row r is.command is.means) ∙ ap (filled_template row) at)

pub inserts-all : (limits : Limits) (r : Resolution) (n : TableNumber) (slots : List Slot) (rows : List (List Value)) → r.template ≡ template.Insert n slots
    → All (IsChangeWith r) rows → All (Inserts limits n r (row_with slots)) rows
inserts-all limits r n slots [] at all = All-nil (Inserts limits n r (row_with slots))
inserts-all limits r n slots (row ∷ rows) at all =
    All-cons (Inserts limits n r (row_with slots)) row rows (insert-means r n slots row at (All-head (IsChangeWith r) row rows all))
    (inserts-all limits r n slots rows at (All-tail (IsChangeWith r) row rows all))

-- ---- the statement of a number

pub known-named : (statements : Statements) (number : ℕ) (o : Option Prepared) → named statements number ≡ o
    → IsSomeAnd o (λ (q : Prepared). IsSome q.resolution) → (p : Prepared) × (named statements number ≡ Some p)
known-named statements number None is known = absurd known
known-named statements number (Some p) is known = (p, is)

-- ---- where one row is refused

module _ (k count : ℕ) (next : ℕ → Database → Effect) (tables : Database) where
  turn-ends : (o : Outcome) (why : Refusal) → outcome_in_record k o ≡ Refused why → (after_outcome k count next tables o).outcome ≡ Refused why
  turn-ends (Refused w) why is = is
  turn-ends Done why is = cc
  turn-ends (Changed n) why is = cc
  turn-ends (Rows names rows) why is = cc
  turn-ends (Dumped name block) why is = cc
  turn-ends (Listed all) why is = cc

  -- its refusal is that of all
  pub ends-in-turn : (o : Outcome) (f : ExecuteFault) → EndsBy (outcome_in_record k o) f → EndsBy (after_outcome k count next tables o).outcome f
  ends-in-turn o fault.NoSuchStatement ends = ends
  ends-in-turn o (fault.Refused why) ends = λ other. turn-ends o why (ends other)
  ends-in-turn o fault.TooLong ends = ends
  ends-in-turn o fault.Shared ends = ends
  ends-in-turn o fault.Interrupted ends = ends

-- ---- the statement of a number, whose meaning is known

pub record KnownAs (held : Held) (old : Statements) (number : ℕ) (r : Resolution) : Type 0 where
  pub kept : KeptStatement
  pub there : statement_at (state_of held old) number ≡ Some kept
  pub statement : Statement
  pub spelled : SpellsStatement kept.line statement
  pub resolves : Resolves held.session.database statement r

pub known-as : (held : Held) (old new : Statements) (number : ℕ) (r : Resolution) → SameSeen old new → IsKnown new number
    → AreRight held.session.database new → ((p : Prepared) → named new number ≡ Some p → p.resolution ≡ Some r) → KnownAs held old number r
known-as held old new number r same known right is =
    let (p, there) = known-named new number (named new number) refl known in
    let it = right number p there in
    record {
      kept = seen p;
      there = statement-seen held old number ∙ sym (same number) ∙ ap (option_map seen) there;
      statement = it.statement;
      spelled = it.spelled;
      resolves = known-resolves held.session.database p r it (is p there);
    }

module _ (held : Held) (old : Statements) (number : ℕ) (r : Resolution) (known : KnownAs held old number r) where
  pub meaning-of : IsMeaning held.session.database r
  meaning-of = (known.kept.line, (known.statement, known.spelled, known.resolves))

  effect-of-many : (rows : List (List Value)) (effect : Effect) → effect ≡ executed_many held.session.limits held.session.database known.statement rows
      → IsEffectOfMany (state_of held old) number rows effect
  effect-of-many rows effect is = record { kept = known.kept; there = known.there; statement = known.statement; spelled = known.spelled; is = is }

  -- where each row makes a change
  pub all-of : (rows : List (List Value)) → first_unfit r rows ≡ None
      → IsEffectOfMany (state_of held old) number rows (all_or_none held.session.database (effect_with_each held.session.limits r rows held.session.database))
  all-of rows none = effect-of-many rows _ (sym (many-done held.session.limits known.statement r held.session.database rows known.resolves none))

  -- where one makes none
  pub unfit-of : (rows : List (List Value)) (why : Refusal) → first_unfit r rows ≡ Some why
      → IsDeclinedWithMany (state_of held old) number rows (fault.Refused why)
  unfit-of rows why is other =
      effect-of-many rows _ (sym (many-refused held.session.limits known.statement r held.session.database rows why known.resolves is))

-- what has failed is declined
pub failed-declined : (held : Held) (old : Statements) (number : ℕ) (rows : List (List Value)) (e : Effect) (f : ExecuteFault)
    → IsEffectOfMany (state_of held old) number rows e → HasFailed held.session.database e f → IsDeclinedWithMany (state_of held old) number rows f
failed-declined held old number rows e fault.NoSuchStatement it failed = absurd failed
failed-declined held old number rows e (fault.Refused why) it failed = λ other. subst (IsEffectOfMany (state_of held old) number rows) (failed other) it
failed-declined held old number rows e fault.TooLong it failed = tt
failed-declined held old number rows e fault.Shared it failed = tt
failed-declined held old number rows e fault.Interrupted it failed = failed

-- a statement that is refused whatever is bound is so with some rows
pub unresolved-many : (held : Held) (old : Statements) (number : ℕ) (rows : List (List Value)) (f : ExecuteFault) → rows ≢ []
    → IsUnresolved held.session.database old number f → IsDeclinedWithMany (state_of held old) number rows f
unresolved-many held old number rows fault.NoSuchStatement some none = statement-seen held old number ∙ ap (option_map seen) none
unresolved-many held old number rows fault.TooLong some never = tt
unresolved-many held old number rows fault.Shared some never = tt
unresolved-many held old number rows fault.Interrupted some never = never
unresolved-many held old number rows (fault.Refused why) some says = λ other.
    let s = says other in
    record {
      kept = seen s.prepared;
      there = statement-seen held old number ∙ ap (option_map seen) s.there;
      statement = s.statement;
      spelled = s.spelled;
      is = sym (many-refusing held.session.limits held.session.database s.statement rows why some s.refuses);
    }

-- ---- rows that are inserted

module _ (limits : Limits) (tables : Database) (r : Resolution) (n : TableNumber) (slots : List Slot) (at : r.template ≡ template.Insert n slots) where
  insertable-each : (rows : List (List Value)) → IsMeaning tables r → All (IsChangeWith r) rows → All (All HasWidth) rows
      → All (λ row. OfTable n tables (IsInsertable tables (row_with slots row))) rows
  insertable-each [] meaning changes widths = All-nil (λ row. OfTable n tables (IsInsertable tables (row_with slots row)))
  insertable-each (row ∷ rows) meaning changes widths =
      All-cons (λ v. OfTable n tables (IsInsertable tables (row_with slots v))) row rows
      (row-meant limits tables r row (resolved.Insert n (row_with slots row)) meaning (All-head (All HasWidth) row rows widths)
      (insert-means r n slots row at (All-head (IsChangeWith r) row rows changes)))
      (insertable-each rows meaning (All-tail (IsChangeWith r) row rows changes) (All-tail (All HasWidth) row rows widths))

  insertable-in : (table : Table) → slice_get tables n.0 ≡ Some table → (rows : List (List Value))
      → All (λ row. OfTable n tables (IsInsertable tables (row_with slots row))) rows → All (λ row. IsInsertable tables row table) (map (row_with slots) rows)
  insertable-in table there [] all = All-nil (λ row. IsInsertable tables row table)
  insertable-in table there (row ∷ rows) all =
      let (other, found, is) = All-head (λ v. OfTable n tables (IsInsertable tables (row_with slots v))) row rows all in
      All-cons (λ v. IsInsertable tables v table) (row_with slots row) (map (row_with slots) rows)
      (subst (IsInsertable tables (row_with slots row)) (same_Some other table (sym found ∙ there)) is)
      (insertable-in table there rows (All-tail (λ v. OfTable n tables (IsInsertable tables (row_with slots v))) row rows all))

  load-in : (rows : List (List Value)) → rows ≢ [] → All (λ row. OfTable n tables (IsInsertable tables (row_with slots row))) rows
      → IsMeant limits tables (resolved.Load n (map (row_with slots) rows))
  load-in [] some all = absurd (some refl)
  load-in (row ∷ rows) some all =
      let (table, there, is) = All-head (λ v. OfTable n tables (IsInsertable tables (row_with slots v))) row rows all in
      (table, there, insertable-in table there (row ∷ rows) all)

  -- the load of the rows that it makes is one of these tables
  pub load-meant : (rows : List (List Value)) → rows ≢ [] → IsMeaning tables r → first_unfit r rows ≡ None → All (All HasWidth) rows
      → IsMeant limits tables (resolved.Load n (map (row_with slots) rows))
  load-meant rows some meaning none widths = load-in rows some (insertable-each rows meaning (fit-each r rows none) widths)

  -- and it does what the statement does with each of them
  pub load-is-all : (rows : List (List Value)) → IsMeant limits tables (resolved.Load n (map (row_with slots) rows)) → first_unfit r rows ≡ None
      → all_or_none tables (effect_with_each limits r rows tables) ≡ done limits tables (resolved.Load n (map (row_with slots) rows))
  load-is-all rows (table, there, is) none =
      inserts-load limits n r (row_with slots) rows tables (table, there, tt) (inserts-all limits r n slots rows at (fit-each r rows none))

-- ---- the names and columns of tables stay

pub load-schemas : (limits : Limits) (tables : Database) (n : TableNumber) (rows : List Row)
    → map emptied (done limits tables (resolved.Load n rows)).database ≡ map emptied tables
load-schemas limits tables n rows = same_schemas tables _ (own_rows_change limits tables (resolved.Load n rows) n refl).all_but_rows

module _ (limits : Limits) (r : Resolution) where
  after-schemas : (k count : ℕ) (next : ℕ → Database → Effect) (tables : Database) (o : Outcome) → ((m : ℕ) → map emptied (next m tables).database ≡ map emptied tables)
      → map emptied (after_outcome k count next tables o).database ≡ map emptied tables
  after-schemas k count next tables (Changed m) same = same (count + m)
  after-schemas k count next tables (Refused why) same = refl
  after-schemas k count next tables o same = same count

  in-turn-schemas : (rows : List (List Value)) (k count : ℕ) (tables : Database) → All (IsChangeWith r) rows
      → map emptied (each_in_turn (effect_with limits r) rows k count tables).database ≡ map emptied tables
  in-turn-schemas [] k count tables all = refl
  in-turn-schemas (row ∷ rows) k count tables all =
      let e = effect_with limits r tables row in
      after-schemas k count (each_in_turn (effect_with limits r) rows (k + 1)) e.database e.outcome
      (λ m. in-turn-schemas rows (k + 1) m e.database (All-tail (IsChangeWith r) row rows all))
      ∙ row-schemas limits r tables row (All-head (IsChangeWith r) row rows all)

or-none-schemas : (tables : Database) (e : Effect) (o : Outcome) → map emptied e.database ≡ map emptied tables
    → map emptied (or_none tables e o).database ≡ map emptied tables
or-none-schemas tables e (Refused why) same = refl
or-none-schemas tables e o same = same

pub all-schemas : (limits : Limits) (r : Resolution) (tables : Database) (rows : List (List Value)) → first_unfit r rows ≡ None
    → map emptied (all_or_none tables (effect_with_each limits r rows tables)).database ≡ map emptied tables
all-schemas limits r tables rows none =
    let e = effect_with_each limits r rows tables in
    or-none-schemas tables e e.outcome (in-turn-schemas limits r rows 1 0 tables (fit-each r rows none))

-- what is noted stays so, whether it was done or not
pub noted-after : (old new : State) (noted : NotedTables) (statements : Statements) (e : Effect) (result : Result ℕ ExecuteFault)
    → map emptied e.database ≡ map emptied old.database → IfOk result (HasChanged new e) → OnErr result (new.database ≡ old.database)
    → AreNoted old.database noted statements → AreNoted new.database noted statements
noted-after old new noted statements e (Ok count) same done kept is =
    noted-stays old.database new.database noted statements
    (sym (ap (map emptied) (sym (ap (λ (it : Effect). it.database) done)) ∙ same)) is
noted-after old new noted statements e (Err f) same done kept is = subst (λ d. AreNoted d noted statements) (sym kept) is

-- ---- what is told of a result

pub done-many : (database : DatabaseState) (number : ℕ) (rows : List (List Value)) (new : State) (e : Effect) (result : Result ℕ ExecuteFault)
    → IsEffectOfMany database number rows e → IfOk result (HasChanged new e)
    → IfOk result (λ count. (effect : Effect) × IsEffectOfMany database number rows effect × HasChanged new effect count)
done-many database number rows new e (Ok count) it done = (e, it, done)
done-many database number rows new e (Err f) it done = tt

pub declined-many : (held : Held) (old : Statements) (number : ℕ) (rows : List (List Value)) (e : Effect) (result : Result ℕ ExecuteFault)
    → IsEffectOfMany (state_of held old) number rows e → IfErr result (HasFailed held.session.database e)
    → IfErr result (IsDeclinedWithMany (state_of held old) number rows)
declined-many held old number rows e (Ok count) it failed = tt
declined-many held old number rows e (Err f) it failed = failed-declined held old number rows e f it failed

pub kept-tables : (before after : Held) (old new : Statements) (result : Result ℕ ExecuteFault) → OnErr result (after.session.database ≡ before.session.database)
    → StaysInStream before.session after.session → (IsTrue after.shared → IsTrue before.shared) → SameSeen old new
    → OnErr result (KeepsTables (state_of before old) (state_of after new))
kept-tables before after old new (Ok count) kept stream shared same = tt
kept-tables before after old new (Err f) kept stream shared same =
    record { database = kept; stream = stream; shared = shared; statements = same-seen before after old new same }

-- where nothing was done
pub kept-all : {X : Type 0} (held : Held) (old new : Statements) (result : Result X ExecuteFault) → SameSeen old new
    → OnErr result (KeepsTables (state_of held old) (state_of held new))
kept-all held old new (Ok x) same = tt
kept-all held old new (Err f) same = record {
  database = refl;
  stream = record { limits = refl; saved = refl; ended = refl; kept = refl };
  shared = λ t. t;
  statements = same-seen held held old new same;
}

-- with no rows of values nothing is done
none-in : (held : Held) (old : Statements) (number : ℕ) (tables : Database) → AreRight tables old → (o : Option Prepared) → named old number ≡ o
    → IsSome (option_map seen o)
    → (effect : Effect) × IsEffectOfMany (state_of held old) number [] effect × (effect ≡ record { database = held.session.database; outcome = Changed 0 })
none-in held old number tables right None is some = cc
none-in held old number tables right (Some p) is some =
    let it = right number p is in (
      record { database = held.session.database; outcome = Changed 0 },
      record {
        kept = seen p;
        there = statement-seen held old number ∙ ap (option_map seen) is;
        statement = it.statement;
        spelled = it.spelled;
        is = refl;
      },
      refl,
    )

pub none-done : (held : Held) (old : Statements) (number : ℕ) (tables : Database) → AreRight tables old → IsSome (statement_at (state_of held old) number)
    → (effect : Effect) × IsEffectOfMany (state_of held old) number [] effect × (effect ≡ record { database = held.session.database; outcome = Changed 0 })
none-done held old number tables right some =
    none-in held old number tables right (named old number) refl (subst IsSome (statement-seen held old number) some)
