-- Columns: those that a resolution tells are those of each command that values make of it.
use Rattle.std.proofs.Common.{◌≡◌, ◌≢◌, ◌∙◌, ℕ, zero, suc, ◌+◌, List, [], ◌∷◌, ◌++◌, map, refl, sym, ap, subst, add-zero, zero-add, arith, Option, Some, None, Ok, Result}
use Rattle.std.specs.Prelude.{slice_get, IfOk, IsSome, IsSomeAnd}
use Rattle.std.specs.List.{All, cons_option, enumerate_from, filter_map, flat_map}
use Rattle.std.specs.Option.{option_and_then, option_map, option_map_or}
use Rattle.std.proofs.lemmas.List.{map-append}
use Rattle.std.proofs.lemmas.List.Concat.{flat_map-append}
use Rattle.std.proofs.lemmas.List.Elements.{All-head, All-nil, All-tail}
use Rattle.plain_tables.specs.Databases.{Database}
use Rattle.plain_tables.specs.Doing.{joined_tables}
use Rattle.plain_tables.specs.Queries.{JoinedColumn, column_number, source_columns}
use Rattle.plain_tables.specs.Effects.{Check}
use Rattle.plain_tables.specs.Resolving.{assignments_of, delete_checks, insert_checks, meaning, number_of, own_columns, resolved_of, tests_of, update_checks}
use Rattle.plain_tables.specs.ResolvedLaws.{AreJoins, HasPlace, HasWidth, IsGiven, IsMeant, IsShown}
use Rattle.plain_tables.specs.Tables.{Table}
use Rattle.plain_tables.specs.declared.command.Limits.{Limits}
use Rattle.plain_tables.specs.declared.command.Setting.{Setting}
use Rattle.plain_tables.specs.declared.condition.Cond.{Cond}
use Rattle.plain_tables.specs.declared.numbers.Place.{Place}
use Rattle.plain_tables.specs.declared.numbers.TableNumber.{TableNumber}
use Rattle.plain_tables.specs.declared.refusal.Refusal.{Refusal}
use Rattle.plain_tables.specs.declared.resolved.Assignment.{Assignment}
use Rattle.plain_tables.specs.declared.resolved.Joined.{Joined}
use Rattle.plain_tables.specs.declared.resolved.Query.{Query}
use Rattle.plain_tables.specs.declared.resolved.Resolved.{Resolved}
use Rattle.plain_tables.specs.declared.resolved.Resolved.TheVariants as resolved
use Rattle.plain_tables.specs.declared.resolved.Shown.{Shown}
use Rattle.plain_tables.specs.declared.resolved.Shown.TheVariants as shown
use Rattle.plain_tables.specs.declared.resolved.Test.{Test}
use Rattle.plain_tables.specs.declared.schema.Column.{Column}
use Rattle.plain_tables.specs.declared.value.Value.{Value}
use Rattle.common_lemmas.proofs.Places.{slice_get-inside}
use Rattle.plain_tables.proofs.Meanings.{if_checked, if_numbered, satisfies}
use Rattle.plain_tables.proofs.ResolvedCommands.{resolved_are_meant}
use Rattle.plain_statements.specs.Filling.{filled, filled_condition, filled_setting, slot_value}
use Rattle.plain_statements.specs.Finishing.{filled_join, filled_query, filled_template}
use Rattle.plain_statements.specs.Laws.{Resolves}
use Rattle.plain_statements.specs.StatementSpelling.{SpellsStatement}
use Rattle.plain_statements.specs.declared.resolution.Resolution.{Resolution}
use Rattle.plain_statements.specs.declared.resolution.SlotJoined.{SlotJoined}
use Rattle.plain_statements.specs.declared.resolution.SlotQuery.{SlotQuery}
use Rattle.plain_statements.specs.declared.resolution.Template.{Template}
use Rattle.plain_statements.specs.declared.resolution.Template.TheVariants as template
use Rattle.plain_statements.specs.declared.statement.Statement.{Statement}
use Rattle.plain_statements.specs.declared.statement.Statement.TheVariants as statement
use Rattle.mm_session.specs.Columns.{column_told, columns_told}
use Rattle.mm_session.specs.Shown.{places_shown}
use Rattle.mm_statements.specs.Columns.{column_of, column_placed, columns_of_query, columns_of_table, columns_of_template, columns_shown, source_tables}
use Rattle.mm_statements.specs.Executing.{IsUntold, TellsColumns, columns_of}
use Rattle.mm_prepared.specs.Kept.{IsKnown, SameSeen, named, seen}
use Rattle.mm_shared.specs.Held.{Held}
use Rattle.mm_statements.specs.Resolving.{IsUnresolved}
use Rattle.mm_statements.specs.Right.{AreRight}
use Rattle.mm_statements.specs.declared.faults.ExecuteFault.{ExecuteFault}
use Rattle.mm_statements.specs.declared.faults.ExecuteFault.TheVariants as fault
use Rattle.mm_prepared.specs.declared.kept.Prepared.{Prepared}
use Rattle.mm_prepared.specs.declared.kept.Statements.{Statements}
use Rattle.mm_statements.proofs.Executing.{known-resolves}
use Rattle.mm_statements.proofs.Finished.{finished-is}
use Rattle.mm_statements.proofs.Given.{filled-given}
use Rattle.mm_statements.proofs.Seen.{state_of, statement-seen}

next : (m i : ℕ) → m + 1 + i ≡ m + suc i
next m i = omega arith

-- ---- the tables of a query

-- the tables of numbers
abbrev tables_of : Database → List TableNumber → List Table
tables_of tables numbers = filter_map (λ n. slice_get tables n.0) numbers

joins-tables : (tables : Database) (values : List Value) (joins : List SlotJoined)
    → filter_map (λ s. slice_get tables s.table.0) (map (λ (j : Joined). j.source) (map (filled_join values) joins)) ≡ tables_of tables (map (λ (j : SlotJoined). j.source.table) joins)
joins-tables tables values [] = refl
joins-tables tables values (j ∷ joins) = ap (cons_option (slice_get tables j.source.table.0)) (joins-tables tables values joins)

query-tables : (tables : Database) (values : List Value) (query : SlotQuery)
    → joined_tables tables (filled_query values query).source (filled_query values query).joins ≡ tables_of tables (source_tables query)
query-tables tables values query = ap (cons_option (slice_get tables query.source.table.0)) (joins-tables tables values query.joins)

-- each table is there
abbrev AreThere : Database → List TableNumber → Type 0
AreThere tables [] = Unit {0}
AreThere tables (n ∷ numbers) = ((t : Table) × (slice_get tables n.0 ≡ Some t)) × AreThere tables numbers

joins-there : (tables : Database) (values : List Value) (before : List Table) (joins : List SlotJoined) → AreJoins tables before (map (filled_join values) joins)
    → AreThere tables (map (λ (j : SlotJoined). j.source.table) joins)
joins-there tables values before [] are = tt
joins-there tables values before (j ∷ joins) are = ((are.1.0, are.1.1), joins-there tables values (before ++ are.1.0 ∷ []) joins are.1.2.2)

tables-get : (tables : Database) (numbers : List TableNumber) (k : ℕ) → AreThere tables numbers
    → slice_get (tables_of tables numbers) k ≡ option_and_then (λ (n : TableNumber). slice_get tables n.0) (slice_get numbers k)
tables-get tables [] k there = refl
tables-get tables (n ∷ numbers) zero there = ap (λ o. slice_get (cons_option o (tables_of tables numbers)) zero) there.0.1 ∙ sym there.0.1
tables-get tables (n ∷ numbers) (suc k) there =
    ap (λ o. slice_get (cons_option o (tables_of tables numbers)) (suc k)) there.0.1 ∙ tables-get tables numbers k there.1

-- ---- columns at places

placed-here : (tables : Database) (joined : List Table) (place : Place) (t : Table) (c : Column) → slice_get joined place.source ≡ Some t → slice_get t.columns place.column.0 ≡ Some c
    → column_told tables joined place ≡ column_of tables t c
placed-here tables joined place t c at there = rw (at, there) refl

placed-told : (tables : Database) (numbers : List TableNumber) (there : AreThere tables numbers) (place : Place) → HasPlace (tables_of tables numbers) place
    → column_placed tables numbers place ≡ column_told tables (tables_of tables numbers) place
placed-told tables numbers there place has =
    let found : option_and_then (λ (n : TableNumber). slice_get tables n.0) (slice_get numbers place.source) ≡ Some has.0 = sym (tables-get tables numbers place.source there) ∙ has.1 in
    let column = slice_get-inside has.0.columns place.column.0 has.2 in
    rw (found, column.1) (sym (placed-here tables (tables_of tables numbers) place has.0 column.0 has.1 column.1))

places-told : (tables : Database) (numbers : List TableNumber) (there : AreThere tables numbers) (places : List Place) → All (HasPlace (tables_of tables numbers)) places
    → flat_map (column_placed tables numbers) places ≡ flat_map (column_told tables (tables_of tables numbers)) places
places-told tables numbers there [] has = refl
places-told tables numbers there (place ∷ places) has =
    rw (
      placed-told tables numbers there place (All-head (HasPlace (tables_of tables numbers)) place places has),
      places-told tables numbers there places (All-tail (HasPlace (tables_of tables numbers)) place places has),
    ) refl

module _ (tables : Database) (joined : List Table) where
  -- all columns of a table that is joined
  columns-told : (k m : ℕ) (t : Table) (columns : List Column) → slice_get joined k ≡ Some t → ((i : ℕ) → slice_get t.columns (m + i) ≡ slice_get columns i)
      → flat_map (column_told tables joined) (map (λ (j : JoinedColumn). j.place) (map (λ (c : ℕ × Column). record { table = t.name; place = record { source = k; column = column_number c.0 }; column = c.1 }) (enumerate_from m columns))) ≡ flat_map (column_of tables t) columns
  columns-told k m t [] at from = refl
  columns-told k m t (c ∷ columns) at from =
      let here : slice_get t.columns m ≡ Some c = ap (slice_get t.columns) (sym (add-zero m)) ∙ from 0 in
      let rest = columns-told k (m + 1) t columns at (λ i. ap (slice_get t.columns) (next m i) ∙ from (suc i)) in
      let place : Place = record { source = k; column = column_number m } in
      ap (λ (vs : List Value). vs ++ flat_map (column_told tables joined) (map (λ (j : JoinedColumn). j.place) (map (λ (c : ℕ × Column). record { table = t.name; place = record { source = k; column = column_number c.0 }; column = c.1 }) (enumerate_from (m + 1) columns)))) (placed-here tables joined place t c at here)
      ∙ ap (λ (vs : List Value). column_of tables t c ++ vs) rest

  -- all columns of the tables from the one of a number on
  tables-told : (k : ℕ) (ts : List Table) → ((i : ℕ) → slice_get joined (k + i) ≡ slice_get ts i)
      → flat_map (column_told tables joined) (map (λ (j : JoinedColumn). j.place) (flat_map source_columns (enumerate_from k ts))) ≡ flat_map (λ (t : Table). flat_map (column_of tables t) t.columns) ts
  tables-told k [] from = refl
  tables-told k (t ∷ ts) from =
      let told : Place → List Value = column_told tables joined in
      let place : JoinedColumn → Place = λ j. j.place in
      let here : slice_get joined k ≡ Some t = ap (slice_get joined) (sym (add-zero k)) ∙ from 0 in
      let rest = tables-told (k + 1) ts (λ i. ap (slice_get joined) (next k i) ∙ from (suc i)) in
      let others : List JoinedColumn = flat_map source_columns (enumerate_from (k + 1) ts) in
      ap (flat_map told) (map-append place (source_columns (k, t)) others)
      ∙ flat_map-append told (map place (source_columns (k, t))) (map place others)
      ∙ ap (λ (vs : List Value). vs ++ flat_map told (map place others)) (columns-told k 0 t t.columns here (λ i. ap (slice_get t.columns) (zero-add i)))
      ∙ ap (λ (vs : List Value). flat_map (column_of tables t) t.columns ++ vs) rest

one-more : (tables : Database) (found : Option Table) (more : List Value) (others : List Table) → more ≡ flat_map (λ (t : Table). flat_map (column_of tables t) t.columns) others
    → option_map_or (λ (t : Table). flat_map (column_of tables t) t.columns) found [] ++ more ≡ flat_map (λ (t : Table). flat_map (column_of tables t) t.columns) (cons_option found others)
one-more tables None more others same = same
one-more tables (Some t) more others same = ap (λ (vs : List Value). flat_map (column_of tables t) t.columns ++ vs) same

all-tables : (tables : Database) (numbers : List TableNumber)
    → flat_map (columns_of_table tables) numbers ≡ flat_map (λ (t : Table). flat_map (column_of tables t) t.columns) (tables_of tables numbers)
all-tables tables [] = refl
all-tables tables (n ∷ numbers) =
    one-more tables (slice_get tables n.0) (flat_map (columns_of_table tables) numbers) (tables_of tables numbers) (all-tables tables numbers)

-- ---- what a query shows

shown-told : (tables : Database) (numbers : List TableNumber) → AreThere tables numbers → (its : Shown) → IsShown (tables_of tables numbers) its
    → columns_shown tables numbers its ≡ flat_map (column_told tables (tables_of tables numbers)) (places_shown (tables_of tables numbers) its)
shown-told tables numbers there shown.All is =
    all-tables tables numbers ∙ sym (tables-told tables (tables_of tables numbers) 0 (tables_of tables numbers) (λ i. ap (slice_get (tables_of tables numbers)) (zero-add i)))
shown-told tables numbers there (shown.Columns places) is = places-told tables numbers there places is.1

query-told : (limits : Limits) (tables : Database) (values : List Value) (query : SlotQuery) → IsMeant limits tables (resolved.Select (filled_query values query))
    → columns_of_query tables query ≡ columns_told tables (filled_query values query)
query-told limits tables values query means =
    let same = query-tables tables values query in
    let there : AreThere tables (source_tables query) =
    ((means.0.0, means.0.1), joins-there tables values (means.0.0 ∷ []) query.joins means.0.2.1) in
    shown-told tables (source_tables query) there query.shown (subst (λ (ts : List Table). IsShown ts query.shown) same means.1)
    ∙ ap (λ (ts : List Table). flat_map (column_told tables ts) (places_shown ts query.shown)) (sym same)

-- a template that is no select shows no columns
pub none-told : (tables : Database) (t : Template) → ((query : SlotQuery) → t ≢ template.Select query) → columns_of_template tables t ≡ []
none-told tables (template.Select query) other = absurd (other query refl)
none-told tables other not = refl

-- ---- what values make of a statement

abbrev IsNoSelect : Resolved → Type 0
IsNoSelect r = (query : Query) → r ≢ resolved.Select query

no-select : (found : Result Resolved Refusal) (query : Query) → found ≡ Ok (resolved.Select query) → IfOk found IsNoSelect → ⊥
no-select found query is none = satisfies IsNoSelect found (resolved.Select query) is none query refl

-- what checks let through is no select, where what stands behind them is none
checked-none : (checks : List Check) (r : Resolved) → IsNoSelect r → IfOk (meaning checks r) IsNoSelect
checked-none checks r none = if_checked IsNoSelect checks r (λ passed. none)

no-insert : (n : TableNumber) (row : List Value) → IsNoSelect (resolved.Insert n row)
no-insert n row query same = cc

no-update : (n : TableNumber) (assignments : List Assignment) (tests : List Test) → IsNoSelect (resolved.Update n assignments tests)
no-update n assignments tests query same = cc

no-delete : (n : TableNumber) (tests : List Test) → IsNoSelect (resolved.Delete n tests)
no-delete n tests query same = cc

-- a statement that some values make a select is such a one as a line can give, whatever these are
select-given : (tables : Database) (values : List Value) (line : List ℕ) (s : Statement) (query : Query) → SpellsStatement line s
    → resolved_of [] tables (filled values s) ≡ Ok (resolved.Select query) → IsGiven (filled values s)
select-given tables values line (statement.Select distinct its name joins conditions) query spelled is =
    filled-given [] (All-nil HasWidth) line (statement.Select distinct its name joins conditions) spelled
select-given tables values line (statement.Insert name slots) query spelled is =
    let row : List Value = map (slot_value values) slots in
    let n : TableNumber = number_of name tables in
    absurd (no-select _ query is (if_numbered IsNoSelect name tables _ (λ table at. checked-none (insert_checks tables table row) (resolved.Insert n row) (no-insert n row))))
select-given tables values line (statement.Update name settings conditions) query spelled is =
    let sets : List Setting = map (filled_setting values) settings in
    let conds : List Cond = map (filled_condition values) conditions in
    let n : TableNumber = number_of name tables in
    absurd (no-select _ query is (if_numbered IsNoSelect name tables _ (λ table at.
    let assignments = assignments_of (own_columns table) sets in
    let tests = tests_of (own_columns table) conds in
    checked-none (update_checks tables table sets conds) (resolved.Update n assignments tests) (no-update n assignments tests))))
select-given tables values line (statement.Delete name conditions) query spelled is =
    let conds : List Cond = map (filled_condition values) conditions in
    let n : TableNumber = number_of name tables in
    absurd (no-select _ query is (if_numbered IsNoSelect name tables _ (λ table at.
    let tests = tests_of (own_columns table) conds in
    checked-none (delete_checks tables table conds) (resolved.Delete n tests) (no-delete n tests))))

template-told : (tables : Database) (values : List Value) (line : List ℕ) (s : Statement) (t : Template) → SpellsStatement line s
    → resolved_of [] tables (filled values s) ≡ Ok (filled_template values t) → columns_of_template tables t ≡ columns_of tables (filled_template values t)
template-told tables values line s (template.Select query) spelled is =
    let limits : Limits = record { rows = 0; block = 0 } in
    let given = select-given tables values line s (filled_query values query) spelled is in
    query-told limits tables values query (resolved_are_meant [] limits tables (filled values s) (resolved.Select (filled_query values query)) given is)
template-told tables values line s (template.Insert n slots) spelled is = refl
template-told tables values line s (template.Update n assignments tests) spelled is = refl
template-told tables values line s (template.Delete n tests) spelled is = refl

-- the columns of a resolution's template are those of each command that values make of its statement
pub resolution-told : (tables : Database) (line : List ℕ) (s : Statement) (r : Resolution) → SpellsStatement line s → Resolves tables s r
    → (values : List Value) (command : Resolved) → resolved_of [] tables (filled values s) ≡ Ok command
    → columns_of_template tables r.template ≡ columns_of tables command
resolution-told tables line s r spelled resolves values command is =
    let done : filled_template values r.template ≡ command = finished-is values r command (sym (resolves values) ∙ is) in
    subst (λ (c : Resolved). columns_of_template tables r.template ≡ columns_of tables c) done
    (template-told tables values line s r.template spelled (is ∙ ap Ok (sym done)))

-- ---- the statement of a number

is-there : (o : Option Prepared) → IsSomeAnd o (λ p. IsSome p.resolution) → (p : Prepared) × (o ≡ Some p)
is-there None known = absurd known
is-there (Some p) known = (p, refl)

-- the columns of what is known of a statement are told of it
pub known-told : (held : Held) (old new : Statements) (number : ℕ) (r : Resolution) (cells : List Value) → IsKnown new number → AreRight held.session.database new → SameSeen old new
    → ((p : Prepared) → named new number ≡ Some p → p.resolution ≡ Some r) → cells ≡ columns_of_template held.session.database r.template
    → TellsColumns (state_of held old) number cells
known-told held old new number r cells known right same resolution are =
    let (p, there) = is-there (named new number) known in
    let own = right number p there in
    record {
      kept = seen p;
      there = statement-seen held old number ∙ sym (same number) ∙ ap (option_map seen) there;
      statement = own.statement;
      spelled = own.spelled;
      shown = λ values command is.
          are ∙ resolution-told held.session.database p.line own.statement r own.spelled (known-resolves held.session.database p r own (resolution p there)) values command is;
    }

-- a statement that is refused, whatever is bound, is not told
pub unresolved-untold : (held : Held) (statements : Statements) (number : ℕ) (e : ExecuteFault)
    → IsUnresolved held.session.database statements number e → IsUntold (state_of held statements) number e
unresolved-untold held statements number fault.TooLong never = never
unresolved-untold held statements number fault.Shared never = never
unresolved-untold held statements number fault.Interrupted never = never
unresolved-untold held statements number fault.NoSuchStatement none = statement-seen held statements number ∙ ap (option_map seen) none
unresolved-untold held statements number (fault.Refused why) says = λ other.
    let r = says other in
    record {
      kept = seen r.prepared;
      there = statement-seen held statements number ∙ ap (option_map seen) r.there;
      statement = r.statement;
      spelled = r.spelled;
      refuses = r.refuses;
    }
