-- The columns that are told of a statement are the heading of the rows that it shows.
use Rattle.std.proofs.Common.{◌≡◌, ◌≢◌, ◌∙◌, ℕ, true, false, cond, List, [], ◌∷◌, ◌++◌, Option, Some, None, Ok, Err, Result, length, map, refl, sym, ap, subst}
use Rattle.std.specs.Prelude.{IfOk, slice_get, zip}
use Rattle.std.specs.List.{flat_map}
use Rattle.std.specs.Option.{option_map_or}
use Rattle.std.proofs.lemmas.List.{length-map}
use Rattle.std.proofs.lemmas.Option.{same_Some}
use Rattle.plain_tables.specs.Commands.{effect_of_resolved}
use Rattle.plain_tables.specs.Databases.{Database}
use Rattle.plain_tables.specs.Doing.{delete_checks, done, dump_checks, insert_checks, load_effect, loaded, on_table, update_checks}
use Rattle.plain_tables.specs.Effects.{Check, Effect, Outcome, Rows, checked, refused}
use Rattle.plain_tables.specs.Queries.{JoinedColumn}
use Rattle.plain_tables.specs.References.{type_of}
use Rattle.plain_tables.specs.declared.refusal.Refusal.TheVariants.{NoSuchTable}
use Rattle.plain_tables.specs.Resolving as resolving
use Rattle.plain_tables.specs.Resolving.{assignments_of, meaning, number_of, own_columns, resolved_of, tests_of}
use Rattle.plain_tables.specs.Tables.{Row, Table}
use Rattle.plain_tables.specs.declared.command.Items.{Items}
use Rattle.plain_tables.specs.declared.command.Limits.{Limits}
use Rattle.plain_tables.specs.declared.command.Setting.{Setting}
use Rattle.plain_tables.specs.declared.condition.Cond.{Cond}
use Rattle.plain_tables.specs.declared.numbers.TableNumber.{TableNumber}
use Rattle.plain_tables.specs.declared.refusal.Refusal.{Refusal}
use Rattle.plain_tables.specs.declared.resolved.Query.{Query}
use Rattle.plain_tables.specs.declared.resolved.Resolved.{Resolved}
use Rattle.plain_tables.specs.declared.resolved.Resolved.TheVariants as resolved
use Rattle.plain_tables.specs.declared.schema.BaseKind.{BaseKind}
use Rattle.plain_tables.specs.declared.value.Value.{Value}
use Rattle.plain_tables.proofs.Meanings.{if_checked, if_numbered, satisfies}
use Rattle.plain_statements.specs.Executing.{executed}
use Rattle.plain_statements.specs.Filling.{filled, filled_condition, filled_setting, slot_value}
use Rattle.plain_statements.specs.StatementSpelling.{SpellsStatement}
use Rattle.plain_statements.specs.declared.statement.Statement.{Statement}
use Rattle.plain_statements.specs.declared.statement.Statement.TheVariants as statement
use Rattle.plain_statements.proofs.Spelled.{spells-one-statement}
use Rattle.mm_session.specs.ColumnLaws.{TellsHeading, name_and_kind}
use Rattle.mm_session.specs.Columns.{columns_told}
use Rattle.mm_session.proofs.ColumnLaws.{columns_are_the_heading}
use Rattle.mm_statements.specs.ColumnLaws.{StatementsTellTheirHeading}
use Rattle.mm_prepared.specs.Kept.{KeptStatement}
use Rattle.mm_statements.specs.Executing.{columns_of}

-- ---- what shows rows is a select

-- no rows are shown
abbrev IsNoRows : Outcome → Type 0
IsNoRows (Rows names rows) = ⊥
IsNoRows o = Unit {0}

unshown-checked : (tables : Database) (checks : List Check) (e : Effect) → IsNoRows e.outcome → IsNoRows (checked tables checks e).outcome
unshown-checked tables [] e none = none
unshown-checked tables (check ∷ checks) e none =
    elim check.refuses as (λ b. IsNoRows (cond b (refused tables check.refusal) (checked tables checks e)).outcome) [
      | true ↦ tt
      | false ↦ unshown-checked tables checks e none
    ]

unshown-table : (n : TableNumber) (tables : Database) (effect : Table → Effect) → ((table : Table) → IsNoRows (effect table).outcome) → IsNoRows (on_table n tables effect).outcome
unshown-table n tables effect none = by (slice_get tables n.0)
  where
    by : (found : Option Table) → IsNoRows (option_map_or effect found (refused tables NoSuchTable)).outcome
    by None = tt
    by (Some table) = none table

unshown-loaded : (tables : Database) (rows : List Row) (found : Result Database Refusal) → IsNoRows (load_effect tables rows found).outcome
unshown-loaded tables rows (Ok new) = tt
unshown-loaded tables rows (Err why) = tt

abbrev ShowsRowsAsSelect : Limits → Database → Resolved → Type 0
ShowsRowsAsSelect limits tables (resolved.Select query) = Unit {0}
ShowsRowsAsSelect limits tables r = IsNoRows (done limits tables r).outcome

only-selects : (limits : Limits) (tables : Database) (r : Resolved) → ShowsRowsAsSelect limits tables r
only-selects limits tables (resolved.Table name schema) = tt
only-selects limits tables (resolved.DropTable n) = tt
only-selects limits tables (resolved.Index n column k) = unshown-table n tables _ (λ table. tt)
only-selects limits tables (resolved.DropIndex n column k) = unshown-table n tables _ (λ table. tt)
only-selects limits tables (resolved.Insert n row) = unshown-table n tables _ (λ table. unshown-checked tables (insert_checks limits tables table row) _ tt)
only-selects limits tables (resolved.Update n assignments tests) = unshown-table n tables _ (λ table. unshown-checked tables (update_checks tables table assignments) _ tt)
only-selects limits tables (resolved.Delete n tests) = unshown-table n tables _ (λ table. unshown-checked tables (delete_checks tables table _) _ tt)
only-selects limits tables (resolved.Select query) = tt
only-selects limits tables (resolved.Load n rows) = unshown-loaded tables rows (loaded limits tables n 1 rows)
only-selects limits tables (resolved.Dump n) = unshown-table n tables _ (λ table. unshown-checked tables (dump_checks limits table) _ tt)
only-selects limits tables resolved.Tables = tt

-- ---- what is resolved to a select is one

abbrev IsNoSelect : Resolved → Type 0
IsNoSelect r = (query : Query) → r ≢ resolved.Select query

abbrev IsSelect : Statement → Type 0
IsSelect (statement.Select distinct its name joins conditions) = Unit {0}
IsSelect s = ⊥

unselected : (checks : List Check) (r : Resolved) → IsNoSelect r → IfOk (meaning checks r) IsNoSelect
unselected checks r none = if_checked IsNoSelect checks r (λ passed. none)

selects : (tables : Database) (values : List Value) (s : Statement) (query : Query) → resolved_of [] tables (filled values s) ≡ Ok (resolved.Select query) → IsSelect s
selects tables values (statement.Select distinct its name joins conditions) query is = tt
selects tables values (statement.Insert name slots) query is =
    let row : Row = map (slot_value values) slots in
    let n : TableNumber = number_of name tables in
    satisfies IsNoSelect _ (resolved.Select query) is (if_numbered IsNoSelect name tables _ (λ table at. unselected (resolving.insert_checks tables table row) (resolved.Insert n row) (λ q e. cc))) query refl
selects tables values (statement.Update name settings conditions) query is =
    let sets : List Setting = map (filled_setting values) settings in
    let conds : List Cond = map (filled_condition values) conditions in
    let n : TableNumber = number_of name tables in
    satisfies IsNoSelect _ (resolved.Select query) is (if_numbered IsNoSelect name tables _ (λ table at.
    let assignments = assignments_of (own_columns table) sets in
    let tests = tests_of (own_columns table) conds in
    unselected (resolving.update_checks tables table sets conds) (resolved.Update n assignments tests) (λ q e. cc))) query refl
selects tables values (statement.Delete name conditions) query is =
    let conds : List Cond = map (filled_condition values) conditions in
    let n : TableNumber = number_of name tables in
    satisfies IsNoSelect _ (resolved.Select query) is (if_numbered IsNoSelect name tables _ (λ table at.
    let tests = tests_of (own_columns table) conds in
    unselected (resolving.delete_checks tables table conds) (resolved.Delete n tests) (λ q e. cc))) query refl

-- ---- the heading

kinds-zipped : (tables : Database) (names : List (List ℕ)) (meant : List JoinedColumn)
    → flat_map (λ c. name_and_kind c.0 (type_of tables c.1.column.kind)) (zip names meant)
    ≡ flat_map (λ c. name_and_kind c.0 c.1) (zip names (map (λ (j : JoinedColumn). type_of tables j.column.kind) meant))
kinds-zipped tables [] meant = refl
kinds-zipped tables (name ∷ names) [] = refl
kinds-zipped tables (name ∷ names) (j ∷ meant) =
    ap (λ (vs : List Value). name_and_kind name (type_of tables j.column.kind) ++ vs) (kinds-zipped tables names meant)

-- these values tell these names, with a kind each
abbrev TellsNames : List (List ℕ) → List Value → Type 0
TellsNames names columns =
    (kinds : List (Option BaseKind)) × (length kinds ≡ length names) × (columns ≡ flat_map (λ c. name_and_kind c.0 c.1) (zip names kinds))

tells-names : (tables : Database) (columns : List JoinedColumn) (its : Items) (names : List (List ℕ)) (told : List Value) → TellsHeading tables columns its names told → TellsNames names told
tells-names tables columns its names told tells = (
  map (λ (j : JoinedColumn). type_of tables j.column.kind) tells.meant,
  length-map tells.meant (λ (j : JoinedColumn). type_of tables j.column.kind) ∙ sym tells.as_many,
  tells.each ∙ kinds-zipped tables names tells.meant,
)

same-names : (o : Outcome) (names others : List (List ℕ)) (rows more : List Row) → o ≡ Rows names rows → o ≡ Rows others more → names ≡ others
same-names o names others rows more is so = cc

select-tells : (limits : Limits) (tables : Database) (values : List Value) (s : Statement) (query : Query) (names : List (List ℕ)) (rows : List Row) → IsSelect s
    → resolved_of [] tables (filled values s) ≡ Ok (resolved.Select query) → (done limits tables (resolved.Select query)).outcome ≡ Rows names rows → TellsNames names (columns_told tables query)
select-tells limits tables values (statement.Select distinct its name joins conditions) query names rows select is shows =
    let law = columns_are_the_heading [] limits tables distinct its name joins (map (filled_condition values) conditions) query is in
    subst (λ (ns : List (List ℕ)). TellsNames ns (columns_told tables query)) (same-names _ law.0 names law.1 rows law.2 shows) (tells-names tables _ its law.0 (columns_told tables query) law.3)
select-tells limits tables values (statement.Insert name slots) query names rows select is shows = absurd select
select-tells limits tables values (statement.Update name settings conditions) query names rows select is shows = absurd select
select-tells limits tables values (statement.Delete name conditions) query names rows select is shows = absurd select

resolved-tells : (limits : Limits) (tables : Database) (values : List Value) (s : Statement) (r : Resolved) (names : List (List ℕ)) (rows : List Row)
    → resolved_of [] tables (filled values s) ≡ Ok r → (done limits tables r).outcome ≡ Rows names rows → TellsNames names (columns_of tables r)
resolved-tells limits tables values s (resolved.Select query) names rows is shows = select-tells limits tables values s query names rows (selects tables values s query is) is shows
resolved-tells limits tables values s r names rows is shows = absurd (subst IsNoRows shows (only-selects limits tables r))

-- the columns that are told of each command which values make of a statement are those of what it shows
pub executed-tells : (limits : Limits) (tables : Database) (values : List Value) (s : Statement) (columns : List Value) (names : List (List ℕ)) (rows : List Row)
    → ((vs : List Value) (command : Resolved) → resolved_of [] tables (filled vs s) ≡ Ok command → columns ≡ columns_of tables command)
    → (executed limits tables s values).outcome ≡ Rows names rows → TellsNames names columns
executed-tells limits tables values s columns names rows told shows = by (resolved_of [] tables (filled values s)) refl shows
  where
    by : (found : Result Resolved Refusal) → resolved_of [] tables (filled values s) ≡ found → (effect_of_resolved limits tables found).outcome ≡ Rows names rows → TellsNames names columns
    by (Err why) is so = absurd (subst IsNoRows so tt)
    by (Ok r) is so = subst (TellsNames names) (sym (told values r is)) (resolved-tells limits tables values s r names rows is so)

pub statements_tell_their_heading : StatementsTellTheirHeading
statements_tell_their_heading database number columns effect names rows tells of shows =
    let kept : tells.kept ≡ of.kept = same_Some tells.kept of.kept (sym tells.there ∙ of.there) in
    let one : tells.statement ≡ of.statement =
    spells-one-statement of.kept.line tells.statement of.statement (subst (λ (k : KeptStatement). SpellsStatement k.line tells.statement) kept tells.spelled) of.spelled in
    executed-tells database.session.limits database.session.database of.kept.values of.statement columns names rows
    (λ values command is. tells.shown values command (ap (λ (s : Statement). resolved_of [] database.session.database (filled values s)) one ∙ is))
    (ap (λ (e : Effect). e.outcome) (sym of.is) ∙ shows)
