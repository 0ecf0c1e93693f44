-- Declared indexes: of the commands that aren't on them none is resolved by them, and none but a listing reads them.
use Rattle.std.proofs.Common.{◌≡◌, ◌+◌, ℕ, suc, Bool, false, map, set, take, drop, List, [], ◌∷◌, ◌++◌, refl, sym, ap, ◌∙◌, subst, Option, Some, None}
use Rattle.std.specs.Prelude.{Result, Ok, Err}
use Rattle.std.specs.List.{list_any, list_all, slice_get, remove, filter, filter_map}
use Rattle.std.specs.Option.{option_map, option_map_or, option_and_then}
use Rattle.std.specs.Result.{result_map_both}
use Rattle.std.proofs.lemmas.Bool.{false≢true}
use Rattle.std.proofs.lemmas.List.{map-set, map_push, map-append, take-map, drop-map}
use Rattle.std.proofs.lemmas.List.Folds.{flat_map-map}
use Rattle.std.proofs.lemmas.Option.{slice_get-map}
use Rattle.std.proofs.lemmas.Simd.{map-map}
use Rattle.plain_tables.specs.Tables.{Table, Row, has_key_of}
use Rattle.plain_tables.specs.Databases.{Database, table_named}
use Rattle.plain_tables.specs.Queries.{full_name}
use Rattle.plain_tables.specs.Effects.{Effect, Check, Outcome, Done, Refused, checked, grown_by, new_table}
use Rattle.plain_tables.specs.References.{Reference, references, table_references, is_held, is_to, is_referenced}
use Rattle.plain_tables.specs.Resolving.{resolved_of}
use Rattle.plain_tables.specs.Doing as doing
use Rattle.plain_tables.specs.Doing.{on_table, insert, goes_on, loaded, load_effect, load, passes_all, assigned_references, updated, picked, without, with_index, without_index, joined_tables, name_at, headings, done}
use Rattle.plain_tables.specs.Joining.{Member, source_rows, joined, joined_all, members_of}
use Rattle.plain_tables.specs.ResolvedLaws.{unindexed, rowless, shows_indexes, ResolvedAlike, AreDoneAlike, DoneAlike}
use Rattle.plain_tables.specs.Commands.{effect_of_resolved, effect_of}
use Rattle.plain_tables.specs.CommandLaws.{IndexesAreNotRead}
use Rattle.plain_tables.specs.declared.value.Value.{Value}
use Rattle.plain_tables.specs.declared.refusal.Refusal.{Refusal}
use Rattle.plain_tables.specs.declared.refusal.Refusal.TheVariants.{NoSuchTable}
use Rattle.plain_tables.specs.declared.command.Limits.{Limits}
use Rattle.plain_tables.specs.declared.numbers.TableNumber.{TableNumber}
use Rattle.plain_tables.specs.declared.numbers.Place.{Place}
use Rattle.plain_tables.specs.declared.resolved.Source.{Source}
use Rattle.plain_tables.specs.declared.resolved.Joined.{Joined}
use Rattle.plain_tables.specs.declared.resolved.Shown.{Shown}
use Rattle.plain_tables.specs.declared.resolved.Shown.TheVariants as shown
use Rattle.plain_tables.specs.declared.resolved.Resolved.{Resolved}
use Rattle.plain_tables.specs.declared.resolved.Resolved.TheVariants as resolved
use Rattle.common_lemmas.proofs.Tests.{any_agree, all_agree}
use Rattle.common_lemmas.proofs.Maps.{cons_option-map}
use Rattle.plain_tables.proofs.ResolvedCommands.{none_shown}
use Rattle.plain_tables.proofs.Indexes.{bare, found_bare, checked_as}
use Rattle.plain_tables.proofs.Schemas.{resolved_by_schemas}
use Rattle.plain_tables.proofs.TableNames.{table_named-map}

-- the tables with no index declared
abbrev plain : Database → Database
plain tables = map unindexed tables

-- commands are resolved by names and columns alone
pub resolved_alike : ResolvedAlike
resolved_alike records tables others c other alike =
    resolved_by_schemas records tables others c other
    (sym (map-map rowless unindexed tables) ∙ ap (map rowless) alike ∙ map-map rowless unindexed others)

-- ---- rows that are named

held_found : (found : Option Table) (v : Value)
    → option_map_or (λ table. has_key_of (v ∷ []) table.rows) (option_map unindexed found) false
    ≡ option_map_or (λ table. has_key_of (v ∷ []) table.rows) found false
held_found None v = refl
held_found (Some t) v = refl

held_plain : (tables : Database) (r : Reference) → is_held (plain tables) r ≡ is_held tables r
held_plain tables r =
    ap (λ found. option_map_or (λ table. has_key_of (r.1 ∷ []) table.rows) found false) (table_named-map unindexed (λ t. refl) r.0 tables)
    ∙ held_found (table_named r.0 tables) r.1

all_held_plain : (tables : Database) (refs : List Reference) → list_all (is_held (plain tables)) refs ≡ list_all (is_held tables) refs
all_held_plain tables refs = all_agree (is_held (plain tables)) (is_held tables) (held_plain tables) refs

referenced_plain : (tables : Database) (name : List ℕ) (rows : List Row)
    → list_any (is_referenced (plain tables) name) rows ≡ list_any (is_referenced tables name) rows
referenced_plain tables name rows =
    any_agree (is_referenced (plain tables) name) (is_referenced tables name)
    (λ row. ap (list_any (is_to name row)) (flat_map-map table_references unindexed tables)) rows

-- ---- what is done

abbrev left_with : Outcome → Database → Effect
left_with o d = record { database = d; outcome = o }

on_table_plain : (n : TableNumber) (tables : Database) (e f : Table → Effect) → ((t : Table) → f (unindexed t) ≡ bare (e t))
    → on_table n (plain tables) f ≡ bare (on_table n tables e)
on_table_plain n tables e f same =
    ap (λ found. option_map_or f found (record { database = plain tables; outcome = Refused NoSuchTable })) (slice_get-map unindexed tables n.0)
    ∙ found_bare tables (slice_get tables n.0) e f same

-- a table in the place of one, behind the same checks
changed_plain : (tables : Database) (checks others : List Check) (n : ℕ) (table : Table) (o : Outcome) → others ≡ checks
    → checked (plain tables) others (record { database = set (plain tables) n (unindexed table); outcome = o })
    ≡ bare (checked tables checks (record { database = set tables n table; outcome = o }))
changed_plain tables checks others n table o same =
    let left : Effect = left_with o (set (plain tables) n (unindexed table)) in
    let right : Effect = left_with o (set tables n table) in
    let changed : left ≡ bare right = ap (left_with o) (sym (map-set unindexed tables n table)) in
    ap (λ cs. checked (plain tables) cs left) same ∙ checked_as tables checks right left changed

unindexed_twice : (tables : Database) → plain (plain tables) ≡ plain tables
unindexed_twice [] = refl
unindexed_twice (t ∷ tables) = ap (λ ts. unindexed t ∷ ts) (unindexed_twice tables)

bare_twice : (e : Effect) → bare (bare e) ≡ bare e
bare_twice e = ap (left_with e.outcome) (unindexed_twice e.database)

removed_plain : (tables : Database) (n : ℕ) → remove (plain tables) n ≡ plain (remove tables n)
removed_plain tables n =
    ap (λ front. front ++ drop (suc n) (plain tables)) (take-map unindexed n tables)
    ∙ ap (λ rest. plain (take n tables) ++ rest) (drop-map unindexed (suc n) tables)
    ∙ sym (map-append unindexed (take n tables) (drop (suc n) tables))

reindexed_found : (tables : Database) (found : Option Table) (e f : Table → Effect) → ((t : Table) → bare (f (unindexed t)) ≡ bare (e t))
    → bare (option_map_or f (option_map unindexed found) (record { database = plain tables; outcome = Refused NoSuchTable }))
    ≡ bare (option_map_or e found (record { database = tables; outcome = Refused NoSuchTable }))
reindexed_found tables None e f same = bare_twice (record { database = tables; outcome = Refused NoSuchTable })
reindexed_found tables (Some t) e f same = same t

-- a table with other indexes in the place of one
reindexed : (n : TableNumber) (tables : Database) (e f : Table → Effect) → ((t : Table) → bare (f (unindexed t)) ≡ bare (e t))
    → bare (on_table n (plain tables) f) ≡ bare (on_table n tables e)
reindexed n tables e f same =
    ap (λ found. bare (option_map_or f found (record { database = plain tables; outcome = Refused NoSuchTable }))) (slice_get-map unindexed tables n.0)
    ∙ reindexed_found tables (slice_get tables n.0) e f same

-- declared indexes don't matter where a table's are changed
indexes_changed : (tables : Database) (n : ℕ) (old new : Table) (o : Outcome) → unindexed old ≡ unindexed new
    → bare (record { database = set (plain tables) n old; outcome = o }) ≡ bare (record { database = set tables n new; outcome = o })
indexes_changed tables n old new o same =
    ap (left_with o)
    (map-set unindexed (plain tables) n old ∙ ap (λ d. set d n (unindexed old)) (unindexed_twice tables)
    ∙ ap (set (plain tables) n) same ∙ sym (map-set unindexed tables n new))

-- the rows that are joined

found_rows : (found : Option Table) (passes : Row → Bool)
    → option_map_or (λ (table : Table). filter passes table.rows) (option_map unindexed found) []
    ≡ option_map_or (λ (table : Table). filter passes table.rows) found []
found_rows None passes = refl
found_rows (Some t) passes = refl

source_plain : (tables : Database) (source : Source) → source_rows (plain tables) source ≡ source_rows tables source
source_plain tables source =
    ap (λ found. option_map_or (λ (table : Table). filter (passes_all source.tests) table.rows) found []) (slice_get-map unindexed tables source.table.0)
    ∙ found_rows (slice_get tables source.table.0) (passes_all source.tests)

joined_all_plain : (tables : Database) (members : List Member) (joins : List Joined) → joined_all (plain tables) members joins ≡ joined_all tables members joins
joined_all_plain tables members [] = refl
joined_all_plain tables members (join ∷ joins) =
    rw (source_plain tables join.source) (joined_all_plain tables (joined tables members join) joins)

members_plain : (tables : Database) (source : Source) (joins : List Joined) → members_of (plain tables) source joins ≡ members_of tables source joins
members_plain tables source joins =
    rw (source_plain tables source) (joined_all_plain tables (map (λ row. row ∷ []) (source_rows tables source)) joins)

sources_plain : (tables : Database) (sources : List Source)
    → filter_map (λ s. slice_get (plain tables) s.table.0) sources ≡ plain (filter_map (λ s. slice_get tables s.table.0) sources)
sources_plain tables [] = refl
sources_plain tables (s ∷ sources) =
    rw (slice_get-map unindexed tables s.table.0, sources_plain tables sources)
    (cons_option-map unindexed (slice_get tables s.table.0) (filter_map (λ t. slice_get tables t.table.0) sources))

joined_plain : (tables : Database) (source : Source) (joins : List Joined) → joined_tables (plain tables) source joins ≡ plain (joined_tables tables source joins)
joined_plain tables source joins = sources_plain tables (source ∷ map (λ j. j.source) joins)

name_plain : (found : Option Table) (n : ℕ)
    → option_and_then (λ (table : Table). option_map (full_name table.name) (slice_get table.columns n)) (option_map unindexed found)
    ≡ option_and_then (λ (table : Table). option_map (full_name table.name) (slice_get table.columns n)) found
name_plain None n = refl
name_plain (Some t) n = refl

places_plain : (joined : List Table) (places : List Place) → filter_map (name_at (plain joined)) places ≡ filter_map (name_at joined) places
places_plain joined [] = refl
places_plain joined (p ∷ places) =
    rw (slice_get-map unindexed joined p.source, name_plain (slice_get joined p.source) p.column.0, places_plain joined places) refl

headings_plain : (joined : List Table) (its : Shown) → headings (plain joined) its ≡ headings joined its
headings_plain joined shown.All = flat_map-map (λ (table : Table). map (full_name table.name) table.columns) unindexed joined
headings_plain joined (shown.Columns places) = places_plain joined places

-- an insert, and a load of rows

insert_plain : (limits : Limits) (tables : Database) (n : TableNumber) (row : Row)
    → insert limits (plain tables) n row ≡ bare (insert limits tables n row)
insert_plain limits tables n row =
    on_table_plain n tables _ _
    (λ t. changed_plain tables (doing.insert_checks limits tables t row) (doing.insert_checks limits (plain tables) (unindexed t) row) n.0
    (grown_by row t) _ (rw (all_held_plain tables (references t.columns row)) refl))

-- what is left, with no index declared
abbrev plain_left : Result Database Refusal → Result Database Refusal
plain_left found = result_map_both plain (λ why. why) found

left_plain : (k : ℕ) (tables : Database) (o : Outcome)
    → doing.left_with k (plain tables) o ≡ plain_left (doing.left_with k tables o)
left_plain k tables (Refused why) = refl
left_plain k tables other = refl

goes_on_plain : (next : Database → Result Database Refusal) (found : Result Database Refusal)
    → ((d : Database) → next (plain d) ≡ plain_left (next d))
    → goes_on next (plain_left found) ≡ plain_left (goes_on next found)
goes_on_plain next (Ok first) same = same first
goes_on_plain next (Err why) same = refl

loaded_plain : (limits : Limits) (n : TableNumber) (k : ℕ) (rows : List Row) (tables : Database)
    → loaded limits (plain tables) n k rows ≡ plain_left (loaded limits tables n k rows)
loaded_plain limits n k [] tables = refl
loaded_plain limits n k (row ∷ rows) tables =
    let next : Database → Result Database Refusal = λ d. loaded limits d n (k + 1) rows in
    let e : Effect = insert limits tables n row in
    ap (λ (f : Effect). goes_on next (doing.left_with k f.database f.outcome)) (insert_plain limits tables n row)
    ∙ ap (goes_on next) (left_plain k e.database e.outcome)
    ∙ goes_on_plain next (doing.left_with k e.database e.outcome) (loaded_plain limits n (k + 1) rows)

load_effect_plain : (tables : Database) (rows : List Row) (found : Result Database Refusal)
    → load_effect (plain tables) rows (plain_left found) ≡ bare (load_effect tables rows found)
load_effect_plain tables rows (Ok new) = refl
load_effect_plain tables rows (Err why) = refl

load_plain : (limits : Limits) (tables : Database) (n : TableNumber) (rows : List Row)
    → load limits (plain tables) n rows ≡ bare (load limits tables n rows)
load_plain limits tables n rows =
    ap (load_effect (plain tables) rows) (loaded_plain limits n 1 rows tables) ∙ load_effect_plain tables rows
    (loaded limits tables n 1 rows)

-- an effect that is another's but for the indexes
same_but_indexes : (e f : Effect) → e ≡ bare f → bare e ≡ bare f
same_but_indexes e f same = ap bare same ∙ bare_twice f

done_plain : (limits : Limits) (tables : Database) (r : Resolved) → shows_indexes r ≡ false → bare (done limits (plain tables) r) ≡ bare (done limits tables r)
done_plain limits tables (resolved.Table name schema) other =
    same_but_indexes _ _ (ap (left_with Done) (sym (map_push unindexed tables (new_table name schema))))
done_plain limits tables (resolved.DropTable n) other = same_but_indexes _ _ (ap (left_with Done) (removed_plain tables n.0))
done_plain limits tables (resolved.Index n column k) other =
    reindexed n tables _ _ (λ t. indexes_changed tables n.0 (with_index column k (unindexed t)) (with_index column k t) Done refl)
done_plain limits tables (resolved.DropIndex n column k) other =
    reindexed n tables _ _ (λ t. indexes_changed tables n.0 (without_index column k (unindexed t)) (without_index column k t) Done refl)
done_plain limits tables (resolved.Insert n row) other = same_but_indexes _ _ (insert_plain limits tables n row)
done_plain limits tables (resolved.Update n assignments tests) other =
    same_but_indexes _ _ (on_table_plain n tables _ _
    (λ t. changed_plain tables (doing.update_checks tables t assignments) (doing.update_checks (plain tables) (unindexed t) assignments) n.0
    (updated assignments (passes_all tests) t) _ (rw (all_held_plain tables (assigned_references t assignments)) refl)))
done_plain limits tables (resolved.Delete n tests) other =
    same_but_indexes _ _ (on_table_plain n tables _ _
    (λ t. changed_plain tables (doing.delete_checks tables t (passes_all tests)) (doing.delete_checks (plain tables) (unindexed t) (passes_all tests)) n.0
    (without (passes_all tests) t) _ (rw (referenced_plain tables t.name (picked (passes_all tests) t)) refl)))
done_plain limits tables (resolved.Select query) other =
    same_but_indexes _ _ (rw (
      joined_plain tables query.source query.joins,
      headings_plain (joined_tables tables query.source query.joins) query.shown,
      members_plain tables query.source query.joins,
    ) refl)
done_plain limits tables (resolved.Load n rows) other = same_but_indexes _ _ (load_plain limits tables n rows)
done_plain limits tables (resolved.Dump n) other =
    same_but_indexes _ _ (on_table_plain n tables _ _
    (λ t. checked_as tables (doing.dump_checks limits t) (left_with _ tables) (left_with _ (plain tables)) refl))
done_plain limits tables resolved.Tables other = absurd (false≢true (sym other))

pub done_alike : DoneAlike
done_alike limits tables others r other alike =
    let same : bare (done limits tables r) ≡ bare (done limits others r) =
    sym (done_plain limits tables r other) ∙ ap (λ d. bare (done limits d r)) alike ∙ done_plain limits others r other
    in
    record { answered = ap (λ (e : Effect). e.outcome) same; left = ap (λ (e : Effect). e.database) same }

-- ---- effects

effects_alike : (limits : Limits) (tables others : Database) (found : Result Resolved Refusal)
    → ((r : Resolved) → found ≡ Ok r → shows_indexes r ≡ false) → plain tables ≡ plain others
    → AreDoneAlike (effect_of_resolved limits tables found) (effect_of_resolved limits others found)
effects_alike limits tables others (Ok r) hidden alike = done_alike limits tables others r (hidden r refl) alike
effects_alike limits tables others (Err why) hidden alike = record { answered = refl; left = alike }

pub indexes_are_not_read : IndexesAreNotRead
indexes_are_not_read records limits tables others c off other alike =
    subst (λ found. AreDoneAlike (effect_of records limits tables c) (effect_of_resolved limits others found))
    (resolved_alike records tables others c off alike)
    (effects_alike limits tables others (resolved_of records tables c) (λ r h. none_shown records tables c r other h) alike)
