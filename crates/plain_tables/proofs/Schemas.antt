-- Schemas: commands that aren't on indexes are resolved alike where tables have the same names and columns.
use Rattle.std.proofs.Common.{◌≡◌, ◌+◌, ℕ, Bool, false, true, not, map, List, [], ◌∷◌, ◌++◌, refl, sym, ap, ◌∙◌, Option, Some, None}
use Rattle.std.specs.Prelude.{Result, Err, ◌||◌, ◌&&◌}
use Rattle.std.specs.List.{list_any, filter_map, flat_map, enumerate_from, position_or_len}
use Rattle.std.specs.Option.{is_some, option_map, option_map_or, option_and_then}
use Rattle.std.proofs.lemmas.Bool.{false≢true}
use Rattle.std.proofs.lemmas.List.{length-map}
use Rattle.plain_tables.specs.Values.{is_null}
use Rattle.plain_tables.specs.Tables.{Table}
use Rattle.plain_tables.specs.Databases.{Database, is_named, table_named}
use Rattle.plain_tables.specs.Queries.{JoinedColumn, source_columns, joined_columns, column_meant, sides_meant}
use Rattle.plain_tables.specs.Effects.{setting_name}
use Rattle.plain_tables.specs.References.{referred, key_type, type_of, same_type, is_typed, refers_into, refers_to, is_table_referenced}
use Rattle.plain_tables.specs.Resolving.{meaning, own_columns, asks_order, mistypes, is_mistyped, table_checks, once, select_names, columns_of, behind, join_columns, differ_in_type, select_checks, joins_of, select_of, resolved_of}
use Rattle.plain_tables.specs.CsvReading.{Record}
use Rattle.plain_tables.specs.Joining.{joined}
use Rattle.plain_tables.specs.ResolvedLaws.{emptied, is_on_indexes}
use Rattle.plain_tables.specs.declared.value.Value.{Value}
use Rattle.plain_tables.specs.declared.condition.Cond.{Cond}
use Rattle.plain_tables.specs.declared.refusal.Refusal.{Refusal}
use Rattle.plain_tables.specs.declared.refusal.Refusal.TheVariants.{NoSuchTable}
use Rattle.plain_tables.specs.declared.schema.Schema.{Schema}
use Rattle.plain_tables.specs.declared.command.Items.{Items}
use Rattle.plain_tables.specs.declared.command.Join.{Join}
use Rattle.plain_tables.specs.declared.command.Setting.{Setting}
use Rattle.plain_tables.specs.declared.command.Command.{Command}
use Rattle.plain_tables.specs.declared.command.Command.TheVariants as command
use Rattle.plain_tables.specs.declared.resolved.Resolved.{Resolved}
use Rattle.plain_tables.specs.declared.resolved.Resolved.TheVariants as resolved
use Rattle.common_lemmas.proofs.Tests.{any_agree}
use Rattle.common_lemmas.proofs.Maps.{map_agree, cons_option-map}
use Rattle.common_lemmas.proofs.Options.{is_some-option_map}
use Rattle.plain_tables.proofs.TableNames.{table_named-map, place-map}
use Rattle.plain_tables.proofs.Types.{AreKeyedAlike, type_alike, typed_alike, row_alike, reading_alike}

-- the tables without rows and declared indexes
abbrev plain : Database → Database
plain tables = map emptied tables

-- the columns of joined tables
joined_columns_plain : (n : ℕ) (among : List Table)
    → flat_map source_columns (enumerate_from n (plain among)) ≡ flat_map source_columns (enumerate_from n among)
joined_columns_plain n [] = refl
joined_columns_plain n (t ∷ among) = ap (λ cs. source_columns (n, t) ++ cs) (joined_columns_plain (n + 1) among)

-- ---- types

key_plain : (found : Option Table) → option_and_then key_type (option_map emptied found) ≡ option_and_then key_type found
key_plain None = refl
key_plain (Some t) = refl

keyed_plain : (tables : Database) → AreKeyedAlike (plain tables) tables
keyed_plain tables name = ap (option_and_then key_type) (table_named-map emptied (λ t. refl) name tables) ∙ key_plain (table_named name tables)

column_plain : (tables : Database) (v : Value) (found : Option JoinedColumn)
    → option_map_or (λ joined. not (is_typed (plain tables) v joined.column.kind)) found false
    ≡ option_map_or (λ joined. not (is_typed tables v joined.column.kind)) found false
column_plain tables v None = refl
column_plain tables v (Some joined) = ap not (typed_alike (plain tables) tables (keyed_plain tables) v joined.column.kind)

settings_plain : (tables : Database) (columns : List JoinedColumn) (settings : List Setting)
    → list_any (λ s. mistypes (plain tables) columns (setting_name s) s.value) settings
    ≡ list_any (λ s. mistypes tables columns (setting_name s) s.value) settings
settings_plain tables columns settings =
    any_agree (λ s. mistypes (plain tables) columns (setting_name s) s.value) (λ s. mistypes tables columns (setting_name s) s.value)
    (λ s. column_plain tables s.value (column_meant columns (setting_name s))) settings

conditions_plain : (tables : Database) (columns : List JoinedColumn) (conditions : List Cond)
    → list_any (is_mistyped (plain tables) columns) conditions ≡ list_any (is_mistyped tables columns) conditions
conditions_plain tables columns conditions =
    any_agree (is_mistyped (plain tables) columns) (is_mistyped tables columns)
    (λ c. ap (λ b. b || (is_null c.value && asks_order c.op)) (column_plain tables c.value (column_meant columns c.column))) conditions

referred_plain : (tables : Database) (found : Option (List ℕ))
    → option_map_or (λ name. is_some (table_named name (plain tables))) found true
    ≡ option_map_or (λ name. is_some (table_named name tables)) found true
referred_plain tables None = refl
referred_plain tables (Some name) = ap is_some (table_named-map emptied (λ t. refl) name tables) ∙ is_some-option_map emptied (table_named name tables)

-- ---- commands resolved

abbrev Means : Type 0
Means = Result Resolved Refusal

found_plain : (found : Option Table) (e f : Table → Means) → ((t : Table) → f (emptied t) ≡ e t)
    → option_map_or f (option_map emptied found) (Err NoSuchTable) ≡ option_map_or e found (Err NoSuchTable)
found_plain None e f same = refl
found_plain (Some t) e f same = same t

-- the number of the table of a name, and a command on that table
same_number : (name : List ℕ) (tables : Database) → position_or_len (is_named name) (plain tables) ≡ position_or_len (is_named name) tables
same_number name tables = place-map emptied (λ t. refl) name tables

numbered_plain : (name : List ℕ) (tables : Database) (e f : Table → Means) → ((t : Table) → f (emptied t) ≡ e t)
    → option_map_or f (table_named name (plain tables)) (Err NoSuchTable) ≡ option_map_or e (table_named name tables) (Err NoSuchTable)
numbered_plain name tables e f same = rw (table_named-map emptied (λ t. refl) name tables) (found_plain (table_named name tables) e f same)

table_checks_plain : (tables : Database) (name : List ℕ) (schema : Schema) → table_checks (plain tables) name schema ≡ table_checks tables name schema
table_checks_plain tables name schema =
    let into = any_agree (λ c. not (refers_into (plain tables) c)) (λ c. not (refers_into tables c))
    (λ c. ap not (referred_plain tables (referred c.kind))) schema.columns
    in
    let there : is_some (table_named name (plain tables)) ≡ is_some (table_named name tables) =
    ap is_some (table_named-map emptied (λ t. refl) name tables) ∙ is_some-option_map emptied (table_named name tables)
    in
    rw (into, there, length-map tables emptied) refl

-- ---- selects

-- the tables of these names
names_plain : (tables : Database) (names : List (List ℕ))
    → filter_map (λ name. table_named name (plain tables)) names ≡ plain (filter_map (λ name. table_named name tables) names)
names_plain tables [] = refl
names_plain tables (name ∷ names) =
    rw (table_named-map emptied (λ t. refl) name tables, names_plain tables names)
    (cons_option-map emptied (table_named name tables) (filter_map (λ n. table_named n tables) names))

columns_of_plain : (tables : Database) (names : List (List ℕ)) → columns_of (plain tables) names ≡ columns_of tables names
columns_of_plain tables names =
    ap joined_columns (names_plain tables (once names)) ∙ joined_columns_plain 0 (filter_map (λ name. table_named name tables) (once names))

sides_plain : (tables : Database) (join : List (List ℕ) × Join) → join_columns (plain tables) join ≡ join_columns tables join
sides_plain tables join =
    ap (λ columns. sides_meant columns (columns_of (plain tables) (join.1.table ∷ [])) join.1) (columns_of_plain tables join.0)
    ∙ ap (λ columns. sides_meant (columns_of tables join.0) columns join.1) (columns_of_plain tables (join.1.table ∷ []))

differ_plain : (tables : Database) (sides : Option (JoinedColumn × JoinedColumn))
    → option_map_or (differ_in_type (plain tables)) sides false ≡ option_map_or (differ_in_type tables) sides false
differ_plain tables None = refl
differ_plain tables (Some sides) =
    ap (λ t. not (same_type t (type_of (plain tables) sides.1.column.kind)))
    (type_alike (plain tables) tables (keyed_plain tables) sides.0.column.kind)
    ∙ ap (λ t. not (same_type (type_of tables sides.0.column.kind) t))
    (type_alike (plain tables) tables (keyed_plain tables) sides.1.column.kind)

select_checks_plain : (tables : Database) (its : Items) (name : List ℕ) (joins : List Join) (conditions : List Cond)
    → select_checks (plain tables) its name joins conditions ≡ select_checks tables its name joins conditions
select_checks_plain tables its name joins conditions =
    let names : List (List ℕ) = select_names name joins in
    let all : List (List (List ℕ) × Join) = behind (name ∷ []) joins in
    let missing : list_any (λ n. not (is_some (table_named n (plain tables)))) names ≡ list_any (λ n. not (is_some (table_named n tables))) names =
    any_agree (λ n. not (is_some (table_named n (plain tables)))) (λ n. not (is_some (table_named n tables)))
    (λ n. ap not (ap is_some (table_named-map emptied (λ t. refl) n tables) ∙ is_some-option_map emptied (table_named n tables))) names
    in
    let sides = map_agree (join_columns (plain tables)) (join_columns tables) (sides_plain tables) all in
    let differ : list_any (λ s. option_map_or (differ_in_type (plain tables)) s false) (map (join_columns tables) all)
    ≡ list_any (λ s. option_map_or (differ_in_type tables) s false) (map (join_columns tables) all) =
    any_agree (λ s. option_map_or (differ_in_type (plain tables)) s false) (λ s. option_map_or (differ_in_type tables) s false)
    (differ_plain tables) (map (join_columns tables) all)
    in
    rw (missing, columns_of_plain tables names, sides, conditions_plain tables (columns_of tables names) conditions, differ) refl

joins_plain : (tables : Database) (columns : List JoinedColumn) (conditions : List Cond) (joins : List (List (List ℕ) × Join))
    → joins_of (plain tables) columns conditions joins ≡ joins_of tables columns conditions joins
joins_plain tables columns conditions [] = refl
joins_plain tables columns conditions (join ∷ joins) =
    rw (sides_plain tables join, same_number join.1.table tables, joins_plain tables columns conditions joins) refl

select_plain : (tables : Database) (distinct : Bool) (its : Items) (name : List ℕ) (joins : List Join) (conditions : List Cond)
    → select_of (plain tables) distinct its name joins conditions ≡ select_of tables distinct its name joins conditions
select_plain tables distinct its name joins conditions =
    let columns : List JoinedColumn = columns_of tables (select_names name joins) in
    rw (
      columns_of_plain tables (select_names name joins),
      same_number name tables,
      joins_plain tables columns conditions (behind (name ∷ []) joins),
    ) refl

-- the same columns refer to a table
referring_plain : (tables : Database) (name : List ℕ) → is_table_referenced (plain tables) name ≡ is_table_referenced tables name
referring_plain [] name = refl
referring_plain (t ∷ tables) name = ap (λ b. list_any (refers_to name) t.columns || b) (referring_plain tables name)

resolved_plain : (records : List Record) (tables : Database) (c : Command) → is_on_indexes c ≡ false
    → resolved_of records (plain tables) c ≡ resolved_of records tables c
resolved_plain records tables (command.Table name schema) other =
    λ i. meaning (table_checks_plain tables name schema i) (resolved.Table name schema)
resolved_plain records tables (command.DropTable name) other =
    numbered_plain name tables _ _ (λ t. rw (same_number name tables, referring_plain tables t.name) refl)
resolved_plain records tables (command.Insert name row) other =
    numbered_plain name tables _ _ (λ t. rw (same_number name tables, row_alike (plain tables) tables (keyed_plain tables) t.columns row) refl)
resolved_plain records tables (command.Update name settings conditions) other =
    numbered_plain name tables _ _
    (λ t. rw (same_number name tables, settings_plain tables (own_columns t) settings, conditions_plain tables (own_columns t) conditions) refl)
resolved_plain records tables (command.Delete name conditions) other =
    numbered_plain name tables _ _ (λ t. rw (same_number name tables, conditions_plain tables (own_columns t) conditions) refl)
resolved_plain records tables (command.Select distinct its name joins conditions) other =
    λ i. meaning (select_checks_plain tables its name joins conditions i) (select_plain tables distinct its name joins conditions i)
resolved_plain records tables (command.Load name bytes) other =
    numbered_plain name tables _ _ (λ t. rw (same_number name tables, reading_alike (plain tables) tables (keyed_plain tables) t records) refl)
resolved_plain records tables (command.Dump name) other = numbered_plain name tables _ _ (λ t. rw (same_number name tables) refl)
resolved_plain records tables command.Tables other = refl
resolved_plain records tables on_indexes other = absurd (false≢true (sym other))

pub resolved_by_schemas : (records : List Record) (tables others : Database) (c : Command) → is_on_indexes c ≡ false → map emptied tables ≡ map emptied others
    → resolved_of records tables c ≡ resolved_of records others c
resolved_by_schemas records tables others c other alike =
    sym (resolved_plain records tables c other) ∙ ap (λ d. resolved_of records d c) alike ∙ resolved_plain records others c other
