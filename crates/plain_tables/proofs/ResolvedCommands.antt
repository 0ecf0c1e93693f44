-- A command is resolved only to one of these tables, with values that can stand there.
use Rattle.std.proofs.Common.{◌≡◌, ◌≢◌, ◌<◌, ℕ, true, false, not, length, map, get_or, take, arith, List, [], ◌∷◌, refl, sym, ap, ◌∙◌, Option, Some, None}
use Rattle.std.specs.Prelude.{Ok, IfOk, if◌then◌else◌, ◌==◌, nat_lt, nat_le}
use Rattle.std.specs.List.{All, AllByRecursion, list_any, cons_option, slice_get}
use Rattle.std.specs.Option.{is_some, option_map, option_and_then}
use Rattle.std.specs.Str.{bytes_eq}
use Rattle.std.specs.declared.cmp.Ordering.TheVariants.{Less}
use Rattle.std.proofs.lemmas.Bool.{or_parts, or_from, not-false, both_ways, false≢true, eqb-true, ne_eqb, ltb-false, leb-false}
use Rattle.std.proofs.lemmas.List.Elements.{All-nil, All-head, All-tail, All-weaker}
use Rattle.std.proofs.lemmas.List.Folds.{list_any_none}
use Rattle.std.proofs.lemmas.Option.{same_Some}
use Rattle.std.proofs.lemmas.Slice.Eq.{bytes_eq-Decides}
use Rattle.plain_tables.specs.Tables.{Table, key_cmp}
use Rattle.plain_tables.specs.Databases.{Database}
use Rattle.plain_tables.specs.Queries.{JoinedColumn, place_meant, places_meant}
use Rattle.plain_tables.specs.Effects.{repeats, is_long, setting_name}
use Rattle.plain_tables.specs.References.{referred, own_type, refers_into, is_index, all_indexes, IsKeyTree, IsSound}
use Rattle.plain_tables.specs.Resolving.{number_of, own_columns, assignments_of, mistypes, is_mistyped, table_checks, drop_checks, index_checks, drop_index_checks, insert_checks, update_checks, delete_checks, select_checks, table_reading, resolved_of}
use Rattle.plain_tables.specs.CsvReading.{Record}
use Rattle.plain_tables.specs.ResolvedLaws.{HasWidth, IsGiven, IsStorable, IsDeclarable, IsIndexable, IsAssignable, is_to_column, assigns_twice, IsMeant, ResolvedAreMeant, CommandsKeepSound, shows_indexes, rows_table}
use Rattle.plain_tables.specs.CommandLaws.{EffectsKeepSound, table_of, is_on_rows, is_listing}
use Rattle.plain_tables.specs.declared.value.Value.{Value}
use Rattle.plain_tables.specs.declared.value.Value.TheVariants as value
use Rattle.plain_tables.specs.declared.schema.ColKind.{ColKind}
use Rattle.plain_tables.specs.declared.schema.ColKind.TheVariants as kind
use Rattle.plain_tables.specs.declared.schema.Column.{Column}
use Rattle.plain_tables.specs.declared.schema.Schema.{Schema}
use Rattle.plain_tables.specs.declared.schema.IndexKind.{IndexKind}
use Rattle.plain_tables.specs.declared.schema.IndexKind.TheVariants as index
use Rattle.plain_tables.specs.declared.command.Setting.{Setting}
use Rattle.plain_tables.specs.declared.command.Limits.{Limits}
use Rattle.plain_tables.specs.declared.command.Command.{Command}
use Rattle.plain_tables.specs.declared.command.Command.TheVariants as command
use Rattle.plain_tables.specs.declared.numbers.ColumnNumber.{ColumnNumber}
use Rattle.plain_tables.specs.declared.numbers.Place.{Place}
use Rattle.plain_tables.specs.declared.resolved.Assignment.{Assignment}
use Rattle.plain_tables.specs.declared.resolved.Resolved.{Resolved}
use Rattle.plain_tables.proofs.Blocks.{read_insertable}
use Rattle.plain_tables.proofs.Columns.{named_there, first_behind_key}
use Rattle.plain_tables.proofs.Effects.{effect_satisfies}
use Rattle.common_lemmas.proofs.Pairs.{AllPairs-nil}
use Rattle.common_lemmas.proofs.Tests.{fails_where_none}
use Rattle.common_lemmas.proofs.Elements.{mapped_more}
use Rattle.plain_tables.proofs.Meanings.{satisfies, if_checked, if_numbered, if_on_column, if_read}
use Rattle.plain_tables.proofs.Names.{columns_differ}
use Rattle.plain_tables.proofs.Selects.{of_own_column, own_tests_meant, select_meant}
use Rattle.plain_tables.proofs.Sound.{done_keeps_sound}

-- ---- values

storable_value : (v : Value) → is_long v ≡ false → HasWidth v → IsStorable v
storable_value value.Null short width = tt
storable_value (value.Int z) short width = width
storable_value (value.Text text) short width = ltb-false 1024 (length text) short

-- ---- settings

assignments_meant : (tables : Database) (table : Table) (settings : List Setting)
    → list_any (λ s. mistypes tables (own_columns table) (setting_name s) s.value) settings ≡ false
    → list_any (λ s. is_long s.value) settings ≡ false
    → list_any (λ place. place.column.0 == 0) (places_meant (own_columns table) (map setting_name settings)) ≡ false
    → All (λ s. HasWidth s.value) settings → All (IsAssignable tables table) (assignments_of (own_columns table) settings)
assignments_meant tables table [] right short behind widths = All-nil (IsAssignable tables table)
assignments_meant tables table (s ∷ settings) right short behind widths =
    let columns : List JoinedColumn = own_columns table in
    let typed = or_parts (mistypes tables columns (setting_name s) s.value)
    (list_any (λ t. mistypes tables columns (setting_name t) t.value) settings) right in
    let brief = or_parts (is_long s.value) (list_any (λ t. is_long t.value) settings) short in
    let later = first_behind_key (place_meant columns (setting_name s)) (places_meant columns (map setting_name settings)) behind in
    mapped_more (IsAssignable tables table) (λ place. record { column = place.column; value = s.value })
    (place_meant columns (setting_name s)) (assignments_of columns settings)
    (λ place meant. record {
      behind_key = later.0 place meant;
      of_column = of_own_column tables table (setting_name s) s.value place meant typed.0;
      storable = storable_value s.value brief.0 (All-head (λ t. HasWidth t.value) s settings widths);
    })
    (assignments_meant tables table settings typed.1 brief.1 later.1 (All-tail (λ t. HasWidth t.value) s settings widths))

-- Settings of different names are assignments to different columns: two of one column would have its name.

each_apart : (table : Table) (s : Setting) (place : Place) → place_meant (own_columns table) (setting_name s) ≡ Some place
    → (settings : List Setting) → list_any (bytes_eq s.column) (map (λ t. t.column) settings) ≡ false
    → All (λ a. is_to_column place.column.0 a ≡ false) (assignments_of (own_columns table) settings)
each_apart table s place meant [] apart = All-nil (λ a. is_to_column place.column.0 a ≡ false)
each_apart table s place meant (t ∷ settings) apart =
    let columns : List JoinedColumn = own_columns table in
    let parts = or_parts (bytes_eq s.column t.column) (list_any (bytes_eq s.column) (map (λ u. u.column) settings)) apart in
    mapped_more (λ a. is_to_column place.column.0 a ≡ false) (λ p. record { column = p.column; value = t.value })
    (place_meant columns (setting_name t)) (assignments_of columns settings)
    (λ p there. ne_eqb p.column.0 place.column.0 (λ same.
    both_ways (bytes_eq s.column t.column) parts.0
    ((bytes_eq-Decides s.column t.column).1
    (same_Some s.column t.column
    (sym (named_there table s place meant) ∙ ap (λ n. option_map (λ c. c.name) (slice_get table.columns n)) (sym same) ∙ named_there table t p there)))))
    (each_apart table s place meant settings parts.1)

-- one assignment more, if a name means a column, to a column that the others aren't to
once_more : (found : Option Place) (v : Value) (others : List Assignment)
    → ((place : Place) → found ≡ Some place → list_any (is_to_column place.column.0) others ≡ false) → assigns_twice others ≡ false
    → assigns_twice (cons_option (option_map (λ place. record { column = place.column; value = v }) found) others) ≡ false
once_more None v others apart once = once
once_more (Some place) v others apart once =
    or_from (list_any (is_to_column place.column.0) others) (assigns_twice others) (apart place refl) once

assigned_once : (table : Table) (settings : List Setting) → repeats bytes_eq (map (λ s. s.column) settings) ≡ false
    → assigns_twice (assignments_of (own_columns table) settings) ≡ false
assigned_once table [] apart = refl
assigned_once table (s ∷ settings) apart =
    let others : List Assignment = assignments_of (own_columns table) settings in
    let parts = or_parts (list_any (bytes_eq s.column) (map (λ t. t.column) settings)) (repeats bytes_eq (map (λ t. t.column) settings)) apart in
    once_more (place_meant (own_columns table) (setting_name s)) s.value others
    (λ place meant. list_any_none (is_to_column place.column.0) others (each_apart table s place meant settings parts.0))
    (assigned_once table settings parts.1)

-- ---- a table to be declared

own_kind : (k : ColKind) → is_some (referred k) ≡ false → is_some (own_type k) ≡ true
own_kind kind.Int h = refl
own_kind kind.Text h = refl
own_kind refers h = absurd (false≢true (sym h))

first_keyed : (columns : List Column) → 0 < length columns → list_any (λ c. is_some (referred c.kind)) (take 1 columns) ≡ false
    → is_some (option_and_then (λ c. own_type c.kind) (slice_get columns 0)) ≡ true
first_keyed [] some h = absurd (omega arith)
first_keyed (c ∷ columns) some h = own_kind c.kind (or_parts (is_some (referred c.kind)) false h).0

declarable : (limits : Limits) (tables : Database) (name : List ℕ) (schema : Schema) → IsGiven (command.Table name schema)
    → AllByRecursion (λ c. c.refuses ≡ false) (table_checks tables name schema) → IsDeclarable limits tables name schema
declarable limits tables name schema given passed =
    let few = or_parts (nat_lt 16 (length schema.columns)) (nat_le 64 (length tables)) passed.1.1.1.1.0 in
    record {
      sound = record {
        named = given.0;
        columns_named = given.2;
        columns_apart = columns_differ schema.columns passed.1.1.0;
        few_columns = ltb-false 16 (length schema.columns) few.0;
        keyed = first_keyed schema.columns given.1 passed.1.1.1.0;
        indexes_on_columns = All-nil (λ (i : ℕ × IndexKind). i.0 < length schema.columns);
        indexes_apart = AllPairs-nil (λ (i j : ℕ × IndexKind). i ≢ j);
        no_key_tree = All-nil (λ i. ¬ (IsKeyTree i));
        rows_rise = AllPairs-nil (λ r s. key_cmp r s ≡ Less);
        few_rows = omega arith;
      };
      refers_back =
          All-weaker (λ c. not (refers_into tables c) ≡ false) (λ c. refers_into tables c ≡ true) (λ c. not-false (refers_into tables c))
          schema.columns (fails_where_none (λ c. not (refers_into tables c)) schema.columns passed.0);
      is_new = passed.1.0;
      has_room = leb-false 64 (length tables) few.1;
    }

-- ---- an index to be declared

indexable : (table : Table) (c : ColumnNumber) (k : IndexKind) → c.0 < length table.columns
    → list_any (is_index c k) (all_indexes table) ≡ false → IsIndexable c k table
indexable table c k within none =
    let parts = or_parts (is_index c k (0, index.Tree)) (list_any (is_index c k) table.indexes) none in
    record {
      on_column = within;
      undeclared = parts.1;
      no_key_tree = λ own. both_ways (is_index c k (0, index.Tree)) parts.0 (rw (own.0, own.1) refl);
    }

-- ---- every command

meant : (records : List Record) (limits : Limits) (tables : Database) (c : Command) → IsGiven c
    → IfOk (resolved_of records tables c) (IsMeant limits tables)
meant records limits tables (command.Table name schema) given =
    if_checked _ (table_checks tables name schema) _ (declarable limits tables name schema given)
meant records limits tables (command.DropTable name) given =
    if_numbered _ name tables _ (λ table there. if_checked _ (drop_checks tables table) _ (λ passed. (table, there, passed.0)))
meant records limits tables (command.Index name column k) given =
    if_numbered _ name tables _ (λ table there. if_on_column _ column table _
    (λ place within. if_checked _ (index_checks table place.column k) _ (λ passed. (table, there, indexable table place.column k within passed.0))))
meant records limits tables (command.DropIndex name column k) given =
    if_numbered _ name tables _ (λ table there. if_on_column _ column table _
    (λ place within. if_checked _ (drop_index_checks table place.column k) _ (λ passed. (table, there, tt))))
meant records limits tables (command.Insert name row) given =
    if_numbered _ name tables _ (λ table there. if_checked _ (insert_checks tables table row) _ (λ passed. (
      table,
      there,
      record {
        counted = eqb-true (length row) (length table.columns) (not-false _ passed.0);
        typed = passed.1.0;
        storable = λ k d l. storable_value (get_or row k d) (fails_where_none is_long row passed.1.1.0 k d l) (given k d l);
      },
    )))
meant records limits tables (command.Update name settings conditions) given =
    if_numbered _ name tables _ (λ table there. if_checked _ (update_checks tables table settings conditions) _ (λ passed.
    let typed = or_parts (list_any (λ s. mistypes tables (own_columns table) (setting_name s) s.value) settings)
    (list_any (is_mistyped tables (own_columns table)) conditions) passed.1.1.0 in (
      table,
      there,
      (
        record {
          each = assignments_meant tables table settings typed.0 passed.1.1.1.0 passed.1.1.1.1.0 given;
          apart = assigned_once table settings passed.1.0;
        },
        own_tests_meant tables table conditions typed.1,
      ),
    )))
meant records limits tables (command.Delete name conditions) given =
    if_numbered _ name tables _ (λ table there. if_checked _ (delete_checks tables table conditions) _
    (λ passed. (table, there, own_tests_meant tables table conditions passed.1.0)))
meant records limits tables (command.Select distinct its name joins conditions) given =
    if_checked _ (select_checks tables its name joins conditions) _ (select_meant limits tables distinct its name joins conditions given)
meant records limits tables (command.Load name bytes) given =
    if_numbered _ name tables _ (λ table there. if_read _ _ (table_reading tables table records)
    (λ rows read. (table, there, read_insertable tables table records rows read)))
meant records limits tables (command.Dump name) given =
    if_numbered _ name tables _ (λ table there. (table, there, tt))
meant records limits tables command.Tables given = tt

pub resolved_are_meant : ResolvedAreMeant
resolved_are_meant records limits tables c r given h =
    satisfies (IsMeant limits tables) (resolved_of records tables c) r h (meant records limits tables c given)

pub commands_keep_sound : CommandsKeepSound
commands_keep_sound records limits tables c r given h sound =
    done_keeps_sound limits tables r sound (resolved_are_meant records limits tables c r given h)

pub effects_keep_sound : EffectsKeepSound
effects_keep_sound records limits tables c given sound =
    effect_satisfies (λ e. IsSound limits e.database) records limits tables c (λ why. sound)
    (λ r h. commands_keep_sound records limits tables c r given h sound)

-- The resolved command is on the rows of the table that the command is on the rows of, if it is, and shows indexes where
-- the command is a listing.
abbrev IsLike : Database → Command → Resolved → Type 0
IsLike tables c r =
    (rows_table r ≡ (if is_on_rows c then Some (number_of (table_of c) tables) else None)) × (shows_indexes r ≡ is_listing c)

like : (records : List Record) (tables : Database) (c : Command) → IfOk (resolved_of records tables c) (IsLike tables c)
like records tables (command.Table name schema) = if_checked _ (table_checks tables name schema) _ (λ passed. (refl, refl))
like records tables (command.DropTable name) =
    if_numbered _ name tables _ (λ table there. if_checked _ (drop_checks tables table) _ (λ passed. (refl, refl)))
like records tables (command.Index name column k) =
    if_numbered _ name tables _ (λ table there. if_on_column _ column table _
    (λ place within. if_checked _ (index_checks table place.column k) _ (λ passed. (refl, refl))))
like records tables (command.DropIndex name column k) =
    if_numbered _ name tables _ (λ table there. if_on_column _ column table _
    (λ place within. if_checked _ (drop_index_checks table place.column k) _ (λ passed. (refl, refl))))
like records tables (command.Insert name row) =
    if_numbered _ name tables _ (λ table there. if_checked _ (insert_checks tables table row) _ (λ passed. (refl, refl)))
like records tables (command.Update name settings conditions) =
    if_numbered _ name tables _ (λ table there. if_checked _ (update_checks tables table settings conditions) _ (λ passed. (refl, refl)))
like records tables (command.Delete name conditions) =
    if_numbered _ name tables _ (λ table there. if_checked _ (delete_checks tables table conditions) _ (λ passed. (refl, refl)))
like records tables (command.Select distinct its name joins conditions) =
    if_checked _ (select_checks tables its name joins conditions) _ (λ passed. (refl, refl))
like records tables (command.Load name bytes) =
    if_numbered _ name tables _ (λ table there. if_read _ _ (table_reading tables table records) (λ rows read. (refl, refl)))
like records tables (command.Dump name) = if_numbered _ name tables _ (λ table there. (refl, refl))
like records tables command.Tables = (refl, refl)

-- a command on rows is resolved to one on the rows of its table
pub own_rows : (records : List Record) (tables : Database) (c : Command) (r : Resolved) → is_on_rows c ≡ true
    → resolved_of records tables c ≡ Ok r
    → rows_table r ≡ Some (number_of (table_of c) tables)
own_rows records tables c r on h =
    rw on at (satisfies (IsLike tables c) (resolved_of records tables c) r h (like records tables c)).0

-- no command but a listing is resolved to one that shows indexes
pub none_shown : (records : List Record) (tables : Database) (c : Command) (r : Resolved) → is_listing c ≡ false
    → resolved_of records tables c ≡ Ok r → shows_indexes r ≡ false
none_shown records tables c r other h =
    (satisfies (IsLike tables c) (resolved_of records tables c) r h (like records tables c)).1 ∙ other
