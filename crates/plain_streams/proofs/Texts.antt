-- Each request, and so each run, keeps the texts of a database UTF-8.
use Rattle.std.proofs.Common.{◌≡◌, ℕ, List, [], ◌∷◌, ◌++◌, map, set, length, Bool, cond, subst, Option, Some, None}
use Rattle.std.specs.Prelude.{ℤ, IfOk, IfSome, not, slice_get, zip, ◌&&◌, ◌==◌}
use Rattle.std.specs.List.{All, AllZip}
use Rattle.std.specs.Option.{option_map, option_map_or}
use Rattle.std.specs.Str.{is_utf8}
use Rattle.std.proofs.lemmas.Bool.{cond_both, and_parts}
use Rattle.std.proofs.lemmas.List.Elements.{All-nil, All-cons, All-head, All-tail, All-append, All-set, All-map, All-filter, All-weaker}
use Rattle.std.proofs.lemmas.Str.{IsUtf8-from_is_utf8}
use Rattle.plain_tables.specs.Tables.{Table, Row}
use Rattle.plain_tables.specs.Databases.{Database, is_named}
use Rattle.plain_tables.specs.Queries.{JoinedColumn, place_meant}
use Rattle.plain_tables.specs.Effects.{Effect, setting_name, new_table, grown_by, is_long}
use Rattle.plain_tables.specs.CsvReading.{Record, BlockColumn, Reading, Rows, BadHeader, BadRecord, integer_of, plain_value, field_value, all_of, row_of, is_header, rows_reading, records_reading}
use Rattle.plain_tables.specs.Resolving.{own_columns, assignments_of, block_columns, table_reading, resolved_of, table_checks, drop_checks, index_checks, drop_index_checks, insert_checks, update_checks, delete_checks, select_checks}
use Rattle.plain_tables.specs.Doing.{assigned, passes_all, dump_checks, delete_checks as row_delete_checks, update_checks as row_update_checks, updated, without, with_index, without_index, insert, done}
use Rattle.plain_tables.specs.declared.value.Value.{Value}
use Rattle.plain_tables.specs.declared.value.Value.TheVariants as value
use Rattle.plain_tables.specs.declared.schema.BaseKind.{BaseKind}
use Rattle.plain_tables.specs.declared.schema.BaseKind.TheVariants as kind
use Rattle.plain_tables.specs.declared.schema.Column.{Column}
use Rattle.plain_tables.specs.declared.command.Setting.{Setting}
use Rattle.plain_tables.specs.declared.command.Limits.{Limits}
use Rattle.plain_tables.specs.declared.command.Command.{Command}
use Rattle.plain_tables.specs.declared.command.Command.TheVariants as command
use Rattle.plain_tables.specs.declared.numbers.TableNumber.{TableNumber}
use Rattle.plain_tables.specs.declared.resolved.Assignment.{Assignment}
use Rattle.plain_tables.specs.declared.resolved.Resolved.{Resolved}
use Rattle.plain_tables.specs.declared.resolved.Resolved.TheVariants as resolved
use Rattle.plain_tables.proofs.Effects.{of_table_satisfies, of_table_checked, effect_satisfies, insert_satisfies, loaded_satisfies, load_satisfies}
use Rattle.common_lemmas.proofs.Elements.{All-at, All-remove, mapped_more}
use Rattle.common_lemmas.proofs.Options.{option_map_or_satisfies}
use Rattle.common_lemmas.proofs.Tests.{find_satisfies}
use Rattle.plain_tables.proofs.Meanings.{satisfies, if_checked, if_numbered, if_on_column, if_read}
use Rattle.plain_tables.proofs.Rows.{All-with_row}
use Rattle.plain_tables.proofs.Sound.{no_tables_are_sound}
use Rattle.mm_csv.specs.BlockReading.{block_records}
use Rattle.plain_streams.specs.Requests.{Request}
use Rattle.plain_streams.specs.Division.{last_request}
use Rattle.plain_streams.specs.Dumps.{IsReadBack}
use Rattle.plain_streams.specs.Runs.{IsEffect, command as does, Answers, effect, line_of}
use Rattle.plain_streams.specs.Texts.{IsTextUtf8, HasTextsUtf8, AreTextsUtf8, IsUnlikeNull, ReachedAreReadBack, TextsStayUtf8, DumpsOfRunsLoadAgain}
use Rattle.plain_streams.proofs.Dumps.{dumps_load_again}
use Rattle.plain_streams.proofs.Runs.{runs_stay_sound}
use Rattle.plain_streams.proofs.RunSteps.{AnswersAll-keeps}
use Rattle.plain_streams.proofs.SpelledTexts.{StoresUtf8, spelled-stored}

-- ---- records of a block

if_mapped : {X Y : Type 0} (P : X → Type 0) (Q : Y → Type 0) (f : X → Y) → ((x : X) → P x → Q (f x)) → (o : Option X) → IfSome o P
    → IfSome (option_map f o) Q
if_mapped P Q f each None one = tt
if_mapped P Q f each (Some x) one = each x one

all_of-one : {Y : Type 0} (P : Y → Type 0) (first : Option Y) (others : List (Option Y)) → IfSome first P
    → IfSome (all_of others) (All P) → IfSome (all_of (first ∷ others)) (All P)
all_of-one P None others one rest = tt
all_of-one P (Some y) others one rest =
    if_mapped (All P) (All P) (λ ys. y ∷ ys) (λ ys all. All-cons P y ys one all) (all_of others) rest

all_of-each : {X Y : Type 0} (P : Y → Type 0) (f : X → Option Y) → ((x : X) → IfSome (f x) P) → (xs : List X)
    → IfSome (all_of (map f xs)) (All P)
all_of-each P f each [] = All-nil P
all_of-each P f each (x ∷ xs) = all_of-one P (f x) (map f xs) (each x) (all_of-each P f each xs)

integer-utf8 : (o : Option ℤ) → IfSome (option_map value.Int o) IsTextUtf8
integer-utf8 None = tt
integer-utf8 (Some z) = tt

plain-utf8 : (k : BaseKind) (field : List ℕ) → IfSome (plain_value k field) IsTextUtf8
plain-utf8 kind.Int field = integer-utf8 (integer_of field)
plain-utf8 kind.Text field =
    cond_both (is_utf8 field && not (is_long (value.Text field))) (Some (value.Text field)) None (λ o. IfSome o IsTextUtf8)
    (λ both. IsUtf8-from_is_utf8 field (and_parts (is_utf8 field) (not (is_long (value.Text field))) both).0) (λ f. tt)

field-utf8 : (column : BlockColumn) (field : List ℕ) → IfSome (field_value column field) IsTextUtf8
field-utf8 column field =
    cond_both (column.null && (length field == 0)) (Some value.Null) (plain_value column.kind field) (λ o. IfSome o IsTextUtf8)
    (λ t. tt) (λ f. plain-utf8 column.kind field)

row-utf8 : (columns : List BlockColumn) (fields : Record) → IfSome (row_of columns fields) (All IsTextUtf8)
row-utf8 columns fields =
    cond_both (length fields == length columns) (all_of (map (λ pair. field_value pair.0 pair.1) (zip columns fields))) None
    (λ o. IfSome o (All IsTextUtf8))
    (λ t. all_of-each IsTextUtf8 (λ (pair : BlockColumn × List ℕ). field_value pair.0 pair.1)
    (λ pair. field-utf8 pair.0 pair.1) (zip columns fields))
    (λ f. tt)

-- the texts of the rows that are read, if rows are
abbrev ReadsUtf8 : Reading → Type 0
ReadsUtf8 (Rows rows) = All (All IsTextUtf8) rows
ReadsUtf8 reading = Unit {0}

found-utf8 : (found : Option (List Row)) (bad : ℕ) → IfSome found (All (All IsTextUtf8))
    → ReadsUtf8 (option_map_or Rows found (BadRecord bad))
found-utf8 None bad all = tt
found-utf8 (Some rows) bad all = all

records-utf8 : (columns : List BlockColumn) (records : List Record) → ReadsUtf8 (records_reading columns records)
records-utf8 columns [] = tt
records-utf8 columns (header ∷ records) =
    cond_both (is_header columns header) (rows_reading columns records) BadHeader ReadsUtf8
    (λ t. found-utf8 (all_of (map (row_of columns) records)) _
    (all_of-each (All IsTextUtf8) (row_of columns) (row-utf8 columns) records))
    (λ f. tt)

reading-utf8 : (tables : Database) (table : Table) (records : List Record) → ReadsUtf8 (table_reading tables table records)
reading-utf8 tables table records =
    option_map_or_satisfies ReadsUtf8 (λ columns. records_reading columns records) (block_columns tables table) BadHeader tt
    (λ columns there. records-utf8 columns records)

-- ---- what a command is resolved to

-- the texts that a resolved command is to store
abbrev SetsUtf8 : Resolved → Type 0
SetsUtf8 (resolved.Insert n row) = All IsTextUtf8 row
SetsUtf8 (resolved.Update n assignments tests) = All (λ a. IsTextUtf8 a.value) assignments
SetsUtf8 (resolved.Load n rows) = All (All IsTextUtf8) rows
SetsUtf8 r = Unit {0}

assignments-utf8 : (columns : List JoinedColumn) (settings : List Setting) → All (λ s. IsTextUtf8 s.value) settings
    → All (λ a. IsTextUtf8 a.value) (assignments_of columns settings)
assignments-utf8 columns [] all = All-nil (λ a. IsTextUtf8 a.value)
assignments-utf8 columns (s ∷ settings) all =
    mapped_more (λ (a : Assignment). IsTextUtf8 a.value) (λ place. record { column = place.column; value = s.value })
    (place_meant columns (setting_name s)) (assignments_of columns settings)
    (λ place meant. All-head (λ (t : Setting). IsTextUtf8 t.value) s settings all)
    (assignments-utf8 columns settings (All-tail (λ (t : Setting). IsTextUtf8 t.value) s settings all))

resolved-utf8 : (records : List Record) (tables : Database) (c : Command) → StoresUtf8 c → IfOk (resolved_of records tables c) SetsUtf8
resolved-utf8 records tables (command.Table name schema) stores = if_checked _ (table_checks tables name schema) _ (λ passed. tt)
resolved-utf8 records tables (command.DropTable name) stores =
    if_numbered _ name tables _ (λ table there. if_checked _ (drop_checks tables table) _ (λ passed. tt))
resolved-utf8 records tables (command.Index name column k) stores =
    if_numbered _ name tables _ (λ table there. if_on_column _ column table _
    (λ place within. if_checked _ (index_checks table place.column k) _ (λ passed. tt)))
resolved-utf8 records tables (command.DropIndex name column k) stores =
    if_numbered _ name tables _ (λ table there. if_on_column _ column table _
    (λ place within. if_checked _ (drop_index_checks table place.column k) _ (λ passed. tt)))
resolved-utf8 records tables (command.Insert name row) stores =
    if_numbered _ name tables _ (λ table there. if_checked _ (insert_checks tables table row) _ (λ passed. stores))
resolved-utf8 records tables (command.Update name settings conditions) stores =
    if_numbered _ name tables _ (λ table there. if_checked _ (update_checks tables table settings conditions) _
    (λ passed. assignments-utf8 (own_columns table) settings stores))
resolved-utf8 records tables (command.Delete name conditions) stores =
    if_numbered _ name tables _ (λ table there. if_checked _ (delete_checks tables table conditions) _ (λ passed. tt))
resolved-utf8 records tables (command.Select distinct its name joins conditions) stores =
    if_checked _ (select_checks tables its name joins conditions) _ (λ passed. tt)
resolved-utf8 records tables (command.Load name bytes) stores =
    if_numbered _ name tables _ (λ table there. if_read _ _ (table_reading tables table records)
    (λ rows read. subst ReadsUtf8 read (reading-utf8 tables table records)))
resolved-utf8 records tables (command.Dump name) stores = if_numbered _ name tables _ (λ table there. tt)
resolved-utf8 records tables command.Tables stores = tt

-- ---- what is done

-- the texts of the database afterwards
abbrev LeavesUtf8 : Effect → Type 0
LeavesUtf8 e = AreTextsUtf8 e.database

assigned-utf8 : (assignments : List Assignment) (row : Row) → All (λ a. IsTextUtf8 a.value) assignments → All IsTextUtf8 row
    → All IsTextUtf8 (assigned assignments row)
assigned-utf8 [] row sets all = all
assigned-utf8 (a ∷ assignments) row sets all =
    assigned-utf8 assignments (set row a.column.0 a.value) (All-tail (λ (b : Assignment). IsTextUtf8 b.value) a assignments sets)
    (All-set IsTextUtf8 row a.column.0 a.value (All-head (λ (b : Assignment). IsTextUtf8 b.value) a assignments sets) all)

updated-utf8 : (assignments : List Assignment) (picks : Row → Bool) (table : Table) → All (λ a. IsTextUtf8 a.value) assignments
    → HasTextsUtf8 table → HasTextsUtf8 (updated assignments picks table)
updated-utf8 assignments picks table sets all =
    All-map (All IsTextUtf8) (λ row. cond (picks row) (assigned assignments row) row) table.rows
    (All-weaker (All IsTextUtf8) (λ row. All IsTextUtf8 (cond (picks row) (assigned assignments row) row))
    (λ row texts. cond_both (picks row) (assigned assignments row) row (All IsTextUtf8)
    (λ t. assigned-utf8 assignments row sets texts) (λ f. texts)) table.rows all)

-- a table in the place of one
with-utf8 : (tables : Database) (n : TableNumber) (old new : Table) → AreTextsUtf8 tables → slice_get tables n.0 ≡ Some old
    → (HasTextsUtf8 old → HasTextsUtf8 new) → AreTextsUtf8 (set tables n.0 new)
with-utf8 tables n old new all there keeps =
    All-set HasTextsUtf8 tables n.0 new (keeps (All-at HasTextsUtf8 tables n.0 old all there)) all

insert-utf8 : (limits : Limits) (tables : Database) (n : TableNumber) (row : Row) → All IsTextUtf8 row → AreTextsUtf8 tables
    → LeavesUtf8 (insert limits tables n row)
insert-utf8 limits tables n row sets all =
    insert_satisfies LeavesUtf8 limits tables n row (λ why. all)
    (λ table there passed. with-utf8 tables n table (grown_by row table) all there
    (λ texts. All-with_row (All IsTextUtf8) row table.rows sets texts))

done-utf8 : (limits : Limits) (tables : Database) (r : Resolved) → SetsUtf8 r → AreTextsUtf8 tables
    → LeavesUtf8 (done limits tables r)
done-utf8 limits tables (resolved.Table name schema) sets all =
    All-append HasTextsUtf8 tables (new_table name schema ∷ []) all
    (All-cons HasTextsUtf8 (new_table name schema) [] (All-nil (All IsTextUtf8)) (All-nil HasTextsUtf8))
done-utf8 limits tables (resolved.DropTable n) sets all = All-remove HasTextsUtf8 tables n.0 all
done-utf8 limits tables (resolved.Index n column k) sets all =
    of_table_satisfies LeavesUtf8 n tables _ (λ why. all)
    (λ table there. with-utf8 tables n table (with_index column k table) all there (λ texts. texts))
done-utf8 limits tables (resolved.DropIndex n column k) sets all =
    of_table_satisfies LeavesUtf8 n tables _ (λ why. all)
    (λ table there. with-utf8 tables n table (without_index column k table) all there (λ texts. texts))
done-utf8 limits tables (resolved.Insert n row) sets all = insert-utf8 limits tables n row sets all
done-utf8 limits tables (resolved.Update n assignments tests) sets all =
    of_table_checked LeavesUtf8 n tables (λ table. row_update_checks tables table assignments) _ (λ why. all)
    (λ table there passed. with-utf8 tables n table (updated assignments (passes_all tests) table) all there
    (updated-utf8 assignments (passes_all tests) table sets))
done-utf8 limits tables (resolved.Delete n tests) sets all =
    of_table_checked LeavesUtf8 n tables (λ table. row_delete_checks tables table (passes_all tests)) _ (λ why. all)
    (λ table there passed. with-utf8 tables n table (without (passes_all tests) table) all there
    (All-filter (λ row. not (passes_all tests row)) (All IsTextUtf8) table.rows))
done-utf8 limits tables (resolved.Select query) sets all = all
done-utf8 limits tables (resolved.Load n rows) sets all =
    load_satisfies LeavesUtf8 limits tables n rows (λ why. all)
    (λ new h. (loaded_satisfies (λ others d. All (All IsTextUtf8) others × AreTextsUtf8 d) limits n
    (λ row others d both. (
      All-tail (All IsTextUtf8) row others both.0,
      insert-utf8 limits d n row (All-head (All IsTextUtf8) row others both.0) both.1,
    ))
    tables 1 rows new h (sets, all)).1)
done-utf8 limits tables (resolved.Dump n) sets all =
    of_table_checked LeavesUtf8 n tables (dump_checks limits) _ (λ why. all) (λ table there passed. all)
done-utf8 limits tables resolved.Tables sets all = all

-- ---- runs

effect-utf8 : (limits : Limits) (tables : Database) (request : Request) (e : Effect) → IsEffect limits tables request e
    → AreTextsUtf8 tables → LeavesUtf8 e
effect-utf8 limits tables request e (does c readable s spells has) all =
    let records : List Record = block_records request.block in
    let means = resolved-utf8 records tables c (spelled-stored (line_of request) c readable.utf8 spells) in
    effect_satisfies LeavesUtf8 records limits tables c (λ why. all)
    (λ r is. done-utf8 limits tables r (satisfies SetsUtf8 (resolved_of records tables c) r is means) all)
effect-utf8 limits tables request e other all = all

answer-utf8 : (limits : Limits) (tables : Database) (request : Request) (answer : List ℕ) (after : Database)
    → Answers limits tables request answer after → AreTextsUtf8 tables → AreTextsUtf8 after
answer-utf8 limits tables request answer after (effect e h) all = effect-utf8 limits tables request e h all
answer-utf8 limits tables request answer after other all = all

pub texts_stay_utf8 : TextsStayUtf8
texts_stay_utf8 limits from stream finished answers after (requests, rest, divides, run) all =
    AnswersAll-keeps AreTextsUtf8 limits from (requests ++ last_request finished rest) answers after (answer-utf8 limits) run all

pub no_texts : AreTextsUtf8 []
no_texts = All-nil HasTextsUtf8

-- ---- dumps

value-back : (column : Column) (v : Value) → IsTextUtf8 v → IsUnlikeNull column v → IsReadBack column v
value-back column (value.Text text) utf8 some = (utf8, some)
value-back column other utf8 some = tt

row-back : (columns : List Column) (row : Row) → All IsTextUtf8 row → AllZip IsUnlikeNull columns row
    → AllZip IsReadBack columns row
row-back [] [] utf8 some = tt
row-back [] (v ∷ row) utf8 some = absurd some
row-back (c ∷ columns) [] utf8 some = absurd some
row-back (c ∷ columns) (v ∷ row) utf8 some = (
  value-back c v (All-head IsTextUtf8 v row utf8) some.0,
  row-back columns row (All-tail IsTextUtf8 v row utf8) some.1,
)

rows-back : (columns : List Column) (rows : List Row) → All (All IsTextUtf8) rows → All (AllZip IsUnlikeNull columns) rows
    → All (AllZip IsReadBack columns) rows
rows-back columns [] utf8 some = All-nil (AllZip IsReadBack columns)
rows-back columns (row ∷ rows) utf8 some =
    All-cons (AllZip IsReadBack columns) row rows
    (row-back columns row (All-head (All IsTextUtf8) row rows utf8) (All-head (AllZip IsUnlikeNull columns) row rows some))
    (rows-back columns rows (All-tail (All IsTextUtf8) row rows utf8) (All-tail (AllZip IsUnlikeNull columns) row rows some))

pub reached_are_read_back : ReachedAreReadBack
reached_are_read_back limits from stream finished answers tables table name utf8 run named some =
    let all : AreTextsUtf8 tables = texts_stay_utf8 limits from stream finished answers tables run utf8 in
    rows-back table.columns table.rows (find_satisfies HasTextsUtf8 (is_named name) tables table all named).0 some

pub dumps_of_runs_load_again : DumpsOfRunsLoadAgain
dumps_of_runs_load_again limits stream finished answers tables table others copy name shown block run named some empty dumped =
    dumps_load_again limits tables table others copy name shown block
    (runs_stay_sound limits [] stream finished answers tables (no_tables_are_sound limits) run) named
    (reached_are_read_back limits [] stream finished answers tables table name no_texts run named some) empty dumped
