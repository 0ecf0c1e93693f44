-- Doing: what a resolved command does to a database, with the checks that look at rows.
use Rattle.std.specs.Prelude.{ℕ, ◌+◌, List, [], ◌∷◌, ◌++◌, Bool, true, false, not, nat_le, nat_lt, Option, length, map, if◌then◌else◌, Some, None, Result, Ok, Err, slice_get, slice_set, remove}
use Rattle.std.specs.List.{list_any, list_all, filter, filter_map, flat_map}
use Rattle.std.specs.Option.{option_and_then, option_map, option_map_or}
use Rattle.plain_tables.specs.Tables.{Table, Row, has_key_of}
use Rattle.plain_tables.specs.Databases.{Database}
use Rattle.plain_tables.specs.Queries.{full_name}
pub use Rattle.plain_tables.specs.Joining.{passes, passes_all}
use Rattle.plain_tables.specs.Joining.{Member, value_of, members_of, distinct_rows}
use Rattle.plain_tables.specs.Csv.{block_text}
use Rattle.plain_tables.specs.Effects.{Check, Effect, Outcome, Done, Changed, Rows, Dumped, Listed, Refused, refused, checked, column_names, new_table, grown_by}
use Rattle.plain_tables.specs.declared.refusal.Refusal.{Refusal}
use Rattle.plain_tables.specs.References.{Reference, reference_of, references, is_held, is_referenced}
pub use Rattle.plain_tables.specs.References.{is_kind, is_index}
use Rattle.plain_tables.specs.declared.refusal.Refusal.TheVariants.{NoSuchTable, KeyExists, NoReferencedRow, TableFull, RowIsReferenced, DumpTooLong}
use Rattle.plain_tables.specs.declared.schema.IndexKind.{IndexKind}
use Rattle.plain_tables.specs.declared.command.Limits.{Limits}
use Rattle.plain_tables.specs.declared.numbers.ColumnNumber.{ColumnNumber}
use Rattle.plain_tables.specs.declared.numbers.TableNumber.{TableNumber}
use Rattle.plain_tables.specs.declared.resolved.Assignment.{Assignment}
use Rattle.plain_tables.specs.declared.numbers.Place.{Place}
use Rattle.plain_tables.specs.declared.resolved.Source.{Source}
use Rattle.plain_tables.specs.declared.resolved.Joined.{Joined}
use Rattle.plain_tables.specs.declared.resolved.Shown.{Shown}
use Rattle.plain_tables.specs.declared.resolved.Shown.TheVariants as shown
use Rattle.plain_tables.specs.declared.resolved.Resolved.{Resolved}
use Rattle.plain_tables.specs.declared.resolved.Resolved.TheVariants as resolved

-- ---- tables by number

-- What is done on the table of a number. A resolved command has a number of a table that is there.
abbrev pub on_table : TableNumber → Database → (Table → Effect) → Effect
on_table n tables effect =
    option_map_or effect (slice_get tables n.0) (refused tables NoSuchTable)

-- the tables with this one in the place of that number
abbrev pub with_table : TableNumber → Table → Database → Database
with_table n table tables = slice_set tables n.0 table

-- ---- assignments

-- the row with the values of the assignments in their columns
abbrev pub assigned : List Assignment → Row → Row
assigned [] row = row
assigned (a ∷ assignments) row = assigned assignments (slice_set row a.column.0 a.value)

-- ---- insert

-- a new key, references that are held, and room under the limit
abbrev pub insert_checks : Limits → Database → Table → Row → List Check
insert_checks limits tables table row =
    record { refuses = has_key_of row table.rows; refusal = KeyExists None }
    ∷ record { refuses = not (list_all (is_held tables) (references table.columns row)); refusal = NoReferencedRow None }
    ∷ record { refuses = nat_le limits.rows (length table.rows); refusal = TableFull None }
    ∷ []

-- what an insert of a row into the table of a number does
abbrev pub insert : Limits → Database → TableNumber → Row → Effect
insert limits tables n row =
    on_table n tables (λ table. checked tables (insert_checks limits tables table row)
    (record { database = with_table n (grown_by row table) tables; outcome = Changed 1 }))

-- ---- load

-- the refusal of an insert, with the number of the record that it is of
abbrev pub in_record : ℕ → Refusal → Refusal
in_record k (KeyExists other) = KeyExists (Some k)
in_record k (NoReferencedRow other) = NoReferencedRow (Some k)
in_record k (TableFull other) = TableFull (Some k)
in_record k why = why

-- the database that this record leaves, or its refusal
abbrev pub left_with : ℕ → Database → Outcome → Result Database Refusal
left_with k tables (Refused why) = Err (in_record k why)
left_with k tables outcome = Ok tables

-- what comes next, if nothing was refused
abbrev pub goes_on : (Database → Result Database Refusal) → Result Database Refusal → Result Database Refusal
goes_on next (Ok tables) = next tables
goes_on next (Err why) = Err why

-- the database with a row more, or the refusal of the row as this record
abbrev pub with_record : Limits → Database → TableNumber → ℕ → Row → Result Database Refusal
with_record limits tables n k row = let e = insert limits tables n row in left_with k e.database e.outcome

-- The rows are inserted one after the other, the first as this record: the database with all of them, or the first refusal.
abbrev pub loaded : Limits → Database → TableNumber → ℕ → List Row → Result Database Refusal
loaded limits tables n k [] = Ok tables
loaded limits tables n k (row ∷ rows) = goes_on (λ next. loaded limits next n (k + 1) rows) (with_record limits tables n k row)

-- all rows, or none of them
abbrev pub load_effect : Database → List Row → Result Database Refusal → Effect
load_effect tables rows (Ok new) = record { database = new; outcome = Changed (length rows) }
load_effect tables rows (Err why) = refused tables why

-- what a load of rows into the table of a number does; its records are counted from 1
abbrev pub load : Limits → Database → TableNumber → List Row → Effect
load limits tables n rows = load_effect tables rows (loaded limits tables n 1 rows)

-- ---- dump

-- the rows of a table under the names of its columns
abbrev pub dump_block : Table → List ℕ
dump_block table = block_text (column_names table.columns) table.rows

-- the block is within the limit
abbrev pub dump_checks : Limits → Table → List Check
dump_checks limits table = record { refuses = nat_lt limits.block (length (dump_block table)); refusal = DumpTooLong } ∷ []

-- what a dump of the table of a number does
abbrev pub dump : Limits → Database → TableNumber → Effect
dump limits tables n =
    on_table n tables (λ table. checked tables (dump_checks limits table)
    (record { database = tables; outcome = Dumped table.name (dump_block table) }))

-- ---- update

-- the references that assignments make
abbrev pub assigned_references : Table → List Assignment → List Reference
assigned_references table assignments =
    filter_map (λ a. option_and_then (λ c. reference_of c a.value) (slice_get table.columns a.column.0)) assignments

-- The references are held, whether a row is picked or not.
abbrev pub update_checks : Database → Table → List Assignment → List Check
update_checks tables table assignments =
    record { refuses = not (list_all (is_held tables) (assigned_references table assignments)); refusal = NoReferencedRow None } ∷ []

-- each row that is picked has the values assigned
abbrev pub updated : List Assignment → (Row → Bool) → Table → Table
updated assignments picks table =
    record table { rows = map (λ row. if picks row then assigned assignments row else row) table.rows }

-- the rows that are picked
abbrev pub picked : (Row → Bool) → Table → List Row
picked picks table = filter picks table.rows

-- what an update does to the rows of a table that are picked
abbrev pub update : Database → TableNumber → List Assignment → (Row → Bool) → Effect
update tables n assignments picks =
    on_table n tables (λ table. checked tables (update_checks tables table assignments)
    (record { database = with_table n (updated assignments picks table) tables; outcome = Changed (length (picked picks table)) }))

-- ---- delete

-- no row that is picked is referred to
abbrev pub delete_checks : Database → Table → (Row → Bool) → List Check
delete_checks tables table picks =
    record { refuses = list_any (is_referenced tables table.name) (picked picks table); refusal = RowIsReferenced } ∷ []

-- the table without the rows that are picked
abbrev pub without : (Row → Bool) → Table → Table
without picks table = record table { rows = filter (λ row. not (picks row)) table.rows }

-- what a delete does to the rows of a table that are picked
abbrev pub delete : Database → TableNumber → (Row → Bool) → Effect
delete tables n picks =
    on_table n tables (λ table. checked tables (delete_checks tables table picks)
    (record { database = with_table n (without picks table) tables; outcome = Changed (length (picked picks table)) }))

-- ---- select

-- the values that are shown of a member
abbrev pub shown_values : Shown → Member → Row
shown_values shown.All member = flat_map (λ row. row) member
shown_values (shown.Columns places) member = map (value_of member) places

-- the tables that are joined
abbrev pub joined_tables : Database → Source → List Joined → List Table
joined_tables tables source joins = filter_map (λ s. slice_get tables s.table.0) (source ∷ map (λ j. j.source) joins)

-- the name of the column at a place among joined tables, behind its table's
abbrev pub name_at : List Table → Place → Option (List ℕ)
name_at joined place =
    option_and_then (λ table. option_map (full_name table.name) (slice_get table.columns place.column.0)) (slice_get joined place.source)

-- the names above the values that are shown
abbrev pub headings : List Table → Shown → List (List ℕ)
headings joined shown.All = flat_map (λ table. map (full_name table.name) table.columns) joined
headings joined (shown.Columns places) = filter_map (name_at joined) places

-- the lists of values that are shown of members; if they are to be distinct, each once, rising
abbrev pub shown_rows : Bool → Shown → List Member → List Row
shown_rows false its members = map (shown_values its) members
shown_rows true its members = distinct_rows (map (shown_values its) members)

-- ---- declared indexes

-- the table with one declared index more, the last, or with one less
abbrev pub with_index : ColumnNumber → IndexKind → Table → Table
with_index column k table = record table { indexes = table.indexes ++ (column.0, k) ∷ [] }

abbrev pub without_index : ColumnNumber → IndexKind → Table → Table
without_index column k table = record table { indexes = filter (λ i. not (is_index column k i)) table.indexes }

-- ---- all commands

-- A table that is declared stands last. An insert adds a row, an update and a delete answer how many rows passed the tests,
-- a load adds rows, all of them or none, and a select, a dump and a listing of the tables change nothing.
abbrev pub done : Limits → Database → Resolved → Effect
done limits tables (resolved.Table name schema) =
    record { database = tables ++ new_table name schema ∷ []; outcome = Done }
done limits tables (resolved.DropTable n) = record { database = remove tables n.0; outcome = Done }
done limits tables (resolved.Index n column k) =
    on_table n tables (λ table. record { database = with_table n (with_index column k table) tables; outcome = Done })
done limits tables (resolved.DropIndex n column k) =
    on_table n tables (λ table. record { database = with_table n (without_index column k table) tables; outcome = Done })
done limits tables (resolved.Insert n row) = insert limits tables n row
done limits tables (resolved.Update n assignments tests) = update tables n assignments (passes_all tests)
done limits tables (resolved.Delete n tests) = delete tables n (passes_all tests)
done limits tables (resolved.Select query) =
    record {
      database = tables;
      outcome = Rows (headings (joined_tables tables query.source query.joins) query.shown) (shown_rows query.distinct query.shown (members_of tables query.source query.joins));
    }
done limits tables (resolved.Load n rows) = load limits tables n rows
done limits tables (resolved.Dump n) = dump limits tables n
done limits tables resolved.Tables = record { database = tables; outcome = Listed tables }
