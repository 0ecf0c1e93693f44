-- Texts: that runs keep the texts of a database UTF-8, and so what dumps of databases that runs reach give back.
use Rattle.std.specs.Prelude.{◌≡◌, ◌<◌, ℕ, List, [], Bool, length, Some, IsTrue}
use Rattle.std.specs.List.{All, AllZip}
use Rattle.std.specs.Str.{IsUtf8}
use Rattle.plain_tables.specs.Tables.{Table}
use Rattle.plain_tables.specs.Databases.{Database, table_named}
use Rattle.plain_tables.specs.References.{takes_null}
use Rattle.plain_tables.specs.Effects.{Changed, Dumped}
use Rattle.plain_tables.specs.Resolving.{number_of}
use Rattle.plain_tables.specs.Doing.{with_table}
use Rattle.plain_tables.specs.Commands.{effect_of}
use Rattle.plain_tables.specs.declared.value.Value.{Value}
use Rattle.plain_tables.specs.declared.value.Value.TheVariants as value
use Rattle.plain_tables.specs.declared.schema.Column.{Column}
use Rattle.plain_tables.specs.declared.command.Limits.{Limits}
use Rattle.plain_tables.specs.declared.command.Command.TheVariants.{Load, Dump}
use Rattle.mm_csv.specs.BlockReading.{block_records}
use Rattle.plain_streams.specs.Dumps.{AreReadBack, IsEmptyCopy}
use Rattle.plain_streams.specs.Runs.{RunOf}

-- a UTF-8 text, or no text
abbrev pub IsTextUtf8 : Value → Type 0
IsTextUtf8 (value.Text text) = IsUtf8 text
IsTextUtf8 v = Unit {0}

-- each text of each row is UTF-8
abbrev pub HasTextsUtf8 : Table → Type 0
HasTextsUtf8 table = All (All IsTextUtf8) table.rows

-- each text of each row of each table is UTF-8
abbrev pub AreTextsUtf8 : Database → Type 0
AreTextsUtf8 tables = All HasTextsUtf8 tables

-- where null may stand, not the empty text, which is written as null is
abbrev pub IsUnlikeNull : Column → Value → Type 0
IsUnlikeNull column (value.Text text) = IsTrue (takes_null column.kind) → 0 < length text
IsUnlikeNull column v = Unit {0}

-- no text of a table is written as null is
abbrev pub AreUnlikeNull : Table → Type 0
AreUnlikeNull table = All (AllZip IsUnlikeNull table.columns) table.rows

-- ---- laws

-- Where all texts of a database are UTF-8, so are those of every database that a run from it reaches.
abbrev pub TextsStayUtf8 : Type 0
TextsStayUtf8 =
    (limits : Limits) (from : Database) (stream : List ℕ) (finished : Bool) (answers : List ℕ) (after : Database)
    → RunOf limits from stream finished answers after → AreTextsUtf8 from → AreTextsUtf8 after

-- All values of a table are read back from a block, if a run from a database whose texts are UTF-8 reaches the table's, and no
-- text of it is written as null is.
abbrev pub ReachedAreReadBack : Type 0
ReachedAreReadBack =
    (limits : Limits) (from : Database) (stream : List ℕ) (finished : Bool) (answers : List ℕ)
    (tables : Database) (table : Table) (name : List ℕ)
    → AreTextsUtf8 from → RunOf limits from stream finished answers tables
    → table_named name tables ≡ Some table → AreUnlikeNull table → AreReadBack table

-- Where a table of a database that a run from no tables reaches is dumped, and no text of it is written as null is, the block
-- that is answered, loaded into an empty copy of the table, gives the copy the table's rows.
abbrev pub DumpsOfRunsLoadAgain : Type 0
DumpsOfRunsLoadAgain =
    (limits : Limits) (stream : List ℕ) (finished : Bool) (answers : List ℕ) (tables : Database) (table : Table)
    (others : Database) (copy : Table) (name shown block : List ℕ)
    → RunOf limits [] stream finished answers tables → table_named name tables ≡ Some table
    → AreUnlikeNull table → IsEmptyCopy tables table others copy
    → (effect_of [] limits tables (Dump name)).outcome ≡ Dumped shown block
    → effect_of (block_records block) limits others (Load shown (length block))
    ≡ record {
      database = with_table (number_of shown others) (record copy { rows = table.rows }) others;
      outcome = Changed (length table.rows);
    }
