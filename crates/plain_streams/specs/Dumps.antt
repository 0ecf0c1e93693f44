-- Dumps: that what a dump answers, loaded, gives the rows back.
use Rattle.std.specs.Prelude.{◌≡◌, ◌<◌, ◌^◌, ℕ, List, [], Bool, length, Some, IfSome, IsTrue}
use Rattle.std.specs.List.{All, AllZip}
use Rattle.std.specs.Str.{IsUtf8}
use Rattle.plain_tables.specs.AnswerText.{answer_text}
use Rattle.plain_tables.specs.Spelling.{canonical_spelling}
use Rattle.plain_tables.specs.Tables.{Table}
use Rattle.plain_tables.specs.Databases.{Database, table_named}
use Rattle.plain_tables.specs.References.{IsSound, referred, takes_null}
use Rattle.plain_tables.specs.Effects.{Changed, Dumped}
use Rattle.plain_tables.specs.Resolving.{number_of}
use Rattle.plain_tables.specs.Doing.{with_table}
use Rattle.plain_tables.specs.Commands.{effect_of}
use Rattle.plain_tables.specs.ResolvedLaws.{rowless}
use Rattle.plain_tables.specs.declared.value.Value.{Value}
use Rattle.plain_tables.specs.declared.value.Value.TheVariants as value
use Rattle.plain_tables.specs.declared.schema.Column.{Column}
use Rattle.plain_tables.specs.declared.command.Limits.{Limits}
use Rattle.plain_tables.specs.declared.command.Command.TheVariants.{Load, Dump}
use Rattle.mm_csv.specs.BlockReading.{block_records}
use Rattle.plain_streams.specs.Requests.{Request}
use Rattle.plain_streams.specs.Division.{IsWhole, request_bytes}
use Rattle.plain_streams.specs.Runs.{IsEffect, RunOf}

-- A text is read back where it is UTF-8 and, if null may stand in its column, isn't empty: an empty field is null there.
-- Integers and nulls are read back anyway.
abbrev pub IsReadBack : Column → Value → Type 0
IsReadBack column (value.Text text) = IsUtf8 text × (IsTrue (takes_null column.kind) → 0 < length text)
IsReadBack column v = Unit {0}

-- all values of a table are read back
abbrev pub AreReadBack : Table → Type 0
AreReadBack table = All (AllZip IsReadBack table.columns) table.rows

-- The others have an empty copy of a table: one of its name, with its columns and no rows. The tables that it refers to are the
-- same among the others.
pub record IsEmptyCopy (tables : Database) (table : Table) (others : Database) (copy : Table) : Type 0 where
  pub named : table_named table.name others ≡ Some copy
  pub columns : copy.columns ≡ table.columns
  pub empty : copy.rows ≡ []
  pub referred : All (λ c. IfSome (referred c.kind) (λ name. table_named name others ≡ table_named name tables)) table.columns

-- the request that loads a block into the table of that name
abbrev pub load_request : List ℕ → List ℕ → Request
load_request name block = record { line = canonical_spelling (Load name (length block)); block = block }

-- ---- laws

-- Where a table of a sound database is dumped, the block that is answered, loaded into an empty copy of the table, gives the
-- copy the table's rows.
abbrev pub DumpsLoadAgain : Type 0
DumpsLoadAgain =
    (limits : Limits) (tables : Database) (table : Table) (others : Database) (copy : Table) (name shown block : List ℕ)
    → IsSound limits tables → table_named name tables ≡ Some table
    → AreReadBack table → IsEmptyCopy tables table others copy
    → (effect_of [] limits tables (Dump name)).outcome ≡ Dumped shown block
    → effect_of (block_records block) limits others (Load shown (length block))
    ≡ record {
      database = with_table (number_of shown others) (record copy { rows = table.rows }) others;
      outcome = Changed (length table.rows);
    }

-- The block, loaded into the same database without the table's rows, gives that database back.
abbrev pub DumpsRestore : Type 0
DumpsRestore =
    (limits : Limits) (tables : Database) (table : Table) (name shown block : List ℕ)
    → IsSound limits tables → table_named name tables ≡ Some table → AreReadBack table
    → (effect_of [] limits tables (Dump name)).outcome ≡ Dumped shown block
    → effect_of (block_records block) limits (with_table (number_of name tables) (rowless table) tables) (Load shown (length block))
    ≡ record { database = tables; outcome = Changed (length table.rows) }

-- What a dump answers is one whole request, which does the load of the block.
abbrev pub DumpsAreRequests : Type 0
DumpsAreRequests =
    (limits : Limits) (tables : Database) (table : Table) (name shown block : List ℕ)
    → limits.block < 2 ^ 32 → IsSound limits tables → table_named name tables ≡ Some table
    → (effect_of [] limits tables (Dump name)).outcome ≡ Dumped shown block
    → (answer_text (Dumped shown block) ≡ request_bytes (load_request shown block))
    × IsWhole (load_request shown block)
    × ((others : Database)
    → IsEffect limits others (load_request shown block) (effect_of (block_records block) limits others (Load shown (length block))))

-- The answer of a dump, as a stream, runs so from a database that has an empty copy of the table: it is answered by the number
-- of rows, and the copy has them.
abbrev pub DumpsRunAgain : Type 0
DumpsRunAgain =
    (limits : Limits) (tables : Database) (table : Table) (others : Database) (copy : Table) (name shown block : List ℕ) (finished : Bool)
    → limits.block < 2 ^ 32 → IsSound limits tables → table_named name tables ≡ Some table
    → AreReadBack table → IsEmptyCopy tables table others copy
    → (effect_of [] limits tables (Dump name)).outcome ≡ Dumped shown block
    → RunOf limits others (answer_text (Dumped shown block)) finished (answer_text (Changed (length table.rows)))
    (with_table (number_of shown others) (record copy { rows = table.rows }) others)
