-- Noted: the names and columns of tables that are noted.
use Rattle.std.specs.Prelude.{[], map}
use Rattle.plain_tables.specs.Databases.{Database}
use Rattle.plain_tables.specs.Tables.{Table}
use Rattle.mm_shared.specs.declared.noted.NotedTable.{NotedTable}
use Rattle.mm_shared.specs.declared.noted.NotedTables.{NotedTables}

-- the table of this name and these columns, without declared indexes and rows
abbrev pub noted_table : NotedTable → Table
noted_table t = record { name = t.name; columns = t.columns; indexes = []; rows = [] }

-- the tables that are noted
abbrev pub noted_tables : NotedTables → Database
noted_tables noted = map noted_table noted.tables.items
