-- Database: tables in the order of their declaration, and tables by name.
use Rattle.std.specs.Prelude.{ℕ, List, Bool, Option}
use Rattle.std.specs.List.{find}
use Rattle.std.specs.Str.{bytes_eq}
use Rattle.plain_tables.specs.Tables.{Table}

abbrev pub Database : Type 0
Database = List Table

-- whether a table has that name
abbrev pub is_named : List ℕ → Table → Bool
is_named name table = bytes_eq table.name name

-- the table of that name, if there is one
abbrev pub table_named : List ℕ → Database → Option Table
table_named name tables = find (is_named name) tables
