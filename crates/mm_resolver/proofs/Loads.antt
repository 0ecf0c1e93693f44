-- A block that is read into rows, as a load of them.
use Rattle.std.proofs.Common.{◌≡◌, ℕ, ◌<◌, List, Some, None, IsSome, sym, ap, ◌∙◌, subst, length}
use Rattle.std.specs.Prelude.{position, slice_get, Result, Err}
use Rattle.std.specs.List.{All, position_or_len}
use Rattle.std.proofs.lemmas.Option.{same_Some}
use Rattle.std.specs.Option.{option_map, option_map_or}
use Rattle.common_lemmas.proofs.Places.{slice_get-inside}
use Rattle.common_lemmas.proofs.Options.{option_map_some}
use Rattle.common_lemmas.proofs.Tests.{position_found}
use Rattle.plain_tables.specs.CsvReading.{Record, Reading, BadHeader, records_reading}
use Rattle.plain_tables.specs.Databases.{Database, is_named}
use Rattle.plain_tables.specs.References.{IsSound}
use Rattle.plain_tables.specs.Resolving.{block_column, block_columns, load_of, on_numbered, resolved_of, table_reading}
use Rattle.plain_tables.specs.Tables.{Table}
use Rattle.plain_tables.specs.declared.command.Command.TheVariants as command
use Rattle.plain_tables.specs.declared.command.Limits.{Limits}
use Rattle.plain_tables.specs.declared.numbers.TableNumber.{TableNumber}
use Rattle.plain_tables.specs.declared.refusal.Refusal.{Refusal}
use Rattle.plain_tables.specs.declared.refusal.Refusal.TheVariants.{NoSuchTable}
use Rattle.plain_tables.specs.declared.resolved.Resolved.{Resolved}
use Rattle.plain_tables.specs.declared.schema.Column.{Column}
use Rattle.mm_csv.specs.BlockReading.{columns_of}
use Rattle.mm_csv.specs.declared.field.Field.{Field}
use Rattle.plain_tables.proofs.ColumnTypes.{table-typed}
use Rattle.mm_resolver.specs.Naming.{table_number}
use Rattle.mm_resolver.proofs.Lists.{position_or_len-position}
use Rattle.mm_resolver.proofs.BlockColumns.{each_there}
use Rattle.mm_resolver.proofs.Tables.{named_none, named_there}

-- ---- the table of a name

module _ (tables : Database) (name : List ℕ) where
  pub table_within : (table : TableNumber) → option_map table_number (position (is_named name) tables) ≡ Some table → table.0 < length tables
  table_within table found =
      let (n, there, is) = option_map_some table_number (position (is_named name) tables) table found in
      subst (λ (t : TableNumber). t.0 < length tables) is (position_found (is_named name) tables n there).0

  -- a command on a table that is there is one on the table of its number
  numbered : (means : TableNumber → Table → Result Resolved Refusal) (table : TableNumber) → option_map table_number (position (is_named name) tables) ≡ Some table
      → (t : Table) × (slice_get tables table.0 ≡ Some t) × (on_numbered name tables means ≡ means table t)
  numbered means table found =
      let (n, there, is) = option_map_some table_number (position (is_named name) tables) table found in
      let (t, here, at) = named_there tables name n there in (
        t,
        subst (λ (u : TableNumber). slice_get tables u.0 ≡ Some t) is at,
        ap (λ o. option_map_or (means (record { 0 = position_or_len (is_named name) tables })) o (Err NoSuchTable)) here
            ∙ ap (λ k. means (record { 0 = k }) t) (position_or_len-position (is_named name) tables n there)
            ∙ ap (λ u. means u t) is,
      )

  module _ (records : List Record) (bytes : ℕ) where
    -- a load into no table
    pub load_nowhere : option_map table_number (position (is_named name) tables) ≡ None → resolved_of records tables (command.Load name bytes) ≡ Err NoSuchTable
    load_nowhere missing =
        let means : Table → Result Resolved Refusal = λ u. load_of (record { 0 = position_or_len (is_named name) tables }) (table_reading tables u records) in
        ap (λ o. option_map_or means o (Err NoSuchTable)) (named_none tables name missing)

    -- a load of what a block is read as, by the fields of its table
    pub load_meant : (table : TableNumber) (fields lent : List Field) (reading : Reading) → option_map table_number (position (is_named name) tables) ≡ Some table
        → ((t : Table) → slice_get tables table.0 ≡ Some t → block_columns tables t ≡ Some (columns_of fields)) → lent ≡ fields
        → records_reading (columns_of lent) records ≡ reading → resolved_of records tables (command.Load name bytes) ≡ load_of table reading
    load_meant table fields lent reading found layout same read =
        let (t, at, is) = numbered (λ n u. load_of n (table_reading tables u records)) table found in
        is ∙ ap (λ o. load_of table (option_map_or (λ columns. records_reading columns records) o BadHeader)) (layout t at ∙ ap (λ (fs : List Field). Some (columns_of fs)) (sym same))
        ∙ ap (load_of table) read

-- ---- the columns of a table

-- each column of a table has a type
pub columns_typed : (limits : Limits) (tables : Database) → IsSound limits tables → (n : ℕ) (columns : List Column) → n < length tables
    → option_map (λ (t : Table). t.columns) (slice_get tables n) ≡ Some columns → All (λ column. IsSome (block_column tables column)) columns
columns_typed limits tables sound n columns within told =
    let (t, at) = slice_get-inside tables n within in
    let (blocks, all) = table-typed limits tables n t sound at in
    let same : t.columns ≡ columns = same_Some t.columns columns (sym (ap (option_map (λ (u : Table). u.columns)) at) ∙ told) in
    subst (All (λ column. IsSome (block_column tables column))) same (each_there (block_column tables) t.columns blocks all)
