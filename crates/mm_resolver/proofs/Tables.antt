-- Tables by their names.
use Rattle.std.proofs.Common.{◌≡◌, ℕ, List, Some, None, is_some, sym, ap, ◌∙◌, position, slice_get}
use Rattle.std.specs.Option.{option_map, option_and_then}
use Rattle.std.proofs.lemmas.Option.{same_Some}
use Rattle.common_lemmas.proofs.Options.{is_some-option_map, option_map_some, none_from_is_some}
use Rattle.common_lemmas.proofs.Places.{slice_get-inside}
use Rattle.common_lemmas.proofs.Tests.{position_found}
use Rattle.plain_tables.specs.Tables.{Table}
use Rattle.plain_tables.specs.Databases.{Database, is_named, table_named}
use Rattle.plain_tables.specs.declared.numbers.TableNumber.{TableNumber}
use Rattle.plain_tables.specs.declared.schema.Column.{Column}
use Rattle.plain_tables.specs.References.{key_type, own_type}
use Rattle.mm_resolver.specs.Naming.{IsNamedTableOf, table_number}
use Rattle.mm_resolver.specs.declared.named_table.NamedTable.{NamedTable}
use Rattle.mm_resolver.proofs.Lists.{position_or_len-position, none_found, is_some-found}

module _ (tables : Database) (name : List ℕ) where
  -- the table of that name is there
  pub named_there : (n : ℕ) → position (is_named name) tables ≡ Some n → (table : Table) × (table_named name tables ≡ Some table) × (slice_get tables n ≡ Some table)
  named_there n h =
      let (within, found) = position_found (is_named name) tables n h in
      let (table, at) = slice_get-inside tables n within in
      (table, found ∙ at, at)

  pub is_named_table : (named_table : NamedTable) → option_map table_number (position (is_named name) tables) ≡ Some named_table.table
      → option_map (λ (t : Table). t.name) (slice_get tables named_table.table.0) ≡ Some named_table.name.now
      → option_map (λ (t : Table). t.columns) (slice_get tables named_table.table.0) ≡ Some named_table.columns.now → IsNamedTableOf tables name named_table
  is_named_table named_table h called columns =
      let found = option_map_some table_number (position (is_named name) tables) named_table.table h in
      let there = named_there found.0 found.1 in
      let at : slice_get tables named_table.table.0 ≡ Some there.0 = ap (λ (t : TableNumber). slice_get tables t.0) (sym found.2) ∙ there.2 in
      record {
        table = there.0;
        found = there.1;
        number = ap table_number (position_or_len-position (is_named name) tables found.0 found.1) ∙ found.2;
        called = same_Some there.0.name named_table.name.now (ap (option_map (λ (t : Table). t.name)) (sym at) ∙ called);
        columns = same_Some there.0.columns named_table.columns.now (ap (option_map (λ (t : Table). t.columns)) (sym at) ∙ columns);
        numbered = at;
      }

  pub named_none : option_map table_number (position (is_named name) tables) ≡ None → table_named name tables ≡ None
  named_none h = none_found (is_named name) tables (none_from_is_some (position (is_named name) tables) (sym (is_some-option_map table_number (position (is_named name) tables)) ∙ ap is_some h))

  pub is_named_there : is_some (option_map table_number (position (is_named name) tables)) ≡ is_some (table_named name tables)
  is_named_there = is_some-option_map table_number (position (is_named name) tables) ∙ sym (is_some-found (is_named name) tables)

-- the type of the keys of the table of that name is its first column's
pub key_of : (tables : Database) (name : List ℕ) (table : TableNumber) (columns : List Column) → option_map table_number (position (is_named name) tables) ≡ Some table
    → option_map (λ (t : Table). t.columns) (slice_get tables table.0) ≡ Some columns
    → option_and_then key_type (table_named name tables) ≡ option_and_then (λ c. own_type c.kind) (slice_get columns 0)
key_of tables name table columns h e =
    let found = option_map_some table_number (position (is_named name) tables) table h in
    let there = named_there tables name found.0 found.1 in
    let at : slice_get tables table.0 ≡ Some there.0 = ap (λ (t : TableNumber). slice_get tables t.0) (sym found.2) ∙ there.2 in
    ap (option_and_then key_type) there.1
    ∙ ap (λ cs. option_and_then (λ c. own_type c.kind) (slice_get cs 0)) (same_Some there.0.columns columns (ap (option_map (λ (t : Table). t.columns)) (sym at) ∙ e))
