-- The rows that a select found, kept as references.
use Rattle.std.specs.Prelude.{◌≡◌, List, length, map}
use Rattle.plain_tables.specs.Effects.{Outcome, Rows}
use Rattle.plain_tables.specs.Tables.{Row}
use Rattle.mm_catalog.specs.State.{CatalogState}
use Rattle.mm_session.specs.Shown.{list_values, CanShow}
use Rattle.mm_session.specs.declared.found_rows.FoundRows.{FoundRows}

-- the values of found rows, of the tables that they were found in
abbrev pub values_found : CatalogState → FoundRows → List Row
values_found c found = map (list_values c found.list) found.list.rows

-- The outcome is rows, and these were found: they can be shown of the tables, have as many columns, and the values.
abbrev pub HasFound : Outcome → CatalogState → FoundRows → Type 0
HasFound (Rows names rows) c found = CanShow c found.list × (length found.list.columns ≡ length names) × (values_found c found ≡ rows)
HasFound outcome c found = ⊥
