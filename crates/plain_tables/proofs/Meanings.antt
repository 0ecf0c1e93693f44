-- Meanings: what holds of the command by numbers that a command is resolved to, if it isn't refused.
use Rattle.std.proofs.Common.{◌≡◌, ◌<◌, ℕ, false, length, List, [], ◌∷◌, refl, sym, ◌∙◌, subst, Some, None}
use Rattle.std.specs.Prelude.{Result, Ok, Err, IfOk}
use Rattle.std.specs.List.{AllByRecursion, slice_get}
use Rattle.std.specs.Option.{option_map_or}
use Rattle.std.proofs.lemmas.Bool.{cond_both}
use Rattle.std.proofs.lemmas.List.Folds.{find_at}
use Rattle.plain_tables.specs.Tables.{Table, Row}
use Rattle.plain_tables.specs.Databases.{Database, is_named, table_named}
use Rattle.plain_tables.specs.Queries.{place_meant}
use Rattle.plain_tables.specs.Effects.{Check}
use Rattle.plain_tables.specs.CsvReading.{Reading, Rows, BadHeader, BadRecord}
use Rattle.plain_tables.specs.Resolving.{meaning, number_of, own_columns, load_of}
use Rattle.plain_tables.specs.declared.refusal.Refusal.{Refusal}
use Rattle.plain_tables.specs.declared.refusal.Refusal.TheVariants.{NoSuchTable, NoSuchColumn}
use Rattle.plain_tables.specs.declared.numbers.Place.{Place}
use Rattle.plain_tables.specs.declared.numbers.TableNumber.{TableNumber}
use Rattle.plain_tables.specs.declared.resolved.Resolved.{Resolved}
use Rattle.plain_tables.specs.declared.resolved.Resolved.TheVariants as resolved
use Rattle.common_lemmas.proofs.Options.{option_map_or_satisfies}
use Rattle.plain_tables.proofs.Columns.{column_within}

-- what it is resolved to satisfies P
pub satisfies : (P : Resolved → Type 0) (found : Result Resolved Refusal) (r : Resolved) → found ≡ Ok r → IfOk found P → P r
satisfies P found r same holds = subst (λ f. IfOk f P) same holds

-- What holds where checks pass holds of what is meant behind them.
pub if_checked : (P : Resolved → Type 0) (checks : List Check) (r : Resolved) → (AllByRecursion (λ c. c.refuses ≡ false) checks → P r)
    → IfOk (meaning checks r) P
if_checked P [] r holds = holds tt
if_checked P (c ∷ checks) r holds =
    cond_both c.refuses (Err c.refusal) (meaning checks r) (λ found. IfOk found P) (λ t. tt)
    (λ f. if_checked P checks r (λ rest. holds (f, rest)))

-- the same of what is meant of the table of a name, of a column of it, and of rows that are read
pub if_numbered : (P : Resolved → Type 0) (name : List ℕ) (tables : Database) (means : Table → Result Resolved Refusal)
    → ((table : Table) → slice_get tables (number_of name tables).0 ≡ Some table → IfOk (means table) P)
    → IfOk (option_map_or means (table_named name tables) (Err NoSuchTable)) P
if_numbered P name tables means each =
    option_map_or_satisfies (λ found. IfOk found P) means (table_named name tables) (Err NoSuchTable) tt
    (λ table there. each table (sym (find_at (is_named name) tables) ∙ there))

pub if_on_column : (P : Resolved → Type 0) (column : List ℕ) (table : Table) (means : Place → Result Resolved Refusal)
    → ((place : Place) → place.column.0 < length table.columns → IfOk (means place) P)
    → IfOk (option_map_or means (place_meant (own_columns table) (record { table = None; column = column })) (Err NoSuchColumn)) P
if_on_column P column table means each =
    option_map_or_satisfies (λ found. IfOk found P) means (place_meant (own_columns table) (record { table = None; column = column }))
    (Err NoSuchColumn) tt
    (λ place there. each place (column_within table (record { table = None; column = column }) place there))

pub if_read : (P : Resolved → Type 0) (n : TableNumber) (reading : Reading)
    → ((rows : List Row) → reading ≡ Rows rows → P (resolved.Load n rows)) → IfOk (load_of n reading) P
if_read P n (Rows rows) holds = holds rows refl
if_read P n BadHeader holds = tt
if_read P n (BadRecord k) holds = tt
