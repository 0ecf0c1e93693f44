-- What a command means once the names in it are found and its checks are made.
use Rattle.std.proofs.Common.{◌≡◌, ◌<◌, ℕ, Bool, true, false, cond, List, [], ◌∷◌, ◌++◌, Some, None, length, map, refl, sym, ap, ◌∙◌}
use Rattle.std.specs.Prelude.{Result, Ok, Err, not, ◌||◌, slice_get}
use Rattle.std.specs.List.{list_any, enumerate_from}
use Rattle.std.specs.Option.{option_map, option_map_or}
use Rattle.std.proofs.lemmas.List.Folds.{list_any-append}
use Rattle.std.proofs.lemmas.Option.{same_Some, slice_get_within}
use Rattle.plain_tables.specs.Tables.{Table}
use Rattle.plain_tables.specs.Databases.{Database, table_named}
use Rattle.plain_tables.specs.Queries.{JoinedColumn, column_number, place_meant}
use Rattle.plain_tables.specs.Effects.{Check, misses}
use Rattle.plain_tables.specs.Resolving.{meaning, on_column, index_checks, drop_index_checks, number_of, own_columns, resolved_of}
use Rattle.plain_tables.specs.References.{all_indexes, is_index}
use Rattle.plain_tables.specs.declared.schema.Column.{Column}
use Rattle.plain_tables.specs.declared.schema.IndexKind.{IndexKind}
use Rattle.plain_tables.specs.declared.schema.IndexKind.TheVariants as index
use Rattle.plain_tables.specs.declared.condition.ColName.{ColName}
use Rattle.plain_tables.specs.declared.command.Command.TheVariants as command
use Rattle.plain_tables.specs.declared.numbers.ColumnNumber.{ColumnNumber}
use Rattle.plain_tables.specs.declared.numbers.Place.{Place}
use Rattle.plain_tables.specs.declared.numbers.TableNumber.{TableNumber}
use Rattle.plain_tables.specs.declared.refusal.Refusal.{Refusal}
use Rattle.plain_tables.specs.declared.refusal.Refusal.TheVariants.{NoSuchTable, NoSuchColumn, NoSuchIndex, IndexExists}
use Rattle.plain_tables.specs.declared.resolved.Resolved.{Resolved}
use Rattle.plain_tables.specs.declared.resolved.Resolved.TheVariants as resolved
use Rattle.mm_resolver.specs.declared.named_table.NamedTable.{NamedTable}
use Rattle.mm_resolver.specs.Naming.{IsNamedTableOf, bare, columns_of, own_place}
use Rattle.mm_resolver.specs.Checks.{verdict}

-- ---- checks

-- what comes of checks: the refusal of the first that refuses, or else what is behind them
abbrev pub unless_refused : {X : Type 0} → Result (Unit {0}) Refusal → Result X Refusal → Result X Refusal
unless_refused (Ok passed) m = m
unless_refused (Err e) m = Err e

pub meaning-is : (checks : List Check) (r : Resolved) → meaning checks r ≡ unless_refused (verdict checks) (Ok r)
meaning-is [] r = refl
meaning-is (check ∷ checks) r =
    elim (check.refuses) as (λ b. cond b (Err check.refusal) (meaning checks r) ≡ unless_refused (cond b (Err check.refusal) (verdict checks)) (Ok r)) [
      | true ↦ refl
      | false ↦ meaning-is checks r
    ]

-- ---- names

misses-append : (columns : List JoinedColumn) (names others : List ColName) → misses columns (names ++ others) ≡ (misses columns names || misses columns others)
misses-append columns names others = list_any-append _ names others

-- one that is missed is missed among more
pub first_missed : (columns : List JoinedColumn) (names others : List ColName) → misses columns names ≡ true → misses columns (names ++ others) ≡ true
first_missed columns names others h = misses-append columns names others ∙ ap (λ b. b || misses columns others) h

pub rest_missed : (columns : List JoinedColumn) (names others : List ColName) (b : Bool) → misses columns names ≡ false → misses columns others ≡ b → misses columns (names ++ others) ≡ b
rest_missed columns names others b h rest = misses-append columns names others ∙ ap (λ a. a || misses columns others) h ∙ rest

-- ---- commands on one table

module _ (tables : Database) (name : List ℕ) (named_table : NamedTable) (h : IsNamedTableOf tables name named_table) where
  pub on_table : {X : Type 0} (means : TableNumber → Table → X) (none : X)
      → option_map_or (means (number_of name tables)) (table_named name tables) none ≡ means named_table.table h.table
  on_table means none = ap (λ o. option_map_or (means (number_of name tables)) o none) h.found ∙ ap (λ n. means n h.table) h.number

  pub own_columns-are : own_columns h.table ≡ columns_of named_table
  own_columns-are =
      let own : List ℕ → List Column → List JoinedColumn =
      λ name columns. map (λ c. record { table = name; place = own_place (column_number c.0); column = c.1 }) (enumerate_from 0 columns) ++ [] in
      ap (λ name. own name h.table.columns) h.called ∙ ap (own named_table.name.now) h.columns

  abbrev columns : List JoinedColumn
  columns = columns_of named_table

  -- ---- index and drop index

  pub named_within : named_table.table.0 < length tables
  named_within = slice_get_within tables named_table.table.0 h.table h.numbered

  module _ (column : List ℕ) (k : IndexKind) where
    abbrev index_on : List (ℕ × IndexKind) → Place → Result Resolved Refusal
    index_on own place =
        meaning (record { refuses = list_any (is_index place.column k) ((0, index.Tree) ∷ own); refusal = IndexExists } ∷ []) (resolved.Index named_table.table place.column k)

    abbrev drop_index_on : List (ℕ × IndexKind) → Place → Result Resolved Refusal
    drop_index_on own place =
        meaning (record { refuses = not (list_any (is_index place.column k) own); refusal = NoSuchIndex } ∷ []) (resolved.DropIndex named_table.table place.column k)

    pub index_is : resolved_of [] tables (command.Index name column k) ≡ option_map_or (index_on h.table.indexes) (place_meant columns (bare column)) (Err NoSuchColumn)
    index_is =
        on_table (λ n table. on_column column table (λ c. meaning (index_checks table c k) (resolved.Index n c k))) (Err NoSuchTable)
        ∙ ap (λ cs. option_map_or (index_on h.table.indexes) (place_meant cs (bare column)) (Err NoSuchColumn)) own_columns-are

    pub drop_index_is : resolved_of [] tables (command.DropIndex name column k) ≡ option_map_or (drop_index_on h.table.indexes) (place_meant columns (bare column)) (Err NoSuchColumn)
    drop_index_is =
        on_table (λ n table. on_column column table (λ c. meaning (drop_index_checks table c k) (resolved.DropIndex n c k))) (Err NoSuchTable)
        ∙ ap (λ cs. option_map_or (drop_index_on h.table.indexes) (place_meant cs (bare column)) (Err NoSuchColumn)) own_columns-are

    -- no such column
    pub index_missed : place_meant columns (bare column) ≡ None → resolved_of [] tables (command.Index name column k) ≡ Err NoSuchColumn
    index_missed none = index_is ∙ ap (λ o. option_map_or (index_on h.table.indexes) o (Err NoSuchColumn)) none

    pub drop_index_missed : place_meant columns (bare column) ≡ None → resolved_of [] tables (command.DropIndex name column k) ≡ Err NoSuchColumn
    drop_index_missed none = drop_index_is ∙ ap (λ o. option_map_or (drop_index_on h.table.indexes) o (Err NoSuchColumn)) none

    -- what the table of the number tells, the table of the name tells
    told : (test : Table → Bool) (b : Bool) → option_map test (slice_get tables named_table.table.0) ≡ Some b → test h.table ≡ b
    told test b is = same_Some (test h.table) b (ap (option_map test) (sym h.numbered) ∙ is)

    module _ (c : ColumnNumber) (found : place_meant columns (bare column) ≡ Some (own_place c)) (b : Bool) where
      pub index_found : option_map (λ (t : Table). list_any (is_index c k) (all_indexes t)) (slice_get tables named_table.table.0) ≡ Some b
          → resolved_of [] tables (command.Index name column k) ≡ cond b (Err IndexExists) (Ok (resolved.Index named_table.table c k))
      index_found is =
          index_is ∙ ap (λ o. option_map_or (index_on h.table.indexes) o (Err NoSuchColumn)) found
          ∙ ap (λ x. cond x (Err IndexExists) (Ok (resolved.Index named_table.table c k))) (told (λ t. list_any (is_index c k) (all_indexes t)) b is)

      pub drop_index_found : option_map (λ (t : Table). list_any (is_index c k) t.indexes) (slice_get tables named_table.table.0) ≡ Some b
          → resolved_of [] tables (command.DropIndex name column k) ≡ cond (not b) (Err NoSuchIndex) (Ok (resolved.DropIndex named_table.table c k))
      drop_index_found is =
          drop_index_is ∙ ap (λ o. option_map_or (drop_index_on h.table.indexes) o (Err NoSuchColumn)) found
          ∙ ap (λ x. cond (not x) (Err NoSuchIndex) (Ok (resolved.DropIndex named_table.table c k))) (told (λ t. list_any (is_index c k) t.indexes) b is)
