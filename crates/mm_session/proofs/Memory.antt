-- What a delete is refused for: never because memory ran out.
use Rattle.std.proofs.Common.{◌≢◌, Bool, true, false, Option, Some, None, cond, length}
use Rattle.std.specs.List.{list_any, slice_get}
use Rattle.std.specs.Option.{option_map_or}
use Rattle.plain_tables.specs.Databases.{Database}
use Rattle.plain_tables.specs.Doing.{delete, delete_checks, picked, with_table, without}
use Rattle.plain_tables.specs.Effects.{Changed, Effect, Outcome, Refused, checked, refused}
use Rattle.plain_tables.specs.References.{is_referenced}
use Rattle.plain_tables.specs.Tables.{Row, Table}
use Rattle.plain_tables.specs.declared.numbers.TableNumber.{TableNumber}
use Rattle.plain_tables.specs.declared.refusal.Refusal.TheVariants.{NoMemory, NoSuchTable, RowIsReferenced}

module _ (tables : Database) (n : TableNumber) (picks : Row → Bool) where
  checked_so : (b : Bool) (e : Effect) → e.outcome ≢ Refused NoMemory → (cond b (refused tables RowIsReferenced) e).outcome ≢ Refused NoMemory
  checked_so true e other is = cc
  checked_so false e other is = other is

  done_so : (rows : Database) (k : Outcome) → k ≢ Refused NoMemory → (table : Table) → (checked tables (delete_checks tables table picks) (record { database = rows; outcome = k })).outcome ≢ Refused NoMemory
  done_so rows k other table = checked_so (list_any (is_referenced tables table.name) (picked picks table)) (record { database = rows; outcome = k }) other

  found_so : (found : Option Table)
      → (option_map_or (λ table. checked tables (delete_checks tables table picks) (record { database = with_table n (without picks table) tables; outcome = Changed (length (picked picks table)) })) found (refused tables NoSuchTable)).outcome ≢ Refused NoMemory
  found_so None is = cc
  found_so (Some table) is = done_so (with_table n (without picks table) tables) (Changed (length (picked picks table))) (λ h. cc) table is

  pub delete_finds_memory : (delete tables n picks).outcome ≢ Refused NoMemory
  delete_finds_memory = found_so (slice_get tables n.0)
