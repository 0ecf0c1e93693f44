-- A select of which a table is not there.
use Rattle.std.proofs.Common.{◌≡◌, ℕ, Bool, true, List, [], not, refl, is_some}
use Rattle.std.specs.Prelude.{Err}
use Rattle.std.specs.List.{list_any}
use Rattle.plain_tables.specs.Databases.{Database, table_named}
use Rattle.plain_tables.specs.Resolving.{resolved_of, select_names}
use Rattle.plain_tables.specs.declared.command.Command.TheVariants as command
use Rattle.plain_tables.specs.declared.command.Items.{Items}
use Rattle.plain_tables.specs.declared.command.Join.{Join}
use Rattle.plain_tables.specs.declared.condition.Cond.{Cond}
use Rattle.plain_tables.specs.declared.refusal.Refusal.TheVariants.{NoSuchTable}

pub table_missed : (tables : Database) (distinct : Bool) (its : Items) (name : List ℕ) (joins : List Join) (conditions : List Cond)
    → list_any (λ n. not (is_some (table_named n tables))) (select_names name joins) ≡ true
    → resolved_of [] tables (command.Select distinct its name joins conditions) ≡ Err NoSuchTable
table_missed tables distinct its name joins conditions missed = rw missed refl
