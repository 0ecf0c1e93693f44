-- What holds of the effect of a command: of each refusal, and of what is done where no check refuses.
use Rattle.std.proofs.Common.{◌≡◌, ◌+◌, ℕ, List, [], ◌∷◌, length, set, false, refl, subst, Some}
use Rattle.std.specs.Prelude.{Result, Ok, Err}
use Rattle.std.specs.List.{AllByRecursion, slice_get}
use Rattle.std.proofs.lemmas.Bool.{cond_both}
use Rattle.plain_tables.specs.CsvReading.{Record}
use Rattle.plain_tables.specs.Tables.{Table, Row}
use Rattle.plain_tables.specs.Databases.{Database}
use Rattle.plain_tables.specs.Effects.{Effect, Check, Outcome, Changed, Refused, refused, checked, grown_by}
use Rattle.plain_tables.specs.Resolving.{resolved_of}
use Rattle.plain_tables.specs.Doing.{on_table, insert_checks, insert, in_record, left_with, goes_on, with_record, loaded, load_effect, load, done}
use Rattle.plain_tables.specs.Commands.{effect_of_resolved, effect_of}
use Rattle.plain_tables.specs.declared.refusal.Refusal.{Refusal}
use Rattle.plain_tables.specs.declared.refusal.Refusal.TheVariants.{NoSuchTable}
use Rattle.plain_tables.specs.declared.numbers.TableNumber.{TableNumber}
use Rattle.plain_tables.specs.declared.command.Limits.{Limits}
use Rattle.plain_tables.specs.declared.command.Command.{Command}
use Rattle.plain_tables.specs.declared.resolved.Resolved.{Resolved}
use Rattle.common_lemmas.proofs.Options.{not_Ok, same_Ok, option_map_or_satisfies}

-- What holds of the refusal of each check, and of the effect where none refuses, holds behind the checks.
pub checked_each : (P : Effect → Type 0) (tables : Database) (checks : List Check) (done : Effect)
    → AllByRecursion (λ c. P (refused tables c.refusal)) checks → (AllByRecursion (λ c. c.refuses ≡ false) checks → P done)
    → P (checked tables checks done)
checked_each P tables [] done old new = new tt
checked_each P tables (c ∷ checks) done old new =
    cond_both c.refuses (refused tables c.refusal) (checked tables checks done) P
    (λ t. old.0) (λ f. checked_each P tables checks done old.1 (λ rest. new (f, rest)))

-- What holds of each refusal, and of the effect where no check refuses, holds behind the checks.
pub checked_satisfies : (P : Effect → Type 0) (tables : Database) (checks : List Check) (done : Effect)
    → ((r : Refusal) → P (refused tables r)) → (AllByRecursion (λ c. c.refuses ≡ false) checks → P done) → P (checked tables checks done)
checked_satisfies P tables [] done old new = new tt
checked_satisfies P tables (c ∷ checks) done old new =
    cond_both c.refuses (refused tables c.refusal) (checked tables checks done) P
    (λ t. old c.refusal) (λ f. checked_satisfies P tables checks done old (λ rest. new (f, rest)))

-- What holds of each refusal, and of the effect where the table is there, holds of a command on a table by its number.
pub of_table_satisfies : (P : Effect → Type 0) (n : TableNumber) (tables : Database) (effect : Table → Effect)
    → ((r : Refusal) → P (refused tables r)) → ((table : Table) → slice_get tables n.0 ≡ Some table → P (effect table))
    → P (on_table n tables effect)
of_table_satisfies P n tables effect old new =
    option_map_or_satisfies P effect (slice_get tables n.0) (refused tables NoSuchTable) (old NoSuchTable) new

-- the same of a command on a table behind checks
pub of_table_checked : (P : Effect → Type 0) (n : TableNumber) (tables : Database) (checks : Table → List Check) (done : Table → Effect)
    → ((r : Refusal) → P (refused tables r))
    → ((table : Table) → slice_get tables n.0 ≡ Some table → AllByRecursion (λ c. c.refuses ≡ false) (checks table) → P (done table))
    → P (on_table n tables (λ table. checked tables (checks table) (done table)))
of_table_checked P n tables checks done old new =
    of_table_satisfies P n tables (λ table. checked tables (checks table) (done table)) old
    (λ table there. checked_satisfies P tables (checks table) (done table) old (new table there))

resolved_satisfies : (P : Effect → Type 0) (limits : Limits) (tables : Database) (found : Result Resolved Refusal)
    → ((why : Refusal) → P (refused tables why)) → ((r : Resolved) → found ≡ Ok r → P (done limits tables r)) → P (effect_of_resolved limits tables found)
resolved_satisfies P limits tables (Ok r) old new = new r refl
resolved_satisfies P limits tables (Err why) old new = old why

-- What holds of each refusal, and of what is done where the command is resolved, holds of its effect.
pub effect_satisfies : (P : Effect → Type 0) (records : List Record) (limits : Limits) (tables : Database) (c : Command)
    → ((why : Refusal) → P (refused tables why)) → ((r : Resolved) → resolved_of records tables c ≡ Ok r → P (done limits tables r))
    → P (effect_of records limits tables c)
effect_satisfies P records limits tables c old new = resolved_satisfies P limits tables (resolved_of records tables c) old new

-- ---- inserts and loads

-- What holds of each refusal, and of the database with the row where no check refuses, holds of an insert.
pub insert_satisfies : (P : Effect → Type 0) (limits : Limits) (tables : Database) (n : TableNumber) (row : Row)
    → ((why : Refusal) → P (refused tables why))
    → ((table : Table) → slice_get tables n.0 ≡ Some table → AllByRecursion (λ c. c.refuses ≡ false)
    (insert_checks limits tables table row)
    → P (record { database = set tables n.0 (grown_by row table); outcome = Changed 1 }))
    → P (insert limits tables n row)
insert_satisfies P limits tables n row old new =
    of_table_checked P n tables (λ table. insert_checks limits tables table row) _ old new

-- a record that isn't refused leaves the database of its effect
pub left_is : (k : ℕ) (tables : Database) (o : Outcome) (new : Database) → left_with k tables o ≡ Ok new → tables ≡ new
left_is k tables (Refused why) new h = absurd (not_Ok (in_record k why) new h)
left_is k tables other new h = same_Ok tables new h

-- where nothing is refused, neither what comes first is nor what comes next
pub goes_on_parts : (next : Database → Result Database Refusal) (found : Result Database Refusal) (new : Database)
    → goes_on next found ≡ Ok new → (first : Database) × (found ≡ Ok first) × (next first ≡ Ok new)
goes_on_parts next (Ok first) new h = (first, refl, h)
goes_on_parts next (Err why) new h = absurd (not_Ok why new h)

-- What each insert keeps, of the rows that are still to come and the database, holds where all rows are in.
pub loaded_satisfies : (P : List Row → Database → Type 0) (limits : Limits) (n : TableNumber)
    → ((row : Row) (rows : List Row) (tables : Database) → P (row ∷ rows) tables → P rows (insert limits tables n row).database)
    → (tables : Database) (k : ℕ) (rows : List Row) (new : Database) → loaded limits tables n k rows ≡ Ok new → P rows tables
    → P [] new
loaded_satisfies P limits n step tables k [] new h here = subst (P []) (same_Ok tables new h) here
loaded_satisfies P limits n step tables k (row ∷ rows) new h here =
    let parts = goes_on_parts (λ d. loaded limits d n (k + 1) rows) (with_record limits tables n k row) new h in
    let e : Effect = insert limits tables n row in
    loaded_satisfies P limits n step parts.0 (k + 1) rows new parts.2
    (subst (P rows) (left_is k e.database e.outcome parts.0 parts.1) (step row rows tables here))

load_effect_satisfies : (P : Effect → Type 0) (tables : Database) (rows : List Row) (found : Result Database Refusal)
    → ((why : Refusal) → P (refused tables why))
    → ((new : Database) → found ≡ Ok new → P (record { database = new; outcome = Changed (length rows) }))
    → P (load_effect tables rows found)
load_effect_satisfies P tables rows (Ok new) old all = all new refl
load_effect_satisfies P tables rows (Err why) old all = old why

-- What holds of each refusal, and of the database with all rows where none is refused, holds of a load.
pub load_satisfies : (P : Effect → Type 0) (limits : Limits) (tables : Database) (n : TableNumber) (rows : List Row)
    → ((why : Refusal) → P (refused tables why))
    → ((new : Database) → loaded limits tables n 1 rows ≡ Ok new → P (record { database = new; outcome = Changed (length rows) }))
    → P (load limits tables n rows)
load_satisfies P limits tables n rows old all = load_effect_satisfies P tables rows (loaded limits tables n 1 rows) old all
