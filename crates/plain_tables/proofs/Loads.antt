-- Loads: that they go on from a load of the first rows, and what they answer.
use Rattle.std.proofs.Common.{◌≡◌, ◌+◌, ◌<◌, ◌≤◌, ℕ, suc, set, length, arith, List, [], ◌∷◌, ◌++◌, refl, sym, ap, subst}
use Rattle.std.specs.Prelude.{Result, Ok, Err}
use Rattle.std.specs.List.{Contains, slice_get}
use Rattle.std.specs.Option.{option_map_or}
use Rattle.std.proofs.lemmas.Option.{slice_get_within}
use Rattle.plain_tables.specs.Tables.{Table, Row}
use Rattle.plain_tables.specs.Databases.{Database}
use Rattle.plain_tables.specs.Effects.{Effect, Changed, refused, checked, grown_by}
use Rattle.plain_tables.specs.Doing.{insert_checks, left_with, goes_on, with_record, loaded, load_effect}
use Rattle.plain_tables.specs.ResolvedLaws.{OfTable, LoadGoesOn, record_refusals, IsLoad, all_rows, no_row, LoadsAreTold}
use Rattle.plain_tables.specs.declared.refusal.Refusal.{Refusal}
use Rattle.plain_tables.specs.declared.refusal.Refusal.TheVariants.{NoSuchTable}
use Rattle.plain_tables.specs.declared.command.Limits.{Limits}
use Rattle.plain_tables.specs.declared.numbers.TableNumber.{TableNumber}
use Rattle.plain_tables.proofs.Effects.{checked_each}
use Rattle.common_lemmas.proofs.Places.{slice_get_set}

-- ---- more rows

goes_on_twice : (found : Result Database Refusal) (f g h : Database → Result Database Refusal)
    → ((d : Database) → f d ≡ goes_on h (g d))
    → goes_on f found ≡ goes_on h (goes_on g found)
goes_on_twice (Ok d) f g h same = same d
goes_on_twice (Err why) f g h same = refl

pub load_goes_on : LoadGoesOn
load_goes_on limits tables n k [] more = let same : k + 0 ≡ k = omega arith in rw same refl
load_goes_on limits tables n k (row ∷ rows) more =
    let number : k + suc (length rows) ≡ k + 1 + length rows = omega arith in
    rw number
    (goes_on_twice (with_record limits tables n k row) (λ d. loaded limits d n (k + 1) (rows ++ more))
    (λ d. loaded limits d n (k + 1) rows)
    (λ d. loaded limits d n (k + 1 + length rows) more) (λ d. load_goes_on limits d n (k + 1) rows more))

-- ---- what is told

-- the table of a number is there
abbrev IsThere : TableNumber → Database → Type 0
IsThere n tables = OfTable n tables (λ table. Unit {0})

-- of so many rows, the first as this record: the table is still there, or one of them is refused
abbrev IsTold : TableNumber → ℕ → ℕ → Result Database Refusal → Type 0
IsTold n k count (Ok d) = IsThere n d
IsTold n k count (Err why) = (j : ℕ) × (k ≤ j) × (j < k + count) × Contains (record_refusals j) why

record_told : (limits : Limits) (tables : Database) (n : TableNumber) (k : ℕ) (row : Row) → IsThere n tables
    → IsTold n k 1 (with_record limits tables n k row)
record_told limits tables n k row (table, there, t) =
    let effect : Table → Effect = λ u. checked tables (insert_checks limits tables u row)
    (record { database = set tables n.0 (grown_by row u); outcome = Changed 1 }) in
    let told : Effect → Type 0 = λ e. IsTold n k 1 (left_with k e.database e.outcome) in
    let here : option_map_or effect (slice_get tables n.0) (refused tables NoSuchTable) ≡ effect table =
    ap (λ found. option_map_or effect found (refused tables NoSuchTable)) there in
    subst told (sym here)
    (checked_each told tables (insert_checks limits tables table row)
    (record { database = set tables n.0 (grown_by row table); outcome = Changed 1 }) (
      (k, omega arith, omega arith, (0, omega arith, refl)),
      ((k, omega arith, omega arith, (1, omega arith, refl)), ((k, omega arith, omega arith, (2, omega arith, refl)), tt)),
    )
    (λ passed. (grown_by row table, slice_get_set tables n.0 (grown_by row table) (slice_get_within tables n.0 table there), tt)))

told_later : (n : TableNumber) (k count : ℕ) (found : Result Database Refusal) → IsTold n (k + 1) count found
    → IsTold n k (suc count) found
told_later n k count (Ok d) told = told
told_later n k count (Err why) (j, from, below, is) = (j, omega arith, omega arith, is)

goes_on_told : (n : TableNumber) (k count : ℕ) (next : Database → Result Database Refusal) (found : Result Database Refusal)
    → IsTold n k 1 found
    → ((d : Database) → IsThere n d → IsTold n (k + 1) count (next d)) → IsTold n k (suc count) (goes_on next found)
goes_on_told n k count next (Ok d) there later = told_later n k count (next d) (later d there)
goes_on_told n k count next (Err why) (j, from, below, is) later = (j, from, omega arith, is)

loaded_told : (limits : Limits) (tables : Database) (n : TableNumber) (k : ℕ) (rows : List Row) → IsThere n tables
    → IsTold n k (length rows) (loaded limits tables n k rows)
loaded_told limits tables n k [] there = there
loaded_told limits tables n k (row ∷ rows) there =
    goes_on_told n k (length rows) (λ d. loaded limits d n (k + 1) rows) (with_record limits tables n k row)
    (record_told limits tables n k row there)
    (λ d here. loaded_told limits d n (k + 1) rows here)

effect_told : (tables : Database) (n : TableNumber) (rows : List Row) (found : Result Database Refusal)
    → IsTold n 1 (length rows) found
    → IsLoad tables rows (load_effect tables rows found)
effect_told tables n rows (Ok new) told = all_rows new
effect_told tables n rows (Err why) (k, from, below, is) = no_row k why from (omega arith) is

pub loads_are_told : LoadsAreTold
loads_are_told limits tables n rows there =
    effect_told tables n rows (loaded limits tables n 1 rows) (loaded_told limits tables n 1 rows there)
