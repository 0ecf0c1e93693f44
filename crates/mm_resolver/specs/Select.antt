-- A select by the numbers of its tables and columns.
use Rattle.std.specs.Prelude.{◌≡◌, ℕ, List, [], ◌∷◌, Err, Bool, false, not, is_some, is_none, ◌||◌, nat_lt, nat_le, length, map}
use Rattle.std.specs.List.{AllZip, filter_map, list_any}
use Rattle.std.specs.Option.{option_map}
use Rattle.plain_tables.specs.Databases.{Database, table_named}
use Rattle.plain_tables.specs.Queries.{JoinedColumn, same_place}
use Rattle.plain_tables.specs.References.{same_type, type_of}
use Rattle.plain_tables.specs.Effects.{Check, repeats}
use Rattle.plain_tables.specs.Resolving.{once, select_names, behind, join_columns, resolved_of}
use Rattle.plain_tables.specs.declared.command.Command.TheVariants as command
use Rattle.plain_tables.specs.declared.command.Items.{Items}
use Rattle.plain_tables.specs.declared.command.Join.{Join}
use Rattle.plain_tables.specs.declared.condition.Cond.{Cond}
use Rattle.plain_tables.specs.declared.numbers.Place.{Place}
use Rattle.plain_tables.specs.declared.refusal.Refusal.{Refusal}
use Rattle.plain_tables.specs.declared.refusal.Refusal.TheVariants.{ColumnNamedTwice, TableNamedTwice, TooMany, WrongType}
use Rattle.plain_tables.specs.declared.resolved.Shown.{Shown}
use Rattle.plain_tables.specs.declared.schema.Column.{Column}
use Rattle.mm_resolver.specs.declared.scope.Sides.{Sides}
use Rattle.mm_resolver.specs.declared.scope.Scope.{Scope}
use Rattle.mm_resolver.specs.Naming.{IsNamedTableOf, placed, as_found, shown_places}

-- ---- the tables and joins

-- the two columns of a join and their places, among joined columns and as they were found
abbrev pub placed_sides : JoinedColumn × JoinedColumn → (Place × Column) × (Place × Column)
placed_sides sides = (placed sides.0, placed sides.1)

abbrev pub sides_found : Sides → (Place × Column) × (Place × Column)
sides_found sides = (as_found sides.outer, as_found sides.inner)

-- What a select names of the table of that name and those that are joined with it, which are all there: the tables, each
-- once, and the columns of each join that names two; and whether a join was missed, as it names no two.
pub record AreJoined (tables : Database) (name : List ℕ) (joins : List Join) (missed : Bool) (scope : Scope) : Type 0 where
  pub there : list_any (λ n. not (is_some (table_named n tables))) (select_names name joins) ≡ false
  pub named : AllZip (IsNamedTableOf tables) (once (select_names name joins)) scope.tables.items
  pub misses : missed ≡ list_any is_none (map (join_columns tables) (behind (name ∷ []) joins))
  pub sides : map sides_found scope.sides.items ≡ filter_map (λ j. option_map placed_sides (join_columns tables j)) (behind (name ∷ []) joins)

-- the scope of a select from these tables, none of whose joins was missed
abbrev pub IsScopeOf : Database → List ℕ → List Join → Scope → Type 0
IsScopeOf tables name joins scope = AreJoined tables name joins false scope

-- a select from these tables is refused so, whatever it shows and whatever its conditions are
abbrev pub RefusesSelects : Database → List ℕ → List Join → Refusal → Type 0
RefusesSelects tables name joins e =
    (distinct : Bool) (its : Items) (conditions : List Cond) → resolved_of [] tables (command.Select distinct its name joins conditions) ≡ Err e

-- ---- checks

-- whether the two columns of a join are of different types
abbrev pub sides_differ : Database → Sides → Bool
sides_differ tables s = not (same_type (type_of tables s.outer.column.now.kind) (type_of tables s.inner.column.now.kind))

-- whether a select names more items, conditions or joins than it may
abbrev pub asks_too_much : Shown → ℕ → ℕ → Bool
asks_too_much shown conditions joins = nat_lt 16 (length (shown_places shown)) || nat_lt 8 conditions || nat_lt 3 joins

-- The checks of what a select shows and of its tables and joins. A table that is named twice stands but once in the scope.
abbrev pub joined_rest : Database → Scope → Shown → List Check
joined_rest tables scope shown =
    let sides = scope.sides.items in
    record { refuses = repeats same_place (shown_places shown); refusal = ColumnNamedTwice }
    ∷ record { refuses = nat_le (length scope.tables.items) (length sides); refusal = TableNamedTwice }
    ∷ record { refuses = list_any (sides_differ tables) sides; refusal = WrongType }
    ∷ []

-- the check of a select that comes behind those of its values
abbrev pub select_late : Shown → ℕ → ℕ → List Check
select_late shown conditions joins = record { refuses = asks_too_much shown conditions joins; refusal = TooMany } ∷ []
