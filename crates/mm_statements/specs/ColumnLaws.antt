-- The law of columns: those that are told of a statement are the heading of the rows that it shows, whatever is bound.
use Rattle.std.specs.Prelude.{◌≡◌, ℕ, List, Option, length, zip}
use Rattle.std.specs.List.{flat_map}
use Rattle.plain_tables.specs.Effects.{Effect, Rows}
use Rattle.plain_tables.specs.Tables.{Row}
use Rattle.plain_tables.specs.declared.schema.BaseKind.{BaseKind}
use Rattle.plain_tables.specs.declared.value.Value.{Value}
use Rattle.mm_session.specs.ColumnLaws.{name_and_kind}
use Rattle.mm_statements.specs.Databases.{DatabaseState}
use Rattle.mm_statements.specs.Executing.{IsEffectOf, TellsColumns}

-- These columns are told of the statement of a number. Where its effect, with the values that are bound, shows rows, the columns are the
-- names above these, in their order, with a kind each.
abbrev pub StatementsTellTheirHeading : Type 0
StatementsTellTheirHeading =
    (database : DatabaseState) (number : ℕ) (columns : List Value) (effect : Effect) (names : List (List ℕ)) (rows : List Row)
    → TellsColumns database number columns → IsEffectOf database number effect → effect.outcome ≡ Rows names rows
    → (kinds : List (Option BaseKind)) × (length kinds ≡ length names) × (columns ≡ flat_map (λ c. name_and_kind c.0 c.1) (zip names kinds))
