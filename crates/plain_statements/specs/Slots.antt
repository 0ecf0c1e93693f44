-- Slots: what conditions and settings are by numbers, with slots in the place of values, and what is asked of these values.
use Rattle.std.specs.Prelude.{List, [], ◌∷◌, Bool, true, false, not, ◌&&◌, map, if◌then◌else◌, Option, Some, None, Result, Ok, Err, zip}
use Rattle.std.specs.List.{filter_map, list_any}
use Rattle.std.specs.Option.{option_map}
use Rattle.plain_tables.specs.Databases.{Database}
use Rattle.plain_tables.specs.Effects.{Check}
use Rattle.plain_tables.specs.Queries.{JoinedColumn, column_meant, place_meant}
use Rattle.plain_tables.specs.References.{takes_null, type_of}
use Rattle.plain_tables.specs.Resolving.{asks_order}
use Rattle.plain_tables.specs.declared.value.Value.{Value}
use Rattle.plain_tables.specs.declared.condition.ColName.{ColName}
use Rattle.plain_tables.specs.declared.condition.Op.{Op}
use Rattle.plain_tables.specs.declared.refusal.Refusal.{Refusal}
use Rattle.plain_tables.specs.declared.refusal.Refusal.TheVariants.{WrongType, TextTooLong}
use Rattle.plain_tables.specs.declared.schema.ColKind.{ColKind}
use Rattle.plain_tables.specs.declared.schema.Column.{Column}
use Rattle.plain_statements.specs.declared.statement.Slot.{Slot}
use Rattle.plain_statements.specs.declared.statement.Slot.TheVariants.{Given, Hole}
use Rattle.plain_statements.specs.declared.statement.SlotSetting.{SlotSetting}
use Rattle.plain_statements.specs.declared.statement.SlotCond.{SlotCond}
use Rattle.plain_statements.specs.declared.resolution.Need.{Need}
use Rattle.plain_statements.specs.declared.resolution.SlotAssignment.{SlotAssignment}
use Rattle.plain_statements.specs.declared.resolution.SlotTest.{SlotTest}
use Rattle.plain_statements.specs.declared.resolution.Resolution.{Resolution}
use Rattle.plain_statements.specs.declared.resolution.Template.{Template}
use Rattle.plain_statements.specs.declared.resolution.Want.{Want}
use Rattle.plain_statements.specs.Finishing.{is_wrong, is_past}

-- ---- conditions and settings by numbers

-- a setting is of a column that no table's name stands before
abbrev pub slot_setting_name : SlotSetting → ColName
slot_setting_name s = record { table = None; column = s.column }

-- the columns that conditions name
abbrev pub slot_condition_names : List SlotCond → List ColName
slot_condition_names conditions = map (λ c. c.column) conditions

-- The tests that conditions are, and the assignments that settings are. A name that means no column is left out.
abbrev pub slot_tests_of : List JoinedColumn → List SlotCond → List SlotTest
slot_tests_of columns conditions =
    filter_map (λ c. option_map (λ place. record { column = place.column; op = c.op; slot = c.slot }) (place_meant columns c.column)) conditions

abbrev pub slot_assignments_of : List JoinedColumn → List SlotSetting → List SlotAssignment
slot_assignments_of columns settings =
    filter_map (λ s. option_map (λ place. record { column = place.column; slot = s.slot }) (place_meant columns (slot_setting_name s))) settings

-- ---- what is asked of values

-- what a value has to be that is to be stored in a column of this kind
abbrev pub stored_need : Database → ColKind → Need
stored_need tables k = record { base = type_of tables k; null = takes_null k; stored = true }

-- and what it has to be where the values of such a column are compared with it
abbrev pub compared_need : Database → ColKind → Op → Need
compared_need tables k o = record { base = type_of tables k; null = takes_null k && not (asks_order o); stored = false }

-- a slot, and what its value has to be
abbrev pub Needed : Type 0
Needed = Slot × Need

-- what is asked of the values of a row, of settings, and of conditions; a name that means no column asks nothing
abbrev pub row_needs : Database → List Column → List Slot → List Needed
row_needs tables columns slots = map (λ c. (c.1, stored_need tables c.0.kind)) (zip columns slots)

abbrev pub setting_needs : Database → List JoinedColumn → List SlotSetting → List Needed
setting_needs tables columns settings =
    filter_map (λ s. option_map (λ joined. (s.slot, stored_need tables joined.column.kind)) (column_meant columns (slot_setting_name s))) settings

abbrev pub condition_needs : Database → List JoinedColumn → List SlotCond → List Needed
condition_needs tables columns conditions =
    filter_map (λ c. option_map (λ joined. (c.slot, compared_need tables joined.column.kind c.op)) (column_meant columns c.column)) conditions

-- ---- given values, and those to come

-- whether a given value is one of which this holds
abbrev pub is_given : (Value → Need → Bool) → Needed → Bool
is_given test (Given v, need) = test v need
is_given test (Hole n, need) = false

-- what is wanted of a value to come
abbrev pub want_of : Needed → Option Want
want_of (Given v, need) = None
want_of (Hole n, need) = Some (record { hole = n; need = need })

abbrev pub wants_of : List Needed → List Want
wants_of needs = filter_map want_of needs

-- ---- checks that need no value

-- the refusal of the first check that refuses
abbrev pub first_refusal : List Check → Option Refusal
first_refusal [] = None
first_refusal (check ∷ checks) = if check.refuses then Some check.refusal else first_refusal checks

-- ---- what a statement means whose names are found

-- The resolution by what is asked of the values, the checks that come last, and what is done: a given text that is too long is told
-- after the values to come, and before those checks.
abbrev pub resolution_with : List Needed → List Check → Template → Resolution
resolution_with needs late t = record {
  wants = wants_of needs;
  last = first_refusal (record { refuses = list_any (is_given is_past) needs; refusal = TextTooLong } ∷ late);
  template = t;
}

-- a given value that is wrong refuses the statement whatever comes for its holes
abbrev pub opened : List Needed → List Check → Template → Result Resolution Refusal
opened needs late t = if list_any (is_given is_wrong) needs then Err WrongType else Ok (resolution_with needs late t)
