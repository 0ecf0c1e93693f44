-- Conditions, settings and sources with slots in the place of values, by the places of columns.
use Rattle.std.specs.Prelude.{ℕ, List, [], ◌∷◌, ◌++◌, Bool, false, ◌==◌, map}
use Rattle.std.specs.List.{filter}
use Rattle.std.specs.Option.{option_map_or}
use Rattle.plain_tables.specs.Queries.{JoinedColumn, place_meant}
use Rattle.plain_tables.specs.declared.numbers.Place.{Place}
use Rattle.plain_tables.specs.declared.resolved.Assignment.{Assignment}
use Rattle.plain_tables.specs.declared.resolved.Joined.{Joined}
use Rattle.plain_tables.specs.declared.resolved.Shown.{Shown}
use Rattle.plain_tables.specs.declared.resolved.Source.{Source}
use Rattle.plain_tables.specs.declared.resolved.Test.{Test}
use Rattle.plain_statements.specs.declared.statement.Slot.TheVariants.{Given}
use Rattle.plain_statements.specs.declared.statement.SlotCond.{SlotCond}
use Rattle.plain_statements.specs.declared.statement.SlotSetting.{SlotSetting}
use Rattle.plain_statements.specs.declared.resolution.SlotAssignment.{SlotAssignment}
use Rattle.plain_statements.specs.declared.resolution.SlotJoined.{SlotJoined}
use Rattle.plain_statements.specs.declared.resolution.SlotQuery.{SlotQuery}
use Rattle.plain_statements.specs.declared.resolution.SlotSource.{SlotSource}
use Rattle.plain_statements.specs.declared.resolution.SlotTest.{SlotTest}
use Rattle.plain_statements.specs.Slots.{slot_tests_of}
use Rattle.mm_resolver.specs.declared.scope.Sides.{Sides}
use Rattle.mm_resolver.specs.declared.named_table.NamedTable.{NamedTable}

-- a condition on the column at a place, and a setting of it
abbrev pub slot_test_at : SlotCond → Place → SlotTest
slot_test_at c place = record { column = place.column; op = c.op; slot = c.slot }

abbrev pub slot_assignment_at : SlotSetting → Place → SlotAssignment
slot_assignment_at s place = record { column = place.column; slot = s.slot }

-- a test and an assignment of a value, as those of a slot that is given
abbrev pub given_test : Test → SlotTest
given_test t = record { column = t.column; op = t.op; slot = Given t.value }

abbrev pub given_assignment : Assignment → SlotAssignment
given_assignment a = record { column = a.column; slot = Given a.value }

-- and a source and a join of values as those of slots that are given
abbrev pub given_source : Source → SlotSource
given_source s = record { table = s.table; tests = map given_test s.tests }

abbrev pub given_joined : Joined → SlotJoined
given_joined j = record { source = given_source j.source; outer = j.outer; inner = j.inner }

-- the source of a table that no condition is on
abbrev pub untested_slots : NamedTable → SlotSource
untested_slots table = record { table = table.table; tests = [] }

-- whether a condition is on the table that is joined as the one of this number
abbrev pub is_slot_on_source : List JoinedColumn → ℕ → SlotCond → Bool
is_slot_on_source columns source c = option_map_or (λ place. place.source == source) (place_meant columns c.column) false

-- the source of the table that is joined as the one of a number, with the conditions on it
abbrev pub slot_source_on : List JoinedColumn → List SlotCond → ℕ × NamedTable → SlotSource
slot_source_on columns conditions s =
    record { table = s.1.table; tests = slot_tests_of columns (filter (is_slot_on_source columns s.0) conditions) }

-- a source with one test more
abbrev pub with_slot_test : SlotSource → SlotTest → SlotSource
with_slot_test source test = record { table = source.table; tests = source.tests ++ test ∷ [] }

-- a source that is joined by two columns
abbrev pub slot_joined_by : SlotSource → Sides → SlotJoined
slot_joined_by source sides = record { source = source; outer = sides.outer.place; inner = sides.inner.place.column }

-- a select of these
abbrev pub slot_query : Bool → Shown → SlotSource → List SlotJoined → SlotQuery
slot_query distinct shown source joins = record { distinct = distinct; shown = shown; source = source; joins = joins }
