-- Finishing: what a resolved statement is with values in its holes, after the checks that ask about these.
use Rattle.std.specs.Prelude.{List, Bool, true, not, ◌&&◌, map, if◌then◌else◌, Option, Some, None, Result, Ok, Err}
use Rattle.std.specs.List.{list_any}
use Rattle.std.specs.Option.{option_map_or}
use Rattle.plain_tables.specs.Effects.{is_long}
use Rattle.plain_tables.specs.References.{has_type}
use Rattle.plain_tables.specs.declared.value.Value.{Value}
use Rattle.plain_tables.specs.declared.value.Value.TheVariants as value
use Rattle.plain_tables.specs.declared.refusal.Refusal.{Refusal}
use Rattle.plain_tables.specs.declared.refusal.Refusal.TheVariants.{WrongType, TextTooLong}
use Rattle.plain_tables.specs.declared.resolved.Assignment.{Assignment}
use Rattle.plain_tables.specs.declared.resolved.Test.{Test}
use Rattle.plain_tables.specs.declared.resolved.Source.{Source}
use Rattle.plain_tables.specs.declared.resolved.Joined.{Joined}
use Rattle.plain_tables.specs.declared.resolved.Query.{Query}
use Rattle.plain_tables.specs.declared.resolved.Resolved.{Resolved}
use Rattle.plain_tables.specs.declared.resolved.Resolved.TheVariants as resolved
use Rattle.plain_statements.specs.declared.resolution.SlotAssignment.{SlotAssignment}
use Rattle.plain_statements.specs.declared.resolution.SlotTest.{SlotTest}
use Rattle.plain_statements.specs.declared.resolution.SlotSource.{SlotSource}
use Rattle.plain_statements.specs.declared.resolution.SlotJoined.{SlotJoined}
use Rattle.plain_statements.specs.declared.resolution.SlotQuery.{SlotQuery}
use Rattle.plain_statements.specs.declared.resolution.Template.{Template}
use Rattle.plain_statements.specs.declared.resolution.Template.TheVariants as template
use Rattle.plain_statements.specs.declared.resolution.Need.{Need}
use Rattle.plain_statements.specs.declared.resolution.Want.{Want}
use Rattle.plain_statements.specs.declared.resolution.Resolution.{Resolution}
use Rattle.plain_statements.specs.Filling.{hole_value, slot_value}

abbrev pub filled_assignment : List Value → SlotAssignment → Assignment
filled_assignment values a = record { column = a.column; value = slot_value values a.slot }

abbrev pub filled_test : List Value → SlotTest → Test
filled_test values t = record { column = t.column; op = t.op; value = slot_value values t.slot }

abbrev pub filled_source : List Value → SlotSource → Source
filled_source values s = record { table = s.table; tests = map (filled_test values) s.tests }

abbrev pub filled_join : List Value → SlotJoined → Joined
filled_join values j = record { source = filled_source values j.source; outer = j.outer; inner = j.inner }

abbrev pub filled_query : List Value → SlotQuery → Query
filled_query values q =
    record { distinct = q.distinct; shown = q.shown; source = filled_source values q.source; joins = map (filled_join values) q.joins }

-- the resolved command that a template is with these values in its holes
abbrev pub filled_template : List Value → Template → Resolved
filled_template values (template.Insert n slots) = resolved.Insert n (map (slot_value values) slots)
filled_template values (template.Update n assignments tests) =
    resolved.Update n (map (filled_assignment values) assignments) (map (filled_test values) tests)
filled_template values (template.Delete n tests) = resolved.Delete n (map (filled_test values) tests)
filled_template values (template.Select query) = resolved.Select (filled_query values query)

-- whether a value is none that is needed: of another type, or a null where none can stand
abbrev pub is_wrong : Value → Need → Bool
is_wrong value.Null need = not need.null
is_wrong v need = option_map_or (λ b. not (has_type v b)) need.base true

-- whether a value is to be stored, and is too long for it
abbrev pub is_past : Value → Need → Bool
is_past v need = need.stored && is_long v

-- whether the value that comes for a hole is one of which this holds
abbrev pub comes : (Value → Need → Bool) → List Value → Want → Bool
comes test values w = test (hole_value values w.hole) w.need

-- what is done, if nothing refuses it
abbrev pub unless : Option Refusal → Resolved → Result Resolved Refusal
unless (Some why) r = Err why
unless None r = Ok r

-- What is done with these values, or why it is refused: each has to be of its type, then no text that is to be stored too long, and
-- then nothing else may refuse it.
abbrev pub finished : List Value → Resolution → Result Resolved Refusal
finished values r =
    if list_any (comes is_wrong values) r.wants then Err WrongType
    else if list_any (comes is_past values) r.wants then Err TextTooLong
    else unless r.last (filled_template values r.template)
