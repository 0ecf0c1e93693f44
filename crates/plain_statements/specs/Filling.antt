-- Filling: what a statement is with values in its holes.
use Rattle.std.specs.Prelude.{ℕ, List, map, slice_index_or}
use Rattle.plain_tables.specs.declared.value.Value.{Value}
use Rattle.plain_tables.specs.declared.value.Value.TheVariants as value
use Rattle.plain_tables.specs.declared.condition.Cond.{Cond}
use Rattle.plain_tables.specs.declared.command.Setting.{Setting}
use Rattle.plain_tables.specs.declared.command.Command.{Command}
use Rattle.plain_tables.specs.declared.command.Command.TheVariants as command
use Rattle.plain_statements.specs.declared.statement.Slot.{Slot}
use Rattle.plain_statements.specs.declared.statement.Slot.TheVariants.{Given, Hole}
use Rattle.plain_statements.specs.declared.statement.SlotSetting.{SlotSetting}
use Rattle.plain_statements.specs.declared.statement.SlotCond.{SlotCond}
use Rattle.plain_statements.specs.declared.statement.Statement.{Statement}
use Rattle.plain_statements.specs.declared.statement.Statement.TheVariants as statement

-- The value for the hole of a number. A hole behind the values, of which a call has as many as there are holes, would be null.
abbrev pub hole_value : List Value → ℕ → Value
hole_value values n = slice_index_or values n value.Null

-- the value of a slot: the one that is given, or that of the hole's number
abbrev pub slot_value : List Value → Slot → Value
slot_value values (Given v) = v
slot_value values (Hole n) = hole_value values n

abbrev pub filled_setting : List Value → SlotSetting → Setting
filled_setting values s = record { column = s.column; value = slot_value values s.slot }

abbrev pub filled_condition : List Value → SlotCond → Cond
filled_condition values c = record { column = c.column; op = c.op; value = slot_value values c.slot }

-- the command that a statement is with these values in its holes
abbrev pub filled : List Value → Statement → Command
filled values (statement.Insert table slots) = command.Insert table (map (slot_value values) slots)
filled values (statement.Update table settings conditions) =
    command.Update table (map (filled_setting values) settings) (map (filled_condition values) conditions)
filled values (statement.Delete table conditions) = command.Delete table (map (filled_condition values) conditions)
filled values (statement.Select distinct items table joins conditions) =
    command.Select distinct items table joins (map (filled_condition values) conditions)
