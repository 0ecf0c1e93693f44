-- Faults: what a refusal is among the faults of preparing, and a fault of cells, of a select, of a change or of a begin among those of
-- executing and of querying.
use Rattle.plain_tables.specs.declared.refusal.Refusal.{Refusal}
use Rattle.plain_tables.specs.declared.refusal.Refusal.TheVariants as refusal
use Rattle.mm_cells.specs.declared.fault.CellFault.{CellFault}
use Rattle.mm_cells.specs.declared.fault.CellFault.TheVariants as cells
use Rattle.mm_session.specs.declared.fault.SelectFault.{SelectFault}
use Rattle.mm_session.specs.declared.fault.SelectFault.TheVariants as selecting
use Rattle.mm_shared.specs.declared.faults.BeginFault.{BeginFault}
use Rattle.mm_shared.specs.declared.faults.BeginFault.TheVariants as beginning
use Rattle.mm_statements.specs.declared.faults.ExecuteFault.{ExecuteFault}
use Rattle.mm_statements.specs.declared.faults.ExecuteFault.TheVariants as executing
use Rattle.mm_statements.specs.declared.faults.PrepareFault.{PrepareFault}
use Rattle.mm_statements.specs.declared.faults.PrepareFault.TheVariants as fault
use Rattle.mm_statements.specs.declared.faults.QueryFault.{QueryFault}
use Rattle.mm_statements.specs.declared.faults.QueryFault.TheVariants as querying
use Rattle.mm_shared.specs.declared.faults.ChangeFault.{ChangeFault}
use Rattle.mm_shared.specs.declared.faults.ChangeFault.TheVariants as changing

-- running out of memory has a variant of its own
abbrev pub fault_of : Refusal → PrepareFault
fault_of refusal.NoMemory = fault.NoMemory
fault_of why = fault.Refused why

-- out of memory is a refusal here
abbrev pub execute_fault_of : CellFault → ExecuteFault
execute_fault_of (cells.NoMemory refused) = executing.Refused refusal.NoMemory
execute_fault_of cells.TooLong = executing.TooLong

-- out of memory is a refusal here
abbrev pub execute_fault_of_select : SelectFault → ExecuteFault
execute_fault_of_select (selecting.NoMemory refused) = executing.Refused refusal.NoMemory
execute_fault_of_select selecting.TooLong = executing.TooLong
execute_fault_of_select selecting.Interrupted = executing.Interrupted

-- out of memory is a refusal here
abbrev pub query_fault_of : SelectFault → QueryFault
query_fault_of (selecting.NoMemory refused) = querying.Refused refusal.NoMemory
query_fault_of selecting.TooLong = querying.TooLong
query_fault_of selecting.Interrupted = querying.Interrupted

abbrev pub execute_fault_of_change : ChangeFault → ExecuteFault
execute_fault_of_change (changing.Refused why) = executing.Refused why
execute_fault_of_change changing.Shared = executing.Shared

-- out of memory is a refusal here
abbrev pub execute_fault_of_begin : BeginFault → ExecuteFault
execute_fault_of_begin beginning.NoMemory = executing.Refused refusal.NoMemory
execute_fault_of_begin beginning.Shared = executing.Shared

abbrev pub query_fault_of_change : ChangeFault → QueryFault
query_fault_of_change (changing.Refused why) = querying.Refused why
query_fault_of_change changing.Shared = querying.Shared
