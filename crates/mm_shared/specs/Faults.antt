-- Faults: what a fault of a session is among those of a request and of a stream, and what a change that is declined leaves.
use Rattle.plain_tables.specs.Effects.{Effect}
use Rattle.mm_session.specs.Changing.{HasDeclined}
use Rattle.mm_session.specs.Sessions.{State}
use Rattle.mm_session.specs.declared.fault.ReadFault.{ReadFault}
use Rattle.mm_session.specs.declared.fault.ReadFault.TheVariants as reading
use Rattle.mm_session.specs.declared.fault.SessionFault.{SessionFault}
use Rattle.mm_session.specs.declared.fault.SessionFault.TheVariants as session
use Rattle.mm_shared.specs.declared.faults.ChangeFault.{ChangeFault}
use Rattle.mm_shared.specs.declared.faults.ChangeFault.TheVariants as changing
use Rattle.mm_shared.specs.declared.faults.RequestFault.{RequestFault}
use Rattle.mm_shared.specs.declared.faults.RequestFault.TheVariants as requesting
use Rattle.mm_shared.specs.declared.faults.StreamFault.{StreamFault}
use Rattle.mm_shared.specs.declared.faults.StreamFault.TheVariants as streaming

-- a change is declined where the tables are only read
abbrev pub request_fault_of : ReadFault → RequestFault
request_fault_of reading.NotOneRequest = requesting.NotOneRequest
request_fault_of reading.Changes = requesting.Shared

-- a session's fault is the stream's
abbrev pub stream_fault_of : SessionFault → StreamFault
stream_fault_of session.Write = streaming.Write
stream_fault_of session.Ended = streaming.Ended

-- the session declined the change, unless another database shares it
abbrev pub IsUndone : State → State → Effect → ChangeFault → Type 0
IsUndone old new effect (changing.Refused why) = HasDeclined old new effect why
IsUndone old new effect changing.Shared = Unit {0}
