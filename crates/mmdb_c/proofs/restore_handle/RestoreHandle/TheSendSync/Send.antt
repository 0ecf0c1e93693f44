use denote.Struct.Struct.{exits_of}
use denote.Struct.Owning.{shape, fields, to}
use denote.Param.Send.{IsSend, AllSend, owning_send, struct_send, sendable}
use Rattle.std_alloc.proofs.SendSync.{quiet}
use Rattle.raw_handle.proofs.Crosses.{holds-Keyless}
use Rattle.mm_database.specs.contracts.restoring.OpenRestore as held
use Rattle.mm_database.proofs.restoring.OpenRestore.TheSendSync.{the_send}
use Rattle.mmdb_c.specs.contracts.restore_handle.RestoreHandle.{the_row, the_type}

pub send : IsSend the_row
send =
    let all : AllSend (fields the_type) = (search sendable, tt) in
    owning_send the_type all (λ d. holds-Keyless held.the_row the_send d.at d.restore) (λ k. quiet (to the_type) (exits_of k (fields the_type)) ((struct_send (shape the_type) all).leaving k))
