-- A handle may go to another thread where its value may: neither a null pointer nor a block of the C library's heap is a thread's own.
use base.Shift.{Keyless}
use denote.RattleType.{RattleType}
use denote.RawPtr.{Ptr, block_ptr, null_ptr}
use denote.Struct.Struct.{exits_of}
use denote.Struct.Owning.{shape, fields, to}
use denote.Param.Send.{IsSend, AllSend, owning_send, struct_send, sendable}
use Rattle.std_alloc.proofs.SendSync.{quiet, lies}
use Rattle.std.proofs.Crossing.{frees}
use Rattle.std.specs.declared.option.Option.{Option}
use Rattle.std.specs.declared.option.Option.TheVariants.{None, Some}
use Rattle.raw_handle.specs.Holds.{holds}
use Rattle.raw_handle.specs.contracts.RawHandle.{the_row, the_type}

module _ (R : RattleType) (s : IsSend R) where
  pub holds-Keyless : (p : Ptr) (x : Option R.Denot) → Keyless (holds R p x)
  holds-Keyless null_ptr None = tt
  holds-Keyless null_ptr (Some x) = λ e. tt
  holds-Keyless (block_ptr b o) None = λ e. tt
  holds-Keyless (block_ptr b o) (Some x) = (lies R s (block_ptr b o) x, frees.frees _ _ (block_ptr b o))

  pub RawHandle-send : IsSend (the_row R)
  RawHandle-send =
      let O = the_type R in let all : AllSend (fields O) = (search sendable, tt) in
      owning_send O all (λ d. holds-Keyless d.at d.value) (λ k. quiet (to O) (exits_of k (fields O)) ((struct_send (shape O) all).leaving k))
