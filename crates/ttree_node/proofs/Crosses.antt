-- A set of nodes may cross threads as its nodes may: each is a box of the C library's heap.
use Rattle.std.specs.Prelude.{List, [], ◌∷◌}
use base.Shift.{Keyless}
use denote.RattleType.{RattleType}
use denote.RawPtr.{Ptr}
use denote.Struct.Struct.{exits_of}
use denote.Struct.Owning.{shape, fields, to}
use denote.Param.Send.{IsSend, IsSync, Common, AllSend, owning_send, struct_send, struct_sync, sendable}
use Rattle.std_alloc.proofs.SendSync.{quiet, lies, seen}
use Rattle.std.proofs.Crossing.{frees}
use Rattle.ttree_node.specs.Held.{held_owns, held_lent}
use Rattle.ttree_node.specs.contracts.nodes.Nodes as Nodes

module _ (R : RattleType) where
  held_owns-Keyless : IsSend R → (m : List (Ptr × R.Denot)) → Keyless (held_owns R m)
  held_owns-Keyless s [] = tt
  held_owns-Keyless s (e ∷ m) = ((lies R s e.0 e.1, frees.frees _ _ e.0), held_owns-Keyless s m)

  held_lent-Common : IsSync R → (m : List (Ptr × R.Denot)) → Common (held_lent R m)
  held_lent-Common y [] κ = tt
  held_lent-Common y (e ∷ m) κ = (seen R y e.0 e.1 κ, held_lent-Common y m κ)

  pub Nodes-send : IsSend R → IsSend (Nodes.the_row R)
  Nodes-send s =
      let O = Nodes.the_type R in let all : AllSend (fields O) = (search sendable, tt) in
      owning_send O all (λ d. held_owns-Keyless s d.held) (λ k. quiet (to O) (exits_of k (fields O)) ((struct_send (shape O) all).leaving k))

  pub Nodes-sync : IsSync R → IsSync (Nodes.the_row R)
  Nodes-sync y = let O = Nodes.the_type R in record { shared = λ d b o κ. ((struct_sync (shape O) (search sendable, tt)).shared (to O d) b o κ, held_lent-Common y d.held κ) }
