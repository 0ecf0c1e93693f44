-- The slots of a block may cross threads as their tuples may, and its deed as its allocator may.
use Rattle.std.specs.Prelude.{ℕ, zero, suc, ◌+◌, List, [], ◌∷◌, Option, Some, None}
use Rattle.std.specs.Mem.{type_size}
use base.Fraction.{full_share}
use base.Shift.{Keyless}
use denote.RattleType.{RattleType}
use denote.RawPtr.{Ptr, block_ptr, null_ptr}
use denote.Struct.Struct.{exits_of}
use denote.Struct.Owning.{shape, fields, to}
use denote.Param.Send.{IsSend, IsSync, Common, AllSend, part_keyless, owning_send, struct_send, struct_sync, sendable}
use Rattle.core.specs.declared.alloc.Allocator.{Ghosts}
use Rattle.std_alloc.proofs.SendSync.{FreesAnywhere, quiet}
use Rattle.part_raw.specs.Raw.{slots_own, slots_lend, block_owns, block_lends, deed_owns}
use Rattle.part_raw.specs.contracts.raw.Slots as Slots
use Rattle.part_raw.specs.contracts.raw.Deed as Deed

module _ (R : RattleType) where
  slots_own-Keyless : IsSend R → (b o : ℕ) (held : List (Option R.Denot)) → Keyless (slots_own R b o held)
  slots_own-Keyless s b o [] = tt
  slots_own-Keyless s b o (Some x ∷ held) = (part_keyless R s full_share x b o, slots_own-Keyless s b (o + type_size R) held)
  slots_own-Keyless s b o (None ∷ held) = (tt, slots_own-Keyless s b (o + type_size R) held)

  slots_lend-Common : IsSync R → (b o : ℕ) (held : List (Option R.Denot)) → Common (slots_lend R b o held)
  slots_lend-Common y b o [] κ = tt
  slots_lend-Common y b o (Some x ∷ held) κ = (y.shared x b o κ, slots_lend-Common y b (o + type_size R) held κ)
  slots_lend-Common y b o (None ∷ held) κ = (tt, slots_lend-Common y b (o + type_size R) held κ)

  block_owns-Keyless : IsSend R → (p : Ptr) (held : List (Option R.Denot)) → Keyless (block_owns R p held)
  block_owns-Keyless s (block_ptr b o) held = (tt, slots_own-Keyless s b o held)
  block_owns-Keyless s null_ptr held = tt

  block_lends-Common : IsSync R → (p : Ptr) (held : List (Option R.Denot)) → Common (block_lends R p held)
  block_lends-Common y (block_ptr b o) held κ = (tt, slots_lend-Common y b o held κ)
  block_lends-Common y null_ptr held κ = tt

  pub Slots-send : IsSend R → IsSend (Slots.the_row R)
  Slots-send s =
      let O = Slots.the_type R in let all : AllSend (fields O) = (search sendable, tt) in
      owning_send O all (λ d. block_owns-Keyless s d.ptr d.held) (λ k. quiet (to O) (exits_of k (fields O)) ((struct_send (shape O) all).leaving k))

  pub Slots-sync : IsSync R → IsSync (Slots.the_row R)
  Slots-sync y = let O = Slots.the_type R in record { shared = λ d b o κ. ((struct_sync (shape O) (search sendable, tt)).shared (to O d) b o κ, block_lends-Common y d.ptr d.held κ) }

  module _ (A : RattleType) (g : Ghosts A.Denot) where
    deed_owns-Keyless : FreesAnywhere A.Denot g → (a : A.Denot) (p : Ptr) (count : ℕ) → Keyless (deed_owns R (g.dealloc_token a) p count)
    deed_owns-Keyless f a p zero = tt
    deed_owns-Keyless f a p (suc count) = f.frees a _ p

    pub Deed-send : FreesAnywhere A.Denot g → IsSend (Deed.the_row R A g)
    Deed-send f =
        let O = Deed.the_type R A g in let all : AllSend (fields O) = (search sendable, tt) in
        owning_send O all (λ d. deed_owns-Keyless f d.alloc d.at d.count) (λ k. quiet (to O) (exits_of k (fields O)) ((struct_send (shape O) all).leaving k))

    pub Deed-sync : IsSync (Deed.the_row R A g)
    Deed-sync = let O = Deed.the_type R A g in record { shared = λ d b o κ. ((struct_sync (shape O) (search sendable, tt)).shared (to O d) b o κ, tt) }
