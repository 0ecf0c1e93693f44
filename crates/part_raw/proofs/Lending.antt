-- A `&` to a block of slots can be made where one to a tuple can. Assumes `Logic`.
use Prim.Native.Nat.{ℕ, ◌+◌}
use Rattle.std.specs.Prelude.{List, [], ◌∷◌, Option, Some, None}
use Rattle.std.specs.Mem.{type_size}
use seplogic.Ra.Ura.{Ura}
use base.Fml.{Lft, Incl, ftrue, ffalse}
use types.Logic.{Logic}
use denote.RattleType.{RattleType, RowLaws}
use denote.Param.Laws.{Laws}
use denote.RawPtr.{Ptr, block_ptr, null_ptr}
use denote.Sharing.{ShrLaws, said}
use denote.SharingLaws.{beside_shr_laws, nothing_shr_laws, said_shr_laws}
use denote.Shares.{Shares-less}
use denote.Struct.Lending.{Lends, Lends-both, Lends-nothing, Lends-said, Lends-false}
use Rattle.part_raw.specs.Raw.{slot_owns, slots_own, slot_lends, slots_lend, bytes_fit, block_owns, block_lends}

-- what a `&` holds is held by each copy of it, and for each shorter lifetime
module _ (R : RattleType) (laws : RowLaws R) where
  slot_copies : (b o : ℕ) (held : Option R.Denot) → ShrLaws (slot_lends R b o held)
  slot_copies b o (Some tuple) = laws tuple b o
  slot_copies b o None = nothing_shr_laws

  slots_copy : (b o : ℕ) (slots : List (Option R.Denot)) → ShrLaws (slots_lend R b o slots)
  slots_copy b o [] = nothing_shr_laws
  slots_copy b o (held ∷ rest) = beside_shr_laws (slot_lends R b o held) (slots_lend R b (o + type_size R) rest) (slot_copies b o held) (slots_copy b (o + type_size R) rest)

  pub block_copies : (at : Ptr) (slots : List (Option R.Denot)) → ShrLaws (block_lends R at slots)
  block_copies (block_ptr b o) slots = beside_shr_laws (said (bytes_fit R slots)) (slots_lend R b o slots) (said_shr_laws (bytes_fit R slots) tt) (slots_copy b o slots)
  block_copies null_ptr slots = said_shr_laws ffalse tt

-- what is owned is lent for a lifetime
module _ {M : Type 1} {𝓤 : Ura M} (𝓛 : Logic 𝓤) (life : Lft) (R : RattleType) (laws : Laws R) (within : Incl life R.lives) where
  slot_is_lent : (b o : ℕ) (held : Option R.Denot) → Lends 𝓛 (slot_owns R b o held) (slot_lends R b o held) life
  slot_is_lent b o (Some tuple) = λ κ alive. Shares-less 𝓛 R R.lives life within (laws.shares 𝓛) tuple κ alive b o
  slot_is_lent b o None = Lends-nothing 𝓛 (slot_owns R b o None) life

  slots_are_lent : (b o : ℕ) (slots : List (Option R.Denot)) → Lends 𝓛 (slots_own R b o slots) (slots_lend R b o slots) life
  slots_are_lent b o [] = Lends-nothing 𝓛 ftrue life
  slots_are_lent b o (held ∷ rest) =
      let next = o + type_size R in
      Lends-both 𝓛 (slot_owns R b o held) (slots_own R b next rest) (slot_lends R b o held) (slots_lend R b next rest) life (slot_is_lent b o held) (slots_are_lent b next rest)

  pub block_is_lent : (at : Ptr) (slots : List (Option R.Denot)) → Lends 𝓛 (block_owns R at slots) (block_lends R at slots) life
  block_is_lent (block_ptr b o) slots =
      Lends-both 𝓛 (bytes_fit R slots) (slots_own R b o slots) (said (bytes_fit R slots)) (slots_lend R b o slots) life (Lends-said 𝓛 (bytes_fit R slots) tt life) (slots_are_lent b o slots)
  block_is_lent null_ptr slots = Lends-false 𝓛 (said ffalse) life
