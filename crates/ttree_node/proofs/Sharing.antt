-- A `&` to a set of nodes is made where one to a node is. Assumes `Logic`.
use mathlib.Core.List.{List, [], ◌∷◌}
use seplogic.Ra.Ura.{Ura}
use base.Fraction.{full_share}
use base.Fml.{Lft, Incl, ftrue}
use mir.Raw.{raw}
use types.Logic.{Logic}
use denote.RattleType.{RattleType, RowLaws}
use denote.Param.Laws.{Laws}
use denote.Memory.{lone}
use denote.RawPtr.{Ptr, lies_at}
use denote.Sharing.{ShrLaws}
use denote.SharingLaws.{beside_shr_laws, nothing_shr_laws}
use denote.Shares.{Shares-less}
use denote.Struct.Lending.{Lends, lent_at, lent_at_shr_laws, Lends-lies, Lends-first, Lends-both, Lends-nothing}
use Rattle.std_alloc.specs.Box.Ownership.{box_owns}
use Rattle.ttree_node.specs.Held.{token, held_owns, held_lent}

pub held_lent_laws : (R : RattleType) → RowLaws R → (m : List (Ptr × R.Denot)) → ShrLaws (held_lent R m)
held_lent_laws R L [] = nothing_shr_laws
held_lent_laws R L (e ∷ m) = beside_shr_laws _ _ (lent_at_shr_laws R L e.0 e.1) (held_lent_laws R L m)

module _ {M : Type 1} {𝓤 : Ura M} (𝓛 : Logic 𝓤) (R : RattleType) (L : Laws R) (l : Lft) (inc : Incl l R.lives) where
  pub Lends-held : (m : List (Ptr × R.Denot)) → Lends 𝓛 (held_owns R m) (held_lent R m) l
  Lends-held [] = Lends-nothing 𝓛 ftrue l
  Lends-held (e ∷ m) =
      Lends-both 𝓛 (box_owns token R e.0 e.1) (held_owns R m) (lent_at R e.0 e.1) (held_lent R m) l
      (Lends-first 𝓛 (lies_at R full_share e.0 e.1) (token (raw (lone R.mir)) e.0) (lent_at R e.0 e.1) l (Lends-lies 𝓛 R l e.0 e.1 (Shares-less 𝓛 R R.lives l inc (L.shares 𝓛) e.1))) (Lends-held m)
