-- A `&` to the set reaches each node. Assumes `Logic`.
use mathlib.Core.List.{[], ◌++◌}
use base.Fml.{Incl-trans}
use contract.BorrowLft.{meet_⊑_left}
use denote.RattleType.{RattleType}
use denote.RawPtr.{RawPtr}
use denote.Param.Laws.{Laws}
use denote.Param.Shared.{copy_shared}
use denote.Struct.Laws.{field_copy}
use denote.Struct.Lending.{of_Lends}
use Rattle.core.specs.contracts.marker.PhantomData as marker
use Rattle.ttree_node.specs.contracts.nodes.Nodes as C
use Rattle.ttree_node.proofs.nodes.Nodes.TheLaw.Statement.{statement}
use Rattle.ttree_node.proofs.Sharing.{held_lent_laws, Lends-held}

pub shares : (T : RattleType) (L : Laws T) → statement T L
shares T L = of_Lends (C.struct T) (C.the_codes T.Denot T.coded (marker.the_row RawPtr).coded) (C.the_heap T) (C.the_lent T)
    (λ d p. held_lent_laws T L.shr_laws d.held) (copy_shared (marker.the_field RawPtr) (field_copy (marker.the_type RawPtr) tt), tt)
    (λ M 𝓤 𝓛 d p. Lends-held 𝓛 T L (C.the_row T).lives (Incl-trans (meet_⊑_left (T.lives ++ []) _) (meet_⊑_left T.lives [])) d.held)
