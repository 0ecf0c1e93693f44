-- A `&` to the slots holds the pointer and a `&` to each tuple. Assumes `Logic`.
use mathlib.Core.List.{[], ◌++◌}
use base.Fml.{Incl-trans}
use contract.BorrowLft.{meet_⊑_left}
use denote.RattleType.{RattleType}
use denote.Param.Laws.{Laws}
use denote.Param.Shared.{copy_shared}
use denote.Struct.Field.{RawPtr-field}
use denote.Struct.Laws.{RawPtr-copy}
use denote.Struct.Lending.{of_Lends}
use Rattle.part_raw.specs.contracts.raw.Slots as S
use Rattle.part_raw.proofs.raw.Slots.TheLaw.Statement.{statement}
use Rattle.part_raw.proofs.Lending.{block_copies, block_is_lent}

pub shares : (R : RattleType) (L : Laws R) → statement R L
shares R L =
    let within = Incl-trans (meet_⊑_left (R.lives ++ []) _) (meet_⊑_left R.lives []) in
    of_Lends (S.struct R) (S.the_codes R.Denot R.coded) (S.the_heap R) (S.the_lent R)
    (λ slots at. block_copies R L.shr_laws slots.ptr slots.held) (copy_shared RawPtr-field RawPtr-copy, tt)
    (λ M 𝓤 𝓛 slots at. block_is_lent 𝓛 (S.the_row R).lives R L within slots.ptr slots.held)
