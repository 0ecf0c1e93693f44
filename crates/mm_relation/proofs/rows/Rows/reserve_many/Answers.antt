use Rattle.std.proofs.Common.{arith}
use Rattle.part_raw.proofs.Mapped.{len-mapped}
use Rattle.mm_relation.specs.Rows.{row_of, outside}
use Rattle.mm_relation.proofs.rows.Rows.reserve_many.Goals as goal

pub reserve_many-requires : goal.reserve_many-requires
reserve_many-requires c =
    omega (arith, len-mapped (λ r. row_of) (outside c.self.inside.hidden c.self.inside.store.tuples), (rw (← c.self.view_is) at c.requires), c.self.invariant.others, c.self.invariant.within, c.self.invariant.few)
