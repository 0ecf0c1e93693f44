use Rattle.std.proofs.Common.{arith}
use Rattle.part_raw.proofs.Mapped.{len-mapped}
use Rattle.mm_relation.specs.Rows.{row_of, outside}
use Rattle.part_raw.specs.Store.{free_reserved}
use Rattle.mm_relation.proofs.Hiding.{parted_either}
use Rattle.mm_relation.proofs.rows.Rows.reserve.Goals as goal

pub reserve-requires : goal.reserve-requires
reserve-requires c = λ _.
    omega (arith, len-mapped (λ r. row_of) (outside c.self.inside.hidden c.self.inside.store.tuples), (rw (← c.self.view_is) at c.requires), c.self.invariant.others, c.self.invariant.within, c.self.invariant.few)

pub invariant_of-self : goal.invariant_of-self
invariant_of-self c =
    parted_either c.self.inside.store c.reserve.new.self (record c.self.inside.store { free = free_reserved c.self.inside.store.free }) c.self.inside.hidden c.self.inside.hidden_count c.self.inside.owed c.reserve.result c.reserve.ensures.ok c.reserve.ensures.err c.self.invariant c.self.invariant
