use Rattle.std.proofs.Common.{arith}
use Rattle.part_raw.proofs.Mapped.{len-mapped}
use Rattle.mm_relation.specs.Rows.{outside, row_of}
use Rattle.mm_relation.proofs.rows.Rows.len.Goals as goal

pub returns : goal.returns
returns c = rw (← c.self.view_is) (omega (arith, c.len.ensures.value, c.self.invariant.others, len-mapped (λ r. row_of) (outside c.self.inside.hidden c.self.inside.store.tuples)))
