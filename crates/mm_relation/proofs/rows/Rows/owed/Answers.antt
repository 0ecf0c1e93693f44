use Rattle.std.proofs.Common.{arith}
use Rattle.part_raw.proofs.Mapped.{len-mapped}
use Rattle.mm_relation.specs.Rows.{among, row_of}
use Rattle.mm_relation.proofs.rows.Rows.owed.Goals as goal

pub returns-clause-hidden : goal.returns-clause-hidden
returns-clause-hidden c = rw (← c.self.view_is) (omega (arith, c.self.invariant.count, c.self.invariant.within, len-mapped (λ r. row_of) (among c.self.inside.hidden c.self.inside.store.tuples)))
