use Rattle.std.proofs.Common.{arith}
use Rattle.part_raw.proofs.Mapped.{len-mapped}
use Rattle.mm_relation.specs.Rows.{among, row_of}
use Rattle.mm_relation.proofs.Hiding.{are_apart}
use Rattle.mm_relation.proofs.rows.Rows.hidden_are_apart.Goals as goal

pub returns-clause-apart : goal.returns-clause-apart
returns-clause-apart c = rw (← c.self.view_is) (are_apart c.self.inside.hidden c.self.inside.store.tuples)

pub returns-clause-owed : goal.returns-clause-owed
returns-clause-owed c = rw (← c.self.view_is) (omega (arith, c.self.invariant.count, c.self.invariant.within, len-mapped (λ r. row_of) (among c.self.inside.hidden c.self.inside.store.tuples)))
