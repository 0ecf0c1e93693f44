use Rattle.std.proofs.Common.{◌∙◌}
use Rattle.part_raw.proofs.Numbers.{count_seen}
use Rattle.part_raw.proofs.Stocked.{uncounted_zero}
use Rattle.part_raw.proofs.store.Partitions.is_counted.Goals as goal

pub returns-clause-none : goal.returns-clause-none
returns-clause-none g c = λ uncounted. rw (← c.self.view_is) (λ r held. count_seen _ c.self.inside.counts.items r held ∙ uncounted_zero c.self.invariant.0 uncounted r)
