use Rattle.std.proofs.Common.{true, ap, ◌∙◌, sym}
use Rattle.part_raw.specs.Store.{store}
use Rattle.part_raw.specs.Counted.{seen}
use Rattle.part_raw.specs.Layout.{tuples_of}
use Rattle.part_raw.specs.Open.{tables}
use Rattle.part_raw.proofs.Numbers.{counts-alike, number-zeros}
use Rattle.part_raw.proofs.Stocked.{zeros_stocked, uncounted_zero}
use Rattle.part_raw.proofs.store.Partitions.keep_counts.Goals as goal

pub invariant_of-self : goal.invariant_of-self
invariant_of-self g c = rw c.in_ok-self-inside.ensures (zeros_stocked c.self.invariant.0, c.self.invariant.1)

pub returns-clause-ok : goal.returns-clause-ok
returns-clause-ok g c =
    let tuples = tuples_of (tables c.self.inside.width c.self.inside.blocks.items) in
    rw (← c.self.view_is)
    (ap (λ counts. seen c.self.inside.width tuples counts c.self.inside.free true) c.in_ok-self-inside.ensures
    ∙ ap (λ counts. store c.self.inside.width tuples counts c.self.inside.free true)
    (counts-alike tuples c.self.inside.counts.items _ (λ r held. number-zeros _ r ∙ sym (uncounted_zero c.self.invariant.0 c.if-self.false r))))
