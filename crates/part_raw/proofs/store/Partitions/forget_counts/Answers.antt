use Rattle.std.proofs.Common.{false, ap, ◌∙◌, arith, refl, sym, []}
use Rattle.part_raw.specs.Store.{store}
use Rattle.part_raw.specs.Counted.{seen}
use Rattle.part_raw.specs.Layout.{tuples_of}
use Rattle.part_raw.specs.Open.{tables}
use Rattle.part_raw.proofs.Numbers.{count_seen, counts-alike}
use Rattle.part_raw.proofs.store.Partitions.forget_counts.Goals as goal

pub invariant_of-self : goal.invariant_of-self
invariant_of-self g c = rw c.new.ensures.items (record { beside = refl; own = λ part below. absurd (omega (arith, below)); table = c.self.invariant.0.table }, c.self.invariant.1)

pub returns : goal.returns
returns g c =
    let tuples = tuples_of (tables c.self.inside.width c.self.inside.blocks.items) in
    let zeros = rw (← c.self.view_is) at c.requires in
    rw (← c.self.view_is)
    (ap (λ counts. seen c.self.inside.width tuples counts c.self.inside.free false) c.new.ensures.items
    ∙ ap (λ counts. store c.self.inside.width tuples counts c.self.inside.free false)
    (counts-alike tuples c.self.inside.counts.items [] (λ r held. sym (sym (count_seen tuples c.self.inside.counts.items r held) ∙ zeros r held))))
