use Rattle.std.proofs.Common.{◌-◌, refl, arith}
use Rattle.part_raw.proofs.Mapped.{len-mapped}
use Rattle.mm_relation.specs.Rows.{row_of, among}
use Rattle.mm_relation.proofs.Hiding.{parted_covered}
use Rattle.mm_relation.proofs.rows.Rows.forgive.Goals as goal

pub invariant_of-self : goal.invariant_of-self
invariant_of-self c =
    let asked = rw (← c.self.view_is) at c.requires in
    let counted = len-mapped (λ r. row_of) (among c.self.inside.hidden c.self.inside.store.tuples) in
    parted_covered c.self.inside.store.width c.self.inside.store.tuples c.self.inside.store.counts c.self.inside.hidden c.self.inside.hidden_count c.self.inside.owed c.self.invariant c.self.inside.hidden (c.self.inside.owed - c.args.n)
    (λ slot. refl) (omega (arith, asked, counted, c.self.invariant.count)) (omega (arith, c.self.invariant.few)) (λ owing. c.self.invariant.covered (omega (arith, owing)))
