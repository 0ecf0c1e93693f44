use Rattle.std.proofs.Common.{ap, ◌∙◌}
use Rattle.part_raw.specs.Counted.{seen}
use Rattle.part_raw.specs.Layout.{tuples_of}
use Rattle.part_raw.specs.Open.{tables}
use Rattle.part_raw.proofs.Stocked.{recounted_stocked, recounted_seen}
use Rattle.part_raw.proofs.store.Partitions.set_count.Goals as goal

pub invariant_of-self : goal.invariant_of-self
invariant_of-self g c =
    rw c.set_count_at.ensures (
      recounted_stocked c.self.invariant.0 c.args.r c.part.ensures.value c.slot.ensures.value (rw (← c.self.view_is) at c.requires.held) c.args.n,
      c.self.invariant.1,
    )

pub returns : goal.returns
returns g c =
    let kept = rw (← c.self.view_is) at c.requires.counted in
    rw (← c.self.view_is)
    (ap (λ counts. seen c.self.inside.width (tuples_of (tables c.self.inside.width c.self.inside.blocks.items)) counts c.self.inside.free c.self.inside.counted) c.set_count_at.ensures
    ∙ recounted_seen c.self.invariant.0 c.args.r c.part.ensures.value c.slot.ensures.value (rw (← c.self.view_is) at c.requires.held) c.args.n kept)
