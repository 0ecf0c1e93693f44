use Rattle.std.proofs.Common.{sym, ◌∙◌}
use Rattle.part_raw.proofs.Numbers.{count_seen, number_read}
use Rattle.part_raw.proofs.store.Partitions.count.Goals as goal

pub returns : goal.returns
returns g c =
    rw (← c.self.view_is)
    (c.count_at.ensures ∙ number_read c.self.inside.counts.items c.args.r c.part.result c.slot.result c.part.ensures.value c.slot.ensures.value
    ∙ sym (count_seen _ c.self.inside.counts.items c.args.r (rw (← c.self.view_is) at c.requires)))
