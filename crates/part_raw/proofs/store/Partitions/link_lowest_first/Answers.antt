use Rattle.part_raw.specs.Open.{open_at, tables}
use Rattle.part_raw.proofs.Relinked.{tells}
use Rattle.part_raw.proofs.Spared.{relinked_stocked}
use Rattle.part_raw.proofs.store.Partitions.link_lowest_first.Goals as goal

pub invariant_of-self : goal.invariant_of-self
invariant_of-self g c =
    let shown = tables c.self.inside.width c.self.inside.blocks.items in (
      relinked_stocked c.self.invariant.0 _ _ c.relink-self-inside.ensures.held c.relink-self-inside.ensures.blocks
          (c.relink-self-inside.ensures.linked (open_at shown) (tells shown c.self.inside.occupancies.items c.self.invariant.0.table.store.mapped)),
      c.self.invariant.1,
    )
