use Rattle.part_raw.proofs.Dropped.{last_laid, last_bits, last_none, front_laid, front_mapped}
use Rattle.part_raw.proofs.store.Partitions.drop.Goals as goal

pub loop-block-init : goal.loop-block-init
loop-block-init g c = record { laid = c.self.invariant.0.table.laid; mapped = c.self.invariant.0.table.store.mapped }

pub discard-requires-clause-laid : goal.discard-requires-clause-laid
discard-requires-clause-laid g c =
    let is = rw (c.in-Some.ensures.items, c.in-Some-pop.ensures.items) at c.loop-block.invariant in
    last_laid c.self.inside.width c.pop.new.self.items c.in-Some.block c.pop-in-Some.new.self.items c.in-Some-pop.occupancy is.laid is.mapped c.if-occupancy.true

pub discard-requires-clause-bits : goal.discard-requires-clause-bits
discard-requires-clause-bits g c =
    let is = rw (c.in-Some.ensures.items, c.in-Some-pop.ensures.items) at c.loop-block.invariant in
    last_bits c.self.inside.width c.pop.new.self.items c.in-Some.block c.pop-in-Some.new.self.items c.in-Some-pop.occupancy is.laid is.mapped c.if-occupancy.true

pub let_go-requires : goal.let_go-requires
let_go-requires g c =
    let is = rw (c.in-Some.ensures.items, c.in-Some-pop.ensures.items) at c.loop-block.invariant in
    last_none c.self.inside.width c.pop.new.self.items c.in-Some.block c.pop-in-Some.new.self.items c.in-Some-pop.occupancy is.laid is.mapped c.if-occupancy.false

pub loop-block-preserved : goal.loop-block-preserved
loop-block-preserved g c =
    let is = rw (c.in-Some.ensures.items, c.in-Some-pop.ensures.items) at c.loop-block.invariant in
    record {
      laid = front_laid c.self.inside.width c.pop.new.self.items c.in-Some.block c.pop-in-Some.new.self.items c.in-Some-pop.occupancy is.laid is.mapped;
      mapped = front_mapped c.self.inside.width c.pop.new.self.items c.in-Some.block c.pop-in-Some.new.self.items c.in-Some-pop.occupancy is.laid is.mapped;
    }

pub loop-block-preserved-then-occupancy : goal.loop-block-preserved-then-occupancy
loop-block-preserved-then-occupancy g c =
    let is = rw (c.in-Some.ensures.items, c.in-Some-pop.ensures.items) at c.loop-block.invariant in
    record {
      laid = front_laid c.self.inside.width c.pop.new.self.items c.in-Some.block c.pop-in-Some.new.self.items c.in-Some-pop.occupancy is.laid is.mapped;
      mapped = front_mapped c.self.inside.width c.pop.new.self.items c.in-Some.block c.pop-in-Some.new.self.items c.in-Some-pop.occupancy is.laid is.mapped;
    }
