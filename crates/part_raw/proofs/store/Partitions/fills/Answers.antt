use Rattle.std.proofs.Common.{◌<◌, length, arith, ap, sym, is_some, ◌∙◌}
use Rattle.part_raw.specs.TupleRefs.{part_of, slot_of}
use Rattle.part_raw.specs.Open.{tables}
use Rattle.part_raw.proofs.Lookup.{get-tuples_of}
use Rattle.part_raw.proofs.Refs.{slot_of-within}
use Rattle.part_raw.proofs.Bitmaps.{bits_of}
use Rattle.part_raw.proofs.Tables.{small_tables}
use Rattle.part_raw.proofs.store.Partitions.fills.Goals as goal

pub returns-then-place-len : goal.returns-then-place-len
returns-then-place-len g c full r same =
    let rows = tables c.self.inside.width c.self.inside.blocks.items in
    let small = small_tables c.self.inside.width c.self.inside.blocks.items in
    let within : part_of r < length (tables c.self.inside.width c.self.inside.blocks.items) =
    omega (arith, same, c.len.ensures, c.if-place-len.true, c.self.invariant.0.table.store.mapped.as_many, c.self.inside.occupancies.ok) in
    let bits = bits_of rows c.self.inside.occupancies.items c.index.result.now (part_of r) c.self.invariant.0.table.store.mapped within (rw same c.index.ensures) in
    rw (← c.self.view_is)
    (ap is_some (get-tuples_of rows r small) ∙ sym (bits.bits (slot_of r) (slot_of-within r)) ∙ c.is_full.ensures.0 full (slot_of r) (slot_of-within r))
