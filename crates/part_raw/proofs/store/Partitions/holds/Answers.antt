use Rattle.std.proofs.Common.{◌<◌, length, arith, ap, sym, is_some, ◌∙◌}
use Rattle.std.proofs.lemmas.Bool.{le-ltb}
use Rattle.part_raw.specs.TupleRefs.{part_of, slot_of}
use Rattle.part_raw.specs.Open.{tables}
use Rattle.part_raw.proofs.Lookup.{get-tuples_of}
use Rattle.part_raw.proofs.Slots.{held_by_bit}
use Rattle.part_raw.proofs.Parts.{none_past}
use Rattle.part_raw.proofs.Bitmaps.{bits_of}
use Rattle.part_raw.proofs.Tables.{small_tables}
use Rattle.part_raw.proofs.store.Partitions.holds.Goals as goal

pub returns-then-part-len : goal.returns-then-part-len
returns-then-part-len g c =
    let rows = tables c.self.inside.width c.self.inside.blocks.items in
    let small = small_tables c.self.inside.width c.self.inside.blocks.items in
    let within : part_of c.args.r < length (tables c.self.inside.width c.self.inside.blocks.items) =
    omega (arith, c.len.ensures, c.if-part-len.true, c.part-part.ensures.value, c.self.invariant.0.table.store.mapped.as_many, c.self.inside.occupancies.ok) in
    let bits = bits_of rows c.self.inside.occupancies.items c.index.result.now (part_of c.args.r) c.self.invariant.0.table.store.mapped within (rw c.part-part.ensures.value at c.index.ensures) in
    rw (← c.self.view_is)
    (held_by_bit _ _ (slot_of c.args.r) c.has.result bits (rw c.slot.ensures.value at c.has.ensures.within) (rw c.slot.ensures.value at c.has.ensures.past)
    ∙ sym (ap is_some (get-tuples_of rows c.args.r small)))

pub returns-else-part-len : goal.returns-else-part-len
returns-else-part-len g c =
    let rows = tables c.self.inside.width c.self.inside.blocks.items in
    let small = small_tables c.self.inside.width c.self.inside.blocks.items in
    let none = none_past rows c.args.r small (omega (arith, c.len.ensures, c.if-part-len.false, c.part-part.ensures.value, c.self.invariant.0.table.store.mapped.as_many, c.self.inside.occupancies.ok)) in
    rw (← c.self.view_is) (le-ltb c.part-part.result c.len.result c.if-part-len.false ∙ sym (ap is_some none))
