use Rattle.std.proofs.Common.{◌≡◌, length, refl, arith}
use Rattle.part_raw.proofs.Kept.{kept_laid, kept_bits, kept_none, last_within, last_read, front_first}
use Rattle.part_raw.proofs.Tables.{length-tables}
use Rattle.part_raw.proofs.store.copies.discard_blocks.Goals as goal

pub index-occupancy-requires : goal.index-occupancy-requires
index-occupancy-requires g c =
    let is = rw c.in-Some.ensures.items at c.loop-block.invariant in
    let at : c.len.result ≡ length c.pop.new.self.items = omega (arith, c.len.ensures, c.pop.new.self.ok) in
    omega (arith, last_within c.args.width _ c.in-Some.block c.args.occupancies.now.items c.len.result at is, length-tables c.args.width is.all, is.kept.mapped.as_many, c.args.occupancies.now.ok)

pub discard-requires-clause-laid : goal.discard-requires-clause-laid
discard-requires-clause-laid g c =
    let is = rw c.in-Some.ensures.items at c.loop-block.invariant in
    let at : c.len.result ≡ length c.pop.new.self.items = omega (arith, c.len.ensures, c.pop.new.self.ok) in
    kept_laid c.args.width is.all c.args.occupancies.now.items c.len.result c.in-Some.block c.index-occupancy.result.now is.kept
    (last_within c.args.width _ c.in-Some.block _ c.len.result at is) (last_read c.args.width _ c.in-Some.block _ c.len.result at is) c.index-occupancy.ensures c.if-occupancy.true

pub discard-requires-clause-bits : goal.discard-requires-clause-bits
discard-requires-clause-bits g c =
    let is = rw c.in-Some.ensures.items at c.loop-block.invariant in
    let at : c.len.result ≡ length c.pop.new.self.items = omega (arith, c.len.ensures, c.pop.new.self.ok) in
    kept_bits c.args.width is.all c.args.occupancies.now.items c.len.result c.in-Some.block c.index-occupancy.result.now is.kept
    (last_within c.args.width _ c.in-Some.block _ c.len.result at is) (last_read c.args.width _ c.in-Some.block _ c.len.result at is) c.index-occupancy.ensures c.if-occupancy.true

pub let_go-requires : goal.let_go-requires
let_go-requires g c =
    let is = rw c.in-Some.ensures.items at c.loop-block.invariant in
    let at : c.len.result ≡ length c.pop.new.self.items = omega (arith, c.len.ensures, c.pop.new.self.ok) in
    kept_none c.args.width is.all c.args.occupancies.now.items c.len.result c.in-Some.block c.index-occupancy.result.now is.kept
    (last_within c.args.width _ c.in-Some.block _ c.len.result at is) (last_read c.args.width _ c.in-Some.block _ c.len.result at is) c.index-occupancy.ensures c.if-occupancy.false

pub loop-block-preserved-then-occupancy : goal.loop-block-preserved-then-occupancy
loop-block-preserved-then-occupancy g c =
    front_first c.args.width c.pop.new.self.items c.in-Some.block c.args.occupancies.now.items (length c.pop.new.self.items) refl (rw c.in-Some.ensures.items at c.loop-block.invariant)

pub loop-block-preserved : goal.loop-block-preserved
loop-block-preserved g c =
    front_first c.args.width c.pop.new.self.items c.in-Some.block c.args.occupancies.now.items (length c.pop.new.self.items) refl (rw c.in-Some.ensures.items at c.loop-block.invariant)
