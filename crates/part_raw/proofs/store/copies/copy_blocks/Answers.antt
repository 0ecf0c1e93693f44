use Rattle.std.proofs.Common.{◌≡◌, length, take, ap, ◌∙◌, arith}
use Rattle.part_raw.proofs.Kept.{kept_laid, kept_bits, kept_none}
use Rattle.part_raw.proofs.store.copies.copy_blocks.Goals as goal

pub copy_place-requires-clause-laid : goal.copy_place-requires-clause-laid
copy_place-requires-clause-laid g c =
    kept_laid c.args.width c.args.blocks.now.items c.args.occupancies.now.items c.loop-part.part c.index-in-loop-part.result.now c.index.result.now c.requires.kept
    (omega (arith, c.loop-part-test.true, c.len-part-end.ensures, c.args.blocks.now.ok)) c.index-in-loop-part.ensures c.index.ensures

pub copy_place-requires-clause-bits : goal.copy_place-requires-clause-bits
copy_place-requires-clause-bits g c =
    kept_bits c.args.width c.args.blocks.now.items c.args.occupancies.now.items c.loop-part.part c.index-in-loop-part.result.now c.index.result.now c.requires.kept
    (omega (arith, c.loop-part-test.true, c.len-part-end.ensures, c.args.blocks.now.ok)) c.index-in-loop-part.ensures c.index.ensures

pub copy_place-requires-clause-bare : goal.copy_place-requires-clause-bare
copy_place-requires-clause-bare g c =
    kept_none c.args.width c.args.blocks.now.items c.args.occupancies.now.items c.loop-part.part c.index-in-loop-part.result.now c.index.result.now c.requires.kept
    (omega (arith, c.loop-part-test.true, c.len-part-end.ensures, c.args.blocks.now.ok)) c.index-in-loop-part.ensures c.index.ensures

pub discard_blocks-requires-clause-first : goal.discard_blocks-requires-clause-first
discard_blocks-requires-clause-first g c =
    let long : c.loop-part.part ≡ length c.loop-part.copies.items = omega (arith, c.loop-part.invariant.many, c.loop-part.copies.ok) in
    record { all = c.args.blocks.now.items; kept = c.requires.kept; first = c.loop-part.invariant.made ∙ ap (λ n. take n c.args.blocks.now.items) long }
