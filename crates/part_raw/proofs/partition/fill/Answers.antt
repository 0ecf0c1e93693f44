use Rattle.std.proofs.Common.{◌≡◌, length, get_or, None, arith, ap, ◌+◌, ◌*◌, ◌∙◌}
use Rattle.part_raw.specs.Rows.{put_run}
use Rattle.part_raw.proofs.Slots.{no_vacancy_of_bits, free_of_bit, IsPartition-set}
use Rattle.part_raw.proofs.Rows.{empty_places}
use Rattle.part_raw.proofs.RowSteps.{rows-put}
use Rattle.part_raw.proofs.partition.fill.Goals as goal

pub unreachable-requires : goal.unreachable-requires
unreachable-requires g c =
    let none = no_vacancy_of_bits _ _ c.requires.bits c.in-None.ensures in
    omega (arith, none, c.requires.free)

pub write_row-requires-clause-empty : goal.write_row-requires-clause-empty
write_row-requires-clause-empty g c = λ i small.
    let wide : c.len-width.result ≡ length c.args.cells.now.items = c.len-width.ensures ∙ c.args.cells.now.ok.0 in
    let free = free_of_bit _ _ c.in-Some.slot c.requires.bits c.in-Some.ensures.0 c.in-Some.ensures.1 in
    ap (λ w. get_or c.args.block.now (c.in-Some.slot * w + i) None) wide
    ∙ empty_places (length c.args.cells.now.items) c.in-Some.slot c.args.block.now c.requires.laid c.in-Some.ensures.0 free i small

pub returns-clause-laid : goal.returns-clause-laid
returns-clause-laid g c =
    let wide : c.len-width.result ≡ length c.args.cells.now.items = c.len-width.ensures ∙ c.args.cells.now.ok.0 in
    let wrote = c.write_row.ensures.places ∙ ap (λ w. put_run c.args.block.now (c.in-Some.slot * w) c.args.cells.now.items) wide in
    rw wrote (rows-put c.args.block.now c.in-Some.slot c.args.cells.now.items c.in-Some.ensures.0 c.requires.laid).0

pub returns-clause-slots : goal.returns-clause-slots
returns-clause-slots g c =
    let wide : c.len-width.result ≡ length c.args.cells.now.items = c.len-width.ensures ∙ c.args.cells.now.ok.0 in
    let wrote = c.write_row.ensures.places ∙ ap (λ w. put_run c.args.block.now (c.in-Some.slot * w) c.args.cells.now.items) wide in
    rw wrote (rows-put c.args.block.now c.in-Some.slot c.args.cells.now.items c.in-Some.ensures.0 c.requires.laid).1

pub returns-clause-bits : goal.returns-clause-bits
returns-clause-bits g c =
    rw (returns-clause-slots g c) (IsPartition-set _ _ _ _ _ c.in-Some.ensures.0 c.requires.bits c.set.ensures)
