use Rattle.std.proofs.Common.{◌+◌, map, set, Some, None, refl, sym, ap, ◌∙◌, arith}
use Rattle.part_raw.proofs.Rows.{clear_run-none, clear_run-more, held_next, row_more, row_length, row_whole}
use Rattle.part_raw.proofs.row.read_row.Goals as goal

pub loop-i-init : goal.loop-i-init
loop-i-init g c = record { places = sym (clear_run-none c.args.block.now c.args.from); row = ap (map (λ x. Some x)) c.requires.empty; capacity = refl }

pub read-value-requires : goal.read-value-requires
read-value-requires g c =
    rw c.loop-i.invariant.places (held_next c.args.from c.args.width c.loop-i.i c.args.block.now c.requires.within c.requires.held c.loop-i-test.true)

pub push_reserved-requires : goal.push_reserved-requires
push_reserved-requires g c =
    let read = row_length c.args.from c.args.width c.loop-i.i c.args.block.now c.loop-i.row.items c.requires.within (omega (arith, c.loop-i-test.true)) c.loop-i.invariant.row in
    omega (arith, read, c.loop-i.row.ok, c.loop-i-test.true, c.requires.room, c.loop-i.invariant.capacity)

pub loop-i-preserved : goal.loop-i-preserved
loop-i-preserved g c = record {
  places = c.read-value.ensures.places ∙ ap (λ b. set b (c.args.from + c.loop-i.i) None) c.loop-i.invariant.places ∙ clear_run-more c.args.block.now c.args.from c.loop-i.i;
  row = ap (map (λ x. Some x)) c.push_reserved.ensures.items
      ∙ row_more c.args.from c.args.width c.loop-i.i c.args.block.now c.loop-i.block c.loop-i.row.items c.read-value.result c.requires.within c.loop-i-test.true c.loop-i.invariant.places c.loop-i.invariant.row c.read-value.ensures.value;
  capacity = c.push_reserved.ensures.capacity ∙ c.loop-i.invariant.capacity;
}

pub returns-clause-row : goal.returns-clause-row
returns-clause-row g c = row_whole c.args.from c.args.width c.loop-i.i c.args.block.now c.loop-i.row.items c.requires.within c.loop-i-test.false c.loop-i.invariant.row
