use Rattle.std.proofs.Common.{◌∙◌, ◌<◌, false, [], ap, length, set, arith, refl, below_more}
use Rattle.std.proofs.lemmas.List.{length-set, set-get_or}
use Rattle.part_raw.specs.declared.store.Occupancy.{Occupancy}
use Rattle.part_raw.proofs.Numbers.{number-set_other}
use Rattle.part_raw.proofs.OwnCounts.{own-set}
use Rattle.part_raw.proofs.Spared.{spare-empty, released_kept, released_tuples, released_held, released_free, released_slots, holds_read, holds_bare, holds_other}
use Rattle.part_raw.proofs.Tables.{length-tables}
use Rattle.part_raw.proofs.store.release_empty.Goals as goal

pub loop-part-init : goal.loop-part-init
loop-part-init g c = record {
  kept = c.requires.kept;
  as_many = refl;
  counts = refl;
  own = λ own. own;
  tuples = refl;
  numbers = λ r held. refl;
  free = omega arith;
  slots = omega arith;
  most = omega arith;
  held = λ k below. absurd (omega (arith, below));
}

pub index_mut-occupancy-requires : goal.index_mut-occupancy-requires
index_mut-occupancy-requires g c =
    omega (
      arith,
      c.loop-part-test.true,
      c.len-part-end.ensures,
      c.loop-part.invariant.as_many,
      c.loop-part.invariant.kept.mapped.as_many,
      length-tables c.args.width c.loop-part.blocks.items,
      c.args.blocks.now.ok,
      c.loop-part.occupancies.ok,
    )

pub release-requires-clause-empty : goal.release-requires-clause-empty
release-requires-clause-empty g c =
    let blocks = c.loop-part.blocks.items in let part = c.loop-part.part in let o = c.index_mut-occupancy.result.now in
    let its = c.index_mut.result.now in
    let within : part < length blocks = omega (arith, c.loop-part-test.true, c.len-part-end.ensures, c.loop-part.invariant.as_many, c.args.blocks.now.ok) in
    let there = c.is_spare.ensures.block c.if-not-is_spare.false in let clear = c.is_spare.ensures.clear c.if-not-is_spare.false in
    spare-empty c.args.width c.requires.wide.0 blocks c.loop-part.occupancies.items c.loop-part.invariant.kept part within o o c.index_mut-occupancy.ensures.value there clear its c.index_mut.ensures.value

pub loop-part-preserved : goal.loop-part-preserved
loop-part-preserved g c =
    let blocks = c.loop-part.blocks.items in let counts = c.loop-part.counts.items in let part = c.loop-part.part in let o = c.index_mut-occupancy.result.now in
    let its = c.index_mut.result.now in
    let within : part < length blocks = omega (arith, c.loop-part-test.true, c.len-part-end.ensures, c.loop-part.invariant.as_many, c.args.blocks.now.ok) in
    let there = c.is_spare.ensures.block c.if-not-is_spare.false in let clear = c.is_spare.ensures.clear c.if-not-is_spare.false in
    let width = c.args.width in let wide = c.requires.wide.0 in let occ = c.loop-part.occupancies.items in let kept = c.loop-part.invariant.kept in let read = c.index_mut-occupancy.ensures.value in
    let o' : Occupancy = record { held = o.held; next_open = o.next_open; has_block = false } in
    let in_occ : part < length occ = omega (arith, within, kept.mapped.as_many, length-tables width blocks) in
    rw (c.release.ensures, c.set_counts.ensures, c.none.ensures) (record {
      kept = released_kept width wide blocks occ kept part within o o' read there clear its c.index_mut.ensures.value refl refl;
      as_many = length-set blocks part [] ∙ c.loop-part.invariant.as_many;
      counts = length-set counts part [] ∙ c.loop-part.invariant.counts;
      own = λ own. own-set blocks counts (c.loop-part.invariant.own own) part [] [] within (λ among. refl);
      tuples = released_tuples width wide blocks occ kept part within o o' read there clear its c.index_mut.ensures.value ∙ c.loop-part.invariant.tuples;
      numbers = λ r held.
          let was = released_held width wide blocks occ kept part within o o' read there clear its c.index_mut.ensures.value r held in
          number-set_other counts r part [] was.1 ∙ c.loop-part.invariant.numbers r was.0;
      free = omega (arith, released_free width wide blocks occ kept part within o o' read there clear its c.index_mut.ensures.value, c.loop-part.invariant.free);
      slots = omega (arith, released_slots width wide blocks occ kept part within o o' read there clear its c.index_mut.ensures.value, c.loop-part.invariant.slots);
      most = omega (arith, c.loop-part.invariant.most);
      held = below_more _ _ (λ k below. holds_other occ part o' in_occ k (omega (arith, below)) (c.loop-part.invariant.held k below)) (holds_bare occ part o' in_occ refl);
    })

pub loop-part-preserved-then-not-is_spare : goal.loop-part-preserved-then-not-is_spare
loop-part-preserved-then-not-is_spare g c =
    let occ = c.loop-part.occupancies.items in let part = c.loop-part.part in let o = c.index_mut-occupancy.result.now in let read = c.index_mut-occupancy.ensures.value in
    let in_occ : part < length occ = omega (
      arith,
      c.loop-part-test.true,
      c.len-part-end.ensures,
      c.loop-part.invariant.as_many,
      c.loop-part.invariant.kept.mapped.as_many,
      length-tables c.args.width c.loop-part.blocks.items,
      c.args.blocks.now.ok,
    ) in
    let same = ap (set occ part) read ∙ set-get_or occ part o in
    rw same (record {
      kept = c.loop-part.invariant.kept;
      as_many = c.loop-part.invariant.as_many;
      counts = c.loop-part.invariant.counts;
      own = c.loop-part.invariant.own;
      tuples = c.loop-part.invariant.tuples;
      numbers = c.loop-part.invariant.numbers;
      free = c.loop-part.invariant.free;
      slots = c.loop-part.invariant.slots;
      most = omega (arith, c.loop-part.invariant.most);
      held = below_more _ _ c.loop-part.invariant.held (holds_read occ part o in_occ read (c.is_spare.ensures.held c.if-not-is_spare.true));
    })

pub returns-clause-held : goal.returns-clause-held
returns-clause-held g c = λ part within.
    c.loop-part.invariant.held part (omega (
      arith,
      within,
      c.loop-part-test.false,
      c.len-part-end.ensures,
      c.loop-part.invariant.as_many,
      c.loop-part.invariant.kept.mapped.as_many,
      length-tables c.args.width c.loop-part.blocks.items,
      c.args.blocks.now.ok,
    ))
