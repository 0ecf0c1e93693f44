use Rattle.std.proofs.Common.{◌≡◌, ◌-◌, ◌<◌, suc, map, set, None, sym, ap, ◌∙◌, arith, length, subst}
use Rattle.std.proofs.lemmas.List.{set-get_or, length-map}
use Rattle.std.proofs.Math.Seq.{map-set_same}
use Rattle.part_raw.specs.declared.store.Occupancy.{Occupancy}
use Rattle.part_raw.specs.Open.{IsOpenList, next_at}
use Rattle.part_raw.proofs.Bitmaps.{mapped-set_same, mapped-set_other}
use Rattle.part_raw.proofs.Relinked.{from, passed, linked, below_yes, below_no, words_read, block_read, told_open}
use Rattle.part_raw.proofs.store.relink.Goals as goal

pub loop-part-preserved-then-is_open : goal.loop-part-preserved-then-is_open
loop-part-preserved-then-is_open c =
    let occ = c.loop-part.occupancies.items in
    let i = c.loop-part.part - 1 in
    let o = c.index_mut-occupancy.result.now in
    let o' : Occupancy = record { held = o.held; next_open = c.loop-part.first_open; has_block = o.has_block } in
    let read = c.index_mut-occupancy.ensures.value in
    let at : c.loop-part.part ≡ suc i = omega (arith, c.loop-part-test.true) in
    let as_many = ap length c.loop-part.invariant.held in
    let in_occ : c.loop-part.part - 1 < length c.loop-part.occupancies.items = omega (arith, c.loop-part-test.true, c.loop-part.invariant.within, as_many, length-map occ (λ (x : Occupancy). x.held.words), length-map c.args.occupancies.now.items (λ (x : Occupancy). x.held.words)) in
    record {
      held = map-set_same (λ (x : Occupancy). x.held.words) occ i o' o (ap (λ (x : Occupancy). x.held.words) read) ∙ c.loop-part.invariant.held;
      blocks = map-set_same (λ (x : Occupancy). x.has_block) occ i o' o (ap (λ (x : Occupancy). x.has_block) read) ∙ c.loop-part.invariant.blocks;
      within = omega (arith, c.loop-part.invariant.within);
      linked = λ is_open tells.
          let was = c.loop-part.invariant.linked is_open tells in
          let words = words_read occ c.args.occupancies.now.items i o in_occ read c.loop-part.invariant.held in
          let block = block_read occ c.args.occupancies.now.items i o in_occ read c.loop-part.invariant.blocks in
          let opened = told_open is_open c.args.occupancies.now.items tells i o c.is_open.result (omega (arith, c.loop-part-test.true, c.loop-part.invariant.within)) words block c.is_open.ensures.bare c.is_open.ensures.full ∙ c.if-is_open.true in (
            suc was.0,
            omega (arith, was.1, below_yes is_open c.loop-part.part i at opened),
            linked is_open (next_at occ) (next_at (set occ i o')) was.0 c.loop-part.part i c.loop-part.first_open at opened
                (mapped-set_same (λ (x : Occupancy). x.next_open) occ i o' None in_occ) (λ k differs. mapped-set_other (λ (x : Occupancy). x.next_open) occ i k o' None differs) was.2,
          );
    }

pub loop-part-preserved : goal.loop-part-preserved
loop-part-preserved c =
    let occ = c.loop-part.occupancies.items in
    let i = c.loop-part.part - 1 in
    let o = c.index_mut-occupancy.result.now in
    let read = c.index_mut-occupancy.ensures.value in
    let at : c.loop-part.part ≡ suc i = omega (arith, c.loop-part-test.true) in
    let as_many = ap length c.loop-part.invariant.held in
    let in_occ : c.loop-part.part - 1 < length c.loop-part.occupancies.items = omega (arith, c.loop-part-test.true, c.loop-part.invariant.within, as_many, length-map occ (λ (x : Occupancy). x.held.words), length-map c.args.occupancies.now.items (λ (x : Occupancy). x.held.words)) in
    let same = ap (set occ i) read ∙ set-get_or occ i o in
    record {
      held = ap (map (λ (x : Occupancy). x.held.words)) same ∙ c.loop-part.invariant.held;
      blocks = ap (map (λ (x : Occupancy). x.has_block)) same ∙ c.loop-part.invariant.blocks;
      within = omega (arith, c.loop-part.invariant.within);
      linked = λ is_open tells.
          let was = c.loop-part.invariant.linked is_open tells in
          let words = words_read occ c.args.occupancies.now.items i o in_occ read c.loop-part.invariant.held in
          let block = block_read occ c.args.occupancies.now.items i o in_occ read c.loop-part.invariant.blocks in
          let closed = told_open is_open c.args.occupancies.now.items tells i o c.is_open.result (omega (arith, c.loop-part-test.true, c.loop-part.invariant.within)) words block c.is_open.ensures.bare c.is_open.ensures.full ∙ c.if-is_open.false in (
            was.0,
            omega (arith, was.1, below_no is_open c.loop-part.part i at closed),
            subst (λ l. IsOpenList (from i is_open) (next_at l) was.0 c.loop-part.first_open) (sym same) (passed is_open (next_at occ) was.0 c.loop-part.part i c.loop-part.first_open at closed was.2),
          );
    }
