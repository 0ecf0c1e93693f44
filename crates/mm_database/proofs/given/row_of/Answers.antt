use Rattle.std.proofs.Common.{◌∙◌, ◌+◌, ap, length, take}
use Rattle.std.proofs.lemmas.List.{length-set}
use Rattle.mm_cells.specs.Reading.{cell_value}
use Rattle.mm_database.specs.Given.{IsCell}
use Rattle.mm_database.proofs.GivenRows.{all-more, set-more}
use Rattle.mm_database.proofs.given.row_of.Goals as goal

pub loop-place-preserved : goal.loop-place-preserved
loop-place-preserved c =
    let cells = c.args.cells.now in
    let place = c.loop-place.place in
    record {
      len = ap length c.in_ok-bind.ensures.bound ∙ length-set c.loop-place.row place _ ∙ c.loop-place.invariant.len;
      taken =
          ap (take (place + 1)) c.in_ok-bind.ensures.bound
          ∙ set-more (cell_value c.args.texts.now) c.loop-place.row cells place _ c.loop-place-test.true c.loop-place.invariant.len c.loop-place.invariant.taken;
      cells = all-more (IsCell c.args.texts.now) cells place _ c.loop-place-test.true c.loop-place.invariant.cells c.in_ok-bind.ensures.cell;
    }
