use Rattle.std.proofs.Common.{◌<◌, length, arith}
use Rattle.common_lemmas.proofs.Places.{slice_get-inside}
use Rattle.mm_catalog.specs.Seen.{database_of}
use Rattle.mm_session.proofs.Saves.{counted_more}
use Rattle.mm_session.proofs.execute.saving.all_rows.Goals as goal

pub loop-number-preserved : goal.loop-number-preserved
loop-number-preserved c =
    let tables = database_of c.args.catalog.now in
    let n = c.loop-number.number in
    let within : n < length tables = omega (arith, c.loop-number-test.true, c.table_count-number-end.ensures) in
    let found = slice_get-inside tables n within in
    let more = counted_more tables n found.0 found.1 in
    let one = c.rows_of.ensures.counted found.0 found.1 in
    record {
      counted = omega (arith, more, one, c.loop-number.invariant.counted);
      few = omega (arith, c.rows_of.ensures.few, c.loop-number.invariant.few);
    }
