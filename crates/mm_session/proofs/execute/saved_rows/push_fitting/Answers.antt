use Rattle.std.proofs.Common.{◌≡◌, ◌∙◌, Some, ap, length, map, arith}
use Rattle.std.specs.Option.{option_map}
use Rattle.std.specs.Prelude.{slice_get, slice_index_or}
use Rattle.std.proofs.lemmas.Option.{same_Some, slice_get-get_or, slice_get-map}
use Rattle.part_raw.specs.declared.tuple_ref.TupleRef.{TupleRef}
use Rattle.plain_tables.specs.Tables.{Row}
use Rattle.mm_catalog.specs.Picked.{seen_values}
use Rattle.mm_session.proofs.Saves.{records_step, room_full}
use Rattle.mm_session.proofs.execute.saved_rows.push_fitting.Goals as goal

pub returns-then-all-limit : goal.returns-then-all-limit
returns-then-all-limit c = λ front is.
    let seen = seen_values c.args.catalog.now c.args.relation.now in
    let refs = c.args.rows.now in
    let n = c.loop-number.number in
    let none : TupleRef = record { number = 0 } in
    let row : Row = seen (slice_index_or refs n none) in
    let there : slice_get (map seen refs) n ≡ Some row = slice_get-map seen refs n ∙ ap (option_map seen) (slice_get-get_or refs n none (omega (arith, c.loop-number-test.true, c.loop-number.auto.number-end))) in
    room_full c.args.limit c.loop-number.end n c.args.records.now.bytes c.loop-number.records.bytes c.push_record.new.records.bytes (map seen refs) row front
    c.loop-number.invariant.made c.loop-number.invariant.ends c.loop-number.invariant.within c.in_ok-push_record.ensures.written there
    (λ now e. let same = ap length (same_Some c.written-in-loop-number.result.now now (c.written-in-loop-number.ensures ∙ e)) in omega (arith, c.if-all-limit.true, c.len-all.ensures, same))
    is

pub loop-number-preserved : goal.loop-number-preserved
loop-number-preserved c =
    let seen = seen_values c.args.catalog.now c.args.relation.now in
    let refs = c.args.rows.now in
    let n = c.loop-number.number in
    let none : TupleRef = record { number = 0 } in
    let row : Row = seen (slice_index_or refs n none) in
    let there : slice_get (map seen refs) n ≡ Some row = slice_get-map seen refs n ∙ ap (option_map seen) (slice_get-get_or refs n none (omega (arith, c.loop-number-test.true, c.loop-number.auto.number-end))) in
    record {
      made = records_step n c.args.records.now.bytes c.loop-number.records.bytes c.push_record.new.records.bytes (map seen refs) row c.loop-number.invariant.made c.in_ok-push_record.ensures.written there;
      ended = c.in_ok-push_record.ensures.ended;
      ends = λ now e. c.len-all.ensures ∙ ap length (same_Some c.written-in-loop-number.result.now now (c.written-in-loop-number.ensures ∙ e));
      within = λ some. c.if-all-limit.false;
    }
