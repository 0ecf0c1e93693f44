use Rattle.std.proofs.Common.{◌≡◌, ◌∙◌, ◌++◌, false, ap, append-nil, map, subst, sym, take}
use Rattle.std.proofs.lemmas.Option.{slice_get-get_or}
use Rattle.std.specs.List.{All, flat_map}
use Rattle.std.specs.Prelude.{slice_index_or}
use Rattle.part_raw.specs.declared.tuple_ref.TupleRef.{TupleRef}
use Rattle.plain_tables.specs.declared.schema.Column.{Column}
use Rattle.plain_tables.specs.declared.schema.Schema.{Schema}
use Rattle.mm_catalog.specs.Picked.{seen_values}
use Rattle.mm_session.specs.Listing.{command_lines}
use Rattle.mm_session.specs.Saving.{IsUnspellable, emptyings, takes_null}
use Rattle.mm_session.proofs.Saves.{all_more, lines_step, no_updates, none_unspellable, updates_more}
use Rattle.mm_session.proofs.execute.emptied.push_all_emptied.Goals as goal

pub loop-r-preserved : goal.loop-r-preserved
loop-r-preserved c =
    let seen = seen_values c.args.catalog.now c.args.relation.now in
    let columns = c.args.relation.now.schema.columns in
    let table = c.args.table.now in
    let rows = c.args.rows.now in
    let n = c.loop-r.r-index in
    let none : TupleRef = record { number = 0 } in
    let r : TupleRef = slice_index_or rows n none in
    let there = slice_get-get_or rows n none c.loop-r-test.true in
    record {
      put = lines_step c.args.answer.now c.loop-r.answer c.push_row_emptied.new.answer (flat_map (emptyings table columns) (map seen (take n rows))) (emptyings table columns (seen r)) _
          c.loop-r.invariant.put c.in_ok-push_row_emptied.ensures.put (updates_more seen (emptyings table columns) rows n r there);
      spelled = all_more (λ (r : TupleRef). ¬ (IsUnspellable table columns (seen r))) rows n r there c.loop-r.invariant.spelled c.in_ok-push_row_emptied.ensures.spelled;
    }

pub returns-then-not-any_may_be_null-clause-put : goal.returns-then-not-any_may_be_null-clause-put
returns-then-not-any_may_be_null-clause-put c =
    let columns = c.args.relation.now.schema.columns in
    let start = c.args.answer.now in
    let none : All (λ (column : Column). takes_null column.kind ≡ false) columns =
    subst (All (λ (column : Column). takes_null column.kind ≡ false)) (c.as_slice.ensures ∙ ap (λ (h : Schema). h.columns) c.schema.ensures)
    (c.any_may_be_null.ensures c.if-not-any_may_be_null.true) in
    sym (append-nil start) ∙ ap (λ cs. start ++ command_lines cs) (sym (no_updates c.args.table.now columns (map (seen_values c.args.catalog.now c.args.relation.now) c.args.rows.now) none))

pub returns-then-not-any_may_be_null-clause-spelled : goal.returns-then-not-any_may_be_null-clause-spelled
returns-then-not-any_may_be_null-clause-spelled c = λ k d l.
    let columns = c.args.relation.now.schema.columns in
    let none : All (λ (column : Column). takes_null column.kind ≡ false) columns =
    subst (All (λ (column : Column). takes_null column.kind ≡ false)) (c.as_slice.ensures ∙ ap (λ (h : Schema). h.columns) c.schema.ensures)
    (c.any_may_be_null.ensures c.if-not-any_may_be_null.true) in
    none_unspellable c.args.table.now columns (seen_values c.args.catalog.now c.args.relation.now (slice_index_or c.args.rows.now k d)) none
