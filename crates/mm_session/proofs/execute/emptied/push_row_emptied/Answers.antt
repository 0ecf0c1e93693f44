use Rattle.std.proofs.Common.{◌≡◌, ◌∙◌, ◌++◌, ◌<◌, List, Some, length, sym, ap, subst, take, arith}
use Rattle.std.specs.List.{flat_map, zip}
use Rattle.std.specs.Prelude.{slice_get}
use Rattle.plain_tables.specs.Queries.{value_at}
use Rattle.plain_tables.specs.declared.command.Command.{Command}
use Rattle.plain_tables.specs.declared.schema.Schema.{Schema}
use Rattle.mm_catalog.proofs.Among.{among_at, some_columns}
use Rattle.mm_catalog.specs.Picked.{seen_values}
use Rattle.temp_list.proofs.Reading.{can_read, lent_value}
use Rattle.mm_session.specs.Listing.{command_lines}
use Rattle.mm_session.specs.SavedRows.{IsStopped}
use Rattle.mm_session.specs.Saving.{HasLineFeed, IsUnspellable, emptying_at, key_name}
use Rattle.mm_session.proofs.Dumps.{seen_long}
use Rattle.mm_session.proofs.RowPieces.{key_seen, key_unlinked, seen_at}
use Rattle.mm_session.proofs.Saves.{emptied_more, got_at, handed, key_named, lines_step, row_done, row_spelled, row_stopped, spelled_more, stopped_so}
use Rattle.mm_session.proofs.execute.emptied.push_row_emptied.Goals as goal

pub bounds-columns-0 : goal.bounds-columns-0
bounds-columns-0 c =
    let lent = c.requires.lent in
    let some = some_columns c.args.catalog.now c.a_catalog_is_consistent.ensures lent.0 c.args.relation.now lent.1 in
    let same = ap length (c.as_slice-columns.ensures ∙ ap (λ (h : Schema). h.columns) c.schema.ensures) in
    omega (arith, some, same)

pub value-value-requires : goal.value-value-requires
value-value-requires c =
    let lent = c.requires.lent in
    let same = ap length (c.as_slice-columns.ensures ∙ ap (λ (h : Schema). h.columns) c.schema.ensures) in
    let among = among_at c.args.catalog.now c.a_catalog_is_consistent.ensures lent.0 c.args.relation.now lent.1 in
    can_read c.args.catalog.now.relations c.args.relation.now c.args.r c.row-row.result c.row-row.ensures.row c.row-row.ensures.targets
    c.a_relation_is_kept.ensures among.current c.loop-number.number (omega (arith, c.loop-number-test.true, same))

pub push_emptied-requires : goal.push_emptied-requires
push_emptied-requires c =
    let lent = c.requires.lent in
    key_unlinked c.args.catalog.now c.a_catalog_is_consistent.ensures lent.0 c.args.relation.now lent.1 c.args.r c.key-key.result.now c.requires.held c.key-key.ensures

pub loop-number-preserved : goal.loop-number-preserved
loop-number-preserved c =
    let catalog = c.args.catalog.now in
    let s = c.args.relation.now in
    let seen = seen_values catalog s c.args.r in
    let n = c.loop-number.number in
    let table = c.args.table.now in
    let name = c.as_str-name.result.now in
    let key = c.key-key.result.now in
    let column = c.index-columns-number.result in
    let v = c.value-value.result.now in
    let same = c.as_slice-columns.ensures ∙ ap (λ (h : Schema). h.columns) c.schema.ensures in
    let read = lent_value catalog.relations s c.args.r c.row-row.result c.row-row.ensures.row c.row-row.ensures.targets n v c.value-value.ensures in
    let there : slice_get seen n ≡ Some v = seen_at catalog s c.args.r c.requires.held n v (let long = ap length same in omega (arith, c.loop-number-test.true, long)) read in
    let at : slice_get s.schema.columns n ≡ Some column = got_at s.schema.columns c.as_slice-columns.result.now n column same c.loop-number-test.true c.index-columns-number.is in
    let front = flat_map (emptying_at table name key) (take n (zip s.schema.columns seen)) in
    let one = emptying_at table name key (column, v) in
    let more = emptied_more table name key s.schema.columns seen n column v at there in
    record {
      put = lines_step c.args.answer.now c.loop-number.answer c.push_emptied.new.answer front one _ c.loop-number.invariant.put c.in_ok-push_emptied.ensures.put more;
      spelled = subst (λ (cs : List Command). 0 < length cs → ¬ (HasLineFeed key)) (sym more)
          (spelled_more front one (¬ (HasLineFeed key)) c.loop-number.invariant.spelled c.in_ok-push_emptied.ensures.spelled);
    }

pub returns-in_err-push_emptied-clause-stopped : goal.returns-in_err-push_emptied-clause-stopped
returns-in_err-push_emptied-clause-stopped c =
    let catalog = c.args.catalog.now in
    let s = c.args.relation.now in
    let lent = c.requires.lent in
    let seen = seen_values catalog s c.args.r in
    let n = c.loop-number.number in
    let table = c.args.table.now in
    let name = c.as_str-name.result.now in
    let key = c.key-key.result.now in
    let column = c.index-columns-number.result in
    let v = c.value-value.result.now in
    let some = some_columns catalog c.a_catalog_is_consistent.ensures lent.0 s lent.1 in
    let same = c.as_slice-columns.ensures ∙ ap (λ (h : Schema). h.columns) c.schema.ensures in
    let wide = ap length same in
    let named : name ≡ key_name s.schema.columns =
    key_named c.as_slice-columns.result.now c.index-columns-0.result name (omega (arith, wide, some)) c.as_str-name.ensures ∙ ap key_name same in
    let keyed : key ≡ value_at seen 0 = key_seen catalog s c.args.r key c.requires.held some c.key-key.ensures in
    let read = lent_value catalog.relations s c.args.r c.row-row.result c.row-row.ensures.row c.row-row.ensures.targets n v c.value-value.ensures in
    let there : slice_get seen n ≡ Some v = seen_at catalog s c.args.r c.requires.held n v (omega (arith, c.loop-number-test.true, wide)) read in
    let at : slice_get s.schema.columns n ≡ Some column = got_at s.schema.columns c.as_slice-columns.result.now n column same c.loop-number-test.true c.index-columns-number.is in
    handed (IsStopped (IsUnspellable table s.schema.columns seen)) c.from_residual.result c.in_err-push_emptied.field-0.0 c.from_residual.ensures.1
    (stopped_so (HasLineFeed key × (0 < length (emptying_at table name key (column, v)))) (IsUnspellable table s.schema.columns seen) c.in_err-push_emptied.field-0.0
    (row_stopped table name key s.schema.columns seen named keyed n column v at there) c.in_err-push_emptied.ensures.stopped)

pub returns-clause-put : goal.returns-clause-put
returns-clause-put c =
    let catalog = c.args.catalog.now in
    let s = c.args.relation.now in
    let lent = c.requires.lent in
    let seen = seen_values catalog s c.args.r in
    let name = c.as_str-name.result.now in
    let key = c.key-key.result.now in
    let some = some_columns catalog c.a_catalog_is_consistent.ensures lent.0 s lent.1 in
    let same = c.as_slice-columns.ensures ∙ ap (λ (h : Schema). h.columns) c.schema.ensures in
    let wide = ap length same in
    let named : name ≡ key_name s.schema.columns =
    key_named c.as_slice-columns.result.now c.index-columns-0.result name (omega (arith, wide, some)) c.as_str-name.ensures ∙ ap key_name same in
    let keyed : key ≡ value_at seen 0 = key_seen catalog s c.args.r key c.requires.held some c.key-key.ensures in
    c.loop-number.invariant.put
    ∙ ap (λ cs. c.args.answer.now ++ command_lines cs)
    (row_done c.args.table.now name key s.schema.columns seen named keyed c.loop-number.number (sym (seen_long catalog s c.args.r c.requires.held)) (omega (arith, c.loop-number-test.false, wide)))

pub returns-clause-spelled : goal.returns-clause-spelled
returns-clause-spelled c =
    let catalog = c.args.catalog.now in
    let s = c.args.relation.now in
    let lent = c.requires.lent in
    let seen = seen_values catalog s c.args.r in
    let name = c.as_str-name.result.now in
    let key = c.key-key.result.now in
    let some = some_columns catalog c.a_catalog_is_consistent.ensures lent.0 s lent.1 in
    let same = c.as_slice-columns.ensures ∙ ap (λ (h : Schema). h.columns) c.schema.ensures in
    let wide = ap length same in
    let named : name ≡ key_name s.schema.columns =
    key_named c.as_slice-columns.result.now c.index-columns-0.result name (omega (arith, wide, some)) c.as_str-name.ensures ∙ ap key_name same in
    let keyed : key ≡ value_at seen 0 = key_seen catalog s c.args.r key c.requires.held some c.key-key.ensures in
    row_spelled c.args.table.now name key s.schema.columns seen named keyed c.loop-number.number (sym (seen_long catalog s c.args.r c.requires.held)) (omega (arith, c.loop-number-test.false, wide))
    c.loop-number.invariant.spelled
