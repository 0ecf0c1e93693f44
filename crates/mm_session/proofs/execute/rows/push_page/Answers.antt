use Rattle.std.proofs.Common.{◌≡◌, ◌∙◌, ◌<◌, ◌∷◌, ◌-◌, List, [], ap, sym, subst, get_or, map, min, drop, take, length, arith}
use Rattle.std.proofs.lemmas.List.{get_or-drop, length-drop, map_more, take_min}
use Rattle.part_raw.specs.declared.tuple_ref.TupleRef.{TupleRef}
use Rattle.mm_session.specs.Shown.{placed_values}
use Rattle.mm_session.specs.Sinks.{PutsRows}
use Rattle.mm_session.proofs.Sinks.{rows_more}
use Rattle.mm_session.proofs.execute.rows.push_page.Goals as goal

pub loop-row-preserved : goal.loop-row-preserved
loop-row-preserved g c =
    let at = c.loop-row.row in
    let list = c.args.list.now in
    let behind = drop c.args.from list.rows in
    let shown = placed_values c.args.catalog.now list.sources c.args.places.now in
    let many = length-drop c.args.from list.rows in
    let within : at < length behind = omega (arith, many) in
    let received = g.S.RowSink.received in
    let put = subst (λ (row : List TupleRef). PutsRows received c.loop-row.sink c.push_row.new.sink (shown row ∷ [])) (sym (get_or-drop c.args.from list.rows at [])) c.in_ok-push_row.ensures.put in
    subst (PutsRows received c.args.sink.now c.push_row.new.sink) (sym (map_more shown behind at [] within))
    (rows_more received c.args.sink.now c.loop-row.sink c.push_row.new.sink (map shown (take at behind)) (shown (get_or behind at []) ∷ []) c.loop-row.invariant put)

pub returns-clause-put : goal.returns-clause-put
returns-clause-put g c =
    let list = c.args.list.now in
    let behind = drop c.args.from list.rows in
    let shown = placed_values c.args.catalog.now list.sources c.args.places.now in
    let last : c.loop-row.row ≡ c.min-row-end.result = omega (arith, c.loop-row-test.false, c.loop-row.auto.row-end) in
    let many : c.saturating_sub-behind.result ≡ length behind = c.saturating_sub-behind.ensures ∙ ap (λ n. n - c.args.from) c.len.ensures ∙ sym (length-drop c.args.from list.rows) in
    let cut : take c.loop-row.row behind ≡ take c.args.most behind =
    ap (λ n. take n behind) (last ∙ c.min-row-end.ensures ∙ ap (min c.args.most) many) ∙ take_min c.args.most behind in
    subst (PutsRows g.S.RowSink.received c.args.sink.now c.loop-row.sink) (ap (map shown) cut) c.loop-row.invariant
