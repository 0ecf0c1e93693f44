use Rattle.std.proofs.Common.{◌∷◌, [], ap, sym, subst, get_or, map, take, refl, arith}
use Rattle.std.proofs.lemmas.List.{map_more, take_all}
use Rattle.part_raw.specs.declared.tuple_ref.TupleRef.{TupleRef}
use Rattle.mm_session.specs.OnlyRow.{values_shown}
use Rattle.mm_session.specs.Sinks.{PutsRows}
use Rattle.mm_session.proofs.Sinks.{rows_more}
use Rattle.mm_session.proofs.execute.rows.push_each.Goals as goal

pub push_shown-requires : goal.push_shown-requires
push_shown-requires g c = λ κs. (
  (refl, tt),
  (c.requires.lent, (c.requires.held c.loop-r.r-index (record { number = 0 }) c.loop-r-test.true, (c.requires.columns, c.requires.some))),
)

pub loop-r-preserved : goal.loop-r-preserved
loop-r-preserved g c =
    let at = c.loop-r.r-index in
    let rows = c.args.rows.now in
    let none : TupleRef = record { number = 0 } in
    let shown = values_shown c.args.catalog.now c.args.relation.now c.args.shown.now in
    let received = g.S.RowSink.received in
    subst (PutsRows received c.args.sink.now c.push_shown.new.sink) (sym (map_more shown rows at none c.loop-r-test.true))
    (rows_more received c.args.sink.now c.loop-r.sink c.push_shown.new.sink (map shown (take at rows)) (shown (get_or rows at none) ∷ []) c.loop-r.invariant c.in_ok-push_shown.ensures.put)

pub returns-clause-put : goal.returns-clause-put
returns-clause-put g c =
    let shown = values_shown c.args.catalog.now c.args.relation.now c.args.shown.now in
    subst (PutsRows g.S.RowSink.received c.args.sink.now c.loop-r.sink)
    (ap (map shown) (take_all c.loop-r.r-index c.args.rows.now (omega (arith, c.loop-r-test.false)))) c.loop-r.invariant
