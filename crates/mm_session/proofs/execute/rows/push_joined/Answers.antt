use Rattle.std.proofs.Common.{◌≡◌, ◌∙◌, ◌++◌, ◌∷◌, ◌<◌, [], List, ap, sym, get_or, map, subst, take, length, arith, refl}
use Rattle.std.proofs.lemmas.List.{map_more, take_all, length-map}
use Rattle.std.proofs.lemmas.Result.{on_ok_weaker}
use Rattle.std.proofs.lemmas.Option.{slice_get-get_or}
use Rattle.part_raw.specs.declared.tuple_ref.TupleRef.{TupleRef}
use Rattle.plain_tables.specs.ResolvedLaws.{IsStorable}
use Rattle.plain_tables.specs.declared.numbers.Place.{Place}
use Rattle.plain_tables.specs.declared.value.Value.{Value}
use Rattle.temp_list.specs.Lists.{value_of}
use Rattle.mm_session.specs.Sinks.{PutsValues}
use Rattle.mm_session.proofs.StorableValues.{placed_storable}
use Rattle.mm_session.proofs.Sinks.{values_more, row_put}
use Rattle.mm_session.proofs.execute.rows.push_joined.Goals as goal

abbrev none : Place
none = record { source = 0; column = record { 0 = 0 } }

pub place_value-requires-clause-place : goal.place_value-requires-clause-place
place_value-requires-clause-place g c = c.requires.places c.loop-place.place-index none (omega (arith, c.loop-place-test.true))

pub push_value-requires : goal.push_value-requires
push_value-requires g c =
    let catalog = c.args.catalog.now in
    let list = c.args.list.now in
    let row : List TupleRef = get_or list.rows c.args.row [] in
    let place : Place = get_or c.args.places.now c.loop-place.place-index none in
    let read : c.place_value.result.now ≡ value_of catalog.relations list.sources row place = c.place_value.ensures row (slice_get-get_or list.rows c.args.row [] c.requires.row) in
    λ k. (
      (refl, tt),
      subst IsStorable (sym read)
          (placed_storable catalog c.a_catalog_is_consistent.ensures list.sources row place (c.requires.over.rows c.args.row [] c.requires.row)
          (c.requires.places c.loop-place.place-index none (omega (arith, c.loop-place-test.true)))),
    )

pub loop-place-preserved : goal.loop-place-preserved
loop-place-preserved g c =
    let at = c.loop-place.place-index in
    let list = c.args.list.now in
    let places = c.args.places.now in
    let row : List TupleRef = get_or list.rows c.args.row [] in
    let value : Place → Value = value_of c.args.catalog.now.relations list.sources row in
    let within : at < length places = omega (arith, c.loop-place-test.true) in
    let read : c.place_value.result.now ≡ value (get_or places at none) = c.place_value.ensures row (slice_get-get_or list.rows c.args.row [] c.requires.row) in
    subst (PutsValues g.S.RowSink.received c.args.sink.now c.push_value.new.self)
    (ap (λ (v : Value). map value (take at places) ++ v ∷ []) read ∙ sym (map_more value places at none within))
    (values_more g.S.RowSink.received c.args.sink.now c.loop-place.sink c.push_value.new.self (map value (take at places)) (c.place_value.result.now ∷ []) c.loop-place.invariant c.in_ok-push_value.ensures.taken)

pub returns-clause-put : goal.returns-clause-put
returns-clause-put g c =
    let at = c.loop-place.place-index in
    let list = c.args.list.now in
    let places = c.args.places.now in
    let row : List TupleRef = get_or list.rows c.args.row [] in
    let value : Place → Value = value_of c.args.catalog.now.relations list.sources row in
    let all : take at places ≡ places = take_all at places (omega (arith, c.loop-place-test.false)) in
    let long = length-map places value in
    on_ok_weaker c.end_row.result
    (λ ends. row_put g.S.RowSink.received c.args.sink.now c.loop-place.sink c.end_row.new.self (map value places)
    (subst (λ (ps : List Place). PutsValues g.S.RowSink.received c.args.sink.now c.loop-place.sink (map value ps)) all c.loop-place.invariant) ends (omega (arith, long, c.requires.some)))
    c.end_row.ensures.ended
