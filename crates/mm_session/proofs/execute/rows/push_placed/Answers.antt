use Rattle.std.proofs.Common.{◌≡◌, ◌∙◌, ◌++◌, ◌∷◌, ◌<◌, [], ap, sym, get_or, map, subst, take, length, arith, refl}
use Rattle.std.proofs.lemmas.List.{map_more}
use Rattle.plain_tables.specs.ResolvedLaws.{IsStorable}
use Rattle.plain_tables.specs.declared.numbers.Place.{Place}
use Rattle.plain_tables.specs.declared.value.Value.{Value}
use Rattle.mm_catalog.proofs.Among.{among_at}
use Rattle.temp_list.specs.Reading.{value_in}
use Rattle.temp_list.proofs.Reading.{can_read, lent_value}
use Rattle.mm_session.specs.Sinks.{PutsValues}
use Rattle.mm_session.proofs.StorableValues.{column_storable}
use Rattle.mm_session.proofs.Sinks.{values_more}
use Rattle.mm_session.proofs.execute.rows.push_placed.Goals as goal

abbrev none : Place
none = record { source = 0; column = record { 0 = 0 } }

pub value-requires : goal.value-requires
value-requires g c =
    let lent = c.requires.lent in
    let among = among_at c.args.catalog.now c.a_catalog_is_consistent.ensures lent.0 c.args.relation.now lent.1 in
    can_read c.args.catalog.now.relations c.args.relation.now c.args.r c.row-row.result c.row-row.ensures.row c.row-row.ensures.targets
    c.a_relation_is_kept.ensures among.current (get_or c.args.places.now c.loop-place.place-index none).column.0
    (c.requires.columns c.loop-place.place-index none (omega (arith, c.loop-place-test.true)))

pub push_value-requires : goal.push_value-requires
push_value-requires g c =
    let lent = c.requires.lent in
    let place : Place = get_or c.args.places.now c.loop-place.place-index none in
    let read : c.value.result.now ≡ value_in c.args.catalog.now.relations c.args.relation.now place.column.0 c.args.r =
    lent_value c.args.catalog.now.relations c.args.relation.now c.args.r c.row-row.result c.row-row.ensures.row c.row-row.ensures.targets place.column.0 c.value.result.now c.value.ensures in
    λ k. (
      (refl, tt),
      subst IsStorable (sym read)
          (column_storable c.args.catalog.now c.a_catalog_is_consistent.ensures lent.0 c.args.relation.now lent.1 c.args.r c.requires.held place.column.0
          (c.requires.columns c.loop-place.place-index none (omega (arith, c.loop-place-test.true)))),
    )

pub loop-place-preserved : goal.loop-place-preserved
loop-place-preserved g c =
    let at = c.loop-place.place-index in
    let places = c.args.places.now in
    let value : Place → Value = λ place. value_in c.args.catalog.now.relations c.args.relation.now place.column.0 c.args.r in
    let within : at < length places = omega (arith, c.loop-place-test.true) in
    let read : c.value.result.now ≡ value (get_or places at none) =
    lent_value c.args.catalog.now.relations c.args.relation.now c.args.r c.row-row.result c.row-row.ensures.row c.row-row.ensures.targets (get_or places at none).column.0 c.value.result.now c.value.ensures in
    subst (PutsValues g.S.RowSink.received c.args.sink.now c.push_value.new.self)
    (ap (λ (v : Value). map value (take at places) ++ v ∷ []) read ∙ sym (map_more value places at none within))
    (values_more g.S.RowSink.received c.args.sink.now c.loop-place.sink c.push_value.new.self (map value (take at places)) (c.value.result.now ∷ []) c.loop-place.invariant c.in_ok-push_value.ensures.taken)
