use Rattle.std.proofs.Common.{◌≡◌, ◌∙◌, ◌<◌, [], List, Some, length, ap, sym, subst, map, refl}
use Rattle.std.specs.Prelude.{slice_get}
use Rattle.std.specs.List.{All}
use Rattle.std.proofs.lemmas.List.{length-map}
use Rattle.std.proofs.lemmas.List.Elements.{All-cons, All-nil}
use Rattle.plain_tables.specs.declared.numbers.Place.{Place}
use Rattle.plain_tables.specs.declared.numbers.TableNumber.{TableNumber}
use Rattle.plain_tables.specs.declared.resolved.Test.{Test}
use Rattle.mm_relation.specs.State.{RelationState}
use Rattle.mm_catalog.proofs.Among.{there_at}
use Rattle.temp_list.specs.Lists.{HasPlace}
use Rattle.temp_list.specs.Reading.{HasColumns}
use Rattle.mm_session.specs.Members.{tables_at}
use Rattle.mm_session.specs.Shown.{heading, placed_values}
use Rattle.mm_session.specs.Sinks.{PutsRows}
use Rattle.mm_session.proofs.Walked.{tests_there}
use Rattle.mm_session.proofs.Scanned.{scanned_places, scanned_shows, scanned_heads, scanned_rows}
use Rattle.mm_session.proofs.execute.ReadExecutor.push_scanned.Goals as goal

pub places_of-requires : goal.places_of-requires
places_of-requires g c =
    All-cons (λ (t : TableNumber). t.0 < length c.args.catalog.now.relations) c.args.query.now.source.table []
    (there_at c.args.catalog.now c.a_catalog_is_consistent.ensures c.args.query.now.source.table.0 c.requires.scan.0.0.0 c.requires.scan.0.0.1) (All-nil (λ (t : TableNumber). t.0 < length c.args.catalog.now.relations))

pub distinct_of_table-requires-clause-there : goal.distinct_of_table-requires-clause-there
distinct_of_table-requires-clause-there g c = there_at c.args.catalog.now c.a_catalog_is_consistent.ensures c.args.query.now.source.table.0 c.requires.scan.0.0.0 c.requires.scan.0.0.1

pub distinct_of_table-requires-clause-tests : goal.distinct_of_table-requires-clause-tests
distinct_of_table-requires-clause-tests g c =
    subst (λ (ts : List Test). (s : RelationState) → slice_get c.args.catalog.now.relations c.args.query.now.source.table.0 ≡ Some s → HasColumns s ts) (sym c.as_slice-tests.ensures)
    (λ s there. tests_there c.args.catalog.now c.a_catalog_is_consistent.ensures c.args.query.now (c.requires.scan.0, c.requires.scan.1.1) s there)

pub distinct_of_table-requires-clause-columns : goal.distinct_of_table-requires-clause-columns
distinct_of_table-requires-clause-columns g c =
    scanned_places c.args.catalog.now c.a_catalog_is_consistent.ensures c.args.query.now c.requires.scan c.in_ok-places.places.items c.in_ok-places.ensures

pub push_list-requires : goal.push_list-requires
push_list-requires g c =
    let can = scanned_shows c.args.catalog.now c.a_catalog_is_consistent.ensures c.args.query.now c.requires.scan c.in_ok-places.places.items c.in_ok-places.ensures c.as_slice-tests.result.now c.as_slice-tests.ensures
    c.in_ok-list.list c.in_ok-list.ensures.distinct in
    λ κs. (
      (refl, tt),
      (
        can.over,
        (
          subst (All (HasPlace c.args.catalog.now.relations c.in_ok-list.list.sources)) (sym c.columns.ensures) can.over.columns,
          subst (λ (ps : List Place). 0 < length ps) (sym c.columns.ensures) can.some,
        ),
      ),
    )

pub returns-clause-shown : goal.returns-clause-shown
returns-clause-shown g c =
    let list = c.in_ok-list.list in
    subst (PutsRows g.S.RowSink.received c.args.sink.now c.push_list.new.sink)
    (ap (λ (ps : List Place). map (placed_values c.args.catalog.now list.sources ps) list.rows) c.columns.ensures
    ∙ scanned_rows c.args.catalog.now c.a_catalog_is_consistent.ensures c.args.query.now c.requires.scan c.in_ok-places.places.items c.in_ok-places.ensures c.as_slice-tests.result.now c.as_slice-tests.ensures
    c.in_ok-list.list c.in_ok-list.ensures.distinct)
    c.in_ok-push_list.ensures.put

pub returns-clause-columns : goal.returns-clause-columns
returns-clause-columns g c =
    let list = c.in_ok-list.list in
    ap length c.columns-2.ensures ∙ sym (length-map list.columns (heading (tables_at c.args.catalog.now list.sources)))
    ∙ ap length (scanned_heads c.args.catalog.now c.a_catalog_is_consistent.ensures c.args.query.now c.requires.scan c.in_ok-places.places.items c.in_ok-places.ensures c.as_slice-tests.result.now c.as_slice-tests.ensures
    c.in_ok-list.list c.in_ok-list.ensures.distinct)
