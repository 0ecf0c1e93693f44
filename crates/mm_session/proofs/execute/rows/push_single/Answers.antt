use Rattle.std.proofs.Common.{◌∷◌, [], subst, get_or, arith, refl}
use Rattle.std.proofs.lemmas.List.{length-map}
use Rattle.std.proofs.lemmas.Result.{on_ok_weaker}
use Rattle.plain_tables.specs.declared.numbers.Place.{Place}
use Rattle.plain_tables.specs.Tables.{Row}
use Rattle.project_hash.proofs.Tables.{place_alone}
use Rattle.mm_session.specs.Sinks.{PutsRows}
use Rattle.mm_session.specs.Walked.{shown_row}
use Rattle.temp_list.specs.Reading.{value_in}
use Rattle.mm_session.proofs.Sinks.{row_put}
use Rattle.mm_session.proofs.Walked.{row_alone}
use Rattle.mm_session.proofs.execute.rows.push_single.Goals as goal

pub at-requires : goal.at-requires
at-requires g c = c.requires.there

pub push_placed-requires : goal.push_placed-requires
push_placed-requires g c =
    let catalog = c.args.catalog.now in
    let n = c.args.table.0 in
    let s = c.at.result.now in
    let places = c.args.places.now in
    λ κs. (
      (refl, tt),
      (
        (n, c.at.ensures),
        (c.requires.row.held 0 s c.args.r c.at.ensures refl, λ k d l. (place_alone catalog.relations n s c.at.ensures (get_or places k d) (c.requires.places k d l)).1),
      ),
    )

pub returns-clause-put : goal.returns-clause-put
returns-clause-put g c =
    let catalog = c.args.catalog.now in
    let n = c.args.table.0 in
    let s = c.at.result.now in
    let places = c.args.places.now in
    let long = length-map places (λ (place : Place). value_in catalog.relations s place.column.0 c.args.r) in
    on_ok_weaker c.end_row.result
    (λ ends. subst (λ (row : Row). PutsRows g.S.RowSink.received c.args.sink.now c.end_row.new.self (row ∷ [])) (row_alone catalog n s c.at.ensures places c.requires.places c.args.r)
    (row_put g.S.RowSink.received c.args.sink.now c.push_placed.new.sink c.end_row.new.self (shown_row catalog s places c.args.r) c.in_ok-push_placed.ensures.put ends (omega (arith, long, c.requires.some))))
    c.end_row.ensures.ended
