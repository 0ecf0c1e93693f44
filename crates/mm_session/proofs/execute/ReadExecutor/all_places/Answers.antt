use Rattle.std.proofs.Common.{◌∙◌, ◌++◌, List, ap, sym, get_or, map, drop, arith, append_assoc, append-nil, ◌+◌}
use Rattle.std.proofs.lemmas.List.{drop_more, drop_all}
use Rattle.plain_tables.specs.Queries.{JoinedColumn, source_columns}
use Rattle.plain_tables.specs.declared.numbers.Place.{Place}
use Rattle.plain_tables.specs.declared.numbers.TableNumber.{TableNumber}
use Rattle.mm_session.proofs.Places.{places_behind, places_more, table_there}
use Rattle.mm_session.proofs.execute.ReadExecutor.all_places.Goals as goal

pub loop-source-preserved : goal.loop-source-preserved
loop-source-preserved c =
    let catalog = c.args.catalog.now in
    let ok = c.a_catalog_is_consistent.ensures in
    let sources = c.args.sources.now in
    let at = c.loop-source.source in
    let none : TableNumber = record { 0 = 0 } in
    let t = get_or sources at none in
    let old = c.loop-source.places.items in
    let rest = drop (at + 1) sources in
    let table = table_there catalog ok t.0 (c.requires at none (omega (arith, c.loop-source-test.true))) in
    ap (λ (ps : List Place). ps ++ places_behind catalog (at + 1) rest) (c.in_ok-push_places.ensures table.0 table.1)
    ∙ append_assoc old (map (λ (j : JoinedColumn). j.place) (source_columns (at, table.0))) (places_behind catalog (at + 1) rest)
    ∙ ap (λ (ps : List Place). old ++ ps) (sym (places_more catalog ok at t rest table.0 table.1))
    ∙ ap (λ (ts : List TableNumber). old ++ places_behind catalog at ts) (sym (drop_more sources at none (omega (arith, c.loop-source-test.true))))
    ∙ c.loop-source.invariant

pub returns : goal.returns
returns c =
    let catalog = c.args.catalog.now in
    let sources = c.args.sources.now in
    let at = c.loop-source.source in
    sym (append-nil c.loop-source.places.items)
    ∙ ap (λ (ts : List TableNumber). c.loop-source.places.items ++ places_behind catalog at ts) (sym (drop_all at sources (omega (arith, c.loop-source-test.false))))
    ∙ c.loop-source.invariant
