use Rattle.std.proofs.Common.{◌≡◌, ◌∙◌, ◌++◌, ◌∷◌, [], List, ap, sym, arith, append_assoc, map, length}
use Rattle.std.specs.List.{range_with_len}
use Rattle.std.proofs.lemmas.List.FromFn.{map-range_with_len_more}
use Rattle.plain_tables.specs.declared.numbers.Place.{Place}
use Rattle.plain_tables.specs.declared.schema.Schema.{Schema}
use Rattle.mm_session.proofs.Members.{width_same}
use Rattle.mm_session.proofs.Places.{place_at, places_from}
use Rattle.mm_session.proofs.execute.select.push_places.Goals as goal

pub loop-column-preserved : goal.loop-column-preserved
loop-column-preserved c =
    let n = c.loop-column.column in
    let old = c.args.places.now.items in
    let place = place_at c.args.source in
    c.in_ok-push.ensures.items
    ∙ ap (λ (ps : List Place). ps ++ place n ∷ []) c.loop-column.invariant
    ∙ append_assoc old (map place (range_with_len 0 n)) (place n ∷ [])
    ∙ ap (λ (ps : List Place). old ++ ps) (sym (map-range_with_len_more place 0 n n (omega arith)))

pub returns : goal.returns
returns c = λ t at.
    let old = c.args.places.now.items in
    let place = place_at c.args.source in
    let same = width_same c.args.catalog.now c.a_catalog_is_consistent.ensures c.args.table.0 t at c.at.result.now c.at.ensures in
    let schema = ap (λ (h : Schema). length h.columns) c.schema.ensures in
    let all : c.loop-column.column ≡ length t.columns = omega (arith, c.loop-column-test.false, c.loop-column.auto.column-end, c.len-column-end.ensures, schema, same) in
    c.loop-column.invariant
    ∙ ap (λ n. old ++ map place (range_with_len 0 n)) all
    ∙ ap (λ (ps : List Place). old ++ ps) (sym (places_from c.args.source 0 t.name t.columns))
