use Rattle.std.proofs.Common.{◌≡◌, ◌∙◌, ◌++◌, ◌∷◌, ◌<◌, List, ℕ, Some, ap, sym, subst, map, length, arith, rules}
use Rattle.std.specs.Prelude.{slice_get, slice_index_or}
use Rattle.std.proofs.lemmas.Option.{slice_get-get_or, slice_get-map, slice_get_within, same_Some}
use Rattle.std.specs.Option.{option_map}
use Rattle.plain_tables.specs.declared.numbers.TableNumber.{TableNumber}
use Rattle.plain_tables.specs.declared.schema.Column.{Column}
use Rattle.plain_tables.specs.declared.schema.Schema.{Schema}
use Rattle.mm_relation.specs.State.{RelationState}
use Rattle.mm_catalog.proofs.Among.{named_at}
use Rattle.mm_catalog.proofs.Tables.{database-length, database-name}
use Rattle.mm_session.proofs.Places.{source_at, source_inside, heading_at}
use Rattle.mm_session.proofs.execute.select.full_name.Goals as goal

abbrev none : TableNumber
none = record { 0 = 0 }

pub table_name-requires : goal.table_name-requires
table_name-requires c =
    let catalog = c.args.catalog.now in
    let has = c.requires.place in
    let there = source_at catalog.relations c.args.sources.now c.args.place.source has.0 none has.1 in
    omega (arith, slice_get_within catalog.relations (slice_index_or c.args.sources.now c.args.place.source none).0 has.0 there, database-length catalog c.a_catalog_is_consistent.ensures.named)

pub offset_bounds-columns-place : goal.offset_bounds-columns-place
offset_bounds-columns-place c =
    let catalog = c.args.catalog.now in
    let has = c.requires.place in
    let there = source_at catalog.relations c.args.sources.now c.args.place.source has.0 none has.1 in
    let same : c.at.result.now ≡ has.0 = same_Some c.at.result.now has.0 (sym c.at.ensures ∙ there) in
    let columns : length c.as_slice-columns.result.now ≡ length has.0.schema.columns =
    ap length c.as_slice-columns.ensures ∙ ap (λ (h : Schema). length h.columns) c.schema.ensures ∙ ap (λ (s : RelationState). length s.schema.columns) same in
    let inside : c.args.place.column.0 < length c.as_slice-columns.result.now = omega (arith, has.2, columns) in
    search rules

pub bounds-columns-place : goal.bounds-columns-place
bounds-columns-place c =
    let catalog = c.args.catalog.now in
    let has = c.requires.place in
    let there = source_at catalog.relations c.args.sources.now c.args.place.source has.0 none has.1 in
    let same : c.at.result.now ≡ has.0 = same_Some c.at.result.now has.0 (sym c.at.ensures ∙ there) in
    let columns : length c.as_slice-columns.result.now ≡ length has.0.schema.columns =
    ap length c.as_slice-columns.ensures ∙ ap (λ (h : Schema). length h.columns) c.schema.ensures ∙ ap (λ (s : RelationState). length s.schema.columns) same in
    omega (arith, has.2, columns)

pub returns : goal.returns
returns c =
    let catalog = c.args.catalog.now in
    let ok = c.a_catalog_is_consistent.ensures in
    let place = c.args.place in
    let sources = c.args.sources.now in
    let has = c.requires.place in
    let n : ℕ = (slice_index_or sources place.source none).0 in
    let there : slice_get catalog.relations n ≡ Some has.0 = source_at catalog.relations sources place.source has.0 none has.1 in
    let within : n < length catalog.relations = slice_get_within catalog.relations n has.0 there in
    let same : c.at.result.now ≡ has.0 = same_Some c.at.result.now has.0 (sym c.at.ensures ∙ there) in
    let columns : c.as_slice-columns.result.now ≡ has.0.schema.columns =
    c.as_slice-columns.ensures ∙ ap (λ (h : Schema). h.columns) c.schema.ensures ∙ ap (λ (s : RelationState). s.schema.columns) same in
    let named = named_at catalog ok n within in
    let called : c.table_name.result.now ≡ named.0 = same_Some c.table_name.result.now named.0 (sym c.table_name.ensures ∙ database-name catalog ok.named n named.0 named.1 within) in
    let column : Column = c.index-columns-place.result in
    let inside : place.column.0 < length c.as_slice-columns.result.now = let l = ap length columns in omega (arith, has.2, l) in
    let at : slice_get has.0.schema.columns place.column.0 ≡ Some column =
    subst (λ (cs : List Column). slice_get cs place.column.0 ≡ Some column) columns
    (slice_get-get_or c.as_slice-columns.result.now place.column.0 column inside ∙ ap Some (sym c.index-columns-place.is)) in
    let source : slice_get (map (λ (t : TableNumber). t.0) sources) place.source ≡ Some n =
    slice_get-map (λ (t : TableNumber). t.0) sources place.source
    ∙ ap (option_map (λ (t : TableNumber). t.0)) (slice_get-get_or sources place.source none (source_inside catalog.relations sources place.source has.0 has.1)) in
    ap (λ (name : List ℕ). name ++ 46 ∷ c.as_str.result.now) called
    ∙ ap (λ (name : List ℕ). named.0 ++ 46 ∷ name) c.as_str.ensures
    ∙ ap (λ (h : Column). named.0 ++ 46 ∷ h.name) (sym c.index-columns-place.is)
    ∙ sym (heading_at catalog ok (map (λ (t : TableNumber). t.0) sources) place n has.0 named.0 column c.requires.sources source there named.1 at)
