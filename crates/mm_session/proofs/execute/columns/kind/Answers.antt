use Rattle.std.proofs.Common.{◌≡◌, ◌∙◌, ◌<◌, List, ℕ, Some, ap, sym, subst, map, length, arith}
use Rattle.std.specs.List.{All}
use Rattle.std.specs.Prelude.{slice_get, slice_index_or}
use Rattle.std.specs.Option.{option_and_then, option_map}
use Rattle.std.proofs.lemmas.Option.{slice_get-get_or, slice_get-map, slice_get_within, same_Some}
use Rattle.plain_tables.specs.References.{type_of}
use Rattle.plain_tables.specs.Tables.{Table}
use Rattle.plain_tables.specs.declared.numbers.Place.{Place}
use Rattle.plain_tables.specs.declared.numbers.TableNumber.{TableNumber}
use Rattle.plain_tables.specs.declared.schema.Column.{Column}
use Rattle.plain_tables.specs.declared.schema.Schema.{Schema}
use Rattle.mm_relation.specs.State.{RelationState}
use Rattle.mm_catalog.specs.State.{CatalogState}
use Rattle.mm_catalog.specs.Consistent.{IsConsistent}
use Rattle.mm_catalog.specs.Seen.{database_of, table_of}
use Rattle.mm_catalog.proofs.Among.{named_at}
use Rattle.mm_catalog.proofs.Tables.{database-get}
use Rattle.mm_session.specs.Columns.{column_at}
use Rattle.mm_session.specs.Members.{tables_at}
use Rattle.mm_session.proofs.Places.{source_at, source_inside, tables_get}
use Rattle.mm_session.proofs.execute.columns.kind.Goals as goal

abbrev none : TableNumber
none = record { 0 = 0 }

-- the column at a place is that of the relation of its source
column_there : (c : CatalogState) (ok : IsConsistent c) (sources : List ℕ) (place : Place) (n : ℕ) (s : RelationState) (column : Column) → All (λ n. n < length c.relations) sources
    → slice_get sources place.source ≡ Some n → slice_get c.relations n ≡ Some s → slice_get s.schema.columns place.column.0 ≡ Some column
    → column_at (tables_at c sources) place ≡ Some column
unfolding table_of
column_there c ok sources place n s column within source there at =
    let name = named_at c ok n (slice_get_within c.relations n s there) in
    ap (option_and_then (λ (table : Table). slice_get table.columns place.column.0))
    (tables_get c ok sources place.source within ∙ ap (option_and_then (slice_get (database_of c))) source ∙ database-get c ok.named n name.0 s name.1 there)
    ∙ at

pub returns : goal.returns
returns c =
    let catalog = c.args.catalog.now in
    let ok = c.a_catalog_is_consistent.ensures in
    let place = c.args.place in
    let sources = c.args.sources.now in
    let numbers : List ℕ = map (λ (t : TableNumber). t.0) sources in
    let has = c.requires.place in
    let n : ℕ = (slice_index_or sources place.source none).0 in
    let there : slice_get catalog.relations n ≡ Some has.0 = source_at catalog.relations sources place.source has.0 none has.1 in
    let same : c.at.result.now ≡ has.0 = same_Some c.at.result.now has.0 (sym c.at.ensures ∙ there) in
    let columns : c.as_slice-columns.result.now ≡ has.0.schema.columns =
    c.as_slice-columns.ensures ∙ ap (λ (h : Schema). h.columns) c.schema.ensures ∙ ap (λ (s : RelationState). s.schema.columns) same in
    let column : Column = c.index-columns-place.result in
    let inside : place.column.0 < length c.as_slice-columns.result.now = let l = ap length columns in omega (arith, has.2, l) in
    let at : slice_get has.0.schema.columns place.column.0 ≡ Some column =
    subst (λ (cs : List Column). slice_get cs place.column.0 ≡ Some column) columns
    (slice_get-get_or c.as_slice-columns.result.now place.column.0 column inside ∙ ap Some (sym c.index-columns-place.is)) in
    let source : slice_get numbers place.source ≡ Some n =
    slice_get-map (λ (t : TableNumber). t.0) sources place.source
    ∙ ap (option_map (λ (t : TableNumber). t.0)) (slice_get-get_or sources place.source none (source_inside catalog.relations sources place.source has.0 has.1)) in
    let here = column_there catalog ok numbers place n has.0 column c.requires.sources source there at in
    c.type_of.ensures ∙ ap (λ (h : Column). type_of (database_of catalog) h.kind) (sym c.index-columns-place.is)
    ∙ sym (ap (option_and_then (λ (h : Column). type_of (database_of catalog) h.kind)) here)
