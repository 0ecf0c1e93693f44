-- What is shown of the one row that passes.
use Rattle.std.proofs.Common.{◌≡◌, ◌∙◌, ℕ, ◌<◌, List, [], ◌∷◌, Option, None, Some, IsSome, refl, sym, ap, subst, arith, append-nil, get_or, length, map}
use Rattle.std.specs.Prelude.{pos, slice_get}
use Rattle.std.specs.FinMap as finite
use Rattle.std.specs.List.{All, cons_option, range_with_len}
use Rattle.std.specs.Option.{option_to_list}
use Rattle.std.proofs.lemmas.List.{length-map}
use Rattle.std.proofs.lemmas.List.Concat.{flat_map-cons}
use Rattle.std.proofs.lemmas.List.Elements.{All-map}
use Rattle.std.proofs.lemmas.List.FromFn.{fill_by_all, length-range_with_len}
use Rattle.std.proofs.lemmas.Simd.{map-map}
use Rattle.part_raw.specs.declared.tuple_ref.TupleRef.{TupleRef}
use Rattle.plain_tables.specs.Doing.{headings, joined_tables}
use Rattle.plain_tables.specs.Queries.{JoinedColumn, column_number, source_columns}
use Rattle.plain_tables.specs.ResolvedLaws.{IsMeant}
use Rattle.plain_tables.specs.Tables.{Table, Row}
use Rattle.plain_tables.specs.declared.numbers.ColumnNumber.{ColumnNumber}
use Rattle.plain_tables.specs.declared.numbers.Place.{Place}
use Rattle.plain_tables.specs.declared.resolved.Query.{Query}
use Rattle.plain_tables.specs.declared.resolved.Resolved.TheVariants as resolved
use Rattle.plain_tables.specs.declared.resolved.Shown.{Shown}
use Rattle.plain_tables.specs.declared.resolved.Shown.TheVariants as shown
use Rattle.plain_tables.specs.declared.value.Value.TheVariants as value
use Rattle.mm_relation.specs.State.{RelationState}
use Rattle.mm_catalog.specs.State.{CatalogState}
use Rattle.mm_catalog.specs.Seen.{database_of}
use Rattle.mm_catalog.specs.Consistent.{IsConsistent}
use Rattle.mm_catalog.specs.Picked.{seen_values}
use Rattle.mm_catalog.proofs.Among.{among_at}
use Rattle.mm_catalog.proofs.Lists.{map_agree_on}
use Rattle.temp_list.specs.Reading.{value_in}
use Rattle.temp_list.proofs.Selects.{passing_held}
use Rattle.mm_session.specs.OnlyRow.{ShowsOnly, ShowsRows, columns_shown, values_shown}
use Rattle.mm_session.specs.Members.{tables_at}
use Rattle.mm_session.specs.Shown.{heading, places_shown}
use Rattle.mm_session.specs.Walked.{rows_shown, shown_row}
use Rattle.mm_session.proofs.Dumps.{seen_long}
use Rattle.mm_session.proofs.Members.{value_seen, width_same}
use Rattle.mm_session.proofs.Places.{place_at, places_from}
use Rattle.mm_session.proofs.Walked.{columns_over, heads_shown, places_some, walked_rows}

-- ---- the columns that are shown

numbers_of : (ns : List ℕ) → map (λ (p : Place). p.column) (map (place_at 0) ns) ≡ map column_number ns
numbers_of ns = map-map (λ (p : Place). p.column) (place_at 0) ns

columns_alone : (table : Table) (its : Shown) → columns_shown (length table.columns) its ≡ map (λ place. place.column) (places_shown (table ∷ []) its)
columns_alone table (shown.Columns places) = refl
columns_alone table shown.All =
    let place : JoinedColumn → Place = λ j. j.place in
    sym (ap (λ js. map (λ (p : Place). p.column) (map place js)) (flat_map-cons source_columns (0, table) [] ∙ append-nil (source_columns (0, table)))
    ∙ ap (map (λ (p : Place). p.column)) (places_from 0 0 table.name table.columns)
    ∙ numbers_of (range_with_len 0 (length table.columns)))

-- all columns of so many
pub all_wide : (width : ℕ) → length (columns_shown width shown.All) ≡ width
all_wide width = length-map (range_with_len 0 width) column_number ∙ length-range_with_len 0 width

-- ---- the values that are shown of a row

module _ (c : CatalogState) (s : RelationState) (r : TupleRef) where
  -- those at places
  pub placed_shown : (places : List Place) → shown_row c s places r ≡ map (λ column. value_in c.relations s column.0 r) (map (λ place. place.column) places)
  placed_shown places = sym (map-map (λ (column : ColumnNumber). value_in c.relations s column.0 r) (λ (p : Place). p.column) places)

  -- and all of them
  pub whole_shown : IsSome (finite.get s.rows r) → seen_values c s r ≡ values_shown c s shown.All r
  whole_shown held =
      let width = length s.schema.columns in
      fill_by_all (λ k. value_in c.relations s k r) (seen_values c s r) width (value.Int (pos 0)) (seen_long c s r held) (λ k l. sym (value_seen c s r held k l))
      ∙ sym (map-map (λ (column : ColumnNumber). value_in c.relations s column.0 r) column_number (range_with_len 0 width))

module _ (c : CatalogState) (ok : IsConsistent c) (query : Query) (one : IsMeant c.limits (database_of c) (resolved.Select query) × (query.joins ≡ [])) (s : RelationState) (there : slice_get c.relations query.source.table.0 ≡ Some s) where
  abbrev n : ℕ
  n = query.source.table.0

  abbrev pub places : List Place
  places = places_shown (tables_at c (n ∷ [])) query.shown

  pub columns_same : columns_shown (length s.schema.columns) query.shown ≡ map (λ place. place.column) places
  columns_same =
      let table : Table = one.0.0.0 in
      ap (λ width. columns_shown width query.shown) (sym (width_same c ok n table one.0.0.1 s there))
      ∙ columns_alone table query.shown
      ∙ ap (λ o. map (λ (p : Place). p.column) (places_shown (cons_option o []) query.shown)) (sym one.0.0.1)

  pub columns_there : All (λ column. column.0 < length s.schema.columns) (columns_shown (length s.schema.columns) query.shown)
  columns_there =
      subst (All (λ (column : ColumnNumber). column.0 < length s.schema.columns)) (sym columns_same)
      (All-map (λ (column : ColumnNumber). column.0 < length s.schema.columns) (λ (p : Place). p.column) places (columns_over c ok query one s there places refl))

  pub values_same : (r : TupleRef) → values_shown c s query.shown r ≡ shown_row c s places r
  values_same r = ap (map (λ (column : ColumnNumber). value_in c.relations s column.0 r)) columns_same ∙ sym (placed_shown c s r places)

  wide : length (columns_shown (length s.schema.columns) query.shown) ≡ length places
  wide = ap length columns_same ∙ length-map places (λ (p : Place). p.column)

  pub width_shown : length (columns_shown (length s.schema.columns) query.shown) ≡ length (headings (joined_tables (database_of c) query.source query.joins) query.shown)
  width_shown = wide ∙ sym (length-map places (heading (tables_at c (n ∷ [])))) ∙ ap length (heads_shown c ok query one s there places refl)

  pub width_some : 0 < length (columns_shown (length s.schema.columns) query.shown)
  width_some = let some = places_some c ok query one s there places refl in omega (arith, some, wide)

  -- the rows that pass are what is shown
  module _ (rows : List TupleRef) (shows : ShowsRows c query rows) where
    pub found_shown : map (values_shown c s query.shown) rows ≡ rows_shown c query
    found_shown =
        map_agree_on (values_shown c s query.shown) (shown_row c s places) rows (λ k d l. values_same (get_or rows k d))
        ∙ ap (map (shown_row c s places)) (sym (shows.pass s there)) ∙ walked_rows c ok query one s there places refl shows.ordered.0

    -- and they are held
    pub found_held : All (λ r. IsSome (finite.get s.rows r)) rows
    found_held = subst (All (λ r. IsSome (finite.get s.rows r))) (shows.pass s there) (passing_held c.relations s (among_at c ok n s there).kept query.source.tests)

  -- the row that passes is what is shown
  module _ (row : Option TupleRef) (only : ShowsOnly c query row) where
    pub only_rows : map (shown_row c s places) (option_to_list row) ≡ rows_shown c query
    only_rows = ap (map (shown_row c s places)) (sym (only.passes s there)) ∙ walked_rows c ok query one s there places refl only.ordered.0

    pub one_shown : (r : TupleRef) → row ≡ Some r → values_shown c s query.shown r ∷ [] ≡ rows_shown c query
    one_shown r is = ap (λ (values : Row). values ∷ []) (values_same r) ∙ ap (λ o. map (shown_row c s places) (option_to_list o)) (sym is) ∙ only_rows

    pub none_shown : row ≡ None → [] ≡ rows_shown c query
    none_shown is = ap (λ o. map (shown_row c s places) (option_to_list o)) (sym is) ∙ only_rows

    -- and it is held
    pub only_held : All (λ r. IsSome (finite.get s.rows r)) (option_to_list row)
    only_held = subst (All (λ r. IsSome (finite.get s.rows r))) (only.passes s there) (passing_held c.relations s (among_at c ok n s there).kept query.source.tests)
