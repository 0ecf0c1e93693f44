-- What a select shows: rows with a value below each heading, and as many headings as the columns that it names.
use Rattle.std.proofs.Common.{◌≡◌, ◌+◌, suc, Bool, true, false, length, map, List, [], ◌∷◌, ◌++◌, append-nil, append_assoc, sym, ap, ◌∙◌, subst, refl, Some}
use Rattle.std.specs.List.{All, AllZip, filter, filter_map, flat_map, cons_option, slice_get}
use Rattle.std.proofs.lemmas.List.{length-map, length-append}
use Rattle.std.proofs.lemmas.Simd.{map-map}
use Rattle.std.proofs.lemmas.List.Elements.{All-head, All-tail, All-map, All-filter, All-weaker}
use Rattle.std.proofs.lemmas.Option.{slice_get-get_or}
use Rattle.common_lemmas.proofs.Filters.{filter_all}
use Rattle.plain_tables.specs.Tables.{Table, Row}
use Rattle.plain_tables.specs.Databases.{Database}
use Rattle.plain_tables.specs.Queries.{joined_columns, full_name, places_meant}
use Rattle.plain_tables.specs.Joining.{Member, passes_all, source_rows, value_of, product, is_joined, joined, joined_all, members_of}
use Rattle.plain_tables.specs.Effects.{Rows}
use Rattle.plain_tables.specs.References.{IsRowOf, IsSound}
use Rattle.plain_tables.specs.Doing.{shown_values, joined_tables, headings, shown_rows}
use Rattle.plain_tables.specs.ResolvedLaws.{OfTable, HasPlace, IsShown, AreJoins, SelectsRows, ShownFitHeadings}
use Rattle.plain_tables.specs.CommandLaws.{NamesHaveHeadings}
use Rattle.plain_tables.specs.QueryLaws.{SelectsPassing}
use Rattle.plain_tables.specs.declared.schema.ColKind.TheVariants as kind
use Rattle.plain_tables.specs.declared.schema.Column.{Column}
use Rattle.plain_tables.specs.declared.command.Limits.{Limits}
use Rattle.plain_tables.specs.declared.numbers.Place.{Place}
use Rattle.plain_tables.specs.declared.resolved.Source.{Source}
use Rattle.plain_tables.specs.declared.resolved.Joined.{Joined}
use Rattle.plain_tables.specs.declared.resolved.Shown.{Shown}
use Rattle.plain_tables.specs.declared.resolved.Shown.TheVariants as shown
use Rattle.plain_tables.proofs.Columns.{have_places, places_length}
use Rattle.plain_tables.proofs.Distinct.{All-distinct}
use Rattle.common_lemmas.proofs.Elements.{All-at, All-flat_map}

-- ---- rows alone

-- rows of one table are shown as they are
pub shown_alone : (rows : List Row) → map (shown_values shown.All) (map (λ row. row ∷ []) rows) ≡ rows
shown_alone [] = refl
shown_alone (row ∷ rows) = rw (append-nil row, shown_alone rows) refl

pub selects_passing : SelectsPassing
selects_passing limits tables n table its tests there =
    rw there (ap (Rows (headings (table ∷ []) its)) (map-map (shown_values its) (λ row. row ∷ []) (filter (passes_all tests) table.rows)))

pub selects_rows : SelectsRows
selects_rows limits tables n table there =
    let shows : map (shown_values shown.All) (map (λ row. row ∷ []) (filter (passes_all []) table.rows)) ≡ table.rows =
    shown_alone (filter (passes_all []) table.rows) ∙ filter_all (passes_all []) table.rows (λ k d l. refl)
    in
    rw there (ap (Rows (headings (table ∷ []) shown.All)) shows)

-- ---- members

-- a member has a row of each of these tables
abbrev pub IsMember : Database → List Table → Member → Type 0
IsMember tables among member = AllZip (λ (t : Table) row. IsRowOf tables t.columns row) among member

-- one row more, of one table more
member_more : (tables : Database) (among : List Table) (member : Member) (table : Table) (row : Row) → IsMember tables among member
    → IsRowOf tables table.columns row → IsMember tables (among ++ table ∷ []) (member ++ row ∷ [])
member_more tables [] [] table row are fits = (fits, tt)
member_more tables [] (r ∷ member) table row are fits = absurd are
member_more tables (t ∷ among) [] table row are fits = absurd are
member_more tables (t ∷ among) (r ∷ member) table row are fits = (are.0, member_more tables among member table row are.1 fits)

source_fits : (limits : Limits) (tables : Database) (source : Source) (table : Table) → IsSound limits tables
    → slice_get tables source.table.0 ≡ Some table → All (IsRowOf tables table.columns) (source_rows tables source)
source_fits limits tables source table sound there =
    rw there (
    All-filter (passes_all source.tests) (IsRowOf tables table.columns) table.rows
    (All-at (λ t. All (IsRowOf tables t.columns) t.rows) tables source.table.0 table sound.rows_fit there)
    )

joined_fit : (limits : Limits) (tables : Database) (among : List Table) (members : List Member) (join : Joined) (table : Table)
    → IsSound limits tables → slice_get tables join.source.table.0 ≡ Some table → All (IsMember tables among) members
    → All (IsMember tables (among ++ table ∷ [])) (joined tables members join)
joined_fit limits tables among members join table sound there fit =
    let rows : List Row = source_rows tables join.source in
    let More : Member × Row → Type 0 = λ pair. IsMember tables (among ++ table ∷ []) (pair.0 ++ pair.1 ∷ []) in
    All-map (IsMember tables (among ++ table ∷ [])) (λ pair. pair.0 ++ pair.1 ∷ []) (filter (is_joined join) (product members rows))
    (All-filter (is_joined join) More (product members rows)
    (All-flat_map More (λ member. map (λ row. (member, row)) rows) members
    (All-weaker (IsMember tables among) (λ member. All More (map (λ row. (member, row)) rows))
    (λ member are. All-map More (λ row. (member, row)) rows
    (All-weaker (IsRowOf tables table.columns) (λ row. More (member, row))
    (λ row fits. member_more tables among member table row are fits) rows (source_fits limits tables join.source table sound there)))
    members fit)))

-- the tables of joins
abbrev tables_of : Database → List Joined → List Table
tables_of tables joins = filter_map (λ s. slice_get tables s.table.0) (map (λ j. j.source) joins)

all_joined_fit : (limits : Limits) (tables : Database) (among : List Table) (members : List Member) (joins : List Joined) → IsSound limits tables
    → AreJoins tables among joins → All (IsMember tables among) members
    → All (IsMember tables (among ++ tables_of tables joins)) (joined_all tables members joins)
all_joined_fit limits tables among members [] sound meant fit = rw append-nil fit
all_joined_fit limits tables among members (join ∷ joins) sound meant fit =
    let table : Table = meant.1.0 in
    let same : among ++ table ∷ [] ++ tables_of tables joins ≡ among ++ cons_option (slice_get tables join.source.table.0) (tables_of tables joins) =
    append_assoc among (table ∷ []) (tables_of tables joins) ∙ ap (λ o. among ++ cons_option o (tables_of tables joins)) (sym meant.1.1)
    in
    subst (λ ts. All (IsMember tables ts) (joined_all tables (joined tables members join) joins)) same
    (all_joined_fit limits tables (among ++ table ∷ []) (joined tables members join) joins sound meant.1.2.2
    (joined_fit limits tables among members join table sound meant.1.1 fit))

-- each member has a row of each table that is joined
pub members_fit : (limits : Limits) (tables : Database) (source : Source) (joins : List Joined) → IsSound limits tables
    → OfTable source.table tables (λ table. AreJoins tables (table ∷ []) joins)
    → All (IsMember tables (joined_tables tables source joins)) (members_of tables source joins)
members_fit limits tables source joins sound (table, there, meant) =
    subst (λ o. All (IsMember tables (cons_option o (tables_of tables joins))) (members_of tables source joins)) (sym there)
    (all_joined_fit limits tables (table ∷ []) (map (λ row. row ∷ []) (source_rows tables source)) joins sound meant
    (All-map (IsMember tables (table ∷ [])) (λ row. row ∷ []) (source_rows tables source)
    (All-weaker (IsRowOf tables table.columns) (λ row. IsMember tables (table ∷ []) (row ∷ [])) (λ row fits. (fits, tt))
    (source_rows tables source) (source_fits limits tables source table sound there))))

-- ---- headings

pub row_length : (tables : Database) (columns : List Column) (row : Row) → IsRowOf tables columns row → length row ≡ length columns
row_length tables [] [] h = refl
row_length tables [] (v ∷ row) h = absurd h
row_length tables (c ∷ columns) [] h = absurd h
row_length tables (c ∷ columns) (v ∷ row) h = ap suc (row_length tables columns row h.1)

any_column : Column
any_column = record { name = []; kind = kind.Int }

-- columns that are there have a heading each
pub headings_length : (among : List Table) (places : List Place) → All (HasPlace among) places
    → length (headings among (shown.Columns places)) ≡ length places
headings_length among [] there = refl
headings_length among (place ∷ places) there =
    let first : HasPlace among place = All-head (HasPlace among) place places there in
    rw (first.1, slice_get-get_or first.0.columns place.column.0 any_column first.2)
    (ap suc (headings_length among places (All-tail (HasPlace among) place places there)))

all_length : (tables : Database) (among : List Table) (member : Member) → IsMember tables among member
    → length (flat_map (λ row. row) member) ≡ length (headings among shown.All)
all_length tables [] [] are = refl
all_length tables [] (row ∷ member) are = absurd are
all_length tables (t ∷ among) [] are = absurd are
all_length tables (t ∷ among) (row ∷ member) are =
    length-append row (flat_map (λ r. r) member)
    ∙ ap (λ n. n + length (flat_map (λ r. r) member)) (row_length tables t.columns row are.0 ∙ sym (length-map t.columns (full_name t.name)))
    ∙ ap (λ n. length (map (full_name t.name) t.columns) + n) (all_length tables among member are.1)
    ∙ sym (length-append (map (full_name t.name) t.columns) (headings among shown.All))

shown_length : (tables : Database) (among : List Table) (its : Shown) (member : Member) → IsShown among its → IsMember tables among member
    → length (shown_values its member) ≡ length (headings among its)
shown_length tables among shown.All member there are = all_length tables among member are
shown_length tables among (shown.Columns places) member there are =
    length-map places (value_of member) ∙ sym (headings_length among places there.1)

All-shown : (P : Row → Type 0) (distinct : Bool) (its : Shown) (members : List Member) → All P (map (shown_values its) members)
    → All P (shown_rows distinct its members)
All-shown P false its members all = all
All-shown P true its members all = All-distinct P (map (shown_values its) members) all

pub shown_fit_headings : ShownFitHeadings
shown_fit_headings limits tables query sound meant =
    let among : List Table = joined_tables tables query.source query.joins in
    let members : List Member = members_of tables query.source query.joins in
    let its : Shown = query.shown in
    All-shown (λ row. length row ≡ length (headings among its)) query.distinct its members
    (All-map (λ row. length row ≡ length (headings among its)) (shown_values its) members
    (All-weaker (IsMember tables among) (λ member. length (shown_values its member) ≡ length (headings among its))
    (λ member are. shown_length tables among its member meant.1 are) members
    (members_fit limits tables query.source query.joins sound (meant.0.0, meant.0.1, meant.0.2.1))))

pub names_have_headings : NamesHaveHeadings
names_have_headings among names h =
    headings_length among (places_meant (joined_columns among) names) (have_places among names) ∙ places_length (joined_columns among) names h
