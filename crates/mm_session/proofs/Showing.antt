-- What a list of the members of joined tables shows.
use Rattle.std.proofs.Common.{◌≡◌, ℕ, zero, suc, ◌+◌, ◌<◌, Bool, true, false, List, [], ◌∷◌, ◌++◌, Some, refl, sym, ap, ◌∙◌, subst, arith, length, map, get_or, append_assoc}
use Rattle.std.proofs.lemmas.List.{length-map, map-append, length-append}
use Rattle.std.proofs.lemmas.List.Concat.{flat_map-cons}
use Rattle.std.proofs.lemmas.List.Elements.{All-head, All-tail, All-contains, All-contains_itself}
use Rattle.std.proofs.lemmas.List.FromFn.{fill_by_all}
use Rattle.std.proofs.lemmas.Option.{slice_get-get_or, none-some, same_Some}
use Rattle.std.proofs.lemmas.Simd.{map-map}
use Rattle.std.specs.Cmp.Lexicographic.{pointwise, pointwise_decides}
use Rattle.std.specs.List.{All, flat_map, filter_map, cons_option, enumerate_from, range_with_len}
use Rattle.std.specs.Option.{option_and_then, option_map, option_map_or}
use Rattle.std.specs.Prelude.{slice_get, pos}
use Rattle.plain_tables.specs.Tables.{Table, Row}
use Rattle.plain_tables.specs.Databases.{Database}
use Rattle.plain_tables.specs.Queries.{JoinedColumn, source_columns, joined_columns, full_name, value_at}
use Rattle.plain_tables.specs.Joining as plain
use Rattle.plain_tables.specs.Joining.{Member}
use Rattle.plain_tables.specs.ResolvedLaws as meant
use Rattle.plain_tables.specs.Doing.{headings, name_at, shown_values}
use Rattle.plain_tables.specs.declared.value.Value.TheVariants as value
use Rattle.plain_tables.specs.declared.schema.Column.{Column}
use Rattle.plain_tables.specs.declared.schema.ColKind.TheVariants as kind
use Rattle.plain_tables.specs.declared.numbers.Place.{Place}
use Rattle.plain_tables.specs.declared.resolved.Shown.{Shown}
use Rattle.plain_tables.specs.declared.resolved.Shown.TheVariants as shown
use Rattle.plain_tables.proofs.Headings.{IsMember, row_length}
use Rattle.mm_index.proofs.Bags.{Contains-same_bag}
use Rattle.mm_index.proofs.Refs.{same_ref, Decides-same_ref}
use Rattle.mm_relation.specs.State.{RelationState}
use Rattle.temp_list.specs.Lists.{ListState, IsOver, IsRowOver, HasPlace}
use Rattle.mm_session.specs.Shown.{places_shown, heading, IsOrderedOf}
use Rattle.mm_session.proofs.Places.{place_at, places_from}

-- ---- a list in its order

-- it is over the same relations
pub still_over : (relations : List RelationState) (distinct : Bool) (old new : ListState) → IsOver relations old → IsOrderedOf relations distinct old new → IsOver relations new
still_over relations false old new over (kept, bag, sorted) =
    subst (IsOver relations) (sym kept) (record {
      sources = over.sources;
      rows = λ k d l.
          All-contains (IsRowOver relations old.sources) old.rows (get_or new.rows k d) over.rows
          (Contains-same_bag (pointwise same_ref) (pointwise_decides Decides-same_ref) new.rows old.rows (get_or new.rows k d) bag (All-contains_itself new.rows k d l));
      columns = over.columns;
    })
still_over relations true old new over is = record {
  sources = subst (λ (ns : List ℕ). All (λ n. n < length relations) ns) (sym is.sources) over.sources;
  rows = λ k d l.
      subst (λ (ns : List ℕ). IsRowOver relations ns (get_or new.rows k d)) (sym is.sources)
      (All-contains (IsRowOver relations old.sources) old.rows (get_or new.rows k d) over.rows (is.some k d l));
  columns = λ k d l.
      subst (λ (ns : List ℕ). HasPlace relations ns (get_or new.columns k d)) (sym is.sources)
      (subst (λ (ps : List Place). All (HasPlace relations old.sources) ps) (sym is.columns) over.columns k d l);
}

-- ---- headings

-- columns by name
named_headings : (tables : List Table) (places : List Place) → All (meant.HasPlace tables) places → map (heading tables) places ≡ filter_map (name_at tables) places
named_headings tables [] there = refl
named_headings tables (place ∷ places) there =
    let has = All-head (meant.HasPlace tables) place places there in
    let none : Column = record { name = []; kind = kind.Int } in
    let column = get_or has.0.columns place.column.0 none in
    let named : name_at tables place ≡ Some (full_name has.0.name column) =
    ap (λ o. option_and_then (λ (t : Table). option_map (full_name t.name) (slice_get t.columns place.column.0)) o) has.1
    ∙ ap (option_map (full_name has.0.name)) (slice_get-get_or has.0.columns place.column.0 none has.2) in
    ap (λ o. option_map_or (λ (h : List ℕ). h) o [] ∷ map (heading tables) places) named
    ∙ ap (λ hs. full_name has.0.name column ∷ hs) (named_headings tables places (All-tail (meant.HasPlace tables) place places there))
    ∙ sym (ap (λ o. cons_option o (filter_map (name_at tables) places)) named)

-- what a function of places gives of all columns, table by table
module _ {B : Type 0} (f : Place → B) (whole : List Table) (g : ℕ → Table → List B) (each : (n : ℕ) (t : Table) → slice_get whole n ≡ Some t → map (λ k. f (place_at n k)) (range_with_len 0 (length t.columns)) ≡ g n t) where
  abbrev of_rest : ℕ → List Table → List B
  of_rest n tables = flat_map (λ (p : ℕ × Table). g p.0 p.1) (enumerate_from n tables)

  table_by_table : (n : ℕ) (tables : List Table) → ((k : ℕ) (t : Table) → slice_get tables k ≡ Some t → slice_get whole (n + k) ≡ Some t)
      → map f (map (λ (j : JoinedColumn). j.place) (flat_map source_columns (enumerate_from n tables))) ≡ of_rest n tables
  table_by_table n [] among = refl
  table_by_table n (t ∷ tables) among =
      let place : JoinedColumn → Place = λ j. j.place in
      let here : map f (map place (source_columns (n, t))) ≡ g n t =
      ap (map f) (places_from n 0 t.name t.columns) ∙ map-map f (place_at n) (range_with_len 0 (length t.columns))
      ∙ each n t (ap (slice_get whole) (sym (n_zero n)) ∙ among 0 t refl) in
      ap (λ js. map f (map place js)) (flat_map-cons source_columns (n, t) (enumerate_from (n + 1) tables))
      ∙ ap (map f) (map-append place (source_columns (n, t)) (flat_map source_columns (enumerate_from (n + 1) tables)))
      ∙ map-append f (map place (source_columns (n, t))) (map place (flat_map source_columns (enumerate_from (n + 1) tables)))
      ∙ ap (λ bs. bs ++ map f (map place (flat_map source_columns (enumerate_from (n + 1) tables)))) here
      ∙ ap (λ bs. g n t ++ bs) (table_by_table (n + 1) tables (λ k u at. ap (slice_get whole) (shift n k) ∙ among (suc k) u at))
      ∙ sym (flat_map-cons (λ (p : ℕ × Table). g p.0 p.1) (n, t) (enumerate_from (n + 1) tables))
    where
      n_zero : (n : ℕ) → n + 0 ≡ n
      n_zero n = omega arith

      shift : (n k : ℕ) → n + 1 + k ≡ n + suc k
      shift n k = omega arith

  pub all_tables : map f (map (λ (j : JoinedColumn). j.place) (joined_columns whole)) ≡ of_rest 0 whole
  all_tables = table_by_table 0 whole (λ k t at. ap (slice_get whole) (from_zero k) ∙ at)
    where
      from_zero : (k : ℕ) → 0 + k ≡ k
      from_zero k = omega arith

titled : (table : List ℕ) (columns : List Column) (k : ℕ) → get_or (map (full_name table) columns) k [] ≡ option_map_or (λ (h : List ℕ). h) (option_map (full_name table) (slice_get columns k)) []
titled table [] k = refl
titled table (c ∷ columns) zero = refl
titled table (c ∷ columns) (suc k) = titled table columns k

numberless : {B : Type 0} (h : Table → List B) (n : ℕ) (tables : List Table) → flat_map (λ (p : ℕ × Table). h p.1) (enumerate_from n tables) ≡ flat_map h tables
numberless h n [] = refl
numberless h n (t ∷ tables) =
    flat_map-cons (λ (p : ℕ × Table). h p.1) (n, t) (enumerate_from (n + 1) tables) ∙ ap (λ bs. h t ++ bs) (numberless h (n + 1) tables) ∙ sym (flat_map-cons h t tables)

all_headings : (tables : List Table) → map (heading tables) (map (λ (j : JoinedColumn). j.place) (joined_columns tables)) ≡ headings tables shown.All
all_headings tables =
    all_tables (heading tables) tables (λ n t. map (full_name t.name) t.columns)
    (λ n t at.
    sym (fill_by_all (λ k. heading tables (place_at n k)) (map (full_name t.name) t.columns) (length t.columns) [] (length-map t.columns (full_name t.name))
    (λ k l. titled t.name t.columns k
    ∙ sym (ap (λ o. option_map_or (λ (h : List ℕ). h) (option_and_then (λ (t : Table). option_map (full_name t.name) (slice_get t.columns k)) o) []) at))))
    ∙ numberless (λ t. map (full_name t.name) t.columns) 0 tables

pub headings_shown : (tables : List Table) (its : Shown) → meant.IsShown tables its → map (heading tables) (places_shown tables its) ≡ headings tables its
headings_shown tables shown.All there = all_headings tables
headings_shown tables (shown.Columns places) there = named_headings tables places there.1

-- ---- values

row_whole : (row : Row) → map (value_at row) (range_with_len 0 (length row)) ≡ row
row_whole row = sym (fill_by_all (value_at row) row (length row) (value.Int (pos 0)) refl (λ k l. refl))

-- the rows of a member, by their numbers
rows_by_number : (tables : Database) (before rows : Member) (among : List Table) → IsMember tables among rows
    → flat_map (λ (p : ℕ × Table). get_or (before ++ rows) p.0 []) (enumerate_from (length before) among) ≡ flat_map (λ row. row) rows
rows_by_number tables before [] [] are = refl
rows_by_number tables before (row ∷ rows) [] are = absurd are
rows_by_number tables before [] (t ∷ among) are = absurd are
rows_by_number tables before (row ∷ rows) (t ∷ among) are =
    let all = before ++ row ∷ rows in
    let longer : (before ++ row ∷ []) ++ rows ≡ all = append_assoc before (row ∷ []) rows in
    let more : length (before ++ row ∷ []) ≡ length before + 1 = length-append before (row ∷ []) in
    flat_map-cons (λ (p : ℕ × Table). get_or all p.0 []) (length before, t) (enumerate_from (length before + 1) among)
    ∙ ap (λ r. r ++ flat_map (λ (p : ℕ × Table). get_or all p.0 []) (enumerate_from (length before + 1) among)) (at_seam before row rows)
    ∙ ap (λ n. row ++ flat_map (λ (p : ℕ × Table). get_or all p.0 []) (enumerate_from n among)) (sym more)
    ∙ ap (λ m. row ++ flat_map (λ (p : ℕ × Table). get_or m p.0 []) (enumerate_from (length (before ++ row ∷ [])) among)) (sym longer)
    ∙ ap (λ vs. row ++ vs) (rows_by_number tables (before ++ row ∷ []) rows among are.1)
    ∙ sym (flat_map-cons (λ (r : Row). r) row rows)
  where
    at_seam : (before : Member) (row : Row) (rows : Member) → get_or (before ++ row ∷ rows) (length before) [] ≡ row
    at_seam [] row rows = refl
    at_seam (b ∷ before) row rows = at_seam before row rows

row_fits : (tables : Database) (among : List Table) (member : Member) (n : ℕ) (t : Table) → IsMember tables among member → slice_get among n ≡ Some t → length (get_or member n []) ≡ length t.columns
row_fits tables [] member n t are at = absurd (none-some t at)
row_fits tables (u ∷ among) [] n t are at = absurd are
row_fits tables (u ∷ among) (row ∷ member) zero t are at = row_length tables u.columns row are.0 ∙ ap (λ (t : Table). length t.columns) (same_Some u t at)
row_fits tables (u ∷ among) (row ∷ member) (suc n) t are at = row_fits tables among member n t are.1 at

-- the values at the places that are shown are those that are shown of the member
pub values_shown : (tables : Database) (among : List Table) (its : Shown) (member : Member) → IsMember tables among member → map (plain.value_of member) (places_shown among its) ≡ shown_values its member
values_shown tables among shown.All member are =
    all_tables (plain.value_of member) among (λ n t. get_or member n [])
    (λ n t at. ap (λ w. map (value_at (get_or member n [])) (range_with_len 0 w)) (sym (row_fits tables among member n t are at)) ∙ row_whole (get_or member n []))
    ∙ rows_by_number tables [] member among are
values_shown tables among (shown.Columns places) member are = refl
