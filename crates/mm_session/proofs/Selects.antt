-- What a select shows of a list of its members is what it is answered by.
use Rattle.std.proofs.Common.{◌≡◌, ℕ, ◌+◌, ◌<◌, Bool, true, false, List, [], ◌∷◌, Option, None, Some, refl, sym, ap, ◌∙◌, subst, arith, length, map, get_or}
use Rattle.std.proofs.lemmas.List.{length-map, length-append}
use Rattle.std.proofs.lemmas.List.Concat.{flat_map-cons}
use Rattle.std.proofs.lemmas.List.Elements.{All-map, All-weaker, All-contains}
use Rattle.std.proofs.lemmas.Option.{slice_get_within, none-some}
use Rattle.std.proofs.lemmas.Simd.{map-map}
use Rattle.std.specs.Cmp.Lexicographic.{pointwise, pointwise_decides}
use Rattle.std.specs.List.{All, Contains, flat_map, filter_map, cons_option, enumerate_from}
use Rattle.std.specs.List.Sorted.{IsSorted}
use Rattle.std.specs.Option.{option_and_then}
use Rattle.std.specs.Prelude.{slice_get}
use Rattle.common_lemmas.proofs.Places.{slice_get-inside}
use Rattle.common_lemmas.proofs.Elements.{All-from_map, Contains-map, Contains-from_map}
use Rattle.part_raw.specs.declared.tuple_ref.TupleRef.{TupleRef}
use Rattle.plain_tables.specs.Tables.{Table}
use Rattle.plain_tables.specs.Queries.{JoinedColumn, source_columns, joined_columns}
use Rattle.plain_tables.specs.Joining as plain
use Rattle.plain_tables.specs.Joining.{Member, members_of, distinct_rows}
use Rattle.plain_tables.specs.ResolvedLaws as meant
use Rattle.plain_tables.specs.ResolvedLaws.{IsMeant, IsShown}
use Rattle.plain_tables.specs.Doing.{headings, shown_values, shown_rows, joined_tables}
use Rattle.plain_tables.specs.declared.numbers.Place.{Place}
use Rattle.plain_tables.specs.declared.resolved.Joined.{Joined}
use Rattle.plain_tables.specs.declared.resolved.Query.{Query}
use Rattle.plain_tables.specs.declared.resolved.Source.{Source}
use Rattle.plain_tables.specs.declared.resolved.Shown.{Shown}
use Rattle.plain_tables.specs.declared.resolved.Shown.TheVariants as shown
use Rattle.plain_tables.specs.declared.resolved.Resolved.TheVariants as resolved
use Rattle.plain_tables.proofs.Columns.{IsAt, columns_at}
use Rattle.plain_tables.proofs.Distinct.{distinct_rise, distinct_occur, rising_are_one}
use Rattle.plain_tables.proofs.Headings.{IsMember, members_fit}
use Rattle.mm_index.specs.Bag.{IsSameBag}
use Rattle.mm_index.specs.Order.{IsRising}
use Rattle.mm_index.proofs.Bags.{IsSameBag-sym, IsSameBag-trans, Contains-same_bag}
use Rattle.mm_index.proofs.Refs.{same_ref, Decides-same_ref}
use Rattle.mm_catalog.specs.State.{CatalogState}
use Rattle.mm_catalog.specs.Seen.{database_of}
use Rattle.mm_catalog.specs.Consistent.{IsConsistent}
use Rattle.mm_catalog.proofs.Among.{there_at, some_columns}
use Rattle.mm_catalog.proofs.Lists.{map_agree_on}
use Rattle.temp_list.specs.Lists.{ListState, IsOver, IsRowOver, HasPlace, value_of, keys_cmp}
use Rattle.temp_list.proofs.Sorts.{keys_total}
use Rattle.mm_session.specs.Members.{HasMembers, tables_at, joined_numbers, member_of}
use Rattle.mm_session.specs.Shown.{places_shown, heading, list_values, CanShow, IsOrderedOf}
use Rattle.mm_session.proofs.Members.{value_same, width_same}
use Rattle.mm_session.proofs.Places.{tables_get}
use Rattle.mm_session.proofs.Rising.{sorted_is_rising}
use Rattle.mm_session.proofs.Showing.{still_over, headings_shown, values_shown}

-- ---- the places that are shown

pub shown_there : (tables : List Table) (its : Shown) → IsShown tables its → All (meant.HasPlace tables) (places_shown tables its)
shown_there tables shown.All there =
    All-map (meant.HasPlace tables) (λ (j : JoinedColumn). j.place) (joined_columns tables)
    (All-weaker (IsAt tables) (λ (j : JoinedColumn). meant.HasPlace tables j.place)
    (λ j at. (at.0, at.1, slice_get_within at.0.columns j.place.column.0 j.column at.2)) (joined_columns tables) (columns_at tables))
shown_there tables (shown.Columns places) there = there.1

pub some_shown : (table : Table) (tables : List Table) (its : Shown) → 0 < length table.columns → IsShown (table ∷ tables) its → 0 < length (places_shown (table ∷ tables) its)
some_shown table tables (shown.Columns places) some there = there.0
some_shown table tables shown.All some there =
    let place : JoinedColumn → Place = λ j. j.place in
    let behind = flat_map source_columns (enumerate_from 1 tables) in
    let all : length (map place (joined_columns (table ∷ tables))) ≡ length (source_columns (0, table)) + length behind =
    length-map (joined_columns (table ∷ tables)) place ∙ ap length (flat_map-cons source_columns (0, table) (enumerate_from 1 tables)) ∙ length-append (source_columns (0, table)) behind in
    let first : length (source_columns (0, table)) ≡ length table.columns = length-map (enumerate_from 0 table.columns) _ ∙ numbered 0 table.columns in
    omega (arith, all, first, some)
  where
    numbered : {A : Type 0} (n : ℕ) (xs : List A) → length (enumerate_from n xs) ≡ length xs
    numbered n [] = refl
    numbered n (x ∷ xs) = let rest = numbered (n + 1) xs in omega (arith, rest)

module _ (c : CatalogState) (ok : IsConsistent c) where
  place_there : (sources : List ℕ) (place : Place) → All (λ n. n < length c.relations) sources → meant.HasPlace (tables_at c sources) place → HasPlace c.relations sources place
  place_there sources place there (table, at, within) = found (slice_get sources place.source) refl
    where
      found : (o : Option ℕ) → slice_get sources place.source ≡ o → HasPlace c.relations sources place
      found None e = absurd (none-some table (sym (ap (option_and_then (slice_get (database_of c))) e) ∙ sym (tables_get c ok sources place.source there) ∙ at))
      found (Some n) e =
          let stands : slice_get (database_of c) n ≡ Some table = sym (ap (option_and_then (slice_get (database_of c))) e) ∙ sym (tables_get c ok sources place.source there) ∙ at in
          let s = slice_get-inside c.relations n (there_at c ok n table stands) in
          let same = width_same c ok n table stands s.0 s.1 in
          (s.0, ap (option_and_then (slice_get c.relations)) e ∙ s.1, omega (arith, same, within))

  pub joins_tables : (joins : List Joined) → filter_map (slice_get (database_of c)) (joined_numbers joins) ≡ filter_map (λ (s : Source). slice_get (database_of c) s.table.0) (map (λ (j : Joined). j.source) joins)
  joins_tables [] = refl
  joins_tables (join ∷ joins) = ap (cons_option (slice_get (database_of c) join.source.table.0)) (joins_tables joins)

  module _ (query : Query) (means : IsMeant c.limits (database_of c) (resolved.Select query))
      (list : ListState) (has : HasMembers c (query.source.table.0 ∷ joined_numbers query.joins) (members_of (database_of c) query.source query.joins) list) where
    abbrev tables : List Table
    tables = tables_at c list.sources

    abbrev members : List Member
    members = members_of (database_of c) query.source query.joins

    are_tables : tables ≡ joined_tables (database_of c) query.source query.joins
    are_tables = ap (tables_at c) has.tables ∙ ap (cons_option (slice_get (database_of c) query.source.table.0)) (joins_tables query.joins)

    is_shown : IsShown tables query.shown
    is_shown = subst (λ ts. IsShown ts query.shown) (sym are_tables) means.1

    module _ (places : List Place) (shows : places ≡ places_shown tables query.shown) where
      abbrev described : ListState
      described = record list { columns = places }

      pub described_over : IsOver c.relations described
      described_over = record {
        sources = has.over.sources;
        rows = has.over.rows;
        columns = subst (All (HasPlace c.relations list.sources)) (sym shows)
            (All-weaker (meant.HasPlace tables) (HasPlace c.relations list.sources) (λ place there. place_there list.sources place has.over.sources there) (places_shown tables query.shown) (shown_there tables query.shown is_shown));
      }

      pub some_places : 0 < length places
      some_places =
          let first = means.0 in
          let s = slice_get-inside c.relations query.source.table.0 (there_at c ok query.source.table.0 first.0 first.1) in
          let same = width_same c ok query.source.table.0 first.0 first.1 s.0 s.1 in
          let least = some_columns c ok query.source.table.0 s.0 s.1 in
          let rest = filter_map (slice_get (database_of c)) (joined_numbers query.joins) in
          let begin : tables ≡ first.0 ∷ rest = ap (tables_at c) has.tables ∙ ap (λ o. cons_option o rest) first.1 in
          subst (λ (ps : List Place). 0 < length ps) (sym (shows ∙ ap (λ ts. places_shown ts query.shown) begin))
          (some_shown first.0 rest query.shown (omega (arith, same, least)) (subst (λ ts. IsShown ts query.shown) begin is_shown))

      -- the values that the list shows of a row are those that are shown of its member
      row_shown : (row : List TupleRef) → IsRowOver c.relations list.sources row → IsMember (database_of c) tables (member_of c list.sources row)
          → list_values c described row ≡ shown_values query.shown (member_of c list.sources row)
      row_shown row over are =
          map_agree_on (value_of c.relations list.sources row) (plain.value_of (member_of c list.sources row)) places (λ k d l. value_same c ok list.sources row (get_or places k d) over (described_over.columns k d l))
          ∙ ap (map (plain.value_of (member_of c list.sources row))) shows ∙ values_shown (database_of c) tables query.shown (member_of c list.sources row) are

      lead : map (member_of c list.sources) has.ordered ≡ members
      lead = ap (λ ns. map (member_of c ns) has.ordered) has.tables ∙ has.lead

      are_members : All (λ row. IsMember (database_of c) tables (member_of c list.sources row)) has.ordered
      are_members =
          All-from_map (IsMember (database_of c) tables) (member_of c list.sources) has.ordered
          (subst (All (IsMember (database_of c) tables)) (sym lead)
          (subst (λ ts. All (IsMember (database_of c) ts) members) (sym are_tables)
          (members_fit c.limits (database_of c) query.source query.joins ok.sound (means.0.0, means.0.1, means.0.2.1))))

      pub ordered_shown : map (list_values c described) has.ordered ≡ map (shown_values query.shown) members
      ordered_shown =
          map_agree_on (list_values c described) (λ row. shown_values query.shown (member_of c list.sources row)) has.ordered
          (λ k d l. row_shown (get_or has.ordered k d) (subst (λ ns. IsRowOver c.relations ns (get_or has.ordered k d)) (sym has.tables) (has.each k d l)) (are_members k d l))
          ∙ sym (map-map (shown_values query.shown) (member_of c list.sources) has.ordered) ∙ ap (map (shown_values query.shown)) lead

      module _ (new : ListState) (sources : new.sources ≡ list.sources) (columns : new.columns ≡ places) where
        values_kept : (rows : List (List TupleRef)) → map (list_values c new) rows ≡ map (list_values c described) rows
        values_kept rows =
            ap (λ ns. map (λ row. map (value_of c.relations ns row) new.columns) rows) sources ∙ ap (λ ps. map (λ row. map (value_of c.relations list.sources row) ps) rows) columns

        sorted_shown : IsSameBag new.rows list.rows → IsSorted (keys_cmp c.relations list.sources) new.rows → map (list_values c new) new.rows ≡ map (shown_values query.shown) members
        sorted_shown bag sorted =
            values_kept new.rows
            ∙ ap (map (list_values c described))
            (sorted_is_rising (keys_cmp c.relations list.sources) (keys_total c.relations list.sources) (pointwise same_ref) (pointwise_decides Decides-same_ref) new.rows has.ordered
            (IsSameBag-trans bag has.same) sorted (subst (λ ns. IsRising (keys_cmp c.relations ns) has.ordered) (sym has.tables) has.rising))
            ∙ ordered_shown

        distinct_shown : IsOrderedOf c.relations true described new → map (list_values c new) new.rows ≡ distinct_rows (map (shown_values query.shown) members)
        distinct_shown is =
            let xs = map (shown_values query.shown) members in
            rising_are_one (map (list_values c new) new.rows) (distinct_rows xs) is.rising (distinct_rise xs)
            (λ v. (
              λ there.
                  let from = Contains-from_map (list_values c described) new.rows v (subst (λ vs. Contains vs v) (values_kept new.rows) there) in
                  let old : Contains list.rows from.0 = All-contains (Contains list.rows) new.rows from.0 is.some from.1 in
                  let in_ordered = Contains-same_bag (pointwise same_ref) (pointwise_decides Decides-same_ref) list.rows has.ordered from.0 has.same old in
                  (distinct_occur xs v).1 (subst (λ vs. Contains vs v) ordered_shown (subst (Contains (map (list_values c described) has.ordered)) from.2 (Contains-map (list_values c described) has.ordered from.0 in_ordered))),
              λ there.
                  let from = Contains-from_map (list_values c described) has.ordered v (subst (λ vs. Contains vs v) (sym ordered_shown) ((distinct_occur xs v).0 there)) in
                  let old = Contains-same_bag (pointwise same_ref) (pointwise_decides Decides-same_ref) has.ordered list.rows from.0 (IsSameBag-sym has.same) from.1 in
                  All-contains (Contains (map (list_values c new) new.rows)) (map (list_values c described) list.rows) v is.all
                  (subst (Contains (map (list_values c described) list.rows)) from.2 (Contains-map (list_values c described) list.rows from.0 old)),
            ))

        pub names_shown : map (heading (tables_at c new.sources)) new.columns ≡ headings (joined_tables (database_of c) query.source query.joins) query.shown
        names_shown =
            ap (λ ns. map (heading (tables_at c ns)) new.columns) sources ∙ ap (map (heading tables)) (columns ∙ shows)
            ∙ headings_shown tables query.shown is_shown ∙ ap (λ ts. headings ts query.shown) are_tables

      kept : (way : Bool) (new : ListState) → IsOrderedOf c.relations way described new → (new.sources ≡ list.sources) × (new.columns ≡ places)
      kept false new is = (ap (λ (l : ListState). l.sources) is.0, ap (λ (l : ListState). l.columns) is.0)
      kept true new is = (is.sources, is.columns)

      rows_shown : (way : Bool) (new : ListState) → IsOrderedOf c.relations way described new → map (list_values c new) new.rows ≡ shown_rows way query.shown members
      rows_shown false new is = sorted_shown new (kept false new is).0 (kept false new is).1 is.1 is.2
      rows_shown true new is = distinct_shown new is.sources is.columns is

      module _ (new : ListState) (is : IsOrderedOf c.relations query.distinct described new) where
        pub can_show : CanShow c new
        can_show = record {
          over = still_over c.relations query.distinct described new described_over is;
          some = subst (λ (ps : List Place). 0 < length ps) (sym (kept query.distinct new is).1) some_places;
        }

        pub headed : map (heading (tables_at c new.sources)) new.columns ≡ headings (joined_tables (database_of c) query.source query.joins) query.shown
        headed = names_shown new (kept query.distinct new is).0 (kept query.distinct new is).1

        pub rowed : map (list_values c new) new.rows ≡ shown_rows query.distinct query.shown members
        rowed = rows_shown query.distinct new is
