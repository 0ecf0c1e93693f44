-- The rows that a walk of the key finds, and what is shown of them.
use Rattle.std.proofs.Common.{◌≡◌, ◌∙◌, ℕ, ◌<◌, false, List, [], ◌∷◌, Some, refl, sym, ap, subst, arith, get_or, length, map}
use Rattle.std.specs.Prelude.{slice_get}
use Rattle.std.specs.List.{All}
use Rattle.std.proofs.lemmas.List.{get_or-map, length-map}
use Rattle.std.proofs.lemmas.Simd.{map-map}
use Rattle.part_raw.specs.declared.tuple_ref.TupleRef.{TupleRef}
use Rattle.plain_tables.specs.Joining.{members_of}
use Rattle.plain_tables.specs.Doing.{headings, joined_tables, shown_rows}
use Rattle.plain_tables.specs.declared.numbers.Place.{Place}
use Rattle.plain_tables.specs.declared.resolved.Joined.{Joined}
use Rattle.plain_tables.specs.declared.resolved.Query.{Query}
use Rattle.plain_tables.specs.declared.resolved.Resolved.TheVariants as resolved
use Rattle.plain_tables.specs.ResolvedLaws.{IsMeant}
use Rattle.mm_index.specs.Order.{IsRising}
use Rattle.mm_index.proofs.Bags.{IsSameBag-refl}
use Rattle.mm_relation.specs.State.{RelationState}
use Rattle.mm_catalog.specs.State.{CatalogState}
use Rattle.mm_catalog.specs.Seen.{database_of}
use Rattle.mm_catalog.specs.Consistent.{IsConsistent}
use Rattle.mm_catalog.proofs.Among.{among_at}
use Rattle.mm_catalog.proofs.Lists.{map_agree_on}
use Rattle.temp_list.specs.Reading.{HasColumns, passing, value_in}
use Rattle.temp_list.specs.Lists.{ListState, IsRowOver, HasPlace, value_of, keys_cmp, relation_of}
use Rattle.temp_list.proofs.Lists.{place_read}
use Rattle.temp_list.proofs.Selects.{passing_held}
use Rattle.join_ops.specs.Joins.{single_rows}
use Rattle.join_ops.proofs.Joins.{single_over}
use Rattle.mm_session.specs.Members.{HasMembers, IsSourceOf, tables_at, joined_numbers, member_of}
use Rattle.mm_session.specs.Shown.{places_shown, heading, list_values, placed_values}
use Rattle.mm_session.specs.Walked.{shown_row, AreColumns, rows_shown}
use Rattle.project_hash.proofs.Tables.{place_alone}
use Rattle.mm_session.proofs.Queries.{key_source, source_columns, listing_over, singles_rise, single_lead}
use Rattle.mm_session.proofs.Selects.{described_over, some_places, ordered_shown, names_shown}

-- what a list shows at a place, where it shows the same as another
pub read_at : {A B C : Type 0} (f : A → C) (g : B → C) (xs : List A) (ys : List B) (k : ℕ) (x : A) (d : B) → map f xs ≡ map g ys → k < length ys → x ≡ get_or xs k x → f x ≡ g (get_or ys k d)
read_at f g xs ys k x d same within there =
    let long : length xs ≡ length ys = sym (length-map xs f) ∙ ap length same ∙ length-map ys g in
    ap f there ∙ sym (get_or-map f xs k x (f x) (omega (arith, long, within))) ∙ ap (λ zs. get_or zs k (f x)) same ∙ get_or-map g ys k d (f x) within

-- ---- a row of a table alone

module _ (c : CatalogState) (n : ℕ) (s : RelationState) (there : slice_get c.relations n ≡ Some s) where
  one_value : (place : Place) (r : TupleRef) → HasPlace c.relations (n ∷ []) place → value_of c.relations (n ∷ []) (r ∷ []) place ≡ value_in c.relations s place.column.0 r
  one_value place r has =
      let first = (place_alone c.relations n s there place has).0 in
      place_read c.relations (n ∷ []) (r ∷ []) place s r (ap (λ k. relation_of c.relations (n ∷ []) k) first ∙ there) (ap (slice_get (r ∷ [])) first)

  pub row_alone : (places : List Place) → All (HasPlace c.relations (n ∷ [])) places → (r : TupleRef) → shown_row c s places r ≡ placed_values c (n ∷ []) places (r ∷ [])
  row_alone places over r =
      map_agree_on (λ place. value_in c.relations s place.column.0 r) (value_of c.relations (n ∷ []) (r ∷ [])) places (λ k d l. sym (one_value (get_or places k d) r (over k d l)))

-- ---- what a query of one table shows

module _ (c : CatalogState) (ok : IsConsistent c) (query : Query) (one : IsMeant c.limits (database_of c) (resolved.Select query) × (query.joins ≡ [])) (s : RelationState) (there : slice_get c.relations query.source.table.0 ≡ Some s) where
  abbrev n : ℕ
  n = query.source.table.0

  abbrev refs : List TupleRef
  refs = passing c.relations s query.source.tests

  of : IsSourceOf c query.source (record { 0 = 0 })
  of = key_source c ok query.source one.0.0.0 one.0.0.1 one.0.0.2.0

  pub tests_there : HasColumns s query.source.tests
  tests_there = source_columns c ok query.source (record { 0 = 0 }) of s there

  abbrev pub listing : ListState
  listing = record { sources = n ∷ []; rows = single_rows refs; columns = [] }

  pub has : HasMembers c (n ∷ joined_numbers query.joins) (members_of (database_of c) query.source query.joins) listing
  has =
      let held = passing_held c.relations s (among_at c ok n s there).kept query.source.tests in
      let none : query.joins ≡ [] = one.1 in
      record {
        tables = ap (λ (js : List Joined). n ∷ joined_numbers js) (sym none);
        over = listing_over c ok query.source (record { 0 = 0 }) of s there refs held;
        ordered = single_rows refs;
        each = subst (λ (js : List Joined). All (IsRowOver c.relations (n ∷ joined_numbers js)) (single_rows refs)) (sym none) (single_over c.relations n s there refs held);
        same = IsSameBag-refl (single_rows refs);
        rising = subst (λ (js : List Joined). IsRising (keys_cmp c.relations (n ∷ joined_numbers js)) (single_rows refs)) (sym none) (singles_rise c ok n s there query.source.tests);
        lead = ap (λ (js : List Joined). map (member_of c (n ∷ joined_numbers js)) (single_rows refs)) none
            ∙ single_lead c ok query.source (record { 0 = 0 }) of s there ∙ ap (members_of (database_of c) query.source) (sym none);
      }

  module _ (places : List Place) (shows : places ≡ places_shown (tables_at c (n ∷ [])) query.shown) where
    pub places_over : All (HasPlace c.relations (n ∷ [])) places
    places_over = (described_over c ok query one.0 listing has places shows).columns

    pub columns_over : AreColumns s places
    columns_over = λ k d l. (place_alone c.relations n s there (get_or places k d) (places_over k d l)).1

    pub places_some : 0 < length places
    places_some = some_places c ok query one.0 listing has places shows

    pub heads_shown : map (heading (tables_at c (n ∷ []))) places ≡ headings (joined_tables (database_of c) query.source query.joins) query.shown
    heads_shown = names_shown c ok query one.0 listing has places shows (record listing { columns = places }) refl refl

    pub walked_rows : query.distinct ≡ false → map (shown_row c s places) refs ≡ rows_shown c query
    unfolding has
    walked_rows ordered =
        map_agree_on (shown_row c s places) (λ r. list_values c (record listing { columns = places }) (r ∷ [])) refs (λ k d l. row_alone c n s there places places_over (get_or refs k d))
        ∙ sym (map-map (list_values c (record listing { columns = places })) (λ (r : TupleRef). r ∷ []) refs)
        ∙ ordered_shown c ok query one.0 listing has places shows
        ∙ ap (λ way. shown_rows way query.shown (members_of (database_of c) query.source query.joins)) (sym ordered)
