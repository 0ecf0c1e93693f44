-- What is shown where each list of values of a table alone is shown once.
use Rattle.std.proofs.Common.{◌≡◌, List, [], ◌∷◌, Some, sym, subst, map}
use Rattle.std.specs.Prelude.{slice_get}
use Rattle.std.specs.List.{All}
use Rattle.common_lemmas.proofs.Places.{slice_get-inside}
use Rattle.plain_tables.specs.Doing.{headings, joined_tables}
use Rattle.plain_tables.specs.declared.numbers.Place.{Place}
use Rattle.plain_tables.specs.declared.resolved.Query.{Query}
use Rattle.plain_tables.specs.declared.resolved.Test.{Test}
use Rattle.mm_relation.specs.State.{RelationState}
use Rattle.mm_catalog.specs.State.{CatalogState}
use Rattle.mm_catalog.specs.Seen.{database_of}
use Rattle.mm_catalog.specs.Consistent.{IsConsistent}
use Rattle.mm_catalog.proofs.Among.{there_at}
use Rattle.temp_list.specs.Lists.{ListState, HasPlace}
use Rattle.temp_list.specs.Reading.{OfRelation, passing}
use Rattle.project_hash.specs.Distinct.{IsDistinctOf}
use Rattle.project_hash.specs.Table.{list_of_table}
use Rattle.mm_session.specs.Members.{tables_at}
use Rattle.mm_session.specs.Shown.{places_shown, heading, list_values, CanShow, IsOrderedOf}
use Rattle.mm_session.specs.Walked.{IsScan, rows_shown}
use Rattle.mm_session.proofs.Selects.{can_show, headed, rowed}
use Rattle.mm_session.proofs.Walked.{has, listing, places_over}

module _ (c : CatalogState) (ok : IsConsistent c) (query : Query) (scan : IsScan c query) where
  found : (s : RelationState) × (slice_get c.relations query.source.table.0 ≡ Some s)
  found = slice_get-inside c.relations query.source.table.0 (there_at c ok query.source.table.0 scan.0.0.0 scan.0.0.1)

  module _ (places : List Place) (shows : places ≡ places_shown (tables_at c (query.source.table.0 ∷ [])) query.shown) where
    pub scanned_places : All (HasPlace c.relations (query.source.table.0 ∷ [])) places
    scanned_places = places_over c ok query (scan.0, scan.1.1) found.0 found.1 places shows

    module _ (tests : List Test) (same : tests ≡ query.source.tests) (new : ListState)
        (distinct : OfRelation c.relations query.source.table.0 (λ s. IsDistinctOf c.relations (list_of_table query.source.table.0 (passing c.relations s tests) places) new)) where
      is : IsOrderedOf c.relations query.distinct (list_of_table query.source.table.0 (passing c.relations found.0 query.source.tests) places) new
      is =
          subst (λ way. IsOrderedOf c.relations way (list_of_table query.source.table.0 (passing c.relations found.0 query.source.tests) places) new) (sym scan.1.0)
          (subst (λ (ts : List Test). IsDistinctOf c.relations (list_of_table query.source.table.0 (passing c.relations found.0 ts) places) new) same (distinct found.0 found.1))

      pub scanned_shows : CanShow c new
      scanned_shows = can_show c ok query scan.0 (listing c ok query (scan.0, scan.1.1) found.0 found.1) (has c ok query (scan.0, scan.1.1) found.0 found.1) places shows new is

      pub scanned_heads : map (heading (tables_at c new.sources)) new.columns ≡ headings (joined_tables (database_of c) query.source query.joins) query.shown
      scanned_heads = headed c ok query scan.0 (listing c ok query (scan.0, scan.1.1) found.0 found.1) (has c ok query (scan.0, scan.1.1) found.0 found.1) places shows new is

      pub scanned_rows : map (list_values c new) new.rows ≡ rows_shown c query
      scanned_rows = rowed c ok query scan.0 (listing c ok query (scan.0, scan.1.1) found.0 found.1) (has c ok query (scan.0, scan.1.1) found.0 found.1) places shows new is
