-- A list that shows what a select does.
use Rattle.std.specs.Prelude.{◌≡◌, map}
use Rattle.plain_tables.specs.Doing.{headings, joined_tables}
use Rattle.plain_tables.specs.declared.resolved.Query.{Query}
use Rattle.mm_catalog.specs.State.{CatalogState}
use Rattle.mm_catalog.specs.Seen.{database_of}
use Rattle.temp_list.specs.Lists.{ListState}
use Rattle.mm_session.specs.Members.{tables_at}
use Rattle.mm_session.specs.Shown.{heading, list_values, CanShow}
use Rattle.mm_session.specs.Walked.{rows_shown}

-- The list can be shown. Its columns have the names that stand above what the select shows, and its rows the values, in their order.
pub record ShowsSelect (c : CatalogState) (query : Query) (list : ListState) : Type 0 where
  pub can : CanShow c list
  pub names : map (heading (tables_at c list.sources)) list.columns ≡ headings (joined_tables (database_of c) query.source query.joins) query.shown
  pub rows : map (list_values c list) list.rows ≡ rows_shown c query
