-- What is told of the columns of a select is the heading of its answer, with the kinds of its items.
use Rattle.std.proofs.Common.{◌≡◌, ◌∙◌, ◌<◌, ℕ, false, List, [], ◌∷◌, ◌++◌, Some, length, map, refl, sym, ap, subst}
use Rattle.std.specs.Prelude.{slice_get, zip}
use Rattle.std.specs.List.{All, cons_option, filter_map, flat_map, list_any}
use Rattle.std.specs.Option.{is_none}
use Rattle.std.proofs.lemmas.Bool.{or_parts}
use Rattle.std.proofs.lemmas.List.{length-map, map-id}
use Rattle.std.proofs.lemmas.List.Elements.{All-cons, All-head, All-nil, All-tail}
use Rattle.plain_tables.specs.Databases.{Database, table_named}
use Rattle.plain_tables.specs.Doing.{headings, joined_tables, name_at, shown_rows}
use Rattle.plain_tables.specs.Effects.{misses}
use Rattle.plain_tables.specs.Joining.{members_of}
use Rattle.plain_tables.specs.Queries.{JoinedColumn, column_meant, full_name, joined_columns, named_items, places_meant}
use Rattle.plain_tables.specs.References.{type_of}
use Rattle.plain_tables.specs.Resolving.{behind, columns_of, join_columns, joins_of, once, select_checks, select_names, shown_of, source_of}
use Rattle.plain_tables.specs.Tables.{Table}
use Rattle.plain_tables.specs.WrittenLaws.{MeansAt, tables_named}
use Rattle.plain_tables.specs.declared.command.Items.{Items}
use Rattle.plain_tables.specs.declared.command.Items.TheVariants as items
use Rattle.plain_tables.specs.declared.command.Join.{Join}
use Rattle.plain_tables.specs.declared.condition.ColName.{ColName}
use Rattle.plain_tables.specs.declared.condition.Cond.{Cond}
use Rattle.plain_tables.specs.declared.numbers.Place.{Place}
use Rattle.plain_tables.specs.declared.resolved.Joined.{Joined}
use Rattle.plain_tables.specs.declared.resolved.Resolved.{Resolved}
use Rattle.plain_tables.specs.declared.resolved.Resolved.TheVariants as resolved
use Rattle.plain_tables.specs.declared.resolved.Shown.{Shown}
use Rattle.plain_tables.specs.declared.resolved.Shown.TheVariants as shown
use Rattle.plain_tables.specs.declared.resolved.Source.{Source}
use Rattle.plain_tables.proofs.Columns.{IsAt, columns_at, place_found}
use Rattle.plain_tables.proofs.Meanings.{if_checked, satisfies}
use Rattle.plain_tables.proofs.Selects.{numbered, some_sides}
use Rattle.plain_tables.proofs.Written.{all_mean, has_passed}
use Rattle.mm_session.specs.ColumnLaws.{ColumnsAreTheHeading, TellsHeading, name_and_kind}
use Rattle.mm_session.specs.Columns.{column_told, columns_told, kind_at}
use Rattle.mm_session.specs.Shown.{heading, places_shown}
use Rattle.mm_session.proofs.Showing.{headings_shown}

-- the place of a column
abbrev place_of : JoinedColumn → Place
place_of j = j.place

-- ---- columns at their places

module _ (tables : Database) (among : List Table) where
  kind_there : (j : JoinedColumn) → IsAt among j → kind_at tables among j.place ≡ type_of tables j.column.kind
  kind_there j at = rw (at.1, at.2) refl

  -- what is told of columns is the heading of each, and its kind
  each_told : (meant : List JoinedColumn) → All (IsAt among) meant
      → flat_map (column_told tables among) (map place_of meant) ≡ flat_map (λ c. name_and_kind c.0 (type_of tables c.1.column.kind)) (zip (map (heading among) (map place_of meant)) meant)
  each_told [] at = refl
  each_told (j ∷ meant) at =
      ap (λ k. name_and_kind (heading among j.place) k ++ flat_map (column_told tables among) (map place_of meant)) (kind_there j (All-head (IsAt among) j meant at))
      ∙ ap (λ vs. name_and_kind (heading among j.place) (type_of tables j.column.kind) ++ vs) (each_told meant (All-tail (IsAt among) j meant at))

  -- they have a name each
  named_each : (meant : List JoinedColumn) → All (IsAt among) meant → map (heading among) (map place_of meant) ≡ filter_map (name_at among) (map place_of meant)
  named_each [] at = refl
  named_each (j ∷ meant) at =
      let has = All-head (IsAt among) j meant at in
      let named : name_at among j.place ≡ Some (full_name has.0.name j.column) = rw (has.1, has.2) refl in
      rw (named, named_each meant (All-tail (IsAt among) j meant at)) refl

-- ---- the columns that items mean

-- columns, each that which a name means, and their places
pub record AreMeant (among : List Table) (named : List ColName) : Type 0 where
  pub meant : List JoinedColumn
  pub written : map (column_meant (joined_columns among)) named ≡ map Some meant
  pub placed : map place_of meant ≡ places_meant (joined_columns among) named
  pub at : All (IsAt among) meant

are_meant : (among : List Table) (IsSuch : ℕ → Type 0) (named : List ColName) → All (MeansAt (joined_columns among) IsSuch) named → AreMeant among named
are_meant among IsSuch [] mean = record { meant = []; written = refl; placed = refl; at = All-nil (IsAt among) }
are_meant among IsSuch (name ∷ named) mean =
    let Mean : ColName → Type 0 = MeansAt (joined_columns among) IsSuch in
    let one = All-head Mean name named mean in
    let means = place_found among name one.0 one.1 in
    let rest = are_meant among IsSuch named (All-tail Mean name named mean) in
    record {
      meant = means.joined ∷ rest.meant;
      written = rw (means.found, rest.written) refl;
      placed = rw one.1 (ap (λ p. p ∷ map place_of rest.meant) means.placed ∙ ap (λ ps. one.0 ∷ ps) rest.placed);
      at = All-cons (IsAt among) means.joined rest.meant means.at rest.at;
    }

-- ---- a query

-- the tables of joins by numbers are those of their names
joins_named : (tables : Database) (columns : List JoinedColumn) (conditions : List Cond) (before : List (List ℕ)) (joins : List Join)
    → list_any is_none (map (join_columns tables) (behind before joins)) ≡ false
    → filter_map (λ s. slice_get tables s.table.0) (map (λ (j : Joined). j.source) (joins_of tables columns conditions (behind before joins)))
    ≡ tables_named tables (map (λ (j : Join). j.table) joins)
joins_named tables columns conditions before [] there = refl
joins_named tables columns conditions before (join ∷ joins) there =
    let later : List (List ℕ) = before ++ join.table ∷ [] in
    let parts = or_parts (is_none (join_columns tables (before, join))) (list_any is_none (map (join_columns tables) (behind later joins))) there in
    rw ((some_sides (join_columns tables (before, join)) parts.0).1, numbered tables join.table, joins_named tables columns conditions later joins parts.1) refl

-- of tables, what is told of the columns of items is their heading
items_told : (tables : Database) (among : List Table) (its : Items) → misses (joined_columns among) (named_items its) ≡ false
    → TellsHeading tables (joined_columns among) its (headings among (shown_of (joined_columns among) its))
    (flat_map (column_told tables among) (places_shown among (shown_of (joined_columns among) its)))
items_told tables among items.All found =
    let columns : List JoinedColumn = joined_columns among in
    let names : map (heading among) (map place_of columns) ≡ headings among shown.All = headings_shown among shown.All tt in
    record {
      meant = columns;
      written = refl;
      as_many = sym (ap length names) ∙ length-map (map place_of columns) (heading among) ∙ length-map columns place_of;
      each = each_told tables among columns (columns_at among)
          ∙ ap (λ (ns : List (List ℕ)). flat_map (λ c. name_and_kind c.0 (type_of tables c.1.column.kind)) (zip ns columns)) names;
    }
items_told tables among (items.Named named) found =
    let columns : List JoinedColumn = joined_columns among in
    let are = are_meant among (λ n. n < length among) named (all_mean among (λ (n : ColName). n) named (ap (misses columns) (map-id named) ∙ found)) in
    let names : map (heading among) (map place_of are.meant) ≡ headings among (shown.Columns (places_meant columns named)) =
    named_each tables among are.meant are.at ∙ ap (filter_map (name_at among)) are.placed in
    record {
      meant = are.meant;
      written = are.written;
      as_many = sym (ap length names) ∙ length-map (map place_of are.meant) (heading among) ∙ length-map are.meant place_of;
      each = ap (flat_map (column_told tables among)) (sym are.placed) ∙ each_told tables among are.meant are.at
          ∙ ap (λ (ns : List (List ℕ)). flat_map (λ c. name_and_kind c.0 (type_of tables c.1.column.kind)) (zip ns are.meant)) names;
    }

-- what the law says of a resolved select
abbrev OfColumns : Database → Items → List ℕ → List Join → Resolved → Type 0
OfColumns tables its name joins (resolved.Select query) =
    TellsHeading tables (joined_columns (tables_named tables (select_names name joins))) its
    (headings (joined_tables tables query.source query.joins) query.shown) (columns_told tables query)
OfColumns tables its name joins r = Unit {0}

pub columns_are_the_heading : ColumnsAreTheHeading
columns_are_the_heading records limits tables distinct its name joins conditions query h = (
  headings (joined_tables tables query.source query.joins) query.shown,
  shown_rows query.distinct query.shown (members_of tables query.source query.joins),
  refl,
  satisfies (OfColumns tables its name joins) _ (resolved.Select query) h
      (if_checked _ (select_checks tables its name joins conditions) _ (λ passed.
      let names : List (List ℕ) = select_names name joins in
      let are = has_passed tables its name joins conditions passed in
      let columns : List JoinedColumn = columns_of tables names in
      let source : Source = source_of tables columns conditions 0 name in
      let numbers : List Joined = joins_of tables columns conditions (behind (name ∷ []) joins) in
      let all : tables_named tables (once names) ≡ tables_named tables names = ap (tables_named tables) are.once_each in
      let joined : joined_tables tables source numbers ≡ tables_named tables names =
      ap (λ o. cons_option o (filter_map (λ s. slice_get tables s.table.0) (map (λ (j : Joined). j.source) numbers))) (numbered tables name)
      ∙ ap (cons_option (table_named name tables)) (joins_named tables columns conditions (name ∷ []) joins are.joined) in
      let told = items_told tables (tables_named tables (once names)) its are.shown in
      let its_shown : Shown = shown_of columns its in
      subst (λ (ts : List Table). TellsHeading tables (joined_columns (tables_named tables names)) its (headings ts its_shown) (flat_map (column_told tables ts) (places_shown ts its_shown)))
      (all ∙ sym joined)
      (subst (λ (ts : List Table). TellsHeading tables (joined_columns ts) its (headings (tables_named tables (once names)) its_shown) (flat_map (column_told tables (tables_named tables (once names))) (places_shown (tables_named tables (once names)) its_shown)))
      all told))),
)
