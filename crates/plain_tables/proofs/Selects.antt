-- A select that no check refuses: its tables, the columns of its tests, of its joins and of what it shows are there.
use Rattle.std.proofs.Common.{◌≡◌, ℕ, Bool, true, false, not, length, map, get_or, arith, List, [], ◌∷◌, ◌++◌, inl, inr, refl, sym, ap, ◌∙◌, subst, Option, Some, None, append_assoc, ◌⊎◌}
use Rattle.std.specs.Prelude.{◌==◌, ◌&&◌, ◌||◌}
use Rattle.std.specs.List.{All, AllByRecursion, list_any, filter, filter_map, cons_option, slice_get}
use Rattle.std.specs.Option.{is_some, is_none, option_map_or, option_or, option_zip}
use Rattle.std.specs.Str.{bytes_eq}
use Rattle.std.proofs.lemmas.Bool.{or_parts, or_from, not-false, not_from_false, eqb-true, false≢true}
use Rattle.std.proofs.lemmas.List.Elements.{All-nil, All-head, All-tail, All-weaker, filter_passes, All-filter, filter_map-append}
use Rattle.std.proofs.lemmas.List.Folds.{find_at, list_any-append, list_any_none}
use Rattle.std.proofs.lemmas.Option.{none-some, same_Some, slice_get_within}
use Rattle.plain_tables.specs.Values.{is_null}
use Rattle.plain_tables.specs.Tables.{Table}
use Rattle.plain_tables.specs.Databases.{Database, is_named, table_named}
use Rattle.plain_tables.specs.Queries.{JoinedColumn, joined_columns, fits_one, column_meant, place_meant, side_name, sides_meant, named_items}
use Rattle.plain_tables.specs.Effects.{repeats, misses, condition_names}
use Rattle.plain_tables.specs.References.{is_typed}
use Rattle.plain_tables.specs.Resolving.{number_of, tests_of, shown_of, asks_order, mistypes, is_mistyped, once, select_names, columns_of, behind, join_columns, differ_in_type, select_checks, is_on_source, source_of, joins_of, select_of}
use Rattle.plain_tables.specs.Doing.{joined_tables}
use Rattle.plain_tables.specs.WrittenLaws.{tables_named}
use Rattle.plain_tables.specs.ResolvedLaws.{NamesItems, IsOfColumn, AreTests, IsShown, AreJoins, IsMeant}
use Rattle.plain_tables.specs.declared.value.Value.{Value}
use Rattle.plain_tables.specs.declared.condition.ColName.{ColName}
use Rattle.plain_tables.specs.declared.condition.Cond.{Cond}
use Rattle.plain_tables.specs.declared.command.Items.{Items}
use Rattle.plain_tables.specs.declared.command.Items.TheVariants as items
use Rattle.plain_tables.specs.declared.command.Join.{Join}
use Rattle.plain_tables.specs.declared.command.Limits.{Limits}
use Rattle.plain_tables.specs.declared.numbers.Place.{Place}
use Rattle.plain_tables.specs.declared.resolved.Source.{Source}
use Rattle.plain_tables.specs.declared.resolved.Joined.{Joined}
use Rattle.plain_tables.proofs.Columns.{IsAt, column_at, place_found, have_places, places_length, only_one, own_found}
use Rattle.common_lemmas.proofs.Tests.{fails_where_none}
use Rattle.common_lemmas.proofs.Filters.{filter_all}
use Rattle.common_lemmas.proofs.Places.{slice_get_behind}
use Rattle.common_lemmas.proofs.Maps.{length-filter_map}
use Rattle.common_lemmas.proofs.Elements.{mapped_more}

-- ---- tests

-- the column at the place that a name means, and a value of its type
pub of_column_meant : (tables : Database) (among : List Table) (name : ColName) (v : Value) (place : Place)
    → place_meant (joined_columns among) name ≡ Some place → mistypes tables (joined_columns among) name v ≡ false
    → (table : Table) × (slice_get among place.source ≡ Some table) × IsOfColumn tables table place.column v
of_column_meant tables among name v place meant right =
    let means = place_found among name place meant in
    let there : IsAt among means.joined = means.at in
    let typed : not (is_typed tables v means.joined.column.kind) ≡ false =
    sym (ap (λ o. option_map_or (λ j. not (is_typed tables v j.column.kind)) o false) means.found) ∙ right
    in
    subst (λ (p : Place). (table : Table) × (slice_get among p.source ≡ Some table) × IsOfColumn tables table p.column v) means.placed
    (there.0, there.1, (means.joined.column, there.2, not-false (is_typed tables v means.joined.column.kind) typed))

-- the same where the table at the place is known
of_table_meant : (tables : Database) (among : List Table) (name : ColName) (v : Value) (place : Place) (k : ℕ) (table : Table)
    → slice_get among k ≡ Some table → place.source ≡ k
    → place_meant (joined_columns among) name ≡ Some place → mistypes tables (joined_columns among) name v ≡ false
    → IsOfColumn tables table place.column v
of_table_meant tables among name v place k table there on meant right =
    let of = of_column_meant tables among name v place meant right in
    subst (λ t. IsOfColumn tables t place.column v)
    (same_Some of.0 table (sym of.1 ∙ ap (slice_get among) on ∙ there)) of.2

-- the same for a table of its own
pub of_own_column : (tables : Database) (table : Table) (name : ColName) (v : Value) (place : Place)
    → place_meant (joined_columns (table ∷ [])) name ≡ Some place → mistypes tables (joined_columns (table ∷ [])) name v ≡ false
    → IsOfColumn tables table place.column v
of_own_column tables table name v place meant right =
    of_table_meant tables (table ∷ []) name v place 0 table refl (own_found table name place meant).source meant right

-- the place of a condition is in this one of the joined tables
abbrev IsOn : List Table → ℕ → Cond → Type 0
IsOn among k c = (place : Place) → place_meant (joined_columns among) c.column ≡ Some place → place.source ≡ k

tests_meant : (tables : Database) (among : List Table) (k : ℕ) (table : Table) → slice_get among k ≡ Some table → (conditions : List Cond)
    → All (IsOn among k) conditions → list_any (is_mistyped tables (joined_columns among)) conditions ≡ false
    → AreTests tables table (tests_of (joined_columns among) conditions)
tests_meant tables among k table there [] on right = All-nil (λ t. IsOfColumn tables table t.column t.value)
tests_meant tables among k table there (c ∷ conditions) on right =
    let columns : List JoinedColumn = joined_columns among in
    let parts = or_parts (is_mistyped tables columns c) (list_any (is_mistyped tables columns) conditions) right in
    let typed = or_parts (mistypes tables columns c.column c.value) (is_null c.value && asks_order c.op) parts.0 in
    mapped_more (λ t. IsOfColumn tables table t.column t.value) (λ place. record { column = place.column; op = c.op; value = c.value })
    (place_meant columns c.column) (tests_of columns conditions)
    (λ place meant. of_table_meant tables among c.column c.value place k table there (All-head (IsOn among k) c conditions on place meant) meant typed.0)
    (tests_meant tables among k table there conditions (All-tail (IsOn among k) c conditions on) parts.1)

-- the tests of a command on one table
pub own_tests_meant : (tables : Database) (table : Table) (conditions : List Cond)
    → list_any (is_mistyped tables (joined_columns (table ∷ []))) conditions ≡ false
    → AreTests tables table (tests_of (joined_columns (table ∷ [])) conditions)
own_tests_meant tables table conditions right =
    tests_meant tables (table ∷ []) 0 table refl conditions
    (λ k d l place meant. (own_found table (get_or conditions k d).column place meant).source) right

-- the tests that stand with one of joined tables
source_tests_meant : (tables : Database) (among : List Table) (k : ℕ) (table : Table) → slice_get among k ≡ Some table → (conditions : List Cond)
    → list_any (is_mistyped tables (joined_columns among)) conditions ≡ false
    → AreTests tables table (tests_of (joined_columns among) (filter (is_on_source (joined_columns among) k) conditions))
source_tests_meant tables among k table there conditions right =
    let columns : List JoinedColumn = joined_columns among in
    let on : Cond → Bool = is_on_source columns k in
    tests_meant tables among k table there (filter on conditions)
    (All-weaker (λ c. on c ≡ true) (IsOn among k)
    (λ c passes place meant. eqb-true place.source k (sym (ap (λ o. option_map_or (λ p. p.source == k) o false) meant) ∙ passes))
    (filter on conditions) (filter_passes on conditions))
    (list_any_none (is_mistyped tables columns) (filter on conditions)
    (All-filter on (λ c. is_mistyped tables columns c ≡ false) conditions (fails_where_none (is_mistyped tables columns) conditions right)))

-- ---- names

-- names that differ are each once
pub once_apart : (names : List (List ℕ)) → repeats bytes_eq names ≡ false → once names ≡ names
once_apart [] apart = refl
once_apart (name ∷ names) apart =
    let parts = or_parts (list_any (bytes_eq name) names) (repeats bytes_eq names) apart in
    let others = filter_all (λ other. not (bytes_eq name other)) names
    (All-weaker (λ other. bytes_eq name other ≡ false) (λ other. not (bytes_eq name other) ≡ true)
    (λ other differ. not_from_false (bytes_eq name other) differ) names (fails_where_none (bytes_eq name) names parts.0))
    in
    rw (once_apart names parts.1) (ap (λ ns. name ∷ ns) others)

pub repeats_front : (names others : List (List ℕ)) → repeats bytes_eq (names ++ others) ≡ false → repeats bytes_eq names ≡ false
repeats_front [] others apart = refl
repeats_front (name ∷ names) others apart =
    let parts = or_parts (list_any (bytes_eq name) (names ++ others)) (repeats bytes_eq (names ++ others)) apart in
    let front = or_parts (list_any (bytes_eq name) names) (list_any (bytes_eq name) others)
    (sym (list_any-append (bytes_eq name) names others) ∙ parts.0) in
    or_from (list_any (bytes_eq name) names) (repeats bytes_eq names) front.0 (repeats_front names others parts.1)

pub some_table : (o : Option Table) → not (is_some o) ≡ false → (table : Table) × (o ≡ Some table)
some_table None h = absurd (false≢true (sym h))
some_table (Some table) h = (table, refl)

-- whether a table is missing
abbrev pub lacks : Database → List ℕ → Bool
lacks tables name = not (is_some (table_named name tables))

-- the names of joined tables, which are there and differ, in two parts: those of these joins are the last
pub record AreNamed (tables : Database) (among : List Table) (before : List (List ℕ)) (joins : List Join) : Type 0 where
  pub are : tables_named tables (before ++ map (λ j. j.table) joins) ≡ among
  pub apart : repeats bytes_eq (before ++ map (λ j. j.table) joins) ≡ false
  pub there : list_any (lacks tables) (before ++ map (λ j. j.table) joins) ≡ false

-- the first of the last part goes to the first part
pub names_on : (tables : Database) (among : List Table) (before : List (List ℕ)) (join : Join) (joins : List Join)
    → AreNamed tables among before (join ∷ joins) → AreNamed tables among (before ++ join.table ∷ []) joins
names_on tables among before join joins names =
    let same = append_assoc before (join.table ∷ []) (map (λ j. j.table) joins) in
    record {
      are = ap (tables_named tables) same ∙ names.are;
      apart = ap (repeats bytes_eq) same ∙ names.apart;
      there = ap (list_any (lacks tables)) same ∙ names.there;
    }

-- the table that is joined next stands behind those before it, and before those of the joins behind
pub record IsNext (tables : Database) (among : List Table) (before : List (List ℕ)) (join : Join) (joins : List Join) : Type 0 where
  pub table : Table
  pub found : table_named join.table tables ≡ Some table
  pub counted : length (tables_named tables before) ≡ length before
  pub split : among ≡ tables_named tables before ++ table ∷ tables_named tables (map (λ j. j.table) joins)
  pub at : slice_get among (length before) ≡ Some table

pub next_table : (tables : Database) (among : List Table) (before : List (List ℕ)) (join : Join) (joins : List Join)
    → AreNamed tables among before (join ∷ joins) → IsNext tables among before join joins
next_table tables among before join joins names =
    let rest : List (List ℕ) = map (λ j. j.table) joins in
    let there = or_parts (list_any (lacks tables) before) (lacks tables join.table || list_any (lacks tables) rest)
    (sym (list_any-append (lacks tables) before (join.table ∷ rest)) ∙ names.there) in
    let next = some_table (table_named join.table tables) (or_parts (lacks tables join.table) (list_any (lacks tables) rest) there.1).0 in
    let many = length-filter_map (λ name. table_named name tables) before (λ name. is_some (table_named name tables)) (λ name is. is) there.0 in
    let all : tables_named tables before ++ next.0 ∷ tables_named tables rest ≡ among =
    ap (λ o. tables_named tables before ++ cons_option o (tables_named tables rest)) (sym next.1)
    ∙ sym (filter_map-append (λ name. table_named name tables) before (join.table ∷ rest)) ∙ names.are
    in
    record {
      table = next.0;
      found = next.1;
      counted = many;
      split = sym all;
      at = ap (slice_get among) (sym many)
          ∙ ap (λ ts. slice_get ts (length (tables_named tables before))) (sym all)
          ∙ slice_get_behind (tables_named tables before) (tables_named tables rest) next.0;
    }

-- the table of a name stands under its number
pub numbered : (tables : Database) (name : List ℕ) → slice_get tables (number_of name tables).0 ≡ table_named name tables
numbered tables name = sym (find_at (is_named name) tables)

-- ---- the sides of joins

pub zip_parts : {X Y : Type 0} (a : Option X) (b : Option Y) (both : X × Y) → option_zip a b ≡ Some both → (a ≡ Some both.0) × (b ≡ Some both.1)
zip_parts None b both h = absurd (none-some both h)
zip_parts (Some x) None both h = absurd (none-some both h)
zip_parts {X} {Y} (Some x) (Some y) both h =
    let same : (x, y) ≡ both = same_Some (x, y) both h in
    (ap (λ (p : X × Y). Some p.0) same, ap (λ (p : X × Y). Some p.1) same)

pub either_of : {X : Type 0} (a b : Option X) (x : X) → option_or a b ≡ Some x → (a ≡ Some x) ⊎ (b ≡ Some x)
either_of None b x h = inr h
either_of (Some y) b x h = inl h

-- the two columns of a join are there
sides_there : (before own : List Table) (join : Join) (sides : JoinedColumn × JoinedColumn)
    → sides_meant (joined_columns before) (joined_columns own) join ≡ Some sides → IsAt before sides.0 × IsAt own sides.1
sides_there before own join sides h =
    let at : (l r : ColName) → option_zip (column_meant (joined_columns before) l) (column_meant (joined_columns own) r) ≡ Some sides
    → IsAt before sides.0 × IsAt own sides.1 = λ l r both.
    let parts = zip_parts (column_meant (joined_columns before) l) (column_meant (joined_columns own) r) sides both in
    (column_at before l sides.0 parts.0, column_at own r sides.1 parts.1) in
    elim (either_of _ _ sides h) [
      | inl both ↦ at (side_name join.left) (side_name join.right) both
      | inr both ↦ at (side_name join.right) (side_name join.left) both
    ]

pub some_sides : (o : Option (JoinedColumn × JoinedColumn)) → is_none o ≡ false → (sides : JoinedColumn × JoinedColumn) × (o ≡ Some sides)
some_sides None h = absurd (false≢true (sym h))
some_sides (Some sides) h = (sides, refl)

-- ---- joins

-- the tables of joins by numbers are those of their names
joins_named : (tables : Database) (columns : List JoinedColumn) (conditions : List Cond) (before : List (List ℕ)) (joins : List Join)
    → list_any is_none (map (join_columns tables) (behind before joins)) ≡ false
    → filter_map (λ s. slice_get tables s.table.0) (map (λ j. j.source) (joins_of tables columns conditions (behind before joins)))
    ≡ tables_named tables (map (λ j. j.table) joins)
joins_named tables columns conditions before [] there = refl
joins_named tables columns conditions before (join ∷ joins) there =
    let later : List (List ℕ) = before ++ join.table ∷ [] in
    let parts = or_parts (is_none (join_columns tables (before, join))) (list_any is_none (map (join_columns tables) (behind later joins))) there in
    rw ((some_sides (join_columns tables (before, join)) parts.0).1, numbered tables join.table, joins_named tables columns conditions later joins parts.1) refl

-- what is joined behind tables of these names is there
pub joins_meant : (tables : Database) (among : List Table) (conditions : List Cond) (before : List (List ℕ)) (joins : List Join)
    → AreNamed tables among before joins → list_any is_none (map (join_columns tables) (behind before joins)) ≡ false
    → list_any (is_mistyped tables (joined_columns among)) conditions ≡ false
    → AreJoins tables (tables_named tables before) (joins_of tables (joined_columns among) conditions (behind before joins))
joins_meant tables among conditions before [] names there right = tt
joins_meant tables among conditions before (join ∷ joins) names there right =
    let columns : List JoinedColumn = joined_columns among in
    let later : List (List ℕ) = before ++ join.table ∷ [] in
    let parts = or_parts (is_none (join_columns tables (before, join))) (list_any is_none (map (join_columns tables) (behind later joins))) there in
    let next = next_table tables among before join joins names in
    let first = some_sides (join_columns tables (before, join)) parts.0 in
    let alone : columns_of tables (join.table ∷ []) ≡ joined_columns (next.table ∷ []) =
    ap (λ o. joined_columns (cons_option o [])) next.found
    in
    let apart : columns_of tables before ≡ joined_columns (tables_named tables before) =
    ap (λ ns. joined_columns (tables_named tables ns)) (once_apart before (repeats_front before (map (λ j. j.table) (join ∷ joins)) names.apart))
    in
    let at = sides_there (tables_named tables before) (next.table ∷ []) join first.0
    (ap (λ cs. sides_meant cs (joined_columns (next.table ∷ [])) join) (sym apart)
    ∙ ap (λ cs. sides_meant (columns_of tables before) cs join) (sym alone) ∙ first.1) in
    let own : IsAt (next.table ∷ []) first.0.1 = at.1 in
    let more : tables_named tables later ≡ tables_named tables before ++ next.table ∷ [] =
    filter_map-append (λ name. table_named name tables) before (join.table ∷ [])
    ∙ ap (λ o. tables_named tables before ++ cons_option o []) next.found
    in
    rw first.1 (
      (at.0.0, at.0.1, slice_get_within at.0.0.columns first.0.0.place.column.0 first.0.0.column at.0.2),
      (
        next.table,
        numbered tables join.table ∙ next.found,
        (
          source_tests_meant tables among (length before) next.table next.at conditions right,
          slice_get_within next.table.columns first.0.1.place.column.0 first.0.1.column
              (ap (λ (t : Table). slice_get t.columns first.0.1.place.column.0) (only_one next.table own.0 first.0.1.place.source own.1).1 ∙ own.2),
          subst (λ ts. AreJoins tables ts (joins_of tables columns conditions (behind later joins))) more
              (joins_meant tables among conditions later joins (names_on tables among before join joins names) parts.1 right),
        ),
      ),
    )

-- ---- a select

shown_there : (among : List Table) (its : Items) → NamesItems its → misses (joined_columns among) (named_items its) ≡ false
    → IsShown among (shown_of (joined_columns among) its)
shown_there among items.All some found = tt
shown_there among (items.Named names) some found =
    (let same = places_length (joined_columns among) names found in omega arith, have_places among names)

-- what no check refuses is there
pub select_meant : (limits : Limits) (tables : Database) (distinct : Bool) (its : Items) (name : List ℕ) (joins : List Join) (conditions : List Cond)
    → NamesItems its → AllByRecursion (λ c. c.refuses ≡ false) (select_checks tables its name joins conditions)
    → IsMeant limits tables (select_of tables distinct its name joins conditions)
select_meant limits tables distinct its name joins conditions some passed =
    let names : List (List ℕ) = select_names name joins in
    let among : List Table = tables_named tables (once names) in
    let columns : List JoinedColumn = joined_columns among in
    let all : tables_named tables names ≡ among = ap (tables_named tables) (sym (once_apart names passed.1.1.1.0)) in
    let are : AreNamed tables among (name ∷ []) joins = record { are = all; apart = passed.1.1.1.0; there = passed.0 } in
    let found = some_table (table_named name tables) (or_parts (lacks tables name) (list_any (lacks tables) (map (λ j. j.table) joins)) passed.0).0 in
    let meant = or_parts (misses columns (named_items its ++ condition_names conditions))
    (list_any is_none (map (join_columns tables) (behind (name ∷ []) joins))) passed.1.0 in
    let shown = or_parts (misses columns (named_items its)) (misses columns (condition_names conditions))
    (sym (list_any-append (λ n. not (fits_one columns n)) (named_items its) (condition_names conditions)) ∙ meant.0) in
    let right = or_parts (list_any (is_mistyped tables columns) conditions)
    (list_any (λ s. option_map_or (differ_in_type tables) s false) (map (join_columns tables) (behind (name ∷ []) joins))) passed.1.1.1.1.0 in
    let source : Source = source_of tables columns conditions 0 name in
    let numbers : List Joined = joins_of tables columns conditions (behind (name ∷ []) joins) in
    let first : slice_get among 0 ≡ Some found.0 =
    ap (λ ts. slice_get ts 0) (sym all) ∙ ap (λ o. slice_get (cons_option o (tables_named tables (map (λ j. j.table) joins))) 0) found.1
    in
    let joined : joined_tables tables source numbers ≡ among =
    ap (λ o. cons_option o (filter_map (λ s. slice_get tables s.table.0) (map (λ j. j.source) numbers))) (numbered tables name)
    ∙ ap (cons_option (table_named name tables)) (joins_named tables columns conditions (name ∷ []) joins meant.1) ∙ all
    in (
      (
        found.0,
        numbered tables name ∙ found.1,
        (
          source_tests_meant tables among 0 found.0 first conditions right.0,
          subst (λ o. AreJoins tables (cons_option o []) numbers) found.1
              (joins_meant tables among conditions (name ∷ []) joins are meant.1 right.0),
        ),
      ),
      subst (λ ts. IsShown ts (shown_of columns its)) (sym joined) (shown_there among its some shown.0),
    )
