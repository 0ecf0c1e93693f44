-- Written conditions: each is a test of the source that its name means, and each join makes equal what its names mean.
use Rattle.std.proofs.Common.{◌≡◌, ◌+◌, ◌<◌, ℕ, zero, suc, Bool, true, false, cond, not, length, map, get_or, arith, List, [], ◌∷◌, ◌++◌, inl, inr, refl, sym, ap, ◌∙◌, subst, Some, ◌⊎◌}
use Rattle.std.specs.Prelude.{◌==◌, ◌&&◌}
use Rattle.std.specs.List.{All, AllPairs, AllByRecursion, list_any, list_all, filter, cons_option, enumerate_from, slice_get}
use Rattle.std.specs.Option.{is_some, is_none, option_map, option_map_or, option_zip}
use Rattle.std.specs.Ordering.{is_eq}
use Rattle.std.proofs.lemmas.Bool.{cases_Bool, or_parts, not-false, eq-eqb, ne_eqb}
use Rattle.std.proofs.lemmas.List.{length_push, length-map, map-id}
use Rattle.std.proofs.lemmas.List.Elements.{All-nil, All-cons, All-head, All-tail, All-map, All-weaker}
use Rattle.std.proofs.lemmas.List.Folds.{list_any-append}
use Rattle.std.proofs.lemmas.Option.{slice_get_within}
use Rattle.common_lemmas.proofs.Options.{is_some-Some}
use Rattle.common_lemmas.proofs.Orders.{is_eq-reverse}
use Rattle.plain_tables.specs.Values.{value_cmp, value_cmp_total}
use Rattle.plain_tables.specs.Tables.{Table, Row}
use Rattle.plain_tables.specs.Databases.{Database, table_named}
use Rattle.plain_tables.specs.Queries.{JoinedColumn, joined_columns, fits_one, column_meant, place_meant, stands, side_name, named_items}
use Rattle.plain_tables.specs.Effects.{misses, setting_name, condition_names}
use Rattle.plain_tables.specs.Resolving.{number_of, own_columns, tests_of, is_mistyped, update_checks, delete_checks, once, select_names, columns_of, behind, join_columns, differ_in_type, select_checks, is_on_source, source_of, joins_of}
use Rattle.plain_tables.specs.ResolvedLaws.{AreJoins}
use Rattle.plain_tables.specs.Joining.{Member, passes_all, value_of, are_equal, members_of}
use Rattle.plain_tables.specs.QueryLaws.{table_rows, all_members, sources_of, each_passes, each_equal}
use Rattle.plain_tables.specs.WrittenLaws.{tables_named, meets, meets_all, meets_join, meets_joins, members_meeting, MeansAt, MeansItsTable, AllNamesMean, SelectedNamesMean, SelectsMeetTheWritten, TestsTheWritten, UpdatesTestTheWritten, DeletesTestTheWritten}
use Rattle.plain_tables.specs.declared.value.Value.{Value}
use Rattle.plain_tables.specs.declared.value.Value.TheVariants as value
use Rattle.plain_tables.specs.declared.condition.ColName.{ColName}
use Rattle.plain_tables.specs.declared.condition.Cond.{Cond}
use Rattle.plain_tables.specs.declared.command.Items.{Items}
use Rattle.plain_tables.specs.declared.command.Join.{Join}
use Rattle.plain_tables.specs.declared.command.JoinSide.{JoinSide}
use Rattle.plain_tables.specs.declared.numbers.Place.{Place}
use Rattle.plain_tables.specs.declared.resolved.Source.{Source}
use Rattle.plain_tables.specs.declared.resolved.Joined.{Joined}
use Rattle.plain_tables.specs.declared.resolved.Resolved.{Resolved}
use Rattle.plain_tables.specs.declared.resolved.Resolved.TheVariants as resolved
use Rattle.plain_tables.proofs.Columns.{column_at, has_place, meant_where_one}
use Rattle.common_lemmas.proofs.Elements.{All-flat_map}
use Rattle.common_lemmas.proofs.Tests.{all_agree, all_both, all_true, and_true}
use Rattle.common_lemmas.proofs.Filters.{filter_all, filter_agree_on}
use Rattle.common_lemmas.proofs.Maps.{length-filter_map}
use Rattle.plain_tables.proofs.Meant.{Differ, has_name, tables_differ, place_before, place_own}
use Rattle.plain_tables.proofs.Selects.{once_apart, repeats_front, some_table, lacks, AreNamed, names_on, next_table, numbered, zip_parts, either_of, some_sides, joins_meant}
use Rattle.plain_tables.proofs.Products.{product_filtered}
use Rattle.plain_tables.proofs.Meanings.{satisfies, if_checked, if_numbered}

-- ---- the tables of names

-- where each name has its table, there are as many tables, and they have the names
as_many_named : (tables : Database) (names : List (List ℕ)) → list_any (lacks tables) names ≡ false
    → length (tables_named tables names) ≡ length names
as_many_named tables names there =
    length-filter_map (λ name. table_named name tables) names (λ name. is_some (table_named name tables)) (λ name is. is) there

names_of : (tables : Database) (names : List (List ℕ)) → list_any (lacks tables) names ≡ false
    → map (λ (t : Table). t.name) (tables_named tables names) ≡ names
names_of tables [] there = refl
names_of tables (name ∷ names) there =
    let parts = or_parts (lacks tables name) (list_any (lacks tables) names) there in
    let found = some_table (table_named name tables) parts.0 in
    rw (found.1, has_name name tables found.0 found.1, names_of tables names parts.1) refl

-- ---- a test of one row of a member

-- whether a row passes, if it is the one of this number
abbrev if_at : ℕ → (Row → Bool) → ℕ × Row → Bool
if_at n test p = cond (n == p.0) (test p.1) true

none_at : (n : ℕ) (test : Row → Bool) (k : ℕ) (rows : List Row) → n < k → list_all (if_at n test) (enumerate_from k rows) ≡ true
none_at n test k [] before = refl
none_at n test k (row ∷ rows) before =
    rw (ne_eqb n k (λ same. absurd (omega arith))) (none_at n test (k + 1) rows (omega arith))

one_at : (n : ℕ) (test : Row → Bool) (k i : ℕ) (rows : List Row) → n ≡ k + i → i < length rows
    → list_all (if_at n test) (enumerate_from k rows) ≡ test (get_or rows i [])
one_at n test k i [] at within = absurd (omega arith)
one_at n test k zero (row ∷ rows) at within =
    rw (eq-eqb n k (omega arith), none_at n test (k + 1) rows (omega arith)) (and_true (test row))
one_at n test k (suc i) (row ∷ rows) at within =
    rw (ne_eqb n k (λ same. absurd (omega arith))) (one_at n test (k + 1) i rows (omega arith) (omega arith))

-- ---- conditions

-- the name of a condition means a place in one of so many tables
abbrev MeansOne : List JoinedColumn → ℕ → Cond → Type 0
MeansOne columns count c = MeansAt columns (λ n. n < count) c.column

-- whether the row of this number passes the tests that stand with its table
abbrev passes_own : List JoinedColumn → List Cond → ℕ × Row → Bool
passes_own columns conditions p = passes_all (tests_of columns (filter (is_on_source columns p.0) conditions)) p.1

-- one condition more is one test more of the row at its place
one_test : (columns : List JoinedColumn) (c : Cond) (conditions : List Cond) (place : Place) → place_meant columns c.column ≡ Some place → (p : ℕ × Row)
    → passes_own columns (c ∷ conditions) p
    ≡ (if_at place.source (λ row. stands c.op (value_of (row ∷ []) (record { source = 0; column = place.column })) c.value) p && passes_own columns conditions p)
one_test columns c conditions place meant p =
    elim (cases_Bool (place.source == p.0)) [ inl t ↦ rw (meant, t) (rw meant refl) | inr f ↦ rw (meant, f) refl ]

-- the rows of a member pass their own tests where the member meets all conditions
own_are_all : (columns : List JoinedColumn) (conditions : List Cond) (member : Member) → All (MeansOne columns (length member)) conditions
    → list_all (passes_own columns conditions) (enumerate_from 0 member) ≡ meets_all columns conditions member
own_are_all columns [] member mean = all_true (enumerate_from 0 member)
own_are_all columns (c ∷ conditions) member mean =
    let one = All-head (MeansOne columns (length member)) c conditions mean in
    let test : Row → Bool = λ row. stands c.op (value_of (row ∷ []) (record { source = 0; column = one.0.column })) c.value in
    let rows : List (ℕ × Row) = enumerate_from 0 member in
    let met : meets columns member c ≡ test (get_or member one.0.source []) = rw one.1 refl in
    all_agree (passes_own columns (c ∷ conditions)) (λ p. if_at one.0.source test p && passes_own columns conditions p)
    (one_test columns c conditions one.0 one.1) rows
    ∙ all_both (if_at one.0.source test) (passes_own columns conditions) rows
    ∙ ap (λ b. b && list_all (passes_own columns conditions) rows)
    (one_at one.0.source test 0 one.0.source member (omega arith) one.2 ∙ sym met)
    ∙ ap (λ b. meets columns member c && b)
    (own_are_all columns conditions member (All-tail (MeansOne columns (length member)) c conditions mean))

-- where no name is missed, each means a place
pub all_mean : {X : Type 0} (among : List Table) (name : X → ColName) (xs : List X) → misses (joined_columns among) (map name xs) ≡ false
    → All (λ x. MeansAt (joined_columns among) (λ n. n < length among) (name x)) xs
all_mean among name [] found = All-nil (λ x. MeansAt (joined_columns among) (λ n. n < length among) (name x))
all_mean among name (x ∷ xs) found =
    let columns : List JoinedColumn = joined_columns among in
    let parts = or_parts (not (fits_one columns (name x))) (misses columns (map name xs)) found in
    let joined = is_some-Some (column_meant columns (name x)) (meant_where_one columns (name x) (not-false (fits_one columns (name x)) parts.0)) in
    let meant : place_meant columns (name x) ≡ Some joined.0.place = ap (option_map (λ j. j.place)) joined.1 in
    let there = has_place among (name x) joined.0.place meant in
    All-cons (λ y. MeansAt columns (λ n. n < length among) (name y)) x xs
    (joined.0.place, meant, slice_get_within among joined.0.place.source there.0 there.1)
    (all_mean among name xs parts.1)

-- ---- sources

-- the source of the name with this number
abbrev numbered_source : Database → List JoinedColumn → List Cond → ℕ × List ℕ → Source
numbered_source tables columns conditions n = source_of tables columns conditions n.0 n.1

-- the sources of joins are those of their names
joins_sources : (tables : Database) (columns : List JoinedColumn) (conditions : List Cond) (before : List (List ℕ)) (joins : List Join)
    → list_any is_none (map (join_columns tables) (behind before joins)) ≡ false
    → map (λ j. j.source) (joins_of tables columns conditions (behind before joins))
    ≡ map (numbered_source tables columns conditions) (enumerate_from (length before) (map (λ j. j.table) joins))
joins_sources tables columns conditions before [] there = refl
joins_sources tables columns conditions before (join ∷ joins) there =
    let later : List (List ℕ) = before ++ join.table ∷ [] in
    let parts = or_parts (is_none (join_columns tables (before, join))) (list_any is_none (map (join_columns tables) (behind later joins))) there in
    rw (some_sides (join_columns tables (before, join)) parts.0).1 (
    ap (λ ss. source_of tables columns conditions (length before) join.table ∷ ss)
    (joins_sources tables columns conditions later joins parts.1
    ∙ ap (λ n. map (numbered_source tables columns conditions) (enumerate_from n (map (λ j. j.table) joins))) (length_push before join.table))
    )

-- their rows are those of the tables of these names
sources_rows : (tables : Database) (columns : List JoinedColumn) (conditions : List Cond) (k : ℕ) (names : List (List ℕ))
    → list_any (lacks tables) names ≡ false
    → map (table_rows tables) (map (numbered_source tables columns conditions) (enumerate_from k names))
    ≡ map (λ (t : Table). t.rows) (tables_named tables names)
sources_rows tables columns conditions k [] there = refl
sources_rows tables columns conditions k (name ∷ names) there =
    let parts = or_parts (lacks tables name) (list_any (lacks tables) names) there in
    rw (numbered tables name, (some_table (table_named name tables) parts.0).1) (
    ap (λ ls. (some_table (table_named name tables) parts.0).0.rows ∷ ls) (sources_rows tables columns conditions (k + 1) names parts.1)
    )

-- a member passes the tests of the sources where each row passes its own
pass_own : (tables : Database) (columns : List JoinedColumn) (conditions : List Cond) (k : ℕ) (names : List (List ℕ)) (member : Member)
    → length names ≡ length member
    → each_passes (map (numbered_source tables columns conditions) (enumerate_from k names)) member
    ≡ list_all (passes_own columns conditions) (enumerate_from k member)
pass_own tables columns conditions k [] [] long = refl
pass_own tables columns conditions k [] (row ∷ member) long = absurd (omega arith)
pass_own tables columns conditions k (name ∷ names) [] long = absurd (omega arith)
pass_own tables columns conditions k (name ∷ names) (row ∷ member) long =
    ap (λ b. passes_own columns conditions (k, row) && b) (pass_own tables columns conditions (k + 1) names member (omega arith))

-- ---- joins

compared_alike : (v w : Value) → is_eq (value_cmp v w) ≡ is_eq (value_cmp w v)
compared_alike v w = ap is_eq (value_cmp_total.antisymm v w) ∙ is_eq-reverse (value_cmp w v)

pub equal_either_way : (v w : Value) → are_equal v w ≡ are_equal w v
equal_either_way (value.Int a) (value.Int b) = ap (λ x. x && true) (compared_alike (value.Int a) (value.Int b))
equal_either_way (value.Text s) (value.Text t) = ap (λ x. x && true) (compared_alike (value.Text s) (value.Text t))
equal_either_way value.Null (value.Int b) = refl
equal_either_way v w = refl

-- two sides of a join behind so many tables mean these columns
abbrev MeanColumns : List JoinedColumn → ℕ → JoinedColumn × JoinedColumn → JoinSide → JoinSide → Type 0
MeanColumns columns k sides outer inner =
    (place_meant columns (side_name outer) ≡ Some sides.0.place)
    × (place_meant columns (side_name inner) ≡ Some (record { source = k; column = sides.1.place.column }))

-- The two columns of a join are what its sides mean among all tables, the outer one in a table before it.
sides_mean : (tables : Database) (among : List Table) (before : List (List ℕ)) (join : Join) (joins : List Join) (sides : JoinedColumn × JoinedColumn)
    → AreNamed tables among before (join ∷ joins) → join_columns tables (before, join) ≡ Some sides
    → (sides.0.place.source < length before)
    × (MeanColumns (joined_columns among) (length before) sides join.left join.right
    ⊎ MeanColumns (joined_columns among) (length before) sides join.right join.left)
sides_mean tables among before join joins sides names meant =
    let next = next_table tables among before join joins names in
    let front : List Table = tables_named tables before in
    let rest : List Table = tables_named tables (map (λ j. j.table) joins) in
    let all : List (List ℕ) = before ++ map (λ j. j.table) (join ∷ joins) in
    let columns : List JoinedColumn = joined_columns among in
    let differ : AllPairs Differ (front ++ next.table ∷ rest) =
    subst (AllPairs Differ) (names.are ∙ next.split) (tables_differ tables all names.apart)
    in
    let apart : columns_of tables before ≡ joined_columns front =
    ap (λ ns. joined_columns (tables_named tables ns)) (once_apart before (repeats_front before (map (λ j. j.table) (join ∷ joins)) names.apart))
    in
    let alone : columns_of tables (join.table ∷ []) ≡ joined_columns (next.table ∷ []) =
    ap (λ o. joined_columns (cons_option o [])) next.found
    in
    let means : (outer inner : JoinSide)
    → option_zip (column_meant (columns_of tables before) (side_name outer)) (column_meant (columns_of tables (join.table ∷ [])) (side_name inner)) ≡ Some sides
    → (sides.0.place.source < length before) × MeanColumns columns (length before) sides outer inner = λ outer inner both.
    let parts = zip_parts _ _ sides both in
    let first : column_meant (joined_columns front) (side_name outer) ≡ Some sides.0 =
    ap (λ cs. column_meant cs (side_name outer)) (sym apart) ∙ parts.0
    in
    let own : column_meant (joined_columns (next.table ∷ [])) (side_name inner) ≡ Some sides.1 =
    ap (λ cs. column_meant cs (side_name inner)) (sym alone) ∙ parts.1
    in
    let there = column_at front (side_name outer) sides.0 first in (
      subst (λ n. sides.0.place.source < n) next.counted (slice_get_within front sides.0.place.source there.0 there.1),
      (
        ap (λ ts. place_meant (joined_columns ts) (side_name outer)) next.split
            ∙ place_before front (next.table ∷ rest) outer sides.0 differ first,
        ap (λ ts. place_meant (joined_columns ts) (side_name inner)) next.split
            ∙ place_own front rest next.table inner sides.1 differ own
            ∙ ap (λ n. Some (record { source = n; column = sides.1.place.column })) next.counted,
      ),
    )
    in
    elim (either_of _ _ sides meant) [
      | inl both ↦ let mean = means join.left join.right both in (mean.0, inl mean.1)
      | inr both ↦ let mean = means join.right join.left both in (mean.0, inr mean.1)
    ]

-- the two values are equal where the member meets the join
join_met : (tables : Database) (among : List Table) (before : List (List ℕ)) (join : Join) (joins : List Join) (sides : JoinedColumn × JoinedColumn)
    (member : Member) → AreNamed tables among before (join ∷ joins) → join_columns tables (before, join) ≡ Some sides
    → are_equal (value_of member sides.0.place) (value_of member (record { source = length before; column = sides.1.place.column }))
    ≡ meets_join (joined_columns among) member join
join_met tables among before join joins sides member names meant =
    elim (sides_mean tables among before join joins sides names meant).1 [
      | inl mean ↦ rw (mean.0, mean.1) refl
      | inr mean ↦
          rw (mean.0, mean.1)
          (equal_either_way (value_of member sides.0.place) (value_of member (record { source = length before; column = sides.1.place.column })))
    ]

-- the sides of a join mean a place before its table and one in it
join_means : (tables : Database) (among : List Table) (before : List (List ℕ)) (join : Join) (joins : List Join) (sides : JoinedColumn × JoinedColumn)
    → AreNamed tables among before (join ∷ joins) → join_columns tables (before, join) ≡ Some sides
    → MeansItsTable (joined_columns among) (length before, join)
join_means tables among before join joins sides names meant =
    let mean = sides_mean tables among before join joins sides names meant in
    let inner : Place = record { source = length before; column = sides.1.place.column } in
    elim mean.1 [
      | inl both ↦ inl ((sides.0.place, both.0, mean.0), (inner, both.1, refl))
      | inr both ↦ inr ((sides.0.place, both.0, mean.0), (inner, both.1, refl))
    ]

joins_mean : (tables : Database) (among : List Table) (before : List (List ℕ)) (joins : List Join)
    → AreNamed tables among before joins → list_any is_none (map (join_columns tables) (behind before joins)) ≡ false
    → All (MeansItsTable (joined_columns among)) (enumerate_from (length before) joins)
joins_mean tables among before [] names there = All-nil (MeansItsTable (joined_columns among))
joins_mean tables among before (join ∷ joins) names there =
    let Means : ℕ × Join → Type 0 = MeansItsTable (joined_columns among) in
    let later : List (List ℕ) = before ++ join.table ∷ [] in
    let parts = or_parts (is_none (join_columns tables (before, join))) (list_any is_none (map (join_columns tables) (behind later joins))) there in
    let sides = some_sides (join_columns tables (before, join)) parts.0 in
    All-cons Means (length before, join) (enumerate_from (length before + 1) joins)
    (join_means tables among before join joins sides.0 names sides.1)
    (subst (λ n. All Means (enumerate_from n joins)) (length_push before join.table)
    (joins_mean tables among later joins (names_on tables among before join joins names) parts.1))

-- what is joined is equal where the member meets the joins
joins_met : (tables : Database) (among : List Table) (conditions : List Cond) (before : List (List ℕ)) (joins : List Join) (member : Member)
    → AreNamed tables among before joins → list_any is_none (map (join_columns tables) (behind before joins)) ≡ false
    → each_equal (length before) (joins_of tables (joined_columns among) conditions (behind before joins)) member
    ≡ meets_joins (joined_columns among) joins member
joins_met tables among conditions before [] member names there = refl
joins_met tables among conditions before (join ∷ joins) member names there =
    let columns : List JoinedColumn = joined_columns among in
    let later : List (List ℕ) = before ++ join.table ∷ [] in
    let parts = or_parts (is_none (join_columns tables (before, join))) (list_any is_none (map (join_columns tables) (behind later joins))) there in
    let sides = some_sides (join_columns tables (before, join)) parts.0 in
    let others : List Joined = joins_of tables columns conditions (behind later joins) in
    rw sides.1 (
    ap (λ b. b && each_equal (length before + 1) others member) (join_met tables among before join joins sides.0 member names sides.1)
    ∙ ap (λ n. meets_join columns member join && each_equal n others member) (sym (length_push before join.table))
    ∙ ap (λ b. meets_join columns member join && b)
    (joins_met tables among conditions later joins member (names_on tables among before join joins names) parts.1)
    )

-- ---- members

-- a way to take a row of each table has as many rows as there are tables
members_long : (lists : List (List Row)) → All (λ m. length m ≡ length lists) (all_members lists)
members_long [] = All-cons (λ m. length m ≡ 0) [] [] refl (All-nil (λ m. length m ≡ 0))
members_long (rows ∷ lists) =
    let Long : Member → Type 0 = λ m. length m ≡ length (rows ∷ lists) in
    All-flat_map Long (λ row. map (λ member. row ∷ member) (all_members lists)) rows
    (λ i d l. All-map Long (λ member. get_or rows i d ∷ member) (all_members lists)
    (All-weaker (λ m. length m ≡ length lists) (λ m. Long (get_or rows i d ∷ m)) (λ m long. omega arith) (all_members lists) (members_long lists)))

-- ---- a select

select_met : (tables : Database) (among : List Table) (name : List ℕ) (joins : List Join) (conditions : List Cond)
    → AreNamed tables among (name ∷ []) joins → list_any is_none (map (join_columns tables) (behind (name ∷ []) joins)) ≡ false
    → list_any (is_mistyped tables (joined_columns among)) conditions ≡ false
    → misses (joined_columns among) (condition_names conditions) ≡ false
    → members_of tables (source_of tables (joined_columns among) conditions 0 name)
    (joins_of tables (joined_columns among) conditions (behind (name ∷ []) joins))
    ≡ members_meeting among joins conditions
select_met tables among name joins conditions named there right found =
    let names : List (List ℕ) = select_names name joins in
    let columns : List JoinedColumn = joined_columns among in
    let source : Source = source_of tables columns conditions 0 name in
    let numbers : List Joined = joins_of tables columns conditions (behind (name ∷ []) joins) in
    let lists : List (List Row) = map (λ (t : Table). t.rows) among in
    let first = some_table (table_named name tables) (or_parts (lacks tables name) (list_any (lacks tables) (map (λ j. j.table) joins)) named.there).0 in
    let are : AreJoins tables (first.0 ∷ []) numbers =
    subst (λ o. AreJoins tables (cons_option o []) numbers) first.1 (joins_meant tables among conditions (name ∷ []) joins named there right)
    in
    let sources : sources_of source numbers ≡ map (numbered_source tables columns conditions) (enumerate_from 0 names) =
    ap (λ ss. source ∷ ss) (joins_sources tables columns conditions (name ∷ []) joins there)
    in
    let rows : map (table_rows tables) (sources_of source numbers) ≡ lists =
    ap (map (table_rows tables)) sources ∙ sources_rows tables columns conditions 0 names named.there ∙ ap (map (λ (t : Table). t.rows)) named.are
    in
    let many : length among ≡ length names = ap length (sym named.are) ∙ as_many_named tables names named.there in
    let as_many : length lists ≡ length among = length-map among (λ (t : Table). t.rows) in
    let tested : Member → Bool = λ m. each_passes (sources_of source numbers) m && each_equal 1 numbers m in
    let met : Member → Bool = λ m. meets_all columns conditions m && meets_joins columns joins m in
    let same : (m : Member) → length m ≡ length lists → tested m ≡ met m = λ m long.
    ap (λ ss. each_passes ss m && each_equal 1 numbers m) sources
    ∙ ap (λ b. b && each_equal 1 numbers m)
    (pass_own tables columns conditions 0 names m (omega arith)
    ∙ own_are_all columns conditions m
    (subst (λ n. All (MeansOne columns n) conditions) (sym (long ∙ as_many)) (all_mean among (λ c. c.column) conditions found)))
    ∙ ap (λ b. meets_all columns conditions m && b) (joins_met tables among conditions (name ∷ []) joins m named there)
    in
    product_filtered tables source numbers first.0 are
    ∙ ap (λ ls. filter tested (all_members ls)) rows
    ∙ filter_agree_on tested met (all_members lists)
    (All-weaker (λ m. length m ≡ length lists) (λ m. tested m ≡ met m) same (all_members lists) (members_long lists))

-- What passes the checks of a select names tables that are there, once each, and columns of theirs.
pub record HasPassed (tables : Database) (its : Items) (name : List ℕ) (joins : List Join) (conditions : List Cond) : Type 0 where
  pub once_each : once (select_names name joins) ≡ select_names name joins
  pub named : AreNamed tables (tables_named tables (once (select_names name joins))) (name ∷ []) joins
  pub joined : list_any is_none (map (join_columns tables) (behind (name ∷ []) joins)) ≡ false
  pub typed : list_any (is_mistyped tables (columns_of tables (select_names name joins))) conditions ≡ false
  pub shown : misses (columns_of tables (select_names name joins)) (named_items its) ≡ false
  pub found : misses (columns_of tables (select_names name joins)) (condition_names conditions) ≡ false

pub has_passed : (tables : Database) (its : Items) (name : List ℕ) (joins : List Join) (conditions : List Cond)
    → AllByRecursion (λ c. c.refuses ≡ false) (select_checks tables its name joins conditions) → HasPassed tables its name joins conditions
has_passed tables its name joins conditions passed =
    let names : List (List ℕ) = select_names name joins in
    let columns : List JoinedColumn = columns_of tables names in
    let sides = map (join_columns tables) (behind (name ∷ []) joins) in
    let each : once names ≡ names = once_apart names passed.1.1.1.0 in
    let meant = or_parts (misses columns (named_items its ++ condition_names conditions)) (list_any is_none sides) passed.1.0 in
    let both = or_parts (misses columns (named_items its)) (misses columns (condition_names conditions))
    (sym (list_any-append (λ n. not (fits_one columns n)) (named_items its) (condition_names conditions)) ∙ meant.0) in
    record {
      once_each = each;
      named = record { are = ap (tables_named tables) (sym each); apart = passed.1.1.1.0; there = passed.0 };
      joined = meant.1;
      typed = (or_parts (list_any (is_mistyped tables columns) conditions)
          (list_any (λ s. option_map_or (differ_in_type tables) s false) sides) passed.1.1.1.1.0).0;
      shown = both.0;
      found = both.1;
    }

-- what the law says of a resolved select
abbrev MeetsTheWritten : Database → List ℕ → List Join → List Cond → Resolved → Type 0
MeetsTheWritten tables name joins conditions (resolved.Select query) =
    members_of tables query.source query.joins ≡ members_meeting (tables_named tables (select_names name joins)) joins conditions
MeetsTheWritten tables name joins conditions r = Unit {0}

pub selects_meet_the_written : SelectsMeetTheWritten
selects_meet_the_written records tables distinct its name joins conditions query h =
    satisfies (MeetsTheWritten tables name joins conditions) _ (resolved.Select query) h
    (if_checked _ (select_checks tables its name joins conditions) _ (λ passed.
    let are = has_passed tables its name joins conditions passed in
    select_met tables (tables_named tables (once (select_names name joins))) name joins conditions are.named are.joined are.typed are.found
    ∙ ap (λ ns. members_meeting (tables_named tables ns) joins conditions) are.once_each))

pub selected_names_mean : SelectedNamesMean
selected_names_mean records tables distinct its name joins conditions r h =
    let names : List (List ℕ) = select_names name joins in
    satisfies (λ q. AllNamesMean tables its names joins conditions) _ r h
    (if_checked _ (select_checks tables its name joins conditions) _ (λ passed.
    let are = has_passed tables its name joins conditions passed in
    let among : List Table = tables_named tables (once names) in
    let same : among ≡ tables_named tables names = ap (tables_named tables) are.once_each in
    let many : length among ≡ length names = ap length same ∙ as_many_named tables names are.named.there in
    record {
      of_tables = names_of tables names are.named.there;
      of_items = subst (λ ts. All (MeansAt (joined_columns ts) (λ n. n < length names)) (named_items its)) same
          (subst (λ k. All (MeansAt (joined_columns among) (λ n. n < k)) (named_items its)) many
          (all_mean among (λ n. n) (named_items its) (ap (misses (joined_columns among)) (map-id (named_items its)) ∙ are.shown)));
      of_conditions = subst (λ ts. All (λ c. MeansAt (joined_columns ts) (λ n. n < length names) c.column) conditions) same
          (subst (λ k. All (MeansOne (joined_columns among) k) conditions) many (all_mean among (λ c. c.column) conditions are.found));
      of_joins = subst (λ ts. All (MeansItsTable (joined_columns ts)) (enumerate_from 1 joins)) same
          (joins_mean tables among (name ∷ []) joins are.named are.joined);
    }))

-- ---- update and delete

own_tests : (tables : Database) (name : List ℕ) (table : Table) (conditions : List Cond)
    → slice_get tables (number_of name tables).0 ≡ Some table
    → misses (own_columns table) (condition_names conditions) ≡ false
    → TestsTheWritten tables name conditions (number_of name tables) (tests_of (own_columns table) conditions)
own_tests tables name table conditions there found =
    let columns : List JoinedColumn = own_columns table in
    let mean : All (MeansOne columns 1) conditions = all_mean (table ∷ []) (λ c. c.column) conditions found in
    let all_on = filter_all (is_on_source columns 0) conditions
    (All-weaker (MeansOne columns 1) (λ c. is_on_source columns 0 c ≡ true)
    (λ c one. rw one.1 (eq-eqb one.0.source 0 (let before = one.2 in omega arith))) conditions mean)
    in
    record {
      table = table;
      is_named = sym (numbered tables name) ∙ there;
      is_numbered = there;
      means = All-weaker (MeansOne columns 1) (λ c. MeansAt columns (λ n. n ≡ 0) c.column)
          (λ c one. (one.0, one.1, (let before = one.2 in omega arith))) conditions mean;
      passes = λ row.
          ap (λ cs. passes_all (tests_of columns cs) row) (sym all_on)
          ∙ sym (and_true (passes_own columns conditions (0, row)))
          ∙ own_are_all columns conditions (row ∷ []) mean;
    }

-- what the laws say of a resolved update or delete
abbrev OfTests : Database → List ℕ → List Cond → Resolved → Type 0
OfTests tables name conditions (resolved.Update n assignments tests) = TestsTheWritten tables name conditions n tests
OfTests tables name conditions (resolved.Delete n tests) = TestsTheWritten tables name conditions n tests
OfTests tables name conditions r = Unit {0}

pub updates_test_the_written : UpdatesTestTheWritten
updates_test_the_written records tables name settings conditions n assignments tests h =
    satisfies (OfTests tables name conditions) _ (resolved.Update n assignments tests) h
    (if_numbered _ name tables _ (λ table there. if_checked _ (update_checks tables table settings conditions) _ (λ passed.
    let columns : List JoinedColumn = own_columns table in
    let found = or_parts (misses columns (map setting_name settings)) (misses columns (condition_names conditions))
    (sym (list_any-append (λ c. not (fits_one columns c)) (map setting_name settings) (condition_names conditions)) ∙ passed.0) in
    own_tests tables name table conditions there found.1)))

pub deletes_test_the_written : DeletesTestTheWritten
deletes_test_the_written records tables name conditions n tests h =
    satisfies (OfTests tables name conditions) _ (resolved.Delete n tests) h
    (if_numbered _ name tables _ (λ table there. if_checked _ (delete_checks tables table conditions) _
    (λ passed. own_tests tables name table conditions there passed.0)))
