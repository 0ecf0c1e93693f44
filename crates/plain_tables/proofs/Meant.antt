-- What the side of a join means among more tables: the same column, as no other table has its table's name.
use Rattle.std.proofs.Common.{◌≡◌, ◌≢◌, ◌+◌, ℕ, Bool, false, cond, length, map, get_or, arith, List, [], ◌∷◌, ◌++◌, append-nil, append_assoc, inl, inr, refl, sym, ap, ◌∙◌, Option, Some, None}
use Rattle.std.specs.Prelude.{◌==◌}
use Rattle.std.specs.List.{All, AllPairs, list_any, filter, flat_map, enumerate_from, slice_get}
use Rattle.std.specs.Option.{option_map}
use Rattle.std.specs.Str.{bytes_eq}
use Rattle.std.proofs.lemmas.Bool.{cases_Bool, or_parts}
use Rattle.std.proofs.lemmas.List.{length-map}
use Rattle.std.proofs.lemmas.Simd.{map-map}
use Rattle.std.proofs.lemmas.List.Elements.{All-nil, All-cons, All-head, All-tail, All-map, All-weaker, filter-append}
use Rattle.std.proofs.lemmas.Option.{none-some}
use Rattle.std.proofs.lemmas.Slice.Eq.{bytes_eq-Decides}
use Rattle.plain_tables.proofs.FirstWords.{different}
use Rattle.plain_tables.specs.Tables.{Table}
use Rattle.plain_tables.specs.Databases.{Database, is_named, table_named}
use Rattle.plain_tables.specs.Queries.{JoinedColumn, column_number, source_columns, joined_columns, fits, fits_one, column_meant, place_meant, side_name}
use Rattle.plain_tables.specs.Effects.{repeats}
use Rattle.plain_tables.specs.WrittenLaws.{tables_named}
use Rattle.plain_tables.specs.declared.schema.Column.{Column}
use Rattle.plain_tables.specs.declared.condition.ColName.{ColName}
use Rattle.plain_tables.specs.declared.command.JoinSide.{JoinSide}
use Rattle.common_lemmas.proofs.Pairs.{AllPairs-nil, AllPairs-head, AllPairs-across, AllPairs-back, AllPairs-behind, pairs_more}
use Rattle.common_lemmas.proofs.Tests.{and_false, find_first, find_satisfies}
use Rattle.common_lemmas.proofs.Filters.{filter-map, filter_none}
use Rattle.common_lemmas.proofs.Elements.{one_more}

-- ---- tables of different names

abbrev pub Differ : Table → Table → Type 0
Differ t u = t.name ≢ u.name

-- the table of a name has it
pub has_name : (name : List ℕ) (tables : Database) (table : Table) → table_named name tables ≡ Some table → table.name ≡ name
has_name name tables table there =
    (bytes_eq-Decides table.name name).0 (find_satisfies (λ t. Unit {0}) (is_named name) tables table (λ k d l. tt) there).1

others_differ : (tables : Database) (name : List ℕ) (names : List (List ℕ)) → list_any (bytes_eq name) names ≡ false
    → All (λ u. name ≢ u.name) (tables_named tables names)
others_differ tables name [] apart = All-nil (λ u. name ≢ u.name)
others_differ tables name (other ∷ names) apart =
    let parts = or_parts (bytes_eq name other) (list_any (bytes_eq name) names) apart in
    one_more (λ u. name ≢ u.name) (table_named other tables) (tables_named tables names)
    (λ u there same. different name other parts.0 (same ∙ has_name other tables u there)) (others_differ tables name names parts.1)

-- where no name is repeated, the tables of the names differ in theirs
pub tables_differ : (tables : Database) (names : List (List ℕ)) → repeats bytes_eq names ≡ false → AllPairs Differ (tables_named tables names)
tables_differ tables [] apart = AllPairs-nil Differ
tables_differ tables (name ∷ names) apart =
    let parts = or_parts (list_any (bytes_eq name) names) (repeats bytes_eq names) apart in
    pairs_more Differ (table_named name tables) (tables_named tables names)
    (λ t there. All-weaker (λ u. name ≢ u.name) (Differ t) (λ u other same. other (sym (has_name name tables t there) ∙ same))
    (tables_named tables names) (others_differ tables name names parts.0))
    (tables_differ tables names parts.1)

-- ---- the column that a name means is the one that it fits

-- the element of a list of one
abbrev pub only : {X : Type 0} → List X → Option X
only xs = cond (length xs == 1) (slice_get xs 0) None

meant_only : (columns : List JoinedColumn) (name : ColName) → column_meant columns name ≡ only (filter (fits name) columns)
meant_only columns name = ap (λ o. cond (fits_one columns name) o None) (find_first (fits name) columns)

only-map : {X Y : Type 0} (f : X → Y) (xs : List X) → only (map f xs) ≡ option_map f (only xs)
only-map f [] = refl
only-map f (x ∷ xs) =
    ap (λ n. cond (n == 1) (Some (f x)) None) (length-map (x ∷ xs) f)
    ∙ elim (cases_Bool (length (x ∷ xs) == 1)) [ inl t ↦ rw t refl | inr g ↦ rw g refl ]

meant_alike : (columns others : List JoinedColumn) (name : ColName) → filter (fits name) columns ≡ filter (fits name) others
    → column_meant columns name ≡ column_meant others name
meant_alike columns others name same = meant_only columns name ∙ ap only same ∙ sym (meant_only others name)

-- ---- the columns of more tables

-- the columns of tables that are joined as those from this number on
abbrev columns_from : ℕ → List Table → List JoinedColumn
columns_from k tables = flat_map source_columns (enumerate_from k tables)

columns_split : (k : ℕ) (front rest : List Table)
    → columns_from k (front ++ rest) ≡ columns_from k front ++ columns_from (k + length front) rest
columns_split k [] rest = let same : k ≡ k + 0 = omega arith in ap (λ n. columns_from n rest) same
columns_split k (t ∷ front) rest =
    let same : k + 1 + length front ≡ k + length (t ∷ front) = omega arith in
    ap (λ cs. source_columns (k, t) ++ cs) (columns_split (k + 1) front rest)
    ∙ sym (append_assoc (source_columns (k, t)) (columns_from (k + 1) front) (columns_from (k + 1 + length front) rest))
    ∙ ap (λ n. columns_from k (t ∷ front) ++ columns_from n rest) same

differs_false : (xs ys : List ℕ) → xs ≢ ys → bytes_eq xs ys ≡ false
differs_false xs ys other =
    elim (cases_Bool (bytes_eq xs ys)) [ inl t ↦ absurd (other ((bytes_eq-Decides xs ys).0 t)) | inr f ↦ f ]

-- a side of a join fits no column of tables with other names
none_fits : (side : JoinSide) (k : ℕ) (tables : List Table) → All (λ u. side.table ≢ u.name) tables
    → filter (fits (side_name side)) (columns_from k tables) ≡ []
none_fits side k [] others = refl
none_fits side k (t ∷ tables) others =
    let test : JoinedColumn → Bool = fits (side_name side) in
    let apart : bytes_eq side.table t.name ≡ false = differs_false side.table t.name (All-head (λ u. side.table ≢ u.name) t tables others) in
    let made : ℕ × Column → JoinedColumn = λ c. record { table = t.name; place = record { source = k; column = column_number c.0 }; column = c.1 } in
    let first = filter_none test (source_columns (k, t))
    (All-map (λ j. test j ≡ false) made (enumerate_from 0 t.columns)
    (λ i d l. rw apart (and_false (bytes_eq side.column (get_or (enumerate_from 0 t.columns) i d).1.name))))
    in
    filter-append test (source_columns (k, t)) (columns_from (k + 1) tables)
    ∙ rw (first) (none_fits side (k + 1) tables (All-tail (λ u. side.table ≢ u.name) t tables others))

none_meant : (side : JoinSide) (tables : List Table) → All (λ u. side.table ≢ u.name) tables
    → column_meant (joined_columns tables) (side_name side) ≡ None
none_meant side tables others = meant_alike (joined_columns tables) [] (side_name side) (none_fits side 0 tables others)

-- the name of its table is no other table's
apart_from : (among : List Table) (side : JoinSide) (joined : JoinedColumn) (u : Table)
    → column_meant (joined_columns among) (side_name side) ≡ Some joined → All (λ t. Differ t u) among → side.table ≢ u.name
apart_from among side joined u meant others same =
    none-some joined (sym (none_meant side among (λ i d l here. others i d l (sym here ∙ same))) ∙ meant)

-- ---- the sides of a join

-- what a side means among the first tables, it means among all
pub place_before : (front rest : List Table) (side : JoinSide) (joined : JoinedColumn) → AllPairs Differ (front ++ rest)
    → column_meant (joined_columns front) (side_name side) ≡ Some joined
    → place_meant (joined_columns (front ++ rest)) (side_name side) ≡ Some joined.place
place_before front rest side joined differ meant =
    let test : JoinedColumn → Bool = fits (side_name side) in
    let others : All (λ u. side.table ≢ u.name) rest = λ k d l.
    apart_from front side joined (get_or rest k d) meant (λ i e m. AllPairs-across Differ front rest differ i e m k d l)
    in
    ap (option_map (λ j. j.place))
    (meant_alike (joined_columns (front ++ rest)) (joined_columns front) (side_name side)
    (ap (filter test) (columns_split 0 front rest) ∙ filter-append test (columns_from 0 front) (columns_from (0 + length front) rest)
    ∙ ap (λ cs. filter test (columns_from 0 front) ++ cs) (none_fits side (0 + length front) rest others)
    ∙ append-nil (filter test (columns_from 0 front)))
    ∙ meant)

-- a column with its table as the one of this number
abbrev renumbered : ℕ → JoinedColumn → JoinedColumn
renumbered k joined = record { table = joined.table; place = record { source = k; column = joined.place.column }; column = joined.column }

meant_renumbered : (k : ℕ) (own : Table) (name : ColName)
    → column_meant (source_columns (k, own)) name ≡ option_map (renumbered k) (column_meant (source_columns (0, own)) name)
meant_renumbered k own name =
    let made : ℕ → ℕ × Column → JoinedColumn = λ n c.
    record { table = own.name; place = record { source = n; column = column_number c.0 }; column = c.1 } in
    let alone : List JoinedColumn = source_columns (0, own) in
    let same : source_columns (k, own) ≡ map (renumbered k) alone = sym (map-map (renumbered k) (made 0) (enumerate_from 0 own.columns)) in
    ap (λ cs. column_meant cs name) same
    ∙ meant_only (map (renumbered k) alone) name
    ∙ ap only (filter-map (fits name) (renumbered k) alone)
    ∙ only-map (renumbered k) (filter (fits name) alone)
    ∙ ap (option_map (renumbered k)) (sym (meant_only alone name))

-- what a side means in a table alone, it means there among all
pub place_own : (front rest : List Table) (own : Table) (side : JoinSide) (joined : JoinedColumn) → AllPairs Differ (front ++ own ∷ rest)
    → column_meant (joined_columns (own ∷ [])) (side_name side) ≡ Some joined
    → place_meant (joined_columns (front ++ own ∷ rest)) (side_name side) ≡ Some (record { source = length front; column = joined.place.column })
place_own front rest own side joined differ meant =
    let test : JoinedColumn → Bool = fits (side_name side) in
    let before : List JoinedColumn = columns_from 0 front in
    let here : List JoinedColumn = source_columns (length front, own) in
    let behind : List JoinedColumn = columns_from (length front + 1) rest in
    let count : 0 + length front ≡ length front = omega arith in
    let apart : (u : Table) → Differ own u → side.table ≢ u.name = λ u other.
    apart_from (own ∷ []) side joined u meant (All-cons (λ t. Differ t u) own [] other (All-nil (λ t. Differ t u)))
    in
    let none_before = none_fits side 0 front (λ k d l. apart (get_or front k d) (λ same. AllPairs-behind Differ front own rest differ k d l (sym same))) in
    let none_behind = none_fits side (length front + 1) rest
    (λ k d l. apart (get_or rest k d) (AllPairs-head Differ own rest (AllPairs-back Differ front (own ∷ rest) differ) k d l))
    in
    let columns : joined_columns (front ++ own ∷ rest) ≡ before ++ (here ++ behind) =
    columns_split 0 front (own ∷ rest) ∙ ap (λ n. before ++ columns_from n (own ∷ rest)) count
    in
    let all : filter test (joined_columns (front ++ own ∷ rest)) ≡ filter test here =
    ap (filter test) columns ∙ filter-append test before (here ++ behind)
    ∙ ap (λ cs. cs ++ filter test (here ++ behind)) none_before
    ∙ filter-append test here behind ∙ ap (λ cs. filter test here ++ cs) none_behind ∙ append-nil (filter test here)
    in
    ap (option_map (λ j. j.place))
    (meant_alike (joined_columns (front ++ own ∷ rest)) here (side_name side) all
    ∙ meant_renumbered (length front) own (side_name side)
    ∙ ap (λ cs. option_map (renumbered (length front)) (column_meant cs (side_name side))) (sym (append-nil (source_columns (0, own))))
    ∙ ap (option_map (renumbered (length front))) meant)
