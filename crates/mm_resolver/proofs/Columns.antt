-- The columns that a name fits.
use Rattle.std.proofs.Common.{◌≡◌, ◌≢◌, ◌+◌, ◌<◌, get_or, ℕ, zero, suc, Bool, true, false, cond, eqb, List, [], ◌∷◌, ◌++◌, length, map, take, drop, Some, None, Option, is_some, refl, sym, ap, ◌∙◌, position, arith, inl, inr, add-zero, zero-add, append-nil}
use Rattle.std.specs.Option.{option_map, option_map_or, option_to_list}
use Rattle.std.specs.Str.{bytes_eq}
use Rattle.std.specs.List.{All, AllPairs, filter, find, flat_map, enumerate_from}
use Rattle.std.proofs.lemmas.Slice.Eq.{bytes_eq-Decides}
use Rattle.std.proofs.lemmas.Bool.{cases_Bool, and_parts}
use Rattle.std.proofs.lemmas.Bool.Decides.{nat_tests}
use Rattle.std.proofs.lemmas.Grind.{flat_map-append}
use Rattle.std.proofs.lemmas.List.{take_more, take-append-drop, length-take, map-append}
use Rattle.std.proofs.lemmas.List.Elements.{filter-append, All-head, All-tail, All-weaker}
use Rattle.common_lemmas.proofs.Options.{is_some-option_map}
use Rattle.common_lemmas.proofs.Tests.{fails_where_not_found, find_first}
use Rattle.common_lemmas.proofs.Pairs.{AllPairs-head, AllPairs-tail}
use Rattle.plain_tables.specs.Queries.{JoinedColumn, column_number, fits, fits_one, place_meant, column_meant}
use Rattle.plain_tables.specs.declared.numbers.Place.{Place}
use Rattle.plain_tables.specs.declared.schema.Column.{Column}
use Rattle.plain_tables.specs.declared.condition.ColName.{ColName}
use Rattle.plain_tables.proofs.Meant.{only}
use Rattle.mm_resolver.specs.declared.named_table.NamedTable.{NamedTable}
use Rattle.mm_resolver.specs.declared.names.NamedColumn.{NamedColumn}
use Rattle.mm_resolver.proofs.Lists.{none_found}
use Rattle.mm_resolver.specs.Naming.{in_table, place_in, source_columns, columns_of_all, placed, as_found}

-- ---- the only element of a list

two_or_more : (n : ℕ) → eqb (suc (suc n)) 1 ≡ false
two_or_more n = grind (arith, nat_tests)

none_only : {X : Type 0} (x y : X) (ys : List X) → only (x ∷ y ∷ ys) ≡ None
none_only x y ys = ap (λ b. cond b (Some x) None) (two_or_more (length ys))

find_only : {X : Type 0} (p : X → Bool) (xs : List X) → cond (eqb (length (filter p xs)) 1) (find p xs) None ≡ only (filter p xs)
find_only p xs = ap (λ o. cond (eqb (length (filter p xs)) 1) o None) (find_first p xs)

only-map : {X Y : Type 0} (f : X → Y) (xs : List X) → option_map f (only xs) ≡ only (map f xs)
only-map f [] = refl
only-map f (x ∷ []) = refl
only-map f (x ∷ y ∷ ys) = ap (option_map f) (none_only x y ys) ∙ sym (none_only (f x) (f y) (map f ys))

is_some-only : {X : Type 0} (xs : List X) → is_some (only xs) ≡ eqb (length xs) 1
is_some-only [] = refl
is_some-only (x ∷ []) = refl
is_some-only (x ∷ y ∷ ys) = ap is_some (none_only x y ys) ∙ sym (two_or_more (length ys))

pub only_of_one : {X : Type 0} (o : Option X) → only (option_to_list o) ≡ o
only_of_one None = refl
only_of_one (Some x) = refl

pub option_map-map : {X Y Z : Type 0} (g : Y → Z) (f : X → Y) (o : Option X) → option_map g (option_map f o) ≡ option_map (λ x. g (f x)) o
option_map-map g f None = refl
option_map-map g f (Some x) = refl

-- ---- what a name fits, and what it means

abbrev pub fitted : ColName → List JoinedColumn → List (Place × Column)
fitted name columns = map placed (filter (fits name) columns)

pub meant_only : (columns : List JoinedColumn) (name : ColName) → option_map placed (column_meant columns name) ≡ only (fitted name columns)
meant_only columns name = ap (option_map placed) (find_only (fits name) columns) ∙ only-map placed (filter (fits name) columns)

pub meant_one : (columns : List JoinedColumn) (name : ColName) (o : Option NamedColumn) → fitted name columns ≡ option_to_list (option_map as_found o)
    → option_map as_found o ≡ option_map placed (column_meant columns name)
meant_one columns name o h = sym (meant_only columns name ∙ ap only h ∙ only_of_one (option_map as_found o))

pub fits_one-is : (columns : List JoinedColumn) (name : ColName) → is_some (place_meant columns name) ≡ fits_one columns name
fits_one-is columns name =
    is_some-option_map (λ (j : JoinedColumn). j.place) (column_meant columns name)
    ∙ ap is_some (find_only (fits name) columns)
    ∙ is_some-only (filter (fits name) columns)

-- the place of a column that is found
pub place_found : (columns : List JoinedColumn) (name : ColName) (o : Option NamedColumn) → option_map as_found o ≡ option_map placed (column_meant columns name)
    → option_map (λ (n : NamedColumn). n.place) o ≡ place_meant columns name
place_found columns name o h =
    sym (option_map-map (λ (p : Place × Column). p.0) as_found o)
    ∙ ap (option_map (λ (p : Place × Column). p.0)) h
    ∙ option_map-map (λ (p : Place × Column). p.0) placed (column_meant columns name)

pub fitted-append : (name : ColName) (columns others : List JoinedColumn) → fitted name (columns ++ others) ≡ fitted name columns ++ fitted name others
fitted-append name columns others =
    ap (map placed) (filter-append (fits name) columns others) ∙ map-append placed (filter (fits name) columns) (filter (fits name) others)

-- ---- one table

abbrev pub AreApart : List Column → Type 0
AreApart columns = AllPairs (λ c d. c.name ≢ d.name) columns

module _ (source : ℕ) (table : List ℕ) (name : ColName) where
  abbrev fitting : Column → Bool
  fitting c = fits name (in_table table c)

  -- the columns, numbered from this one on
  abbrev numbered : ℕ → List Column → List JoinedColumn
  numbered k columns = map (λ c. record { table = table; place = place_in source (column_number c.0); column = c.1 }) (enumerate_from k columns)

  -- a name that fits a column fits none of another name
  fits_apart : (c d : Column) → fitting c ≡ true → c.name ≢ d.name → fitting d ≡ false
  fits_apart c d h apart = elim (cases_Bool (fitting d)) [
    | inl both ↦
        let own = option_map_or (λ t. bytes_eq t table) name.table true in
        let first = (bytes_eq-Decides name.column c.name).0 (and_parts (bytes_eq name.column c.name) own h).0 in
        let second = (bytes_eq-Decides name.column d.name).0 (and_parts (bytes_eq name.column d.name) own both).0 in
        absurd (apart (sym first ∙ second))
    | inr other ↦ other
  ]

  pub fitted_none : (k : ℕ) (columns : List Column) → All (λ c. fitting c ≡ false) columns → fitted name (numbered k columns) ≡ []
  fitted_none k [] h = refl
  fitted_none k (c ∷ cs) h =
      rw (All-head (λ d. fitting d ≡ false) c cs h) (fitted_none (k + 1) cs (All-tail (λ d. fitting d ≡ false) c cs h))

  -- where the columns are apart, a name that fits one of them fits no other
  pub fitted_one : (k i : ℕ) (columns : List Column) (d : Column) → AreApart columns → i < length columns → fitting (get_or columns i d) ≡ true
      → fitted name (numbered k columns) ≡ (place_in source (column_number (k + i)), get_or columns i d) ∷ []
  fitted_one k i [] d apart within h = absurd (omega arith)
  fitted_one k zero (c ∷ cs) d apart within h =
      rw (h, add-zero k)
      (ap (λ others. (place_in source (column_number k), c) ∷ others)
      (fitted_none (k + 1) cs (All-weaker (λ o. c.name ≢ o.name) (λ o. fitting o ≡ false) (λ o. fits_apart c o h) cs (AllPairs-head (λ p r. p.name ≢ r.name) c cs apart))))
  fitted_one k (suc i) (c ∷ cs) d apart within h =
      let differ : (get_or cs i d).name ≢ c.name = λ e. AllPairs-head (λ p r. p.name ≢ r.name) c cs apart i d (omega arith) (sym e) in
      let other = fits_apart (get_or cs i d) c h differ in
      let more : (k + 1) + i ≡ k + suc i = omega arith in
      rw other
      (fitted_one (k + 1) i cs d (AllPairs-tail (λ p r. p.name ≢ r.name) c cs apart) (omega arith) h
      ∙ ap (λ n. (place_in source (column_number n), get_or cs i d) ∷ []) more)

-- where none has a place none passes
pub position_none : {X : Type 0} (p : X → Bool) (xs : List X) → position p xs ≡ None → All (λ x. p x ≡ false) xs
position_none p xs h = fails_where_not_found p xs (ap is_some (none_found p xs h))

-- ---- several tables

enumerate_from-append : {X : Type 0} (k : ℕ) (xs ys : List X) → enumerate_from k (xs ++ ys) ≡ enumerate_from k xs ++ enumerate_from (k + length xs) ys
enumerate_from-append k [] ys = ap (λ n. enumerate_from n ys) (sym (add-zero k))
enumerate_from-append k (x ∷ xs) ys =
    let more : (k + 1) + length xs ≡ k + suc (length xs) = omega arith in
    ap (λ rest. (k, x) ∷ rest) (enumerate_from-append (k + 1) xs ys ∙ ap (λ n. enumerate_from (k + 1) xs ++ enumerate_from n ys) more)

columns-append : (named_tables others : List NamedTable)
    → columns_of_all (named_tables ++ others) ≡ columns_of_all named_tables ++ flat_map source_columns (enumerate_from (length named_tables) others)
columns-append named_tables others =
    ap (flat_map source_columns) (enumerate_from-append 0 named_tables others ∙ ap (λ n. enumerate_from 0 named_tables ++ enumerate_from n others) (zero-add (length named_tables)))
    ∙ flat_map-append source_columns (enumerate_from 0 named_tables) (enumerate_from (length named_tables) others)

-- one table more
pub columns-push : (named_tables : List NamedTable) (named_table : NamedTable) → columns_of_all (named_tables ++ named_table ∷ []) ≡ columns_of_all named_tables ++ source_columns (length named_tables, named_table)
columns-push named_tables named_table =
    columns-append named_tables (named_table ∷ []) ∙ ap (λ cs. columns_of_all named_tables ++ cs) (append-nil (source_columns (length named_tables, named_table)))

module _ (name : ColName) (named_tables : List NamedTable) (i : ℕ) where
  pub fitted_more : (d : NamedTable) → i < length named_tables
      → fitted name (columns_of_all (take (i + 1) named_tables)) ≡ fitted name (columns_of_all (take i named_tables)) ++ fitted name (source_columns (i, get_or named_tables i d))
  fitted_more d within =
      let many : length (take i named_tables) ≡ i = omega (arith, length-take i named_tables) in
      ap (λ (ss : List NamedTable). fitted name (columns_of_all ss)) (take_more named_tables i d within)
      ∙ ap (fitted name) (columns-push (take i named_tables) (get_or named_tables i d))
      ∙ fitted-append name (columns_of_all (take i named_tables)) (source_columns (length (take i named_tables), get_or named_tables i d))
      ∙ ap (λ n. fitted name (columns_of_all (take i named_tables)) ++ fitted name (source_columns (n, get_or named_tables i d))) many

  abbrev behind : List JoinedColumn
  behind = flat_map source_columns (enumerate_from (length (take i named_tables)) (drop i named_tables))

  pub fitted_rest : fitted name (columns_of_all named_tables) ≡ fitted name (columns_of_all (take i named_tables)) ++ fitted name behind
  fitted_rest =
      ap (λ (ss : List NamedTable). fitted name (columns_of_all ss)) (sym (take-append-drop i named_tables))
      ∙ ap (fitted name) (columns-append (take i named_tables) (drop i named_tables))
      ∙ fitted-append name (columns_of_all (take i named_tables)) behind

  -- what was found before one table, and in it
  pub found_more : (named_table : NamedTable) → named_table ≡ get_or named_tables i named_table → i < length named_tables → (before own : Option NamedColumn)
      → fitted name (columns_of_all (take i named_tables)) ≡ option_to_list (option_map as_found before)
      → fitted name (source_columns (i, named_table)) ≡ option_to_list (option_map as_found own)
      → fitted name (columns_of_all (take (i + 1) named_tables)) ≡ option_to_list (option_map as_found before) ++ option_to_list (option_map as_found own)
  found_more named_table at within before own found here =
      fitted_more named_table within
      ∙ ap (λ (s : NamedTable). fitted name (columns_of_all (take i named_tables)) ++ fitted name (source_columns (i, s))) (sym at)
      ∙ ap (λ xs. xs ++ fitted name (source_columns (i, named_table))) found
      ∙ ap (λ ys. option_to_list (option_map as_found before) ++ ys) here

-- a name that fits two columns means none
none_of_two : (before own : Option NamedColumn) (others : List (Place × Column)) → is_some before ≡ true → is_some own ≡ true
    → only ((option_to_list (option_map as_found before) ++ option_to_list (option_map as_found own)) ++ others) ≡ None
none_of_two None own others h k = cc
none_of_two (Some x) None others h k = cc
none_of_two (Some x) (Some y) others h k = none_only (as_found x) (as_found y) others

pub found_twice : (name : ColName) (named_tables : List NamedTable) (i : ℕ) (before own : Option NamedColumn)
    → fitted name (columns_of_all (take (i + 1) named_tables)) ≡ option_to_list (option_map as_found before) ++ option_to_list (option_map as_found own)
    → is_some before ≡ true → is_some own ≡ true → option_map placed (column_meant (columns_of_all named_tables) name) ≡ None
found_twice name named_tables i before own more h k =
    meant_only (columns_of_all named_tables) name
    ∙ ap only (fitted_rest name named_tables (i + 1) ∙ ap (λ xs. xs ++ fitted name (behind name named_tables (i + 1))) more)
    ∙ none_of_two before own (fitted name (behind name named_tables (i + 1))) h k

pub none_before : (before own : Option NamedColumn) → is_some before ≡ false
    → option_to_list (option_map as_found before) ++ option_to_list (option_map as_found own) ≡ option_to_list (option_map as_found own)
none_before None own h = refl
none_before (Some x) own h = cc

pub as_before : (before own : Option NamedColumn) → own ≡ None
    → option_to_list (option_map as_found before) ++ option_to_list (option_map as_found own) ≡ option_to_list (option_map as_found before)
as_before before own h =
    ap (λ o. option_to_list (option_map as_found before) ++ option_to_list (option_map as_found o)) h ∙ append-nil (option_to_list (option_map as_found before))
