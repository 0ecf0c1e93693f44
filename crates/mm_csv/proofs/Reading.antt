-- Lemmas on records: rows and headers that are made of them field by field, and blocks record by record.
use Rattle.std.proofs.Common.{◌≡◌, ◌≢◌, ◌∙◌, ◌+◌, ◌<◌, ◌≤◌, ◌++◌, [], ◌∷◌, ℕ, List, Bool, true, false, Option, Some, None, refl, sym, ap, length, map, take, get_or, arith, zero, suc}
use Rattle.std.specs.Prelude.{◌==◌, is_some, not}
use Rattle.std.specs.List.{prefix_len, zip}
use Rattle.std.specs.Str.{bytes_eq}
use Rattle.std.specs.Cmp.Lexicographic.{same_text}
use Rattle.std.proofs.lemmas.Bool.{and_parts, eq-eqb}
use Rattle.std.proofs.lemmas.List.{get_or-map, length-map, map-append, take_all, take_more}
use Rattle.std.proofs.lemmas.Slice.Zip.{get_or-zip, length-zip}
use Rattle.std.proofs.lemmas.Cmp.{nat_list_eq_equiv}
use lib.Pointwise.{pointwise}
use Rattle.plain_tables.specs.CsvReading.{BlockColumn, BadRecord, all_of, field_value, is_header, row_of, rows_reading}
use Rattle.plain_tables.specs.Tables.{Row}
use Rattle.plain_tables.specs.declared.value.Value.{Value}
use Rattle.mm_csv.specs.BlockReading.{column_of, columns_of}
use Rattle.mm_csv.specs.declared.field.Field.{Field}

-- ---- values that are there, one more at a time

pub all-push : {X : Type 0} (xs : List (Option X)) (done : List X) (x : X) → all_of xs ≡ Some done → all_of (xs ++ Some x ∷ []) ≡ Some (done ++ x ∷ [])
all-push [] done x so_far = let none : done ≡ [] = cc in rw none refl
all-push (None ∷ xs) done x so_far = cc so_far
all-push {X = X} (Some y ∷ xs) done x so_far = by (all_of xs) refl (λ others. all-push xs others x)
  where
    by : (o : Option (List X)) → all_of xs ≡ o → ((others : List X) → all_of xs ≡ Some others → all_of (xs ++ Some x ∷ []) ≡ Some (others ++ x ∷ []))
        → all_of (Some y ∷ (xs ++ Some x ∷ [])) ≡ Some (done ++ x ∷ [])
    by None is more = cc (rw is at so_far)
    by (Some others) is more =
        let first : Some (y ∷ others) ≡ Some done = rw is at so_far in
        let whole : done ≡ y ∷ others = cc in
        rw (more others is, whole) refl

all-misses : {X : Type 0} (xs : List (Option X)) (i : ℕ) → i < length xs → get_or xs i None ≡ None → all_of xs ≡ None
all-misses [] i within none = absurd (omega arith)
all-misses (None ∷ xs) i within none = refl
all-misses (Some x ∷ xs) zero within none = cc none
all-misses (Some x ∷ xs) (suc i) within none = rw (all-misses xs i (omega arith) none) refl

-- ---- a row

-- what the fields of a record are in the columns
abbrev pub cells : List BlockColumn → List (List ℕ) → List (Option Value)
cells columns fields = map (λ pair. field_value pair.0 pair.1) (zip columns fields)

cells-length : (layout : List Field) (fields : List (List ℕ)) → length fields ≡ length layout → length (cells (columns_of layout) fields) ≡ length layout
cells-length layout fields same =
    length-map (zip (columns_of layout) fields) (λ pair. field_value pair.0 pair.1)
    ∙ length-zip (columns_of layout) fields ∙ rw (same, length-map layout column_of) (omega arith)

as-many : (layout : List Field) (fields : List (List ℕ)) → length fields ≡ length layout → (length fields == length (columns_of layout)) ≡ true
as-many layout fields same = eq-eqb (length fields) (length (columns_of layout)) (omega (arith, same, length-map layout column_of))

cell-at : (layout : List Field) (fields : List (List ℕ)) (i : ℕ) (d : Field) (e : Option Value) → length fields ≡ length layout → i < length layout
    → get_or (cells (columns_of layout) fields) i e ≡ field_value (column_of (get_or layout i d)) (get_or fields i [])
cell-at layout fields i d e same within =
    let size = length-map layout column_of in
    let pairs = length-zip (columns_of layout) fields in
    get_or-map (λ pair. field_value pair.0 pair.1) (zip (columns_of layout) fields) i (column_of d, []) e (omega (arith, pairs, size, same, within))
    ∙ rw (get_or-zip (columns_of layout) fields i (column_of d, []) (omega (arith, size, within)) (omega (arith, same, within)), get_or-map column_of layout i d (column_of d) within) refl

pub row-more : (layout : List Field) (fields : List (List ℕ)) (i : ℕ) (d : Field) (done : Row) (v : Value) → length fields ≡ length layout → i < length layout
    → all_of (take i (cells (columns_of layout) fields)) ≡ Some done → field_value (column_of (get_or layout i d)) (get_or fields i []) ≡ Some v
    → all_of (take (i + 1) (cells (columns_of layout) fields)) ≡ Some (done ++ v ∷ [])
row-more layout fields i d done v same within so_far is =
    let next = take_more (cells (columns_of layout) fields) i None (omega (arith, within, cells-length layout fields same)) in
    rw (next, cell-at layout fields i d None same within, is) (all-push (take i (cells (columns_of layout) fields)) done v so_far)

pub row-misses : (layout : List Field) (fields : List (List ℕ)) (i : ℕ) (d : Field) → length fields ≡ length layout → i < length layout
    → field_value (column_of (get_or layout i d)) (get_or fields i []) ≡ None → row_of (columns_of layout) fields ≡ None
row-misses layout fields i d same within none =
    rw (as-many layout fields same)
    (all-misses (cells (columns_of layout) fields) i (omega (arith, within, cells-length layout fields same)) (cell-at layout fields i d None same within ∙ none))

pub row-done : (layout : List Field) (fields : List (List ℕ)) (i : ℕ) (done : Row) → length fields ≡ length layout → length layout ≤ i
    → all_of (take i (cells (columns_of layout) fields)) ≡ Some done → row_of (columns_of layout) fields ≡ Some done
row-done layout fields i done same ended so_far =
    let values = cells (columns_of layout) fields in
    rw (as-many layout fields same, ← take_all i values (omega (arith, ended, cells-length layout fields same))) so_far

-- ---- a header

names-length : (layout : List Field) → length (map (λ c. c.name) (columns_of layout)) ≡ length layout
names-length layout = length-map (columns_of layout) (λ c. c.name) ∙ length-map layout column_of

name-at : (layout : List Field) (i : ℕ) (d : Field) (e : List ℕ) → i < length layout → get_or (map (λ c. c.name) (columns_of layout)) i e ≡ (get_or layout i d).name
name-at layout i d e within =
    get_or-map (λ c. c.name) (columns_of layout) i (column_of d) e (omega (arith, within, length-map layout column_of))
    ∙ ap (λ c. c.name) (get_or-map column_of layout i d (column_of d) within)

pub header-more : (layout : List Field) (fields : List (List ℕ)) (i : ℕ) (d : Field) → length fields ≡ length layout → i < length layout
    → take i fields ≡ take i (map (λ c. c.name) (columns_of layout)) → get_or fields i [] ≡ (get_or layout i d).name
    → take (i + 1) fields ≡ take (i + 1) (map (λ c. c.name) (columns_of layout))
header-more layout fields i d same within so_far is =
    let names = map (λ c. c.name) (columns_of layout) in
    rw (take_more fields i [] (omega (arith, within, same)), take_more names i [] (omega (arith, within, names-length layout)), so_far, is, name-at layout i d [] within) refl

texts-same : (a b : List (List ℕ)) → pointwise bytes_eq a b ≡ true → a ≡ b
texts-same [] [] same = refl
texts-same [] (y ∷ ys) same = cc same
texts-same (x ∷ xs) [] same = cc same
texts-same (x ∷ xs) (y ∷ ys) same =
    let (first, others) = and_parts (bytes_eq x y) (pointwise bytes_eq xs ys) same in
    rw (same_text x y (sym first), texts-same xs ys others) refl

pub same-texts : (a : List (List ℕ)) → pointwise bytes_eq a a ≡ true
same-texts [] = refl
same-texts (x ∷ xs) = rw (nat_list_eq_equiv.refl x, same-texts xs) refl

-- what a test of two texts told
pub text-same : (a b : List ℕ) → false ≡ not (bytes_eq a b) → a ≡ b
text-same a b told = by (bytes_eq a b) refl
  where
    by : (t : Bool) → bytes_eq a b ≡ t → a ≡ b
    by true is = same_text a b (sym is)
    by false is = cc (rw is at told)

pub text-differs : (a b : List ℕ) → true ≡ not (bytes_eq a b) → a ≢ b
text-differs a b told e = cc (rw (e, nat_list_eq_equiv.refl b) at told)

pub header-differs : (layout : List Field) (fields : List (List ℕ)) (i : ℕ) (d : Field) → i < length layout
    → get_or fields i [] ≢ (get_or layout i d).name → is_header (columns_of layout) fields ≡ false
header-differs layout fields i d within differs = by (is_header (columns_of layout) fields) refl
  where
    by : (b : Bool) → is_header (columns_of layout) fields ≡ b → is_header (columns_of layout) fields ≡ false
    by true is = absurd (differs (rw (texts-same fields _ is) (name-at layout i d [] within)))
    by false is = is

pub header-done : (layout : List Field) (fields : List (List ℕ)) (i : ℕ) → length fields ≡ length layout → length layout ≤ i
    → take i fields ≡ take i (map (λ c. c.name) (columns_of layout)) → is_header (columns_of layout) fields ≡ true
header-done layout fields i same ended so_far =
    let names = map (λ c. c.name) (columns_of layout) in
    let whole : fields ≡ names = sym (take_all i fields (omega (arith, same, ended))) ∙ so_far ∙ take_all i names (omega (arith, ended, names-length layout)) in
    rw whole (same-texts names)

-- ---- rows

pub rows-more : (columns : List BlockColumn) (done : List (List (List ℕ))) (fields : List (List ℕ)) (rows : List Row) (row : Row)
    → all_of (map (row_of columns) done) ≡ Some rows → row_of columns fields ≡ Some row → all_of (map (row_of columns) (done ++ fields ∷ [])) ≡ Some (rows ++ row ∷ [])
rows-more columns done fields rows row so_far is =
    rw (map-append (row_of columns) done (fields ∷ []), is) (all-push (map (row_of columns) done) rows row so_far)

-- a record that is no row, behind those that are
all-stops : {X Y : Type 0} (f : X → Option Y) (done : List X) (bad : X) (more : List X) (rows : List Y) → all_of (map f done) ≡ Some rows → f bad ≡ None
    → (all_of (map f (done ++ bad ∷ more)) ≡ None) × (prefix_len (λ x. is_some (f x)) (done ++ bad ∷ more) ≡ length rows)
all-stops f [] bad more rows so_far none = let empty : rows ≡ [] = cc in rw (none, empty) (refl, refl)
all-stops {Y = Y} f (x ∷ done) bad more rows so_far none = by (f x) refl (all_of (map f done)) refl (λ others. all-stops f done bad more others)
  where
    by : (o : Option Y) → f x ≡ o → (rest : Option (List Y)) → all_of (map f done) ≡ rest
        → ((others : List Y) → all_of (map f done) ≡ Some others → f bad ≡ None
        → (all_of (map f (done ++ bad ∷ more)) ≡ None) × (prefix_len (λ x. is_some (f x)) (done ++ bad ∷ more) ≡ length others))
        → (all_of (map f ((x ∷ done) ++ bad ∷ more)) ≡ None) × (prefix_len (λ x. is_some (f x)) ((x ∷ done) ++ bad ∷ more) ≡ length rows)
    by None is rest e next = cc (rw is at so_far)
    by (Some y) is None e next = cc (rw (is, e) at so_far)
    by (Some y) is (Some others) e next =
        let first : Some (y ∷ others) ≡ Some rows = rw (is, e) at so_far in
        let whole : rows ≡ y ∷ others = cc in
        let (stops, count) = next others e none in
        rw (is, whole, stops, count) (refl, omega arith)

pub rows-bad : (columns : List BlockColumn) (records done : List (List (List ℕ))) (fields : List (List ℕ)) (more : List (List (List ℕ))) (rows : List Row)
    → records ≡ done ++ fields ∷ more → all_of (map (row_of columns) done) ≡ Some rows → row_of columns fields ≡ None
    → rows_reading columns records ≡ BadRecord (length rows + 1)
rows-bad columns records done fields more rows whole so_far none =
    let (stops, count) = all-stops (row_of columns) done fields more rows so_far none in rw (whole, stops, count) refl
