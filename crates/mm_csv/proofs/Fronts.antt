-- Lemmas on what stands at the front of a text: the fields of a record without quotes, its row, and the rows of such records.
use Rattle.std.proofs.Common.{◌≡◌, ◌∙◌, ◌<◌, ◌++◌, [], ◌∷◌, ℕ, List, true, false, Some, Result, Ok, Err, refl, sym, ap, subst, append_assoc, append-nil, length, map, arith, suc}
use Rattle.std.specs.Prelude.{◌==◌, IfOk, IfErr}
use Rattle.std.proofs.lemmas.Bool.{eq-eqb, ne_eqb, or_parts}
use Rattle.std.proofs.lemmas.List.{length-append, map-append}
use Rattle.csv.specs.Machine.{next_record}
use Rattle.csv.specs.Reading.{default_config, records}
use Rattle.csv.specs.Writing as Csv
use Rattle.csv.specs.declared.parser.State.TheVariants as st
use Rattle.csv.proofs.RoundTrip as Trip
use Rattle.plain_tables.specs.Csv.{needs_quotes}
use Rattle.plain_tables.specs.CsvReading.{BlockColumn, Reading, Record, Rows, all_of, field_value, is_header, records_reading, rows_reading}
use Rattle.plain_tables.specs.Tables.{Row}
use Rattle.plain_tables.specs.declared.value.Value.{Value}
use Rattle.mm_csv.specs.BlockReading.{Tells, records_behind}
use Rattle.mm_csv.specs.FrontRecords.{AreRowsOf, BeginsWith, BeginsWithHeader, BeginsWithRow, BeginsWithRows, begins_blank}
use Rattle.mm_csv.specs.declared.csv_refusal.CsvRefusal.{CsvRefusal}
use Rattle.mm_csv.proofs.Csv.{needs-same}
use Rattle.mm_csv.proofs.Readers.{no-record, one-record, taken}
use Rattle.mm_csv.proofs.Reading.{all-push, cells, rows-more, same-texts}

-- ---- fields

as-it-is : (field : List ℕ) → needs_quotes field ≡ false → Csv.field_text Csv.default_writer field ≡ field
as-it-is field plain = rw (needs-same false field, plain) refl

-- a comma ends a field
field-ends : (fields : List (List ℕ)) (field left : List ℕ) → needs_quotes field ≡ false
    → next_record default_config st.StartField fields [] (field ++ 44 ∷ left) ≡ next_record default_config st.StartField (fields ++ field ∷ []) [] left
unfolding next_record
field-ends fields field left plain = rw (as-it-is field plain) at (Trip.field-run fields field 44 left refl) ∙ refl

-- a line feed ends a field, and the record with it
record-ends : (fields : List (List ℕ)) (field left : List ℕ) → needs_quotes field ≡ false
    → next_record default_config st.StartField fields [] (field ++ 10 ∷ left) ≡ Some (fields ++ field ∷ [], st.StartRecord, left)
unfolding next_record
record-ends fields field left plain = rw (as-it-is field plain) at (Trip.field-run fields field 10 left refl) ∙ refl

-- a record that begins with the first byte of a text
starts : (text : List ℕ) → begins_blank text ≡ false
    → next_record default_config st.StartRecord [] [] text ≡ next_record default_config st.StartField [] [] text
starts [] blank = cc blank
starts (b ∷ rest) blank = let (no_return, no_feed) = or_parts (b == 13) (b == 10) blank in Trip.record-same [] [] b rest no_return no_feed

-- ---- a record, field by field

-- These fields stand at the front of a text, each behind a comma but the first, and behind a comma this is left.
pub record HasFields (fields : List (List ℕ)) (text left : List ℕ) : Type 0 where
  pub reads : next_record default_config st.StartRecord [] [] text ≡ next_record default_config st.StartField fields [] left

pub no-fields : (text : List ℕ) → begins_blank text ≡ false → HasFields [] text text
no-fields text blank = record { reads = starts text blank }

pub one-field-more : (fields : List (List ℕ)) (text left field rest : List ℕ) → HasFields fields text left → needs_quotes field ≡ false
    → left ≡ field ++ 44 ∷ rest → HasFields (fields ++ field ∷ []) text rest
one-field-more fields text left field rest so_far plain is = record { reads = so_far.reads ∙ rw is (field-ends fields field rest plain) }

pub all-fields : (fields : List (List ℕ)) (text left field rest : List ℕ) → HasFields fields text left → needs_quotes field ≡ false
    → left ≡ field ++ 10 ∷ rest → BeginsWith text (fields ++ field ∷ []) rest
all-fields fields text left field rest so_far plain is = so_far.reads ∙ rw is (record-ends fields field rest plain)

-- ---- a row

cells-push : (columns : List BlockColumn) (fields : List (List ℕ)) (column : BlockColumn) (field : List ℕ) → length fields ≡ length columns
    → cells (columns ++ column ∷ []) (fields ++ field ∷ []) ≡ cells columns fields ++ field_value column field ∷ []
cells-push [] [] column field same = refl
cells-push [] (f ∷ fields) column field same = cc same
cells-push (c ∷ columns) [] column field same = cc same
cells-push (c ∷ columns) (f ∷ fields) column field same = ap (λ others. field_value c f ∷ others) (cells-push columns fields column field (omega (arith, same)))

-- The fields at the front of a text are these values in the columns.
pub record HasValues (columns : List BlockColumn) (text left : List ℕ) (values : Row) : Type 0 where
  pub fields : List (List ℕ)
  pub each : length fields ≡ length columns
  pub stand : HasFields fields text left
  pub are : all_of (cells columns fields) ≡ Some values

pub no-values : (text : List ℕ) → begins_blank text ≡ false → HasValues [] text text []
no-values text blank = record { fields = []; each = refl; stand = no-fields text blank; are = refl }

pub one-value-more : (columns : List BlockColumn) (column : BlockColumn) (text left field rest : List ℕ) (values : Row) (value : Value)
    → HasValues columns text left values → needs_quotes field ≡ false → left ≡ field ++ 44 ∷ rest → field_value column field ≡ Some value
    → HasValues (columns ++ column ∷ []) text rest (values ++ value ∷ [])
one-value-more columns column text left field rest values value so_far plain is fits = record {
  fields = so_far.fields ++ field ∷ [];
  each = simp length-append (omega (arith, so_far.each));
  stand = one-field-more so_far.fields text left field rest so_far.stand plain is;
  are = rw (cells-push columns so_far.fields column field so_far.each, fits) (all-push (cells columns so_far.fields) values value so_far.are);
}

pub all-values : (columns : List BlockColumn) (column : BlockColumn) (text left field rest : List ℕ) (values : Row) (value : Value)
    → HasValues columns text left values → needs_quotes field ≡ false → left ≡ field ++ 10 ∷ rest → field_value column field ≡ Some value
    → BeginsWithRow (columns ++ column ∷ []) text (values ++ value ∷ []) rest
all-values columns column text left field rest values value so_far plain is fits =
    let as_many : (length (so_far.fields ++ field ∷ []) == length (columns ++ column ∷ [])) ≡ true =
    eq-eqb _ _ (simp length-append (omega (arith, so_far.each))) in (
      so_far.fields ++ field ∷ [],
      all-fields so_far.fields text left field rest so_far.stand plain is,
      rw (as_many, cells-push columns so_far.fields column field so_far.each, fits) (all-push (cells columns so_far.fields) values value so_far.are),
    )

-- ---- a header

abbrev pub names_of : List BlockColumn → List (List ℕ)
names_of columns = map (λ c. c.name) columns

pub one-name-more : (columns : List BlockColumn) (column : BlockColumn) (text left rest : List ℕ) → HasFields (names_of columns) text left
    → needs_quotes column.name ≡ false → left ≡ column.name ++ 44 ∷ rest → HasFields (names_of (columns ++ column ∷ [])) text rest
one-name-more columns column text left rest so_far plain is =
    rw (map-append (λ c. c.name) columns (column ∷ [])) (one-field-more (names_of columns) text left column.name rest so_far plain is)

pub all-names : (columns : List BlockColumn) (column : BlockColumn) (text left rest : List ℕ) → HasFields (names_of columns) text left
    → needs_quotes column.name ≡ false → left ≡ column.name ++ 10 ∷ rest → BeginsWithHeader (columns ++ column ∷ []) text rest
all-names columns column text left rest so_far plain is =
    let whole : names_of (columns ++ column ∷ []) ≡ names_of columns ++ column.name ∷ [] = map-append (λ c. c.name) columns (column ∷ []) in
    (names_of columns ++ column.name ∷ [], all-fields (names_of columns) text left column.name rest so_far plain is, rw whole (same-texts (names_of columns ++ column.name ∷ [])))

-- ---- rows

-- what is left behind a record is shorter
pub shorter : (columns : List BlockColumn) (text left : List ℕ) (row : Row) → BeginsWithRow columns text row left → length left < length text
shorter columns text left row (fields, begins, is) = (taken st.StartRecord [] [] text (fields, st.StartRecord, left) begins).1

one-behind : (text left : List ℕ) (fields : Record) → BeginsWith text fields left → records_behind st.StartRecord text ≡ fields ∷ records_behind st.StartRecord left
one-behind text left fields begins = one-record st.StartRecord text (fields, st.StartRecord, left) refl begins

pub no-rows : (columns : List BlockColumn) (text : List ℕ) → BeginsWithRows columns text [] text
no-rows columns text = ([], refl, refl)

pub one-row-more : (columns : List BlockColumn) (text left rest : List ℕ) (rows : List Row) (row : Row) → BeginsWithRows columns text rows left
    → BeginsWithRow columns left row rest → BeginsWithRows columns text (rows ++ row ∷ []) rest
one-row-more columns text left rest rows row (done, behind, are) (fields, begins, is) = (
  done ++ fields ∷ [],
  behind ∙ rw (one-behind left rest fields begins) (sym (append_assoc done (fields ∷ []) (records_behind st.StartRecord rest))),
  rows-more columns done fields rows row are is,
)

-- ---- a block

-- A text is read as its header and rows, the first of them at its front.
pub read-behind : (columns : List BlockColumn) (text behind left : List ℕ) (rows : List Row) → BeginsWithHeader columns text behind
    → (begun : BeginsWithRows columns behind rows left)
    → records_reading columns (records default_config text) ≡ rows_reading columns (begun.0 ++ records default_config left)
read-behind columns text behind left rows (header, begins, is) (done, splits, are) =
    rw (one-behind text behind header begins, is, splits) refl

-- nothing is left
pub read-whole : (columns : List BlockColumn) (text behind left : List ℕ) (rows : List Row) → BeginsWithHeader columns text behind
    → BeginsWithRows columns behind rows left → (length left == 0) ≡ true → records_reading columns (records default_config text) ≡ Rows rows
unfolding next_record
read-whole columns text behind [] rows header begun empty =
    let none : records_behind st.StartRecord [] ≡ [] = no-record st.StartRecord [] refl in
    read-behind columns text behind [] rows header begun ∙ rw (none, append-nil begun.0, begun.2) refl
read-whole columns text behind (b ∷ left) rows header begun empty = cc (sym empty ∙ ne_eqb (suc (length left)) 0 (λ e. cc e))

-- a header, and the records behind it
pub read-header : (columns : List BlockColumn) (all left : List Record) (header : Record) → all ≡ header ∷ left → is_header columns header ≡ true
    → records_reading columns all ≡ rows_reading columns left
read-header columns all left header splits is = rw (splits, is) refl

-- What is read of the records behind others tells what is read of the whole.
pub ok-behind : {T E : Type 0} (items : T → List Row) (r : Result T E) (columns : List BlockColumn) (before left : List Record) (rows : List Row) (whole : Reading)
    → AreRowsOf columns before rows → whole ≡ rows_reading columns (before ++ left)
    → IfOk r (λ all. (done : List Record) → AreRowsOf columns done rows → rows_reading columns (done ++ left) ≡ Rows (items all))
    → IfOk r (λ all. whole ≡ Rows (items all))
ok-behind items (Ok all) columns before left rows whole are is told = is ∙ told before are
ok-behind items (Err e) columns before left rows whole are is told = tt

pub err-behind : {T : Type 0} (r : Result T CsvRefusal) (columns : List BlockColumn) (before left : List Record) (rows : List Row) (whole : Reading)
    → AreRowsOf columns before rows → whole ≡ rows_reading columns (before ++ left)
    → IfErr r (λ e. (done : List Record) → AreRowsOf columns done rows → Tells e (rows_reading columns (done ++ left)))
    → IfErr r (λ e. Tells e whole)
err-behind (Ok all) columns before left rows whole are is told = tt
err-behind (Err e) columns before left rows whole are is told = subst (Tells e) (sym is) (told before are)
