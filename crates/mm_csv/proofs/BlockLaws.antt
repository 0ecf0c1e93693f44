-- Lemmas on blocks: what is written is read again.
use Rattle.std.proofs.Common.{◌≡◌, ◌∙◌, ◌<◌, ◌++◌, ◌∷◌, [], ◌⊎◌, ℕ, List, Bool, true, false, Option, Some, None, refl, sym, ap, length, map, arith, suc, inl, inr}
use Rattle.std.specs.Prelude.{ℤ, pos, negsuc, neg_ℤ, FitsSigned, IsTrue, MatchOption, ◌==◌, ◌&&◌, nat_le, not}
use Rattle.std.specs.Char.{digit_value}
use Rattle.std.specs.Fmt.{decimal, signed_decimal}
use Rattle.std.specs.Int.{w64}
use Rattle.std.specs.List.{All, flat_map, list_all}
use Rattle.std.specs.Str.Parse.{IsNumeral, digits_value, starts_with_minus}
use Rattle.std.proofs.lemmas.Bool.{and_parts, cases_Bool, eq-eqb, eqb-true, ne_eqb}
use Rattle.std.proofs.lemmas.Fmt.{decimal_is_IsNumeral}
use Rattle.std.proofs.lemmas.List.{length-map}
use Rattle.std.proofs.lemmas.Slice.Zip.{AllZip-long}
use Rattle.std.proofs.lemmas.Str.{is_utf8-from_IsUtf8}
use Rattle.std.proofs.lemmas.List.Elements.{All-head, All-tail}
use Rattle.plain_tables.proofs.Blocks.{fits_64_bits}
use Rattle.common_lemmas.proofs.Tests.{and_false}
use Rattle.plain_tables.proofs.Canonical.{integer-text}
use Rattle.csv.specs.Machine.{next_record}
use Rattle.csv.specs.Reading.{default_config, records_from}
use Rattle.csv.specs.declared.parser.State.TheVariants as st
use Rattle.csv.proofs.RoundTrip.{read-write}
use Rattle.plain_tables.specs.Csv.{block_text, field_text, record_text, row_record, value_field}
use Rattle.plain_tables.specs.CsvReading.{BlockColumn, Fits, FitsRow, all_of, begins_with_mark, digits_of, field_value, has_64_bits, integer_of, is_numeral, number_of, records_reading, row_of}
use Rattle.plain_tables.specs.Names.{IsName, is_letter, is_reserved, is_word, is_word_character}
use Rattle.plain_tables.specs.Spelling.{IsInteger}
use Rattle.plain_tables.specs.Tables.{Row}
use Rattle.plain_tables.specs.declared.value.Value.{Value}
use Rattle.plain_tables.specs.declared.value.Value.TheVariants as value
use Rattle.mm_csv.proofs.Csv.{record-same}
use Rattle.mm_csv.proofs.FieldParts.{SaysInteger, integer-there, numeral-is}
use Rattle.mm_csv.proofs.PlainFields.{name-plain}
use Rattle.mm_csv.proofs.Readers.{one-record}
use Rattle.mm_csv.proofs.Reading.{cells, same-texts}
use Rattle.mm_csv.specs.BlockReading.{block_reading, records_behind}
use Rattle.mm_csv.specs.BlockLaws.{BlocksReadBack, FieldsSpellIntegers}

-- ---- integers

-- no digit is a minus
digits-plain : (ds : List ℕ) → IsNumeral 10 ds → starts_with_minus ds ≡ false
digits-plain [] numeral = refl
digits-plain (c ∷ cs) numeral = ne_eqb c 45 (λ e. let small : digit_value 45 < 10 = rw e at numeral.1.0 in omega (arith, small))

pub spelled-integer : (field : List ℕ) (z : ℤ) → IsInteger field z → integer_of field ≡ Some z
spelled-integer field z (fits, (digits, numeral, inl (e, value))) =
    let plain = digits-plain digits numeral in
    let says : SaysInteger digits = rw plain (numeral, rw value at fits) in
    rw (e, value) (integer-there digits says ∙ rw plain refl)
spelled-integer field z (fits, (digits, numeral, inr (e, value))) =
    rw (e, value) (integer-there (45 ∷ digits) (numeral, rw value at fits))

-- a number begins with a minus or not
sign : (field : List ℕ) → ((field ≡ digits_of field) × (number_of field ≡ pos (digits_value 10 (digits_of field))))
    ⊎ ((field ≡ 45 ∷ digits_of field) × (number_of field ≡ neg_ℤ (pos (digits_value 10 (digits_of field)))))
sign [] = inl (refl, refl)
sign (c ∷ cs) = elim (cases_Bool (c == 45)) [
  | inl minus ↦ inr (rw (minus, eqb-true c 45 minus) refl, rw minus refl)
  | inr plain ↦ inl (rw plain refl, rw plain refl)
]

integer-spelled : (field : List ℕ) (z : ℤ) → integer_of field ≡ Some z → IsInteger field z
integer-spelled field z is = by (is_numeral (digits_of field) && has_64_bits (number_of field)) refl
  where
    by : (b : Bool) → (is_numeral (digits_of field) && has_64_bits (number_of field)) ≡ b → IsInteger field z
    by false never = cc (rw never at is)
    by true says =
        let (numeral, fits) = and_parts (is_numeral (digits_of field)) (has_64_bits (number_of field)) says in
        let some : Some (number_of field) ≡ Some z = rw says at is in
        let whole : number_of field ≡ z = cc in
        rw (← whole) (fits_64_bits (number_of field) fits, (digits_of field, numeral-is (digits_of field) numeral, sign field))

-- The integer that is spelled, or none where none is, is that of the field.
pub integer-is : (field : List ℕ) (o : Option ℤ) → MatchOption o ((z : ℤ) → IsInteger field z → ⊥) (λ z. IsInteger field z) → o ≡ integer_of field
integer-is field (Some z) spells = sym (spelled-integer field z spells)
integer-is field None never = by (integer_of field) refl
  where
    by : (o : Option ℤ) → integer_of field ≡ o → None ≡ integer_of field
    by None is = sym is
    by (Some z) is = absurd (never z (integer-spelled field z is))

pub fields-spell : FieldsSpellIntegers
fields-spell = λ field z. (integer-spelled field z, spelled-integer field z)

-- ---- values

shown-integer : (z : ℤ) → FitsSigned w64 z → (length (signed_decimal z) == 0) ≡ false
shown-integer (pos n) fits = ne_eqb (length (decimal n)) 0 (λ e. omega (arith, e, (decimal_is_IsNumeral n (omega (arith, fits))).0.0))
shown-integer (negsuc n) fits = ne_eqb (suc (length (decimal (suc n)))) 0 (λ e. cc e)

-- a text that isn't read as null
shown-text : (null : Bool) (text : List ℕ) → (IsTrue null → 0 < length text) → (null && (length text == 0)) ≡ false
shown-text false text some = refl
shown-text true text some = ne_eqb (length text) 0 (λ e. omega (arith, e, some refl))

value-back : (column : BlockColumn) (v : Value) → Fits column v → field_value column (value_field v) ≡ Some v
value-back column value.Null null = rw null refl
value-back column (value.Int z) (kind, fits) =
    rw (kind, shown-integer z fits, and_false column.null, spelled-integer (signed_decimal z) z (integer-text z fits)) refl
value-back column (value.Text text) (kind, utf8, short, some) =
    rw (kind, shown-text column.null text some, is_utf8-from_IsUtf8 text utf8, short) refl

cells-back : (columns : List BlockColumn) (row : Row) → FitsRow columns row → all_of (cells columns (map value_field row)) ≡ Some row
cells-back [] [] fits = refl
cells-back [] (v ∷ row) fits = absurd fits
cells-back (column ∷ columns) [] fits = absurd fits
cells-back (column ∷ columns) (v ∷ row) (first, others) = rw (value-back column v first, cells-back columns row others) refl

row-back : (columns : List BlockColumn) (row : Row) → FitsRow columns row → row_of columns (map value_field row) ≡ Some row
row-back columns row fits =
    let many = eq-eqb (length (map value_field row)) (length columns) (omega (arith, length-map row value_field, AllZip-long Fits columns row fits)) in
    rw many (cells-back columns row fits)

rows-back : (columns : List BlockColumn) (rows : List Row) → All (FitsRow columns) rows → all_of (map (row_of columns) (map (map value_field) rows)) ≡ Some rows
rows-back columns [] fits = refl
rows-back columns (row ∷ rows) fits =
    rw (row-back columns row (All-head (FitsRow columns) row rows fits), rows-back columns rows (All-tail (FitsRow columns) row rows fits)) refl

-- ---- records

record-back : (fields : List (List ℕ)) (tail : List ℕ) → 0 < length fields
    → next_record default_config st.StartRecord [] [] (record_text fields ++ tail) ≡ Some (fields, st.StartRecord, tail)
record-back [] tail some = absurd (omega arith)
record-back (field ∷ fields) tail some = rw (← record-same false (field ∷ fields) some) (read-write (field ∷ fields) tail)

records-front : (fields : List (List ℕ)) (tail : List ℕ) → 0 < length fields
    → records_behind st.StartRecord (record_text fields ++ tail) ≡ fields ∷ records_behind st.StartRecord tail
records-front fields tail some = one-record st.StartRecord (record_text fields ++ tail) (fields, st.StartRecord, tail) refl (record-back fields tail some)

records-rows : (columns : List BlockColumn) (rows : List Row) → 0 < length columns → All (FitsRow columns) rows
    → records_behind st.StartRecord (flat_map row_record rows) ≡ map (map value_field) rows
unfolding records_from next_record
records-rows columns [] some fits = refl
records-rows columns (row ∷ rows) some fits =
    let size = AllZip-long Fits columns row (All-head (FitsRow columns) row rows fits) in
    records-front (map value_field row) (flat_map row_record rows) (omega (arith, some, size, length-map row value_field))
    ∙ ap (λ records. map value_field row ∷ records) (records-rows columns rows some (All-tail (FitsRow columns) row rows fits))

-- ---- the front of a block

-- a name begins with a letter, and so with no mark
letter-unmarked : (c : ℕ) (cs rest : List ℕ) → IsName (c ∷ cs) → begins_with_mark (c ∷ rest) ≡ false
letter-unmarked c cs rest named =
    let word = (and_parts (is_word (c ∷ cs)) (nat_le (length (c ∷ cs)) 32 && not (is_reserved (c ∷ cs))) named).0 in
    let letter = (and_parts (is_letter c) (list_all is_word_character cs) word).0 in
    let other = ne_eqb c 0xEF (λ e. let marked : is_letter 0xEF ≡ true = rw e at letter in cc marked) in
    rw other refl

-- so does a record of names
unmarked : (name : List ℕ) (names : List (List ℕ)) (tail : List ℕ) → IsName name → begins_with_mark (record_text (name ∷ names) ++ tail) ≡ false
unmarked [] names tail named = cc named
unmarked (c ∷ cs) [] tail named = rw (name-plain (c ∷ cs) named) (letter-unmarked c cs (((cs ++ []) ++ 10 ∷ []) ++ tail) named)
unmarked (c ∷ cs) (other ∷ names) tail named =
    rw (name-plain (c ∷ cs) named) (letter-unmarked c cs (((cs ++ flat_map (λ f. 44 ∷ field_text f) (other ∷ names)) ++ 10 ∷ []) ++ tail) named)

plain-block : (columns : List BlockColumn) (block : List ℕ) → begins_with_mark block ≡ false
    → block_reading columns block ≡ records_reading columns (records_behind st.StartRecord block)
plain-block columns block plain = rw (plain, plain) refl

pub blocks-back : BlocksReadBack
blocks-back [] rows some named fit = absurd (omega arith)
blocks-back (column ∷ columns) rows some named fit =
    let names = map (λ c. c.name) (column ∷ columns) in
    let plain = unmarked column.name (map (λ c. c.name) columns) (flat_map row_record rows) (All-head (λ c. IsName c.name) column columns named) in
    let behind = records-front names (flat_map row_record rows) (omega arith) ∙ ap (λ records. names ∷ records) (records-rows (column ∷ columns) rows some fit) in
    plain-block (column ∷ columns) (block_text names rows) plain ∙ rw (behind, same-texts names, rows-back (column ∷ columns) rows fit) refl
