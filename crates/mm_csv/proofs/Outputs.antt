-- Lemmas on records that are written field by field: what stands there in the end is what the definitions of CSV say.
use Rattle.std.proofs.Common.{◌≡◌, ◌∙◌, ◌++◌, ◌∷◌, [], ◌<◌, ◌^◌, ℕ, List, Bool, true, false, Option, refl, sym, ap, suc, length, subst, append-nil, append_assoc, arith}
use Rattle.std.specs.Prelude.{◌==◌, ◌||◌, ◌&&◌, ℤ, pos, negsuc, FitsSigned, if◌then◌else◌}
use Rattle.std.proofs.lemmas.Bool.{ne_eqb}
use Rattle.std.proofs.lemmas.Fmt.{decimal_nonempty}
use Rattle.std.proofs.lemmas.Grind.{flat_map-append}
use Rattle.std.proofs.lemmas.List.{length-append}
use Rattle.std.proofs.lemmas.List.Folds.{list_any-append}
use Rattle.std.proofs.KnownBytes.{Appends-trans}
use Rattle.std.specs.Fmt.{decimal, signed_decimal}
use Rattle.std.specs.Int.{w64}
use Rattle.std.specs.Io.KnownBytes.{Appends}
use Rattle.std.specs.List.{flat_map}
use Rattle.plain_tables.specs.Csv.{calls_for_quotes, field_text, needs_quotes, quoted, record_text}
use Rattle.mm_csv.specs.FullNames.{full_name_text}
use Rattle.mm_csv.specs.Records.{AddsField, comma, shown, shown_fields}
use Rattle.mm_csv.specs.declared.full_name.FullName.{FullName}
use Rattle.mm_csv.proofs.PlainFields.{decimal-plain, integer-plain}

-- ---- a field more

pub fields-more : (alone : Bool) (fields : List (List ℕ)) (field : List ℕ)
    → shown_fields alone (fields ++ field ∷ []) ≡ shown_fields alone fields ++ (comma (length fields) ++ shown alone field)
fields-more alone [] field = append-nil (shown alone field)
fields-more alone (first ∷ fields) field =
    let behind : List ℕ → List ℕ = λ f. 44 ∷ shown alone f in
    let last : comma (suc (length fields)) ++ shown alone field ≡ behind field = rw (ne_eqb (suc (length fields)) 0 (λ e. cc e)) refl in
    ap (λ t. shown alone first ++ t) (flat_map-append behind fields (field ∷ []) ∙ ap (λ t. flat_map behind fields ++ t) (append-nil (behind field) ∙ sym last))
    ∙ sym (append_assoc (shown alone first) (flat_map behind fields) (comma (suc (length fields)) ++ shown alone field))

pub field-added : (alone : Bool) (place : ℕ) (old behind new : Option (List ℕ)) (field text : List ℕ)
    → Appends old behind (comma place) → Appends behind new text → text ≡ shown alone field → AddsField alone place old new field
field-added alone place old behind new field text separated put is before fields here so-far =
    let whole : shown_fields alone (fields ++ field ∷ []) ≡ shown_fields alone fields ++ (comma place ++ text) =
    fields-more alone fields field ∙ ap (λ n. shown_fields alone fields ++ (comma n ++ shown alone field)) here
    ∙ ap (λ t. shown_fields alone fields ++ (comma place ++ t)) (sym is) in
    subst (Appends before new) (sym whole) (Appends-trans before old new _ _ so-far (Appends-trans old behind new _ _ separated put))

-- ---- fields without quotes and between them

some-bytes : (b : ℕ) (bytes : List ℕ) → (length (b ∷ bytes) == 0) ≡ false
some-bytes b bytes = ne_eqb (suc (length bytes)) 0 (λ e. cc e)

neither : (alone needs empty : Bool) → needs ≡ false → empty ≡ false → (needs || (alone && empty)) ≡ false
neither true needs empty n e = rw (n, e) refl
neither false needs empty n e = rw n refl

pub plain-shown : (alone : Bool) (field : List ℕ) → (needs_quotes field || (alone && (length field == 0))) ≡ false → field ≡ shown alone field
plain-shown alone field plain = rw plain refl

pub some-plain : (alone : Bool) (field : List ℕ) → needs_quotes field ≡ false → 0 < length field → field ≡ shown alone field
some-plain alone [] plain some = absurd (omega (arith, some))
some-plain alone (b ∷ field) plain some = plain-shown alone (b ∷ field) (neither alone (needs_quotes (b ∷ field)) _ plain (some-bytes b field))

signed-some : (z : ℤ) → FitsSigned w64 z → 0 < length (signed_decimal z)
signed-some (pos n) fits = decimal_nonempty n (omega (arith, fits))
signed-some (negsuc n) fits = omega arith

pub integer-shown : (alone : Bool) (z : ℤ) → FitsSigned w64 z → signed_decimal z ≡ shown alone (signed_decimal z)
integer-shown alone z fits = some-plain alone (signed_decimal z) (integer-plain z fits) (signed-some z fits)

pub large-shown : (alone : Bool) (n : ℕ) → n < 2 ^ 64 → decimal n ≡ shown alone (decimal n)
large-shown alone n fits = some-plain alone (decimal n) (decimal-plain n fits) (decimal_nonempty n fits)

-- ---- full names

pub name-needs : (name : FullName) → needs_quotes (full_name_text name) ≡ (needs_quotes name.table.now || needs_quotes name.column.now)
name-needs name = list_any-append calls_for_quotes name.table.now (46 ∷ name.column.now)

pub name-some : (name : FullName) → 0 < length (full_name_text name)
name-some name = omega (arith, length-append name.table.now (46 ∷ name.column.now))

-- ---- the end of a record

same-choice : (needs : Bool) (x y : List ℕ) → (if needs || false then x else y) ≡ (if needs then x else y)
same-choice true x y = refl
same-choice false x y = refl

shown-among : (field : List ℕ) → shown false field ≡ field_text field
shown-among field = same-choice (needs_quotes field) (quoted field) field

others-among : (fields : List (List ℕ)) → flat_map (λ f. 44 ∷ shown false f) fields ≡ flat_map (λ f. 44 ∷ field_text f) fields
others-among [] = refl
others-among (field ∷ fields) = rw (shown-among field, others-among fields) refl

shown-alone : (b : ℕ) (field : List ℕ) → shown true (b ∷ field) ≡ field_text (b ∷ field)
shown-alone b field = rw (some-bytes b field) (same-choice (needs_quotes (b ∷ field)) (quoted (b ∷ field)) (b ∷ field))

pub shown-record : (alone : Bool) (fields : List (List ℕ)) → 0 < length fields → alone ≡ (length fields == 1) → shown_fields alone fields ++ 10 ∷ [] ≡ record_text fields
shown-record alone [] some is = absurd (omega (arith, some))
shown-record true ([] ∷ []) some is = refl
shown-record true ((b ∷ field) ∷ []) some is = ap (λ t. (t ++ []) ++ 10 ∷ []) (shown-alone b field)
shown-record true (first ∷ second ∷ fields) some is = let no = is ∙ ne_eqb (suc (suc (length fields))) 1 (λ e. omega (arith, e)) in cc no
shown-record false (field ∷ []) some is = cc is
shown-record false ([] ∷ second ∷ fields) some is = ap (λ t. t ++ 10 ∷ []) (others-among (second ∷ fields))
shown-record false ((b ∷ first) ∷ second ∷ fields) some is =
    ap (λ t. t ++ 10 ∷ []) (ap (λ t. t ++ flat_map (λ f. 44 ∷ shown false f) (second ∷ fields)) (shown-among (b ∷ first)) ∙ ap (λ t. field_text (b ∷ first) ++ t) (others-among (second ∷ fields)))

pub record-ended : (alone : Bool) (before now after : Option (List ℕ)) (fields : List (List ℕ)) → 0 < length fields → alone ≡ (length fields == 1)
    → Appends before now (shown_fields alone fields) → Appends now after (10 ∷ []) → Appends before after (record_text fields)
record-ended alone before now after fields some is body end =
    subst (Appends before after) (shown-record alone fields some is) (Appends-trans before now after _ _ body end)

-- ---- the record of one field
