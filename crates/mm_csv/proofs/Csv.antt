-- Lemmas on what the crate csv writes: it is what the definitions of CSV say.
use Rattle.std.proofs.Common.{◌∙◌, Option, Some, sym, ap, append-nil, ◌≡◌, ◌++◌, ◌∷◌, [], ℕ, List, Bool, true, false, length, refl, arith, suc}
use Rattle.std.specs.Prelude.{◌==◌, ◌||◌, ◌&&◌, ◌<◌, if◌then◌else◌}
use Rattle.std.proofs.lemmas.Bool.{ne_eqb}
use Rattle.std.specs.List.{flat_map}
use Rattle.std.specs.Io.KnownBytes.{Appends, Keeps, append_known}
use Rattle.std.proofs.KnownBytes.{Appends-kept}
use Rattle.csv.specs.Writing as Csv
use Rattle.csv.specs.declared.writer.WriterBuilder.{WriterBuilder}
use Rattle.plain_tables.specs.Csv.{calls_for_quotes, doubled, field_text, joined, needs_quotes, record_text}

-- ---- the two texts of a record

-- the settings of the crate, for records of any lengths or of one
abbrev pub set : Bool → WriterBuilder
set flexible = Csv.with_flexible Csv.default_writer flexible

any-of-five : (p q r s : Bool) → (p || q || (r || s) || (false && false) || false) ≡ (p || q || r || s)
any-of-five true q r s = refl
any-of-five false true r s = refl
any-of-five false false true s = refl
any-of-five false false false true = refl
any-of-five false false false false = refl

calls-same : (w : Bool) (b : ℕ) → Csv.needs_byte (set w) b ≡ calls_for_quotes b
calls-same w b = any-of-five (b == 44) (b == 34) (b == 13) (b == 10)

pub needs-same : (w : Bool) (field : List ℕ) → Csv.needs_quotes (set w) field ≡ needs_quotes field
needs-same w [] = refl
needs-same w (b ∷ field) = rw (calls-same w b, needs-same w field) refl

double-first : (c : Bool) (b : ℕ) (xs : List ℕ) → (if c then 34 ∷ b ∷ xs else b ∷ xs) ≡ (if c then 34 ∷ b ∷ [] else b ∷ []) ++ xs
double-first true b xs = refl
double-first false b xs = refl

doubled-same : (w : Bool) (field : List ℕ) → Csv.escaped (set w) field ≡ flat_map doubled field
unfolding Csv.escaped
doubled-same w [] = refl
doubled-same w (b ∷ field) = rw (doubled-same w field) (double-first (b == 34) b (flat_map doubled field))

field-same : (w : Bool) (field : List ℕ) → Csv.field_text (set w) field ≡ field_text field
field-same w field = rw (needs-same w field, doubled-same w field) refl

fields-same : (w : Bool) (fields : List (List ℕ)) → Csv.fields_text (set w) fields ≡ flat_map (λ f. 44 ∷ field_text f) fields
unfolding Csv.fields_text
fields-same w [] = refl
fields-same w (field ∷ fields) = rw (field-same w field, fields-same w fields) refl

body-same : (w : Bool) (fields : List (List ℕ)) → Csv.row_body (set w) fields ≡ joined fields
body-same w [] = refl
body-same w (field ∷ fields) = rw (field-same w field, fields-same w fields) refl

choice-shows : (c : Bool) (b : ℕ) (xs ys : List ℕ) → (length (if c then 34 ∷ xs else b ∷ ys) == 0) ≡ false
choice-shows true b xs ys = ne_eqb (suc (length xs)) 0 (λ e. cc e)
choice-shows false b xs ys = ne_eqb (suc (length ys)) 0 (λ e. cc e)

-- a record that shows a byte
shown : (blank : Bool) (body text : List ℕ) → blank ≡ false → body ≡ text
    → body ++ ((if blank then 34 ∷ 34 ∷ [] else []) ++ 10 ∷ []) ≡ text ++ 10 ∷ []
shown blank body text e p = rw (e, p) refl

-- What csv writes of a record is the record.
pub record-same : (w : Bool) (fields : List (List ℕ)) → 0 < length fields → Csv.row_text (set w) fields ≡ record_text fields
unfolding Csv.is_blank Csv.fields_text
record-same w [] some = absurd (omega arith)
record-same w ([] ∷ []) some = refl
record-same w ((b ∷ field) ∷ []) some =
    shown _ _ _ (choice-shows (Csv.needs_quotes (set w) (b ∷ field)) b (Csv.escaped (set w) (b ∷ field) ++ 34 ∷ []) field) (body-same w ((b ∷ field) ∷ []))
record-same w ([] ∷ other ∷ fields) some = shown false _ _ refl (body-same w ([] ∷ other ∷ fields))
record-same w ((b ∷ field) ∷ other ∷ fields) some = shown false _ _ refl (body-same w ((b ∷ field) ∷ other ∷ fields))

-- ---- a writer that is used again

-- What was put behind the bytes of a vector, with nothing before it and nothing behind it that is not yet written, stands there.
pub text-added : (old new before behind : List ℕ) (put : Option (List ℕ)) (text : List ℕ) → before ≡ [] → behind ≡ []
    → Appends (append_known (Some old) before) put text → Keeps put (append_known (Some new) behind) → new ≡ old ++ text
text-added old new before behind put text first last grown kept =
    let whole : new ++ behind ≡ (old ++ before) ++ text = Appends-kept (Some (old ++ before)) put (Some (new ++ behind)) text grown kept in
    sym (append-nil new) ∙ ap (λ p. new ++ p) (sym last) ∙ whole ∙ ap (λ p. (old ++ p) ++ text) first ∙ ap (λ t. t ++ text) (append-nil old)
