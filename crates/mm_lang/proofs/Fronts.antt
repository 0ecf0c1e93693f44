-- Fronts: what stands at the front of a line, symbol by symbol.
use Rattle.std.proofs.Common.{◌≡◌, ◌≢◌, ℕ, ◌≤◌, List, [], ◌∷◌, ◌++◌, length, Option, Some, None, true, false, refl, sym, ◌∙◌, ap, arith, subst}
use Rattle.std.specs.Prelude.{Bool, Result, Ok, Err}
use Rattle.std.specs.Result.{IsErrAnd}
use Rattle.std.specs.Str.{IsUtf8, IsAscii, bytes_eq}
use Rattle.std.proofs.lemmas.Bool.{and_parts}
use Rattle.std.proofs.lemmas.Slice.Eq.{bytes_eq-Decides}
use Rattle.std.proofs.lemmas.Str.{IsUtf8-from_ascii}
use Rattle.std.proofs.lemmas.Str.Ascii.{IsAscii-nil, IsAscii-cons}
use lib.Chars.{codes}
use Rattle.plain_tables.specs.Names.{IsName, is_name, is_word, is_word_character}
use Rattle.plain_tables.specs.Spelling.{Symbol, Name, Literal, Sign, Operator, operator_text, IsSymbol, value_symbols, kind_symbols, column_symbols, name_symbols}
use Rattle.plain_tables.specs.Reading.{lexeme, after_lexeme}
use Rattle.plain_tables.specs.declared.value.Value.{Value}
use Rattle.plain_tables.specs.declared.value.Value.TheVariants as value
use Rattle.plain_tables.specs.declared.condition.Op.{Op}
use Rattle.plain_tables.specs.declared.condition.Op.TheVariants as op
use Rattle.plain_tables.specs.declared.condition.ColName.{ColName}
use Rattle.plain_tables.proofs.Lexemes.{AllPass, IsRun, word-run, word-ascii, begins-ascii, symbol-run, integer-run, length-lexeme}
use Rattle.plain_tables.proofs.FirstWords.{different}
use Rattle.plain_tables.proofs.SingleItems.{whole_name}
use Rattle.mm_lang.specs.Parsing.{Reads, IsOfText, EndsItem, BeginsWith, BeginsWithNone, assigned_symbols, compared_symbols}
use Rattle.mm_lang.proofs.Utf8.{of_text-after, literal-utf8}

-- ---- comparisons

pub lexeme-is : (line xs ys zs : List ℕ) (r : Bool) → xs ≡ lexeme line → r ≡ true → r ≡ bytes_eq xs ys → ys ≡ zs → lexeme line ≡ zs
lexeme-is line xs ys zs r f h same g = sym f ∙ ((bytes_eq-Decides xs ys).0 (sym same ∙ h) ∙ g)

pub lexeme-is_not : (line xs ys zs : List ℕ) (r : Bool) → xs ≡ lexeme line → r ≡ false → r ≡ bytes_eq xs ys → ys ≡ zs → lexeme line ≢ zs
lexeme-is_not line xs ys zs r f h same g is = different xs ys (sym same ∙ h) (f ∙ (is ∙ sym g))

-- an error that a `?` passes on
pub passed-error : {T U E : Type 0} {r : Result T E} {d e : E} → IsErrAnd r (λ y. y ≡ d) → r ≡ Err e → ◌≡◌ {A = Result U E} (Err d) (Err e)
passed-error {r = Ok x} is same = elim is [ ]
passed-error {r = Err y} is same = cc

-- ---- names

run-ascii : (cs : List ℕ) → AllPass is_word_character cs → IsAscii cs
run-ascii [] all = IsAscii-nil
run-ascii (c ∷ cs) all = IsAscii-cons c cs (word-ascii c all.0) (run-ascii cs all.1)

run-is_ascii : (cs : List ℕ) → IsRun cs → IsAscii cs
run-is_ascii [] run = elim run [ ]
run-is_ascii (c ∷ cs) run = IsAscii-cons c cs (begins-ascii c run.1) (run-ascii cs run.2)

pub name-utf8 : (name : List ℕ) → is_name name ≡ true → IsUtf8 name
name-utf8 name h = IsUtf8-from_ascii name (run-is_ascii name (word-run name (and_parts (is_word name) _ h).0))

pub no-name : (line name : List ℕ) → (IsName (lexeme line) → ⊥) → IsSymbol (lexeme line) (Name name) → ⊥
no-name line name not is = not (subst IsName (sym is.0) is.1)

-- ---- symbols, one after another

pub reads-append : (line : List ℕ) (xs ys : List Symbol) (mid rest : List ℕ) → Reads line xs mid → Reads mid ys rest → Reads line (xs ++ ys) rest
reads-append line [] ys mid rest e reads = rw e reads
reads-append line (x ∷ xs) ys mid rest (is, first) reads = (is, reads-append (after_lexeme line) xs ys mid rest first reads)

pub reads-split : (line : List ℕ) (xs ys : List Symbol) (rest : List ℕ) → Reads line (xs ++ ys) rest
    → (mid : List ℕ) × Reads line xs mid × Reads mid ys rest
reads-split line [] ys rest reads = (line, refl, reads)
reads-split line (x ∷ xs) ys rest (is, reads) =
    let (mid, first, others) = reads-split (after_lexeme line) xs ys rest reads in
    (mid, (is, first), others)

pub reads-shorter : (line : List ℕ) (symbols : List Symbol) (rest : List ℕ) → Reads line symbols rest → length rest ≤ length line
reads-shorter line [] rest e = omega (arith, ap length e)
reads-shorter line (x ∷ xs) rest (is, reads) = omega (arith, length-lexeme line, reads-shorter (after_lexeme line) xs rest reads)

pub reads-of_text : (line : List ℕ) (symbols : List Symbol) (rest : List ℕ) → IsOfText line → Reads line symbols rest → IsOfText rest
reads-of_text line [] rest of e = rw e at of
reads-of_text line (x ∷ xs) rest of (is, reads) = reads-of_text (after_lexeme line) xs rest (of_text-after line of) reads

-- ---- words and signs that end an item, and others

pub not-word : (characters word other : List ℕ) → bytes_eq word other ≡ false → characters ≡ word → characters ≢ other
not-word characters word other test e f = different word other test (sym e ∙ f)

pub word-ends_item : (characters word : List ℕ) → bytes_eq word (codes ".") ≡ false → bytes_eq word (codes "null") ≡ false
    → characters ≡ word → EndsItem characters
word-ends_item characters word no_dot no_null e =
    (not-word characters word (codes ".") no_dot e, not-word characters word (codes "null") no_null e)

pub operator-ends_item : (o : Op) (characters : List ℕ) → characters ≡ operator_text o → EndsItem characters
operator-ends_item op.Eq characters e = word-ends_item characters (operator_text op.Eq) refl refl e
operator-ends_item other characters e = word-ends_item characters (operator_text other) refl refl e

-- ---- values

pub begins-value : (line rest : List ℕ) (v : Value) → IsSymbol (lexeme line) (Literal v) → rest ≡ after_lexeme line
    → BeginsWith value_symbols line v rest
begins-value line rest v is f = record {
  found = (is, sym f);
  only = λ y other reads free. sym reads.1 ∙ sym f;
}

pub begins-no_value : (line : List ℕ) → (IsOfText line → (v : Value) → IsSymbol (lexeme line) (Literal v) → ⊥)
    → BeginsWithNone value_symbols line
begins-no_value line not = record { none = λ of y other reads free. not of y reads.0 }

-- ---- columns

pub begins-no_column_kind : (line : List ℕ) → BeginsWithNone kind_symbols (after_lexeme line) → BeginsWithNone column_symbols line
begins-no_column_kind line not = record { none = λ of y other reads free. not.none (of_text-after line of) y.kind other reads.1 free }

-- ---- names of columns

pub no-first : (line : List ℕ) → (IsName (lexeme line) → ⊥) → (t : Option (List ℕ)) (c other : List ℕ) → Reads line (whole_name t c) other → ⊥
no-first line not None c other reads = no-name line c not reads.0
no-first line not (Some t) c other reads = no-name line t not reads.0

-- ---- columns that get something

pub begins-none_assigned : {V : Type 0} (symbols : V → List Symbol) (line : List ℕ) → BeginsWithNone symbols (after_lexeme (after_lexeme line))
    → BeginsWithNone (assigned_symbols symbols) line
begins-none_assigned symbols line not = record {
  none = λ of y other reads free.
      not.none (of_text-after (after_lexeme line) (of_text-after line of)) y.1 other reads.1.1 free;
}

-- ---- columns that are compared

abbrev compared : {V : Type 0} → (V → List Symbol) → Op → V → List Symbol
compared symbols o v = Sign (Operator o) ∷ symbols v

-- what stands behind the column
behind-column : {V : Type 0} (symbols : V → List Symbol) (line mid : List ℕ) (column : ColName) → BeginsWith name_symbols line column mid
    → (y : ColName) (o : Op) (v : V) (other : List ℕ) → Reads line (name_symbols y ++ compared symbols o v) other
    → Reads mid (compared symbols o v) other
behind-column symbols line mid column named y o v other reads =
    let (rest, first, behind) = reads-split line (name_symbols y) (compared symbols o v) other reads in
    subst (λ l. Reads l (compared symbols o v) other) (named.only y rest first (operator-ends_item o (lexeme rest) behind.0)) behind

pub begins-compared : {V : Type 0} (symbols : V → List Symbol) (line mid rest : List ℕ) (column : ColName) (o : Op) (v : V)
    → BeginsWith name_symbols line column mid → lexeme mid ≡ operator_text o → BeginsWith symbols (after_lexeme mid) v rest
    → BeginsWith (compared_symbols symbols) line (column, o, v) rest
begins-compared symbols line mid rest column o v named e value = record {
  found = reads-append line (name_symbols column) (compared symbols o v) mid rest named.found (e, value.found);
  only = λ y other reads free. value.only y.2 other (behind-column symbols line mid column named y.0 y.1 y.2 other reads).1 free;
}

pub begins-none_compared : {V : Type 0} (symbols : V → List Symbol) (line : List ℕ) → BeginsWithNone name_symbols line
    → BeginsWithNone (compared_symbols symbols) line
begins-none_compared symbols line not = record {
  none = λ of y other reads free.
      let (rest, first, behind) = reads-split line (name_symbols y.0) (compared symbols y.1 y.2) other reads in
      not.none of y.0 rest first (operator-ends_item y.1 (lexeme rest) behind.0);
}

pub begins-no_operator : {V : Type 0} (symbols : V → List Symbol) (line mid : List ℕ) (column : ColName) → BeginsWith name_symbols line column mid
    → ((o : Op) → lexeme mid ≢ operator_text o) → BeginsWithNone (compared_symbols symbols) line
begins-no_operator symbols line mid column named not = record {
  none = λ of y other reads free. not y.1 (behind-column symbols line mid column named y.0 y.1 y.2 other reads).0;
}

pub begins-nothing_compared : {V : Type 0} (symbols : V → List Symbol) (line mid : List ℕ) (column : ColName) → BeginsWith name_symbols line column mid
    → BeginsWithNone symbols (after_lexeme mid) → BeginsWithNone (compared_symbols symbols) line
begins-nothing_compared symbols line mid column named not = record {
  none = λ of y other reads free.
      not.none (of_text-after mid (reads-of_text line (name_symbols column) mid of named.found)) y.2 other
      (behind-column symbols line mid column named y.0 y.1 y.2 other reads).1 free;
}

-- ---- items of the same symbols

-- What a line begins with is another thing too, where both are spelled by the same symbols, and each of that sort is one of this.
pub begins-as : {X Y : Type 0} (symbols : X → List Symbol) (others : Y → List Symbol) (to : Y → X) → ((y : Y) → others y ≡ symbols (to y))
    → (line : List ℕ) (y : Y) (rest : List ℕ) → BeginsWith symbols line (to y) rest → BeginsWith others line y rest
begins-as symbols others to same line y rest begins = record {
  found = rw (same y) begins.found;
  only = λ z other reads free. begins.only (to z) other (rw (same z) at reads) free;
}

pub begins-none_as : {X Y : Type 0} (symbols : X → List Symbol) (others : Y → List Symbol) (to : Y → X) → ((y : Y) → others y ≡ symbols (to y))
    → (line : List ℕ) → BeginsWithNone symbols line → BeginsWithNone others line
begins-none_as symbols others to same line not = record {
  none = λ of z other reads free. not.none of (to z) other (rw (same z) at reads) free;
}

-- Where the characters of the first symbol spell no value, if they are UTF-8, it is none.
value-utf8 : (line : List ℕ) (v : Value) → IsOfText line → IsSymbol (lexeme line) (Literal v) → IsUtf8 (lexeme line)
value-utf8 line value.Null of is =
    IsUtf8-from_ascii (lexeme line) (run-is_ascii (lexeme line) (symbol-run (lexeme line) (Literal value.Null) tt tt is))
value-utf8 line (value.Int z) of is = IsUtf8-from_ascii (lexeme line) (run-is_ascii (lexeme line) (integer-run (lexeme line) z is))
value-utf8 line (value.Text text) of is = literal-utf8 line text of is

pub no-literal : (line characters : List ℕ) → characters ≡ lexeme line
    → (IsUtf8 characters → (v : Value) → IsSymbol characters (Literal v) → ⊥) → IsOfText line → (v : Value) → IsSymbol (lexeme line) (Literal v) → ⊥
no-literal line characters e not of v is = not (rw e (value-utf8 line v of is)) v (subst (λ w. IsSymbol w (Literal v)) (sym e) is)
