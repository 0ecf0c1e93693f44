-- Complete: a line that spells a statement is the statement's symbols, with a question mark for each hole. Two fillings tell: nulls,
-- and empty texts.
use Rattle.std.proofs.Common.{◌≡◌, ◌≢◌, ℕ, zero, suc, ◌+◌, List, [], ◌∷◌, ◌++◌, length, map, Bool, true, false, get_or, refl, sym, ap, ◌∙◌, subst, arith, append_assoc, length-append}
use Rattle.std.specs.List.{AllByRecursion, flat_map, range_with_len}
use Rattle.std.proofs.Math.Seq.{get_or-append_seam}
use lib.Chars.{codes}
use Rattle.plain_tables.specs.Spelling.{Symbol, Keyword, Name, Literal, Count, symbol_text, is_blank, IsSymbol, IsMadeOf, IsSpellableValue, Spells}
use Rattle.plain_tables.specs.Reading.{behind_blanks, begins_run, lexeme_length, lexeme, after_lexeme}
use Rattle.plain_tables.specs.declared.value.Value.{Value}
use Rattle.plain_tables.specs.declared.value.Value.TheVariants as value
use Rattle.plain_tables.proofs.FirstWords.{different}
use Rattle.plain_tables.proofs.Lexemes.{StopsBefore, IsRun, IsWellFormed, symbol-run, lexeme-front, lexeme-of_made, made-from_lexeme, blanks-no_lexeme}
use Rattle.plain_tables.proofs.LineFeeds.{contains-feed}
use Rattle.plain_tables.proofs.Separated.{all-append}
use Rattle.plain_tables.proofs.Texts.{one_more}
use Rattle.plain_statements.specs.declared.statement.Slot.{Slot}
use Rattle.plain_statements.specs.declared.statement.Slot.TheVariants.{Given, Hole}
use Rattle.plain_statements.specs.declared.statement.Statement.{Statement}
use Rattle.plain_statements.specs.Filling.{filled}
use Rattle.plain_statements.specs.StatementSpelling.{marks, written, numbers_of, slots_of, SpellsStatement}
use Rattle.mm_lang.specs.Parsing.{IsWhole}
use Rattle.mm_lang.specs.declared.parser.CommandWord.{CommandWord}
use Rattle.mm_lang.specs.Words.{letters}
use Rattle.mm_lang.specs.Statements.{slot_symbol, word_of, behind_by, IsStatement}
use Rattle.mm_lang.proofs.Filled.{literal, word-filled, symbols-filled, something-filled}
use Rattle.mm_lang.proofs.Parts.{Part, Plain, At, symbol_by, slots_in, IsWell, HasParts, statement-parts}
use Rattle.mm_lang.proofs.Sound.{cons-parts}
use Rattle.mm_lang.proofs.Spelled.{word-of}
use Rattle.mm_lang.proofs.Written.{FirstSymbol, IsMark, IsOther, KeepsLine, TakesNext, first-symbol, keeps-line}

-- ---- a blank in front

blank-lexeme : (line : List ℕ) → (lexeme (32 ∷ line) ≡ lexeme line) × (after_lexeme (32 ∷ line) ≡ after_lexeme line)
unfolding lexeme after_lexeme
blank-lexeme line =
    let text : behind_blanks (32 ∷ line) ≡ behind_blanks line = rw one_more refl in
    (rw text refl, rw text refl)

behind-blank : (line : List ℕ) (symbols : List Symbol) → AllByRecursion IsWellFormed symbols → IsMadeOf (32 ∷ line) symbols → IsMadeOf line symbols
behind-blank line [] well made = made.1
behind-blank line (x ∷ symbols) well made =
    let (is, others) = lexeme-of_made (32 ∷ line) x symbols well.0 made in
    let (here, behind) = blank-lexeme line in
    made-from_lexeme line x symbols well.0 (subst (λ l. IsSymbol l x) here is) (subst (λ l. IsMadeOf l symbols) behind others)

-- ---- two fillings

-- as many of a value
abbrev repeated : Value → ℕ → List Value
repeated v zero = []
repeated v (suc n) = v ∷ repeated v n

length-repeated : (v : Value) (n : ℕ) → length (repeated v n) ≡ n
length-repeated v zero = refl
length-repeated v (suc n) = ap suc (length-repeated v n)

all-repeated : (v : Value) → IsSpellableValue v → (n : ℕ) → AllByRecursion IsSpellableValue (repeated v n)
all-repeated v can zero = tt
all-repeated v can (suc n) = (can, all-repeated v can n)

-- the symbol of a slot with this value in each hole
abbrev each : Value → Slot → Symbol
each v (Given w) = Literal w
each v (Hole n) = Literal v

-- the two that tell: no symbol is the literal of both
abbrev telling : Bool → Value
telling true = value.Null
telling false = value.Text []

telling-spellable : (b : Bool) → IsSpellableValue (telling b)
telling-spellable true = tt
telling-spellable false = contains-feed [] tt

-- Values of which each that is left is this one put it into each hole.
each-hole : (v : Value) (values front : List Value) (n : ℕ) (parts : List Part) → values ≡ front ++ repeated v n
    → flat_map numbers_of (slots_in parts) ≡ range_with_len (length front) n
    → map (symbol_by (literal values)) parts ≡ map (symbol_by (each v)) parts
each-hole v values front n [] all numbers = refl
each-hole v values front n (Plain x ∷ parts) all numbers = ap (λ l. x ∷ l) (each-hole v values front n parts all numbers)
each-hole v values front n (At (Given w) ∷ parts) all numbers = ap (λ l. Literal w ∷ l) (each-hole v values front n parts all numbers)
each-hole v values front zero (At (Hole k) ∷ parts) all numbers = cc
each-hole v values front (suc n) (At (Hole k) ∷ parts) all numbers =
    let next = cons-parts k (length front) (flat_map numbers_of (slots_in parts)) (range_with_len (length front + 1) n) numbers in
    let long : length (front ++ v ∷ []) ≡ length front + 1 = omega (arith, length-append front (v ∷ [])) in
    let one : get_or values k value.Null ≡ v = rw (all, next.0) (get_or-append_seam front v (repeated v n) value.Null) in
    let others : map (symbol_by (literal values)) parts ≡ map (symbol_by (each v)) parts =
    each-hole v values (front ++ v ∷ []) n parts (all ∙ sym (append_assoc front (v ∷ []) (repeated v n)))
    (next.1 ∙ ap (λ i. range_with_len i n) (sym long)) in
    λ i. Literal (one i) ∷ others i

-- ---- a symbol is not the literal of both

run-no_text : IsRun (codes "''") → ⊥
run-no_text run = let both : begins_run 39 ≡ true = run.1 in cc

null-no_text : codes "null" ≢ codes "''"
null-no_text = different (codes "null") (codes "''") refl

symbol-one : (x : Symbol) → IsWellFormed x → IsSymbol (codes "null") x → IsSymbol (codes "''") x → ⊥
symbol-one (Name name) well null text = null-no_text (null.0 ∙ sym text.0)
symbol-one (Literal (value.Int z)) well null text = run-no_text (symbol-run (codes "''") (Literal (value.Int z)) tt tt text)
symbol-one (Literal (value.Text t)) well null text = cc
symbol-one (Count n) well null text = run-no_text (symbol-run (codes "''") (Count n) tt tt text)
symbol-one other well null text = null-no_text (null ∙ sym text)

-- ---- where a question mark stands

telling-apart : (b : Bool) (rest : List ℕ) → StopsBefore is_blank (symbol_text (Literal (telling b)) ++ 32 ∷ rest)
    × (lexeme_length (symbol_text (Literal (telling b)) ++ 32 ∷ rest) ≡ length (symbol_text (Literal (telling b))))
telling-apart true rest = (refl, refl)
telling-apart false rest = (refl, refl)

literal-lexeme : (b : Bool) (values : List Value) (line : List ℕ) → (takes : TakesNext line)
    → (lexeme (written (telling b ∷ values) line) ≡ symbol_text (Literal (telling b)))
    × (after_lexeme (written (telling b ∷ values) line) ≡ 32 ∷ written values (after_lexeme line))
literal-lexeme b values line takes =
    let text : List ℕ = symbol_text (Literal (telling b)) in
    let behind : List ℕ = 32 ∷ written values (after_lexeme line) in
    let whole : written (telling b ∷ values) line ≡ (takes.blanks ++ 32 ∷ []) ++ (text ++ behind) = rw (takes.fills (telling b) values) (simp append_assoc) in
    let (stops, long) = telling-apart b (written values (after_lexeme line)) in
    rw whole (lexeme-front (takes.blanks ++ 32 ∷ []) text behind (all-append _ takes.blanks (32 ∷ []) takes.are (refl, tt)) stops long)

-- ---- the line, from the written ones

part-well : (v : Value) (part : Part) → IsWell part → IsWellFormed (symbol_by (each v) part)
part-well v (Plain x) well = well
part-well v (At (Given w)) well = tt
part-well v (At (Hole n)) well = tt

parts-well : (v : Value) (parts : List Part) → AllByRecursion IsWell parts → AllByRecursion IsWellFormed (map (symbol_by (each v)) parts)
parts-well v [] well = tt
parts-well v (part ∷ parts) well = (part-well v part well.0, parts-well v parts well.1)

mark-part : (part : Part) → IsWell part → ((b : Bool) → IsSymbol (symbol_text (Literal (telling b))) (symbol_by (each (telling b)) part))
    → (line : List ℕ) → lexeme line ≡ codes "?" → IsSymbol (lexeme line) (symbol_by slot_symbol part)
mark-part (Plain x) well is line e = absurd (symbol-one x well (is true) (is false))
mark-part (At (Given w)) well is line e = absurd (symbol-one (Literal w) tt (is true) (is false))
mark-part (At (Hole n)) well is line e = e

other-part : (part : Part) (characters : List ℕ) → ((b : Bool) → IsSymbol characters (symbol_by (each (telling b)) part))
    → IsSymbol characters (symbol_by slot_symbol part)
other-part (Plain x) characters is = is true
other-part (At (Given w)) characters is = is true
other-part (At (Hole n)) characters is = absurd (null-no_text (sym (is true) ∙ is false))

-- The line is these parts, with one value, and with the other, in as many holes as are left.
abbrev IsTold : List ℕ → ℕ → List Part → Type 0
IsTold line n parts = (b : Bool) → IsMadeOf (written (repeated (telling b) n) line) (map (symbol_by (each (telling b))) parts)

first-back : (part : Part) (parts : List Part) → IsWell part → AllByRecursion IsWell parts → (line : List ℕ) (n : ℕ) → n ≡ marks line → FirstSymbol line
    → IsTold line n (part ∷ parts)
    → IsSymbol (lexeme line) (symbol_by slot_symbol part) × ((m : ℕ) × (m ≡ marks (after_lexeme line)) × IsTold (after_lexeme line) m parts)
first-back part parts well others line zero e (IsMark is takes) told = absurd (omega (arith, e, takes.holds))
first-back part parts well others line (suc n) e (IsMark is takes) told =
    (mark-part part well (λ b. (back b).0) line is, (n, omega (arith, e, takes.holds), λ b. (back b).1))
  where
    back : (b : Bool) → IsSymbol (symbol_text (Literal (telling b))) (symbol_by (each (telling b)) part)
        × IsMadeOf (written (repeated (telling b) n) (after_lexeme line)) (map (symbol_by (each (telling b))) parts)
    back b =
        let (first, behind) = lexeme-of_made _ _ _ (part-well (telling b) part well) (told b) in
        let (here, rest) = literal-lexeme b (repeated (telling b) n) line takes in
        (rw here at first, behind-blank _ _ (parts-well (telling b) parts others) (rw rest at behind))
first-back part parts well others line n e (IsOther not keeps) told =
    (other-part part (lexeme line) (λ b. (back b).0), (n, e ∙ (keeps-line [] line keeps).holds, λ b. (back b).1))
  where
    back : (b : Bool) → IsSymbol (lexeme line) (symbol_by (each (telling b)) part)
        × IsMadeOf (written (repeated (telling b) n) (after_lexeme line)) (map (symbol_by (each (telling b))) parts)
    back b =
        let (first, behind) = lexeme-of_made _ _ _ (part-well (telling b) part well) (told b) in
        let kept : KeepsLine (repeated (telling b) n) line = keeps-line (repeated (telling b) n) line keeps in
        (rw kept.same at first, rw kept.rest at behind)

end-back : (line : List ℕ) (n : ℕ) → n ≡ marks line → FirstSymbol line → IsTold line n [] → lexeme line ≡ []
end-back line zero e (IsMark is takes) told = absurd (omega (arith, e, takes.holds))
end-back line (suc n) e (IsMark is takes) told =
    absurd (different (codes "null") [] refl (sym (literal-lexeme true (repeated value.Null n) line takes).0 ∙ blanks-no_lexeme _ (told true)))
end-back line n e (IsOther not keeps) told = sym (keeps-line (repeated value.Null n) line keeps).same ∙ blanks-no_lexeme _ (told true)

whole-back : (parts : List Part) → AllByRecursion IsWell parts → (line : List ℕ) (n : ℕ) → n ≡ marks line → IsTold line n parts
    → IsWhole line (map (symbol_by slot_symbol) parts)
whole-back [] well line n e told = (line, refl, end-back line n e (first-symbol line) told)
whole-back (part ∷ parts) well line n e told =
    let (is, (m, f, behind)) = first-back part parts well.0 well.1 line n e (first-symbol line) told in
    let (rest, reads, end) = whole-back parts well.1 (after_lexeme line) m f behind in
    (rest, (is, reads), end)

-- ---- the whole line

-- Law: a line that spells a statement begins with its first word, and what follows completes the statement.
pub spelled-statement : (line : List ℕ) (s : Statement) → SpellsStatement line s
    → (lexeme line ≡ word_of s) × IsStatement (word_of s) (after_lexeme line) s
spelled-statement line s (numbers, spells) = (
  whole.1.0,
  record { first = refl; some = (something-filled (repeated value.Null n) s).1 (spelled true).1; made = (whole.0, whole.1.1, whole.2) },
)
  where
    n : ℕ
    n = marks line

    has : HasParts (λ g. Keyword (word_of s) ∷ behind_by g s) (slots_of s)
    has = statement-parts s

    spelled : (b : Bool) → Spells (written (repeated (telling b) n) line) (filled (repeated (telling b) n) s)
    spelled b = spells (repeated (telling b) n) (length-repeated (telling b) n) (all-repeated (telling b) (telling-spellable b) n)

    told : IsTold line n has.parts
    told b =
        subst (λ symbols. IsMadeOf (written (repeated (telling b) n) line) symbols)
        (symbols-filled (repeated (telling b) n) s ∙ (has.made (literal (repeated (telling b) n))
        ∙ each-hole (telling b) (repeated (telling b) n) [] n has.parts refl (ap (flat_map numbers_of) has.has ∙ numbers)))
        (spelled b).2

    whole : IsWhole line (Keyword (word_of s) ∷ behind_by slot_symbol s)
    whole =
        subst (λ symbols. IsWhole line symbols) (sym (has.made slot_symbol))
        (whole-back has.parts has.well line n refl told)

pub not-statement : (line word rest : List ℕ) → lexeme line ≡ word → rest ≡ after_lexeme line
    → ((s : Statement) → IsStatement word rest s → ⊥) → (s : Statement) → SpellsStatement line s → ⊥
not-statement line word rest e f not s spells =
    let (first, is) = spelled-statement line s spells in
    not s (subst (λ w. IsStatement w rest s) (sym first ∙ e) (rw f is))

pub unknown-statement : (line : List ℕ) → ((w : CommandWord) → lexeme line ≢ letters w) → (s : Statement) → SpellsStatement line s → ⊥
unknown-statement line unknown s spells =
    let of = word-of (filled [] s) in
    unknown of.0 ((spelled-statement line s spells).0 ∙ (sym (word-filled [] s) ∙ of.1))
