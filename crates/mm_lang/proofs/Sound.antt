-- Sound: a line that is a statement's symbols, with a question mark for each hole, spells the statement.
use Rattle.std.proofs.Common.{◌≡◌, ◌≢◌, ℕ, ◌+◌, List, [], ◌∷◌, ◌++◌, length, map, Bool, true, false, get_or, refl, sym, ap, ◌∙◌, subst, arith, append_assoc, length-append}
use Rattle.std.specs.Prelude.{◌==◌, ◌&&◌, not}
use Rattle.std.specs.List.{AllByRecursion, Contains, flat_map, range_with_len}
use Rattle.std.proofs.Math.Seq.{get_or-append_seam}
use lib.Chars.{codes}
use Rattle.plain_tables.specs.Spelling.{Symbol, Keyword, Literal, Sign, AreBlanks, IsSymbol, IsMadeOf, symbol_text, mark_text, text_literal, IsSpellableValue, Mark, Operator, Spells}
use Rattle.plain_tables.specs.Reading.{begins_run, lexeme, after_lexeme}
use Rattle.plain_tables.specs.declared.value.Value.{Value}
use Rattle.plain_tables.specs.declared.value.Value.TheVariants as value
use Rattle.plain_tables.specs.declared.condition.Op.TheVariants as op
use Rattle.plain_tables.proofs.Canonical.{symbol-text, blank-ends}
use Rattle.plain_tables.proofs.FirstWords.{different}
use Rattle.plain_tables.proofs.Lexemes.{IsRun, IsWellFormed, symbol-run, made-from_lexeme, no_lexeme-blanks}
use Rattle.plain_tables.proofs.LineFeeds.{HasNoFeed, contains-feed, contains-no_feed}
use Rattle.plain_tables.proofs.Separated.{all-append}
use Rattle.plain_tables.proofs.WellFormed.{symbol-no_feed}
use Rattle.plain_statements.specs.declared.statement.Slot.TheVariants.{Given, Hole}
use Rattle.plain_statements.specs.declared.statement.Statement.{Statement}
use Rattle.plain_statements.specs.Filling.{filled}
use Rattle.plain_statements.specs.StatementSpelling.{marks, written, written_within, numbers_of, holes_of, slots_of, SpellsStatement}
use Rattle.plain_statements.proofs.Spelled.{written-none}
use Rattle.mm_lang.specs.Parsing.{IsWhole}
use Rattle.mm_lang.specs.Statements.{slot_symbol, word_of, behind_by, CompletesStatement}
use Rattle.mm_lang.proofs.Filled.{literal, symbols-filled, something-filled}
use Rattle.mm_lang.proofs.Parts.{Part, Plain, At, symbol_by, slots_in, IsWell, HasParts, statement-parts}
use Rattle.mm_lang.proofs.Written.{blanks-marks, FirstSymbol, IsMark, IsOther, KeepsLine, TakesNext, first-symbol, keeps-line}

-- ---- a symbol of a command is no question mark

mark-apart : (m : Mark) → mark_text m ≢ codes "?"
mark-apart (Operator op.Eq) = different (codes "=") (codes "?") refl
mark-apart other = different (mark_text other) (codes "?") refl

run-apart : (characters : List ℕ) → IsRun characters → characters ≢ codes "?"
run-apart characters run e =
    let mark : IsRun (codes "?") = subst IsRun e run in
    let both : begins_run 63 ≡ true = mark.1 in cc

text-apart : (text : List ℕ) → text_literal text ≢ codes "?"
text-apart text e = cc

pub symbol-apart : (characters : List ℕ) (x : Symbol) → IsWellFormed x → IsSymbol characters x → characters ≢ codes "?"
symbol-apart characters (Literal (value.Text text)) well is = λ e. text-apart text (sym is ∙ e)
symbol-apart characters (Sign mark) well is = λ e. mark-apart mark (sym is ∙ e)
symbol-apart characters other well is = run-apart characters (symbol-run characters other tt well is)

-- ---- literals that are written

blank-made : (line : List ℕ) (symbols : List Symbol) → IsMadeOf line symbols → IsMadeOf (32 ∷ line) symbols
blank-made line [] made = (refl, made)
blank-made line (x ∷ symbols) (blanks, characters, rest, are, is, ends, others, e) =
    (32 ∷ blanks, characters, rest, (refl, are), is, ends, others, ap (λ l. 32 ∷ l) e)

literal-made : (v : Value) (blanks rest line : List ℕ) (symbols : List Symbol) → IsSpellableValue v → AreBlanks blanks
    → line ≡ blanks ++ ((32 ∷ symbol_text (Literal v) ++ 32 ∷ []) ++ rest) → IsMadeOf rest symbols → IsMadeOf line (Literal v ∷ symbols)
literal-made v blanks rest line symbols can are e made = (
  blanks ++ 32 ∷ [],
  symbol_text (Literal v),
  32 ∷ rest,
  all-append _ blanks (32 ∷ []) are (refl, tt),
  symbol-text (Literal v) can,
  blank-ends (Literal v) rest,
  blank-made rest symbols made,
  e ∙ (simp append_assoc),
)

-- ---- the written line

-- the values that are left to be written, behind those that are, and the numbers of their holes
record Left (values front vs : List Value) (numbers : List ℕ) : Type 0 where
  all : values ≡ front ++ vs
  go_on : numbers ≡ range_with_len (length front) (length vs)
  can : AllByRecursion IsSpellableValue vs

line-keeps : (vs : List Value) (line : List ℕ) → FirstSymbol line → lexeme line ≢ codes "?" → KeepsLine vs line
line-keeps vs line (IsMark is takes) other = absurd (other is)
line-keeps vs line (IsOther not each) other = keeps-line vs line each

line-takes : (line : List ℕ) → FirstSymbol line → lexeme line ≡ codes "?" → TakesNext line
line-takes line (IsMark is takes) same = takes
line-takes line (IsOther not each) same = absurd (not same)

-- a symbol that is no hole, where the rest is made of those behind it
other-made : (vs : List Value) (x : Symbol) (symbols : List Symbol) (line : List ℕ) → IsWellFormed x → IsSymbol (lexeme line) x
    → (KeepsLine vs line → IsMadeOf (written vs (after_lexeme line)) symbols) → IsMadeOf (written vs line) (x ∷ symbols)
other-made vs x symbols line well is made =
    let keeps : KeepsLine vs line = line-keeps vs line (first-symbol line) (symbol-apart (lexeme line) x well is) in
    made-from_lexeme (written vs line) x symbols well (rw keeps.same is) (rw keeps.rest (made keeps))

pub cons-parts : (n m : ℕ) (ns ms : List ℕ) → n ∷ ns ≡ m ∷ ms → (n ≡ m) × (ns ≡ ms)
cons-parts n m ns ms e = (cc, cc)

filled-made : (values : List Value) (parts : List Part) → AllByRecursion IsWell parts → (line : List ℕ) (front vs : List Value)
    → IsWhole line (map (symbol_by slot_symbol) parts) → length vs ≡ marks line → Left values front vs (flat_map numbers_of (slots_in parts))
    → IsMadeOf (written vs line) (map (symbol_by (literal values)) parts)
filled-made values [] well line front [] (rest, e, end) many left = rw (written-none line) (no_lexeme-blanks line (ap lexeme e ∙ end))
filled-made values [] well line front (v ∷ vs) whole many left =
    let numbers : [] ≡ length front ∷ range_with_len (length front + 1) (length vs) = left.go_on in cc
filled-made values (Plain x ∷ parts) well line front vs (rest, (is, reads), end) many left =
    other-made vs x _ line well.0 is (λ keeps. filled-made values parts well.1 _ front vs (rest, reads, end) (many ∙ keeps.holds) left)
filled-made values (At (Given w) ∷ parts) well line front vs (rest, (is, reads), end) many left =
    other-made vs (Literal w) _ line tt is (λ keeps. filled-made values parts well.1 _ front vs (rest, reads, end) (many ∙ keeps.holds) left)
filled-made values (At (Hole n) ∷ parts) well line front [] (rest, (is, reads), end) many left =
    let takes : TakesNext line = line-takes line (first-symbol line) is in absurd (omega (arith, many, takes.holds))
filled-made values (At (Hole n) ∷ parts) well line front (v ∷ vs) (rest, (is, reads), end) many left =
    let takes : TakesNext line = line-takes line (first-symbol line) is in
    let next = cons-parts n (length front) (flat_map numbers_of (slots_in parts)) (range_with_len (length front + 1) (length vs)) left.go_on in
    let long : length (front ++ v ∷ []) ≡ length front + 1 = omega (arith, length-append front (v ∷ [])) in
    let one : get_or values n value.Null ≡ v = rw (left.all, next.0) (get_or-append_seam front v vs value.Null) in
    let others : IsMadeOf (written vs (after_lexeme line)) (map (symbol_by (literal values)) parts) =
    filled-made values parts well.1 (after_lexeme line) (front ++ v ∷ []) vs (rest, reads, end) (omega (arith, many, takes.holds)) (record {
      all = left.all ∙ sym (append_assoc front (v ∷ []) vs);
      go_on = next.1 ∙ ap (λ k. range_with_len k (length vs)) (sym long);
      can = left.can.1;
    }) in
    rw one (literal-made v takes.blanks _ (written (v ∷ vs) line) _ left.can.0 takes.are (takes.fills v vs) others)

-- ---- as many holes as question marks

holes-kept : (line : List ℕ) (x : Symbol) → IsWellFormed x → IsSymbol (lexeme line) x → marks line ≡ marks (after_lexeme line)
holes-kept line x well is = (line-keeps [] line (first-symbol line) (symbol-apart (lexeme line) x well is)).holds

holes-marks : (parts : List Part) → AllByRecursion IsWell parts → (line : List ℕ) → IsWhole line (map (symbol_by slot_symbol) parts)
    → length (flat_map numbers_of (slots_in parts)) ≡ marks line
holes-marks [] well line (rest, e, end) = sym (blanks-marks line (no_lexeme-blanks line (ap lexeme e ∙ end)))
holes-marks (Plain x ∷ parts) well line (rest, (is, reads), end) =
    holes-marks parts well.1 (after_lexeme line) (rest, reads, end) ∙ sym (holes-kept line x well.0 is)
holes-marks (At (Given w) ∷ parts) well line (rest, (is, reads), end) =
    holes-marks parts well.1 (after_lexeme line) (rest, reads, end) ∙ sym (holes-kept line (Literal w) tt is)
holes-marks (At (Hole n) ∷ parts) well line (rest, (is, reads), end) =
    let takes : TakesNext line = line-takes line (first-symbol line) is in
    omega (arith, holes-marks parts well.1 (after_lexeme line) (rest, reads, end), takes.holds)

-- ---- no line feeds

literal-no_feed : (v : Value) → IsSpellableValue v → HasNoFeed (symbol_text (Literal v))
literal-no_feed v can = symbol-no_feed (symbol_text (Literal v)) (Literal v) can (symbol-text (Literal v) can)

feed-at : (quoted : Bool) (v : Value) (vs : List Value) (c : ℕ) (cs : List ℕ) (a b : Bool) → (c == 39) ≡ a → ((c == 63) && not quoted) ≡ b
    → c ≢ 10 → IsSpellableValue v → ((q : Bool) → HasNoFeed (written_within q (v ∷ vs) cs)) → HasNoFeed (written_within quoted vs cs)
    → HasNoFeed (written_within quoted (v ∷ vs) (c ∷ cs))
feed-at quoted v vs c cs true b e f free can same less = rw e (free, same (not quoted))
feed-at quoted v vs c cs false true e f free can same less =
    rw (e, f) (all-append (λ k. k ≢ 10) (32 ∷ symbol_text (Literal v) ++ 32 ∷ []) (written_within quoted vs cs)
    ((λ k. omega arith), all-append (λ k. k ≢ 10) (symbol_text (Literal v)) (32 ∷ []) (literal-no_feed v can) ((λ k. omega arith), tt)) less)
feed-at quoted v vs c cs false false e f free can same less = rw (e, f) (free, same quoted)

written-no_feed : (quoted : Bool) (vs : List Value) (line : List ℕ) → AllByRecursion IsSpellableValue vs → HasNoFeed line
    → HasNoFeed (written_within quoted vs line)
written-no_feed quoted vs [] can free = tt
written-no_feed quoted [] (c ∷ cs) can free = free
written-no_feed quoted (v ∷ vs) (c ∷ cs) can free =
    feed-at quoted v vs c cs (c == 39) ((c == 63) && not quoted) refl refl free.0 can.0 (λ q. written-no_feed q (v ∷ vs) cs can free.1)
    (written-no_feed quoted vs cs can.1 free.1)

-- ---- the whole line

-- Law: a line that a statement's first word begins, and the symbols behind it complete, spells the statement.
pub statement-spelled : (line word rest : List ℕ) (s : Statement) → ¬ (Contains line 10) → lexeme line ≡ word → rest ≡ after_lexeme line
    → CompletesStatement word rest s → SpellsStatement line s
statement-spelled line word rest s free e f (is, numbers) = (holes_of-range, spelled)
  where
    has : HasParts (λ g. Keyword (word_of s) ∷ behind_by g s) (slots_of s)
    has = statement-parts s

    whole : IsWhole line (map (symbol_by slot_symbol) has.parts)
    whole =
        let behind : IsWhole (after_lexeme line) (behind_by slot_symbol s) = rw f at is.made in
        subst (λ symbols. IsWhole line symbols) (has.made slot_symbol) (behind.0, (e ∙ sym is.first, behind.1), behind.2)

    in_parts : flat_map numbers_of (slots_in has.parts) ≡ holes_of s
    in_parts = ap (flat_map numbers_of) has.has

    many : length (holes_of s) ≡ marks line
    many = ap length (sym in_parts) ∙ holes-marks has.parts has.well line whole

    holes_of-range : holes_of s ≡ range_with_len 0 (marks line)
    holes_of-range = numbers ∙ ap (range_with_len 0) many

    spelled : (values : List Value) → length values ≡ marks line → AllByRecursion IsSpellableValue values
        → Spells (written values line) (filled values s)
    spelled values long can =
        let made : IsMadeOf (written values line) (map (symbol_by (literal values)) has.parts) =
        filled-made values has.parts has.well line [] values whole long
        (record { all = refl; go_on = in_parts ∙ (holes_of-range ∙ ap (range_with_len 0) (sym long)); can = can }) in (
          contains-feed (written values line) (written-no_feed false values line can (contains-no_feed line free)),
          (something-filled values s).0 is.some,
          subst (λ symbols. IsMadeOf (written values line) symbols) (sym (has.made (literal values)) ∙ sym (symbols-filled values s)) made,
        )
