-- Written: where the first symbol of a line ends once literals are written for its question marks.
use Rattle.std.proofs.Common.{◌≡◌, ◌≢◌, ℕ, suc, ◌+◌, List, [], ◌∷◌, ◌++◌, length, take, drop, Bool, true, false, refl, sym, ap, ◌∙◌, subst, arith, append-nil}
use Rattle.std.specs.List.{AllByRecursion, prefix_len}
use Rattle.std.specs.Prelude.{◌==◌}
use Rattle.std.proofs.lemmas.List.{take-append-drop}
use Rattle.std.proofs.lemmas.Bool.{eqb-true, eqb-false}
use Rattle.std.proofs.lemmas.Bool.Decides.{nat_tests}
use lib.Chars.{codes}
use Rattle.plain_tables.specs.Names.{is_word_character}
use Rattle.plain_tables.specs.Spelling.{Literal, AreBlanks, is_blank, symbol_text}
use Rattle.plain_tables.specs.Reading.{behind_blanks, begins_run, is_operator, operator_length, text_length, length_behind, lexeme_length, lexeme, after_lexeme}
use Rattle.plain_tables.specs.declared.value.Value.{Value}
use Rattle.plain_tables.specs.declared.value.Value.TheVariants as value
use Rattle.plain_tables.proofs.Lexemes.{AllPass, StopsBefore, prefix_len-front, behind_blanks-front, lexeme-front, front-passes, rest-stops}
use Rattle.plain_tables.proofs.Texts.{one_more, two_more, text_length-plain}
use Rattle.plain_statements.specs.StatementSpelling.{marks, marks_within, literal_apart, written, written_within}
use Rattle.plain_statements.proofs.Spelled.{written-none}

-- ---- characters that are neither quote marks nor question marks

abbrev IsPlain : ℕ → Type 0
IsPlain c = ((c == 39) ≡ false) × ((c == 63) ≡ false)

abbrev ArePlain : List ℕ → Type 0
ArePlain cs = AllByRecursion IsPlain cs

blank-plain : (c : ℕ) → is_blank c ≡ true → IsPlain c
blank-plain c h = (grind (arith, nat_tests), grind (arith, nat_tests))

word-plain : (c : ℕ) → is_word_character c ≡ true → IsPlain c
word-plain c h = (grind (arith, nat_tests), grind (arith, nat_tests))

pass-plain : (p : ℕ → Bool) → ((c : ℕ) → p c ≡ true → IsPlain c) → (cs : List ℕ) → AllPass p cs → ArePlain cs
pass-plain p plain [] all = tt
pass-plain p plain (c ∷ cs) all = (plain c all.0, pass-plain p plain cs all.1)

plain-marks : (cs rest : List ℕ) → ArePlain cs → marks (cs ++ rest) ≡ marks rest
plain-marks [] rest all = refl
plain-marks (c ∷ cs) rest all = rw (all.0.0, all.0.1) (plain-marks cs rest all.1)

-- ---- the first character of what is written

-- It is the first of the text, or a blank.
data First (c : ℕ) (line : List ℕ) : Type 0 where
  Same : (rest : List ℕ) → line ≡ c ∷ rest → First c line
  Blank : (rest : List ℕ) → line ≡ 32 ∷ rest → First c line

stops-first : (p : ℕ → Bool) → p 32 ≡ false → (c : ℕ) (line : List ℕ) → p c ≡ false → First c line → StopsBefore p line
stops-first p blank c line stops (Same rest e) = rw e stops
stops-first p blank c line stops (Blank rest e) = rw e blank

-- ---- how far the first symbol goes

-- a text that ends before what begins so
ends-first : (c : ℕ) (line : List ℕ) → (c == 39) ≡ false → First c line → text_length (39 ∷ line) ≡ 1
ends-first c line plain (Same rest e) = rw (e, plain) refl
ends-first c line plain (Blank rest e) = rw e refl

-- a word or a number
run-plain : (c : ℕ) → begins_run c ≡ true → IsPlain c
run-plain c h = (grind (arith, nat_tests), grind (arith, nat_tests))

run-long : (c : ℕ) (word rest : List ℕ) → begins_run c ≡ true → AllPass is_word_character word → StopsBefore is_word_character rest
    → lexeme_length (c ∷ (word ++ rest)) ≡ suc (length word)
run-long c word rest run passes stops = rw (run, prefix_len-front is_word_character word rest passes stops) (one_more (length word))

operator-plain : (c d : ℕ) → is_operator c d ≡ true → IsPlain d
operator-plain c d h = (grind (arith, nat_tests), grind (arith, nat_tests))

no-operator : (c : ℕ) → is_operator c 32 ≡ false
no-operator c = grind (arith, nat_tests)

operator-first : (c d : ℕ) (line : List ℕ) → is_operator c d ≡ false → First d line → operator_length c line ≡ 0
operator-first c d line not (Same rest e) = rw (e, not) refl
operator-first c d line not (Blank rest e) = rw (e, no-operator c) refl

-- ---- literals for the question marks of a text

module _ (v : Value) (values : List Value) where
  plain-written : (cs rest : List ℕ) → ArePlain cs → written (v ∷ values) (cs ++ rest) ≡ cs ++ written (v ∷ values) rest
  plain-written [] rest all = refl
  plain-written (c ∷ cs) rest all = rw (all.0.0, all.0.1) (ap (λ l. c ∷ l) (plain-written cs rest all.1))

  first-at : (c : ℕ) (cs : List ℕ) (a b : Bool) → (c == 39) ≡ a → (c == 63) ≡ b → First c (written (v ∷ values) (c ∷ cs))
  first-at c cs true b e f = Same (written_within true (v ∷ values) cs) (rw e refl)
  first-at c cs false true e f = Blank ((symbol_text (Literal v) ++ 32 ∷ []) ++ written values cs) (rw (e, f) refl)
  first-at c cs false false e f = Same (written (v ∷ values) cs) (rw (e, f) refl)

  written-first : (c : ℕ) (cs : List ℕ) → First c (written (v ∷ values) (c ∷ cs))
  written-first c cs = first-at c cs (c == 39) (c == 63) refl refl

  written-stops : (p : ℕ → Bool) → p 32 ≡ false → (line : List ℕ) → StopsBefore p line → StopsBefore p (written (v ∷ values) line)
  written-stops p blank [] stops = tt
  written-stops p blank (c ∷ cs) stops = stops-first p blank c _ stops (written-first c cs)

  -- The symbol at the front of this text, which begins with no blank, ends where it does in the written text, and no question
  -- mark outside of texts stands in it.
  record Keeps (text : List ℕ) : Type 0 where
    front : List ℕ
    rest : List ℕ
    parts : text ≡ front ++ rest
    long : lexeme_length text ≡ length front
    fills : written (v ∷ values) text ≡ front ++ written (v ∷ values) rest
    written_long : lexeme_length (written (v ∷ values) text) ≡ length front
    holds : marks text ≡ marks rest

  -- The same of the characters behind a quote mark.
  record KeepsText (cs : List ℕ) : Type 0 where
    front : List ℕ
    rest : List ℕ
    parts : cs ≡ front ++ rest
    long : text_length cs ≡ length front
    fills : written_within true (v ∷ values) cs ≡ front ++ written (v ∷ values) rest
    written_long : text_length (written_within true (v ∷ values) cs) ≡ length front
    holds : marks_within true cs ≡ marks rest

  -- a character of a text, outside of its marks
  quoted-at : (c : ℕ) (cs : List ℕ) (b : Bool) → (c == 39) ≡ false → (c == 63) ≡ b
      → (written_within true (v ∷ values) (c ∷ cs) ≡ c ∷ written_within true (v ∷ values) cs) × (marks_within true (c ∷ cs) ≡ marks_within true cs)
  quoted-at c cs true plain e = (rw (plain, e) refl, rw (plain, e) refl)
  quoted-at c cs false plain e = (rw (plain, e) refl, rw (plain, e) refl)

  keeps-other : (c : ℕ) (cs : List ℕ) → (c == 39) ≡ false → KeepsText cs → KeepsText (c ∷ cs)
  keeps-other c cs plain k =
      let (step, same) = quoted-at c cs (c == 63) plain refl in
      record {
        front = c ∷ k.front;
        rest = k.rest;
        parts = ap (λ l. c ∷ l) k.parts;
        long = text_length-plain c cs plain ∙ (ap (λ n. 1 + n) k.long ∙ one_more (length k.front));
        fills = step ∙ ap (λ l. c ∷ l) k.fills;
        written_long = ap text_length step
            ∙ (text_length-plain c (written_within true (v ∷ values) cs) plain ∙ (ap (λ n. 1 + n) k.written_long ∙ one_more (length k.front)));
        holds = same ∙ k.holds;
      }

  keeps-none : KeepsText []
  keeps-none = record { front = []; rest = []; parts = refl; long = refl; fills = refl; written_long = refl; holds = refl }

  keeps-one : (c : ℕ) (a : Bool) → (c == 39) ≡ a → KeepsText (c ∷ [])
  keeps-one c true e = record { front = c ∷ []; rest = []; parts = refl; long = refl; fills = rw e refl; written_long = rw e refl; holds = rw e refl }
  keeps-one c false e = keeps-other c [] e keeps-none

  keeps-two : (cs : List ℕ) → KeepsText cs → KeepsText (39 ∷ 39 ∷ cs)
  keeps-two cs k = record {
    front = 39 ∷ 39 ∷ k.front;
    rest = k.rest;
    parts = ap (λ l. 39 ∷ 39 ∷ l) k.parts;
    long = ap (λ n. 2 + n) k.long ∙ two_more (length k.front);
    fills = ap (λ l. 39 ∷ 39 ∷ l) k.fills;
    written_long = ap (λ n. 2 + n) k.written_long ∙ two_more (length k.front);
    holds = k.holds;
  }

  keeps-end : (d : ℕ) (cs : List ℕ) → (d == 39) ≡ false → KeepsText (39 ∷ d ∷ cs)
  keeps-end d cs plain = record {
    front = 39 ∷ [];
    rest = d ∷ cs;
    parts = refl;
    long = rw plain refl;
    fills = refl;
    written_long = ends-first d (written (v ∷ values) (d ∷ cs)) plain (written-first d cs);
    holds = refl;
  }

  keeps-mark : (d : ℕ) (cs : List ℕ) (b : Bool) → (d == 39) ≡ b → KeepsText cs → KeepsText (39 ∷ d ∷ cs)
  keeps-mark d cs true e k = subst (λ n. KeepsText (39 ∷ n ∷ cs)) (sym (eqb-true d 39 e)) (keeps-two cs k)
  keeps-mark d cs false e k = keeps-end d cs e

  keeps-either : (c d : ℕ) (cs : List ℕ) (b : Bool) → (c == 39) ≡ b → KeepsText cs → KeepsText (d ∷ cs) → KeepsText (c ∷ d ∷ cs)
  keeps-either c d cs true e two one = subst (λ n. KeepsText (n ∷ d ∷ cs)) (sym (eqb-true c 39 e)) (keeps-mark d cs (d == 39) refl two)
  keeps-either c d cs false e two one = keeps-other c (d ∷ cs) e one

  keeps-text : (cs : List ℕ) → KeepsText cs
  keeps-text [] = keeps-none
  keeps-text (c ∷ []) = keeps-one c (c == 39) refl
  keeps-text (c ∷ d ∷ cs) = keeps-either c d cs (c == 39) refl (keeps-text cs) (keeps-text (d ∷ cs))

  -- a text's literal, or what begins as one
  keeps-quoted : (cs : List ℕ) → Keeps (39 ∷ cs)
  keeps-quoted cs =
      let k : KeepsText cs = keeps-text cs in
      record {
        front = 39 ∷ k.front;
        rest = k.rest;
        parts = ap (λ l. 39 ∷ l) k.parts;
        long = ap (λ n. 1 + n) k.long ∙ one_more (length k.front);
        fills = ap (λ l. 39 ∷ l) k.fills;
        written_long = ap (λ n. 1 + n) k.written_long ∙ one_more (length k.front);
        holds = k.holds;
      }

  -- Plain characters that are the first symbol, of the text and of the written one.
  keeps-plain : (front rest : List ℕ) → ArePlain front → lexeme_length (front ++ rest) ≡ length front
      → lexeme_length (front ++ written (v ∷ values) rest) ≡ length front → Keeps (front ++ rest)
  keeps-plain front rest plain long written_long = record {
    front = front;
    rest = rest;
    parts = refl;
    long = long;
    fills = plain-written front rest plain;
    written_long = ap lexeme_length (plain-written front rest plain) ∙ written_long;
    holds = plain-marks front rest plain;
  }

  keeps-run : (c : ℕ) (cs : List ℕ) → begins_run c ≡ true → Keeps (c ∷ cs)
  keeps-run c cs run =
      let n : ℕ = prefix_len is_word_character cs in
      let passes : AllPass is_word_character (take n cs) = front-passes is_word_character cs in
      let stops : StopsBefore is_word_character (drop n cs) = rest-stops is_word_character cs in
      subst (λ l. Keeps (c ∷ l)) (take-append-drop n cs)
      (keeps-plain (c ∷ take n cs) (drop n cs) (run-plain c run, pass-plain is_word_character word-plain (take n cs) passes)
      (run-long c _ _ run passes stops) (run-long c _ _ run passes (written-stops is_word_character refl (drop n cs) stops)))

  -- an operator or another sign
  keeps-single : (c : ℕ) (cs : List ℕ) → begins_run c ≡ false → IsPlain c
      → operator_length c cs ≡ 0 → operator_length c (written (v ∷ values) cs) ≡ 0 → Keeps (c ∷ cs)
  keeps-single c cs run plain short written_short =
      keeps-plain (c ∷ []) cs (plain, tt) (rw (run, plain.0, short) refl) (rw (run, plain.0, written_short) refl)

  keeps-next : (c d : ℕ) (cs : List ℕ) (b : Bool) → begins_run c ≡ false → IsPlain c → is_operator c d ≡ b → Keeps (c ∷ d ∷ cs)
  keeps-next c d cs true run plain e =
      keeps-plain (c ∷ d ∷ []) cs (plain, (operator-plain c d e, tt)) (rw (run, plain.0, e) refl) (rw (run, plain.0, e) refl)
  keeps-next c d cs false run plain e =
      keeps-single c (d ∷ cs) run plain (rw e refl) (operator-first c d (written (v ∷ values) (d ∷ cs)) e (written-first d cs))

  keeps-sign : (c : ℕ) (cs : List ℕ) → begins_run c ≡ false → IsPlain c → Keeps (c ∷ cs)
  keeps-sign c [] run plain = keeps-single c [] run plain refl refl
  keeps-sign c (d ∷ cs) run plain = keeps-next c d cs (is_operator c d) run plain refl

  keeps-by : (c : ℕ) (cs : List ℕ) (a b : Bool) → begins_run c ≡ a → (c == 39) ≡ b → (c == 63) ≡ false → Keeps (c ∷ cs)
  keeps-by c cs true b run e f = keeps-run c cs run
  keeps-by c cs false true run e f = subst (λ n. Keeps (n ∷ cs)) (sym (eqb-true c 39 e)) (keeps-quoted cs)
  keeps-by c cs false false run e f = keeps-sign c cs run (e, f)

  keeps : (c : ℕ) (cs : List ℕ) → (c == 63) ≡ false → Keeps (c ∷ cs)
  keeps c cs other = keeps-by c cs (begins_run c) (c == 39) refl refl other

-- ---- a line's first symbol, and what is behind it

-- The first symbol of the line is no question mark, and stands in the written line too, with the rest, written, behind it.
pub record KeepsLine (values : List Value) (line : List ℕ) : Type 0 where
  pub same : lexeme (written values line) ≡ lexeme line
  pub rest : after_lexeme (written values line) ≡ written values (after_lexeme line)
  pub holds : marks line ≡ marks (after_lexeme line)

-- The first symbol of the line is a question mark, and in the written line the next value's literal stands for it.
pub record TakesNext (line : List ℕ) : Type 0 where
  pub blanks : List ℕ
  pub are : AreBlanks blanks
  pub fills : (v : Value) (values : List Value) → written (v ∷ values) line ≡ blanks ++ (literal_apart v ++ written values (after_lexeme line))
  pub holds : marks line ≡ 1 + marks (after_lexeme line)

blanks-plain : (blanks : List ℕ) → AreBlanks blanks → ArePlain blanks
blanks-plain blanks are = pass-plain is_blank blank-plain blanks are

pub blanks-marks : (blanks : List ℕ) → AreBlanks blanks → marks blanks ≡ 0
blanks-marks blanks are = ap marks (sym (append-nil blanks)) ∙ plain-marks blanks [] (blanks-plain blanks are)

empty-keeps : (v : Value) (values : List Value) (blanks : List ℕ) → AreBlanks blanks → KeepsLine (v ∷ values) (blanks ++ [])
empty-keeps v values blanks are =
    let same : written (v ∷ values) (blanks ++ []) ≡ blanks ++ [] = plain-written v values blanks [] (blanks-plain blanks are) in
    let front = lexeme-front blanks [] [] are tt refl in
    record {
      same = ap lexeme same;
      rest = ap after_lexeme same ∙ (front.1 ∙ ap (written (v ∷ values)) (sym front.1));
      holds = plain-marks blanks [] (blanks-plain blanks are) ∙ ap marks (sym front.1);
    }

stays-stopped : (v : Value) (values : List Value) (c : ℕ) (cs : List ℕ) (b : Bool) → (c == 39) ≡ b → (c == 63) ≡ false → is_blank c ≡ false
    → StopsBefore is_blank (written (v ∷ values) (c ∷ cs))
stays-stopped v values c cs true e f stops = rw e stops
stays-stopped v values c cs false e f stops = rw (e, f) stops

other-keeps : (v : Value) (values : List Value) (blanks : List ℕ) (c : ℕ) (cs : List ℕ) → AreBlanks blanks → is_blank c ≡ false
    → (c == 63) ≡ false → KeepsLine (v ∷ values) (blanks ++ c ∷ cs)
other-keeps v values blanks c cs are stops other =
    let k : Keeps v values (c ∷ cs) = keeps v values c cs other in
    let w : List ℕ = written (v ∷ values) k.rest in
    let filled : written (v ∷ values) (blanks ++ c ∷ cs) ≡ blanks ++ (k.front ++ w) =
    plain-written v values blanks (c ∷ cs) (blanks-plain blanks are) ∙ ap (λ l. blanks ++ l) k.fills in
    let whole : blanks ++ c ∷ cs ≡ blanks ++ (k.front ++ k.rest) = ap (λ l. blanks ++ l) k.parts in
    let here = lexeme-front blanks k.front k.rest are (subst (StopsBefore is_blank) k.parts stops) (ap lexeme_length (sym k.parts) ∙ k.long) in
    let there = lexeme-front blanks k.front w are (subst (StopsBefore is_blank) k.fills (stays-stopped v values c cs (c == 39) refl other stops))
    (ap lexeme_length (sym k.fills) ∙ k.written_long) in
    let behind : after_lexeme (blanks ++ c ∷ cs) ≡ k.rest = ap after_lexeme whole ∙ here.1 in
    record {
      same = ap lexeme filled ∙ (there.0 ∙ sym (ap lexeme whole ∙ here.0));
      rest = ap after_lexeme filled ∙ (there.1 ∙ ap (written (v ∷ values)) (sym behind));
      holds = plain-marks blanks (c ∷ cs) (blanks-plain blanks are) ∙ (k.holds ∙ ap marks (sym behind));
    }

mark-length : (cs : List ℕ) → lexeme_length (63 ∷ cs) ≡ 1
mark-length [] = refl
mark-length (d ∷ cs) = refl

mark-takes : (blanks cs : List ℕ) → AreBlanks blanks → (lexeme (blanks ++ 63 ∷ cs) ≡ codes "?") × TakesNext (blanks ++ 63 ∷ cs)
mark-takes blanks cs are =
    let front = lexeme-front blanks (63 ∷ []) cs are refl (mark-length cs) in (
      front.0,
      record {
        blanks = blanks;
        are = are;
        fills = λ v values.
            plain-written v values blanks (63 ∷ cs) (blanks-plain blanks are) ∙ ap (λ l. blanks ++ (literal_apart v ++ written values l)) (sym front.1);
        holds = plain-marks blanks (63 ∷ cs) (blanks-plain blanks are) ∙ ap (λ l. 1 + marks l) (sym front.1);
      },
    )

-- The first symbol is one or the other.
pub data FirstSymbol (line : List ℕ) : Type 0 where
  IsMark : lexeme line ≡ codes "?" → TakesNext line → FirstSymbol line
  IsOther : lexeme line ≢ codes "?" → ((v : Value) (values : List Value) → KeepsLine (v ∷ values) line) → FirstSymbol line

first-character : (blanks : List ℕ) (c : ℕ) (cs : List ℕ) → AreBlanks blanks → is_blank c ≡ false
    → lexeme (blanks ++ c ∷ cs) ≡ c ∷ take (length_behind c cs) cs
unfolding lexeme
first-character blanks c cs are stops =
    let text : behind_blanks (blanks ++ c ∷ cs) ≡ c ∷ cs = behind_blanks-front blanks (c ∷ cs) are stops in
    rw (text, one_more) refl

by-first : (blanks : List ℕ) (c : ℕ) (cs : List ℕ) (b : Bool) → AreBlanks blanks → is_blank c ≡ false → (c == 63) ≡ b
    → FirstSymbol (blanks ++ c ∷ cs)
by-first blanks c cs true are stops e =
    let is : c ≡ 63 = eqb-true c 63 e in
    let takes = mark-takes blanks cs are in
    subst (λ n. FirstSymbol (blanks ++ n ∷ cs)) (sym is) (IsMark takes.0 takes.1)
by-first blanks c cs false are stops e = IsOther (λ is. eqb-false c 63 e (same-first is)) (λ v values. other-keeps v values blanks c cs are stops e)
  where
    same-first : lexeme (blanks ++ c ∷ cs) ≡ codes "?" → c ≡ 63
    same-first is = let both : c ∷ take (length_behind c cs) cs ≡ 63 ∷ [] = sym (first-character blanks c cs are stops) ∙ is in cc

by-text : (blanks text : List ℕ) → AreBlanks blanks → StopsBefore is_blank text → FirstSymbol (blanks ++ text)
by-text blanks [] are stops =
    let front = lexeme-front blanks [] [] are tt refl in
    IsOther (λ is. let both : [] ≡ 63 ∷ [] = sym front.0 ∙ is in cc) (λ v values. empty-keeps v values blanks are)
by-text blanks (c ∷ cs) are stops = by-first blanks c cs (c == 63) are stops refl

pub first-symbol : (line : List ℕ) → FirstSymbol line
first-symbol line =
    subst FirstSymbol (take-append-drop (prefix_len is_blank line) line)
    (by-text (take (prefix_len is_blank line) line) (behind_blanks line) (front-passes is_blank line) (rest-stops is_blank line))

-- ---- any values

pub keeps-line : (values : List Value) (line : List ℕ) → ((v : Value) (values : List Value) → KeepsLine (v ∷ values) line) → KeepsLine values line
keeps-line [] line each = record {
  same = ap lexeme (written-none line);
  rest = ap after_lexeme (written-none line) ∙ sym (written-none (after_lexeme line));
  holds = (each value.Null []).holds;
}
keeps-line (v ∷ values) line each = each v values
