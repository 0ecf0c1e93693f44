-- Lexemes: a line is made of a symbol and others where its lexeme is that symbol and the rest is made of the others.
use Rattle.std.proofs.Common.{◌≡◌, ℕ, ◌+◌, ◌<◌, List, [], ◌∷◌, ◌++◌, length, take, drop, Bool, true, false, cond, ◌⊎◌, inl, inr, IsTrue, IsFalse, refl, sym, ◌∙◌, ap, arith, append-nil, append_assoc, subst, ◌≤◌, length-append}
use Rattle.std.specs.List.{prefix_len, AllByRecursion, list_all, flat_map}
use Rattle.std.specs.Prelude.{ℤ, ◌==◌, ◌||◌}
use Rattle.std.specs.Char.{digit_value}
use Rattle.std.specs.Str.Parse.{IsNumeral, AllDigits}
use Rattle.std.specs.Int.{IsInRange}
use Rattle.std.proofs.lemmas.Str.Parse.{digit_from_value}
use lib.Chars.{codes}
use Rattle.std.proofs.Math.Seq.{take-append_seam, drop-append_seam}
use Rattle.std.proofs.lemmas.List.{take-append-drop}
use Rattle.std.proofs.lemmas.Bool.{and_parts, or_parts}
use Rattle.std.proofs.lemmas.Bool.Decides.{nat_tests}
use Rattle.plain_tables.specs.Names.{is_word, is_word_character, is_letter}
use Rattle.plain_tables.specs.Spelling.{Mark, Operator, mark_text, doubled, text_literal, Symbol, Keyword, Name, Literal, Count, Sign, IsInteger, AreBlanks, is_blank, IsSymbol, EndsBefore, IsMadeOf, goes_on_with}
use Rattle.plain_tables.specs.declared.value.Value.TheVariants as value
use Rattle.plain_tables.specs.declared.condition.Op.TheVariants as op
use Rattle.plain_tables.specs.Reading.{behind_blanks, begins_run, is_operator, operator_length, length_behind, lexeme_length, lexeme, after_lexeme}
use Rattle.plain_tables.proofs.Texts.{NoMarkFirst, one_more, text_length-literal, behind_text-free}

-- ---- a front of a list of which each element passes a test, before one that doesn't

abbrev pub AllPass : (ℕ → Bool) → List ℕ → Type 0
AllPass p xs = AllByRecursion (λ c. IsTrue (p c)) xs

abbrev pub StopsBefore : (ℕ → Bool) → List ℕ → Type 0
StopsBefore p [] = Unit {0}
StopsBefore p (c ∷ cs) = IsFalse (p c)

pub prefix_len-front : (p : ℕ → Bool) (xs ys : List ℕ) → AllPass p xs → StopsBefore p ys → prefix_len p (xs ++ ys) ≡ length xs
prefix_len-front p [] [] all stops = refl
prefix_len-front p [] (y ∷ ys) all stops = rw stops refl
prefix_len-front p (x ∷ xs) ys all stops = rw (all.0, prefix_len-front p xs ys all.1 stops) (one_more (length xs))

passes_one_more : (p : ℕ → Bool) (x : ℕ) (xs : List ℕ) (n : ℕ) (b : Bool) → p x ≡ b → AllPass p (take n xs)
    → AllPass p (take (cond b (1 + n) 0) (x ∷ xs))
passes_one_more p x xs n true e rest = rw one_more (e, rest)
passes_one_more p x xs n false e rest = tt

pub front-passes : (p : ℕ → Bool) (xs : List ℕ) → AllPass p (take (prefix_len p xs) xs)
front-passes p [] = tt
front-passes p (x ∷ xs) = passes_one_more p x xs (prefix_len p xs) (p x) refl (front-passes p xs)

stops_one_later : (p : ℕ → Bool) (x : ℕ) (xs : List ℕ) (n : ℕ) (b : Bool) → p x ≡ b → StopsBefore p (drop n xs)
    → StopsBefore p (drop (cond b (1 + n) 0) (x ∷ xs))
stops_one_later p x xs n true e rest = rw one_more rest
stops_one_later p x xs n false e rest = e

pub rest-stops : (p : ℕ → Bool) (xs : List ℕ) → StopsBefore p (drop (prefix_len p xs) xs)
rest-stops p [] = tt
rest-stops p (x ∷ xs) = stops_one_later p x xs (prefix_len p xs) (p x) refl (rest-stops p xs)

-- ---- the characters of a symbol

pub word-no_blank : (c : ℕ) → is_word_character c ≡ true → is_blank c ≡ false
word-no_blank c h = grind (arith, nat_tests)

pub word-ascii : (c : ℕ) → is_word_character c ≡ true → c < 128
word-ascii c h = grind (arith, nat_tests)

pub begins-ascii : (c : ℕ) → begins_run c ≡ true → c < 128
begins-ascii c h = grind (arith, nat_tests)

pub letter-word : (c : ℕ) → is_letter c ≡ true → is_word_character c ≡ true
letter-word c h = rw h refl

digit-word : (c : ℕ) → digit_value c < 10 → is_word_character c ≡ true
digit-word c h =
    let range : IsInRange 48 57 c = digit_from_value c h in
    grind (arith, nat_tests)

-- a word or a number: a first character that isn't blank and begins a run, and letters and digits
abbrev pub IsRun : List ℕ → Type 0
IsRun [] = ⊥
IsRun (c ∷ cs) = (is_blank c ≡ false) × (begins_run c ≡ true) × AllPass is_word_character cs

all-pass : (p : ℕ → Bool) (cs : List ℕ) → list_all p cs ≡ true → AllPass p cs
all-pass p [] h = tt
all-pass p (c ∷ cs) h =
    let parts : (p c ≡ true) × (list_all p cs ≡ true) = and_parts (p c) (list_all p cs) h in
    (parts.0, all-pass p cs parts.1)

pub word-run : (word : List ℕ) → is_word word ≡ true → IsRun word
word-run [] h = cc
word-run (c ∷ cs) h =
    let parts : (is_letter c ≡ true) × (list_all is_word_character cs ≡ true) = and_parts (is_letter c) _ h in
    let first : is_word_character c ≡ true = letter-word c parts.0 in
    (word-no_blank c first, rw first refl, all-pass is_word_character cs parts.1)

digits-pass : (cs : List ℕ) → AllDigits 10 cs → AllPass is_word_character cs
digits-pass [] h = tt
digits-pass (c ∷ cs) h = (digit-word c h.0, digits-pass cs h.1)

digits-run : (cs : List ℕ) → IsNumeral 10 cs → IsRun cs
digits-run [] h = absurd (omega arith)
digits-run (c ∷ cs) h =
    let first : is_word_character c ≡ true = digit-word c h.1.0 in
    (word-no_blank c first, rw first refl, digits-pass cs h.1.1)

pub integer-run : (characters : List ℕ) (z : ℤ) → IsInteger characters z → IsRun characters
integer-run characters z (fits, (digits, numeral, inl (e, value))) = rw e (digits-run digits numeral)
integer-run characters z (fits, (digits, numeral, inr (e, value))) = rw e (refl, refl, digits-pass digits numeral.1)

-- ---- symbols and their characters

-- The keywords of a grammar are words.
abbrev pub IsWellFormed : Symbol → Type 0
IsWellFormed (Keyword word) = IsTrue (is_word word)
IsWellFormed symbol = Unit {0}

-- a word or a number
abbrev pub IsWordOrNumber : Symbol → Type 0
IsWordOrNumber (Literal (value.Text text)) = ⊥
IsWordOrNumber (Sign mark) = ⊥
IsWordOrNumber symbol = Unit {0}

pub symbol-run : (characters : List ℕ) (symbol : Symbol) → IsWordOrNumber symbol → IsWellFormed symbol → IsSymbol characters symbol
    → IsRun characters
symbol-run characters (Keyword word) plain well is = rw is (word-run word well)
symbol-run characters (Name name) plain well is =
    let word : is_word name ≡ true = (and_parts (is_word name) _ is.1).0 in
    rw is.0 (word-run name word)
symbol-run characters (Literal value.Null) plain well is = rw is (word-run (codes "null") refl)
symbol-run characters (Literal (value.Int z)) plain well is = integer-run characters z is
symbol-run characters (Count n) plain well is = digits-run characters is.1
symbol-run characters other plain well is = absurd plain

-- The characters are a run, and the symbol goes on as a run does.
abbrev HasRun : List ℕ → Symbol → Type 0
HasRun characters symbol = IsRun characters × ((c : ℕ) → goes_on_with symbol c ≡ is_word_character c)

-- The characters are a text's literal, and the symbol goes on with a quote mark.
abbrev HasText : List ℕ → Symbol → Type 0
HasText characters symbol = (text : List ℕ) × (characters ≡ text_literal text) × ((c : ℕ) → goes_on_with symbol c ≡ (c == 39))

-- The characters are a sign's, alone or an operator, and the symbol goes on as the sign does.
abbrev HasSign : List ℕ → Symbol → Type 0
HasSign characters symbol = (mark : Mark) × (characters ≡ mark_text mark) × ((c : ℕ) → goes_on_with symbol c ≡ goes_on_with (Sign mark) c)

abbrev HasShape : List ℕ → Symbol → Type 0
HasShape characters symbol = HasRun characters symbol ⊎ (HasText characters symbol ⊎ HasSign characters symbol)

symbol-shape : (characters : List ℕ) (symbol : Symbol) → IsWellFormed symbol → IsSymbol characters symbol → HasShape characters symbol
symbol-shape characters (Literal (value.Text text)) well is = inr (inl (text, is, λ c. refl))
symbol-shape characters (Sign mark) well is = inr (inr (mark, is, λ c. refl))
symbol-shape characters symbol well is = inl (symbol-run characters symbol tt well is, λ c. refl)

-- ---- from the symbol to its length

-- A symbol ends where another does that goes on alike.
ends-alike : (symbol other : Symbol) (rest : List ℕ) → ((c : ℕ) → goes_on_with symbol c ≡ goes_on_with other c)
    → EndsBefore other rest → EndsBefore symbol rest
ends-alike symbol other [] same ends = tt
ends-alike symbol other (c ∷ cs) same ends = same c ∙ ends

stops-word : (symbol : Symbol) (rest : List ℕ) → ((c : ℕ) → goes_on_with symbol c ≡ is_word_character c)
    → EndsBefore symbol rest → StopsBefore is_word_character rest
stops-word symbol [] same ends = tt
stops-word symbol (c ∷ cs) same ends = sym (same c) ∙ ends

stops-mark : (symbol : Symbol) (rest : List ℕ) → ((c : ℕ) → goes_on_with symbol c ≡ (c == 39)) → EndsBefore symbol rest → NoMarkFirst rest
stops-mark symbol [] same ends = tt
stops-mark symbol (c ∷ cs) same ends = sym (same c) ∙ ends

run-length : (characters rest : List ℕ) → IsRun characters → StopsBefore is_word_character rest
    → lexeme_length (characters ++ rest) ≡ length characters
run-length [] rest run stops = elim run [ ]
run-length (c ∷ cs) rest run stops =
    rw (run.1, prefix_len-front is_word_character cs rest run.2 stops) (one_more (length cs))

-- how long a text's literal is, at the front of a text that goes on with no quote mark
pub text-length : (text rest : List ℕ) → NoMarkFirst rest → lexeme_length (text_literal text ++ rest) ≡ length (text_literal text)
text-length text rest free =
    let inner : List ℕ = flat_map doubled text in
    rw (append_assoc inner (39 ∷ []) rest, text_length-literal text rest free, length-append inner (39 ∷ [])) (one_more (length inner + 1))

sign-length : (mark : Mark) (rest : List ℕ) → EndsBefore (Sign mark) rest → lexeme_length (mark_text mark ++ rest) ≡ length (mark_text mark)
sign-length (Operator op.Lt) (c ∷ cs) ends = rw ends refl
sign-length (Operator op.Gt) (c ∷ cs) ends = rw ends refl
sign-length (Operator op.Eq) [] ends = refl
sign-length mark [] ends = refl
sign-length mark (c ∷ cs) ends = refl

shape-length : (characters rest : List ℕ) (symbol : Symbol) → HasShape characters symbol → EndsBefore symbol rest
    → lexeme_length (characters ++ rest) ≡ length characters
shape-length characters rest symbol (inl (run, same)) ends = run-length characters rest run (stops-word symbol rest same ends)
shape-length characters rest symbol (inr (inl (text, e, same))) ends = rw e (text-length text rest (stops-mark symbol rest same ends))
shape-length characters rest symbol (inr (inr (mark, e, same))) ends =
    rw e (sign-length mark rest (ends-alike (Sign mark) symbol rest (λ c. sym (same c)) ends))

run-no_blank : (characters rest : List ℕ) → IsRun characters → StopsBefore is_blank (characters ++ rest)
run-no_blank [] rest run = elim run [ ]
run-no_blank (c ∷ cs) rest run = run.0

sign-no_blank : (mark : Mark) (rest : List ℕ) → StopsBefore is_blank (mark_text mark ++ rest)
sign-no_blank (Operator op.Eq) rest = refl
sign-no_blank mark rest = refl

shape-no_blank : (characters rest : List ℕ) (symbol : Symbol) → HasShape characters symbol → StopsBefore is_blank (characters ++ rest)
shape-no_blank characters rest symbol (inl (run, same)) = run-no_blank characters rest run
shape-no_blank characters rest symbol (inr (inl (text, e, same))) = rw e refl
shape-no_blank characters rest symbol (inr (inr (mark, e, same))) = rw e (sign-no_blank mark rest)

pub behind_blanks-front : (blanks text : List ℕ) → AreBlanks blanks → StopsBefore is_blank text → behind_blanks (blanks ++ text) ≡ text
behind_blanks-front blanks text are stops = rw (prefix_len-front is_blank blanks text are stops, drop-append_seam) refl

pub lexeme-front : (blanks characters rest : List ℕ) → AreBlanks blanks → StopsBefore is_blank (characters ++ rest)
    → lexeme_length (characters ++ rest) ≡ length characters
    → (lexeme (blanks ++ (characters ++ rest)) ≡ characters) × (after_lexeme (blanks ++ (characters ++ rest)) ≡ rest)
unfolding lexeme after_lexeme
lexeme-front blanks characters rest are stops long =
    let text : behind_blanks (blanks ++ (characters ++ rest)) ≡ characters ++ rest = behind_blanks-front blanks (characters ++ rest) are stops in
    (rw (text, long, take-append_seam) refl, rw (text, long, drop-append_seam) refl)

symbol-front : (line blanks characters rest : List ℕ) (symbol : Symbol) → IsWellFormed symbol → AreBlanks blanks
    → IsSymbol characters symbol → EndsBefore symbol rest → line ≡ blanks ++ (characters ++ rest)
    → (lexeme line ≡ characters) × (after_lexeme line ≡ rest)
symbol-front line blanks characters rest symbol well are is ends e =
    let shape : HasShape characters symbol = symbol-shape characters symbol well is in
    rw e (lexeme-front blanks characters rest are (shape-no_blank characters rest symbol shape) (shape-length characters rest symbol shape ends))

-- Law: the first symbol is the lexeme, and the others stand behind it.
pub lexeme-of_made : (line : List ℕ) (symbol : Symbol) (symbols : List Symbol) → IsWellFormed symbol
    → IsMadeOf line (symbol ∷ symbols) → IsSymbol (lexeme line) symbol × IsMadeOf (after_lexeme line) symbols
lexeme-of_made line symbol symbols well (blanks, characters, rest, are, is, ends, others, e) =
    let front : (lexeme line ≡ characters) × (after_lexeme line ≡ rest) = symbol-front line blanks characters rest symbol well are is ends e in
    rw (front.0, front.1) (is, others)

-- ---- from the length to the symbol

-- The first character of a lexeme is the text's first, and the others stand behind it.
lexeme-first : (c x : ℕ) (cs xs : List ℕ) → take (lexeme_length (c ∷ cs)) (c ∷ cs) ≡ x ∷ xs → (c ≡ x) × (take (length_behind c cs) cs ≡ xs)
lexeme-first c x cs xs e = let both : c ∷ take (length_behind c cs) cs ≡ x ∷ xs = rw one_more at e in (cc, cc)

-- what stands behind a run is no letter and no digit
run-ends : (text : List ℕ) → IsRun (take (lexeme_length text) text) → StopsBefore is_word_character (drop (lexeme_length text) text)
run-ends [] run = tt
run-ends (c ∷ cs) run =
    let shape : IsRun (c ∷ take (length_behind c cs) cs) = rw one_more at run in
    rw (one_more, shape.1) (rest-stops is_word_character cs)

-- what stands behind a text is no quote mark
text-ends : (text characters : List ℕ) → take (lexeme_length text) text ≡ text_literal characters → NoMarkFirst (drop (lexeme_length text) text)
text-ends [] characters e = tt
text-ends (c ∷ cs) characters e =
    let first : c ≡ 39 = (lexeme-first c 39 cs _ e).0 in
    rw (one_more, first) (behind_text-free cs)

-- A symbol that goes on with nothing ends before anything.
pub ends-never : (symbol : Symbol) (rest : List ℕ) → ((c : ℕ) → goes_on_with symbol c ≡ false) → EndsBefore symbol rest
ends-never symbol [] same = tt
ends-never symbol (c ∷ cs) same = same c

operator-ends-at : (symbol : Symbol) (first : ℕ) → ((c : ℕ) → is_operator first c ≡ false → goes_on_with symbol c ≡ false)
    → (c : ℕ) (cs : List ℕ) (b : Bool) → is_operator first c ≡ b → take (cond b 1 0) (c ∷ cs) ≡ []
    → EndsBefore symbol (drop (cond b 1 0) (c ∷ cs))
operator-ends-at symbol first same c cs true is e = cc
operator-ends-at symbol first same c cs false is e = same c is

-- An operator of one character ends before what makes no longer one of it.
operator-ends : (symbol : Symbol) (first : ℕ) → ((c : ℕ) → is_operator first c ≡ false → goes_on_with symbol c ≡ false)
    → (cs : List ℕ) → take (operator_length first cs) cs ≡ [] → EndsBefore symbol (drop (operator_length first cs) cs)
operator-ends symbol first same [] e = tt
operator-ends symbol first same (c ∷ cs) e = operator-ends-at symbol first same c cs (is_operator first c) refl e

sign-ends : (text : List ℕ) (mark : Mark) → take (lexeme_length text) text ≡ mark_text mark → EndsBefore (Sign mark) (drop (lexeme_length text) text)
sign-ends [] mark e = tt
sign-ends (c ∷ cs) (Operator op.Lt) e =
    let parts : (c ≡ 60) × (take (length_behind c cs) cs ≡ []) = lexeme-first c 60 cs [] e in
    rw (one_more, parts.0) (operator-ends (Sign (Operator op.Lt)) 60 (λ d no. (or_parts ((d == 61) || (d == 62)) false no).0) cs (rw parts.0 at parts.1))
sign-ends (c ∷ cs) (Operator op.Gt) e =
    let parts : (c ≡ 62) × (take (length_behind c cs) cs ≡ []) = lexeme-first c 62 cs [] e in
    rw (one_more, parts.0) (operator-ends (Sign (Operator op.Gt)) 62 (λ d no. no) cs (rw parts.0 at parts.1))
sign-ends text mark e = ends-never (Sign mark) _ (λ c. refl)

ends-word : (symbol : Symbol) (rest : List ℕ) → ((c : ℕ) → goes_on_with symbol c ≡ is_word_character c)
    → StopsBefore is_word_character rest → EndsBefore symbol rest
ends-word symbol [] same stops = tt
ends-word symbol (c ∷ cs) same stops = same c ∙ stops

ends-mark : (symbol : Symbol) (rest : List ℕ) → ((c : ℕ) → goes_on_with symbol c ≡ (c == 39)) → NoMarkFirst rest → EndsBefore symbol rest
ends-mark symbol [] same free = tt
ends-mark symbol (c ∷ cs) same free = same c ∙ free

shape-ends : (text : List ℕ) (symbol : Symbol) → HasShape (take (lexeme_length text) text) symbol → EndsBefore symbol (drop (lexeme_length text) text)
shape-ends text symbol (inl (run, same)) = ends-word symbol _ same (run-ends text run)
shape-ends text symbol (inr (inl (characters, e, same))) = ends-mark symbol _ same (text-ends text characters e)
shape-ends text symbol (inr (inr (mark, e, same))) = ends-alike symbol (Sign mark) _ same (sign-ends text mark e)

lexeme-ends : (line : List ℕ) (symbol : Symbol) → IsWellFormed symbol → IsSymbol (lexeme line) symbol → EndsBefore symbol (after_lexeme line)
unfolding lexeme after_lexeme
lexeme-ends line symbol well is = shape-ends (behind_blanks line) symbol (symbol-shape (lexeme line) symbol well is)

pub line-parts : (line : List ℕ) → line ≡ take (prefix_len is_blank line) line ++ (lexeme line ++ after_lexeme line)
unfolding lexeme after_lexeme
line-parts line = rw (take-append-drop (lexeme_length (behind_blanks line)) (behind_blanks line), take-append-drop (prefix_len is_blank line) line) refl

-- Law: where the lexeme is a symbol and others stand behind it, the line is made of them all.
pub made-from_lexeme : (line : List ℕ) (symbol : Symbol) (symbols : List Symbol) → IsWellFormed symbol
    → IsSymbol (lexeme line) symbol → IsMadeOf (after_lexeme line) symbols → IsMadeOf line (symbol ∷ symbols)
made-from_lexeme line symbol symbols well is others = (
  take (prefix_len is_blank line) line,
  lexeme line,
  after_lexeme line,
  front-passes is_blank line,
  is,
  lexeme-ends line symbol well is,
  others,
  line-parts line,
)

-- Law: a line has no lexeme where it has blanks alone.
pub blanks-no_lexeme : (line : List ℕ) → AreBlanks line → lexeme line ≡ []
unfolding lexeme
blanks-no_lexeme line are =
    let none : behind_blanks line ≡ [] = ap behind_blanks (sym (append-nil line)) ∙ behind_blanks-front line [] are tt in
    rw none refl

no_length : (text : List ℕ) → take (lexeme_length text) text ≡ [] → text ≡ []
no_length [] none = refl
no_length (c ∷ cs) none =
    let some : c ∷ take (length_behind c cs) cs ≡ [] = rw one_more at none in cc

pub no_lexeme-blanks : (line : List ℕ) → lexeme line ≡ [] → AreBlanks line
unfolding lexeme
no_lexeme-blanks line none =
    let text : behind_blanks line ≡ [] = no_length (behind_blanks line) none in
    let blanks : List ℕ = take (prefix_len is_blank line) line in
    let whole : blanks ≡ line = sym (append-nil blanks) ∙ (ap (λ rest. blanks ++ rest) (sym text) ∙ take-append-drop (prefix_len is_blank line) line) in
    subst AreBlanks whole (front-passes is_blank line)

-- A lexeme and what stands behind it are no longer than the line.
pub length-lexeme : (line : List ℕ) → length (lexeme line) + length (after_lexeme line) ≤ length line
length-lexeme line =
    let blanks : List ℕ = take (prefix_len is_blank line) line in
    let whole : length line ≡ length (blanks ++ (lexeme line ++ after_lexeme line)) = ap length (line-parts line) in
    omega (arith, length-append blanks (lexeme line ++ after_lexeme line), length-append (lexeme line) (after_lexeme line))
