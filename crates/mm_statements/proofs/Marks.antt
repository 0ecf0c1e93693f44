-- Marks: lines that spell statements have no line feed, and are not silent.
use Rattle.std.proofs.Common.{◌≡◌, ℕ, ◌-◌, ◌<◌, Bool, true, false, not, List, [], ◌∷◌, ◌++◌, length, take, get_or, refl, sym, ◌∙◌, subst, ⊎_elim, arith}
use Rattle.std.specs.Prelude.{◌==◌, ◌&&◌, slice_index}
use Rattle.std.specs.List.{Contains}
use Rattle.std.proofs.lemmas.Bool.{cases_eq, false≢true, eqb-true}
use Rattle.std.proofs.lemmas.List.{get_or_default, get_or-take, length-take-le}
use Rattle.std.proofs.lemmas.List.FromFn.{length-map-range_with_len}
use Rattle.plain_tables.specs.Spelling.{IsMadeOf, Keyword, Spells, Symbol, is_blank}
use Rattle.plain_tables.specs.declared.value.Value.{Value}
use Rattle.plain_tables.specs.declared.command.Command.{Command}
use Rattle.plain_tables.proofs.FirstWords.{behind_word, first_word, split-word}
use Rattle.plain_tables.proofs.LineFeeds.{HasNoFeed, contains-feed, contains-no_feed}
use Rattle.plain_tables.proofs.Separated.{all-right}
use Rattle.plain_streams.specs.Requests.{is_silent, without_return}
use Rattle.plain_statements.specs.declared.statement.Statement.{Statement}
use Rattle.plain_statements.specs.declared.statement.Statement.TheVariants as statement
use Rattle.plain_statements.specs.Filling.{filled}
use Rattle.plain_statements.specs.StatementSpelling.{SpellsStatement, literal_apart, marks, written, written_within}
use Rattle.plain_statements.proofs.Holes.{all-spellable, null_at, values_by}
use Rattle.mm_session.proofs.Asks.{silent-behind}

-- so many nulls
abbrev pub nulls : ℕ → List Value
nulls n = values_by null_at n

-- the command with nulls in its holes, and its line
pub spelled-null : (line : List ℕ) (s : Statement) → SpellsStatement line s
    → Spells (written (nulls (marks line)) line) (filled (nulls (marks line)) s)
spelled-null line s spells =
    spells.1 (nulls (marks line)) (length-map-range_with_len null_at 0 (marks line)) (all-spellable null_at (λ n. tt) 0 (marks line))

-- ---- line feeds

feed-cases : (a b : Bool) (quoted : Bool) (v : Value) (values : List Value) (c : ℕ) (cs : List ℕ) → (c == 39) ≡ a
    → ((c == 63) && not quoted) ≡ b → ((q : Bool) (vs : List Value) → HasNoFeed (written_within q vs cs) → HasNoFeed cs)
    → HasNoFeed (written_within quoted (v ∷ values) (c ∷ cs)) → HasNoFeed (c ∷ cs)
feed-cases true b quoted v values c cs quote mark others free =
    let all : HasNoFeed (c ∷ written_within (not quoted) (v ∷ values) cs) = rw quote at free in
    (all.0, others (not quoted) (v ∷ values) all.1)
feed-cases false true quoted v values c cs quote mark others free =
    let all : HasNoFeed (literal_apart v ++ written_within quoted values cs) = rw (quote, mark) at free in (
      (λ e. false≢true (subst (λ k. ((k == 63) && not quoted) ≡ true) e mark)),
      others quoted values (all-right (λ k. k ≡ 10 → ⊥) (literal_apart v) (written_within quoted values cs) all),
    )
feed-cases false false quoted v values c cs quote mark others free =
    let all : HasNoFeed (c ∷ written_within quoted (v ∷ values) cs) = rw (quote, mark) at free in
    (all.0, others quoted (v ∷ values) all.1)

-- A line has no line feed where it has none with values written for its question marks.
written-feed : (quoted : Bool) (values : List Value) (line : List ℕ) → HasNoFeed (written_within quoted values line) → HasNoFeed line
written-feed quoted values [] free = tt
written-feed quoted [] (c ∷ cs) free = free
written-feed quoted (v ∷ values) (c ∷ cs) free =
    feed-cases (c == 39) ((c == 63) && not quoted) quoted v values c cs refl refl (λ q vs. written-feed q vs cs) free

pub spelled-unbroken : (line : List ℕ) (s : Statement) → SpellsStatement line s → ¬ (Contains line 10)
spelled-unbroken line s spells =
    let all : List ℕ = written (nulls (marks line)) line in
    contains-feed line (written-feed false (nulls (marks line)) line (contains-no_feed all (spelled-null line s spells).0))

-- ---- silent lines

blank-plain : (c : ℕ) (b : Bool) → (c == 32) ≡ b → is_blank c ≡ true → ((c == 39) ≡ false) × ((c == 63) ≡ false)
blank-plain c true is blank = let same : c ≡ 32 = eqb-true c 32 is in rw same (refl, refl)
blank-plain c false is blank =
    let tab : (c == 9) ≡ true = rw is at blank in
    let same : c ≡ 9 = eqb-true c 9 tab in rw same (refl, refl)

silent-cases : (b : Bool) (v : Value) (values : List Value) (c : ℕ) (cs : List ℕ) → is_blank c ≡ b
    → (is_silent cs ≡ true → is_silent (written_within false (v ∷ values) cs) ≡ true)
    → is_silent (c ∷ cs) ≡ true → is_silent (written_within false (v ∷ values) (c ∷ cs)) ≡ true
silent-cases true v values c cs blank others silent =
    let plain = blank-plain c (c == 32) refl blank in
    let rest : is_silent cs ≡ true = rw blank at silent in
    rw (plain.0, plain.1, blank) (others rest)
silent-cases false v values c cs other others silent =
    let hash : (c == 35) ≡ true = rw other at silent in
    rw (eqb-true c 35 hash) refl

-- a silent line stays silent with values written for its question marks
written-silent : (values : List Value) (line : List ℕ) → is_silent line ≡ true → is_silent (written_within false values line) ≡ true
written-silent values [] silent = silent
written-silent [] (c ∷ cs) silent = silent
written-silent (v ∷ values) (c ∷ cs) silent = silent-cases (is_blank c) v values c cs refl (written-silent (v ∷ values) cs) silent

word-heard : (line word : List ℕ) (symbols : List Symbol) → ((rest : List ℕ) → is_silent (word ++ rest) ≡ false)
    → IsMadeOf line (Keyword word ∷ symbols) → is_silent line ≡ false
word-heard line word symbols heard made =
    let (blanks, characters, rest, are, is, ends, others, whole) = made in
    let begins : line ≡ blanks ++ (word ++ rest) = rw is at whole in
    rw begins (silent-behind blanks (word ++ rest) are ∙ heard rest)

first-heard : (values : List Value) (s : Statement) (rest : List ℕ) → is_silent (first_word (filled values s) ++ rest) ≡ false
first-heard values (statement.Insert table slots) rest = refl
first-heard values other rest = refl

pub statement-heard : (line : List ℕ) (values : List Value) (s : Statement) → Spells line (filled values s) → is_silent line ≡ false
statement-heard line values s spells =
    let c : Command = filled values s in
    word-heard line (first_word c) (behind_word c) (first-heard values s) (subst (λ ss. IsMadeOf line ss) (split-word c).0 spells.2)

pub silent-none : (line : List ℕ) → is_silent line ≡ true → (s : Statement) → ¬ (SpellsStatement line s)
silent-none line silent s spells =
    let values : List Value = nulls (marks line) in
    let heard : is_silent (written values line) ≡ false = statement-heard (written values line) values s (spelled-null line s spells) in
    false≢true (sym heard ∙ written-silent values line silent)

-- ---- carriage returns

-- a line has no line feed where it has none without its carriage return
pub return-unbroken : (line : List ℕ) → ¬ (Contains (without_return line) 10) → ¬ (Contains line 10)
return-unbroken line free = by_last (slice_index line (length line - 1) == 13) refl
  where
    by_last : (b : Bool) → (slice_index line (length line - 1) == 13) ≡ b → ¬ (Contains line 10)
    by_last false other =
        let whole : without_return line ≡ line = rw other refl in
        subst (λ l. ¬ (Contains l 10)) whole free
    by_last true cr = λ found.
        let k : ℕ = found.0 in
        let last : ℕ = length line - 1 in
        let within : k < length line = found.1 in
        let short : without_return line ≡ take last line = rw cr refl in
        let ends : slice_index line last ≡ 13 = eqb-true (slice_index line last) 13 cr in
        ⊎_elim
        (λ same.
        let here : get_or line last 10 ≡ 10 = rw same at found.2 in
        let feed : slice_index line last ≡ 10 = get_or_default line last 0 10 (omega arith) ∙ here in
        omega arith)
        (λ apart.
        let before : k < last = omega arith in
        let there : Contains (take last line) 10 = (k, rw (length-take-le last line (omega arith)) before, get_or-take last line k 10 before ∙ found.2) in
        free (subst (λ l. Contains l 10) (sym short) there))
        (cases_eq k last)
