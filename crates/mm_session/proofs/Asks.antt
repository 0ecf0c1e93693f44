-- Which lines ask for a block, and which blocks they have.
use Rattle.std.proofs.Common.{◌≡◌, ℕ, ◌<◌, ◌≤◌, false, List, [], ◌∷◌, ◌++◌, length, Option, Some, None, refl, sym, ◌∙◌, arith}
use Rattle.std.specs.Prelude.{MatchOption, unwrap_or}
use lib.Chars.{codes}
use Rattle.plain_tables.specs.Spelling.{Spells, AreBlanks}
use Rattle.plain_tables.specs.declared.command.Command.TheVariants.{Load}
use Rattle.plain_tables.specs.declared.command.Limits.{Limits}
use Rattle.plain_streams.specs.Requests.{Request, IsReadable, Asks, without_return, is_silent}
use Rattle.plain_streams.specs.Runs.{HasBlock}
use Rattle.plain_streams.proofs.Asking.{asks_one}
use Rattle.mm_session.specs.Judging.{IsJudged}
use Rattle.mm_session.specs.declared.stream.lines.Judged.TheVariants.{TooLong, NotUtf8, Silent, Text}

-- whether a line asks for a block, and for how long a one
abbrev pub AsksAs : List ℕ → Option ℕ → Type 0
AsksAs line length = MatchOption length ((n : ℕ) → ¬ (Asks line n)) (λ n. Asks line n)

-- a line that can be read asks for what it spells
pub asks-spelled : (line : List ℕ) (length : Option ℕ) → IsReadable (without_return line)
    → MatchOption length ((n : ℕ) (table : List ℕ) → ¬ (Spells (without_return line) (Load table n))) (λ n. (table : List ℕ) × Spells (without_return line) (Load table n))
    → AsksAs line length
asks-spelled line None readable none = λ n asks. none n asks.1.0 asks.1.1
asks-spelled line (Some n) readable spells = (readable, spells)

-- ---- a load is no silent line

pub silent-behind : (blanks more : List ℕ) → AreBlanks blanks → is_silent (blanks ++ more) ≡ is_silent more
silent-behind [] more are = refl
silent-behind (b ∷ blanks) more are = rw are.0 (silent-behind blanks more are.1)

load-heard : (line table : List ℕ) (n : ℕ) → Spells line (Load table n) → is_silent line ≡ false
load-heard line table n spells =
    let (blanks, word, rest, are, is, ends, others, whole) = spells.2 in
    let begins : line ≡ blanks ++ (codes "load" ++ rest) = rw is at whole in
    rw begins (silent-behind blanks (codes "load" ++ rest) are)

pub asks-heard : (line : List ℕ) (n : ℕ) → Asks line n → is_silent (without_return line) ≡ false
asks-heard line n asks = load-heard (without_return line) asks.1.0 n asks.1.1

-- ---- lines that were judged

-- a line that was judged a text asks for what that spells
pub asks-judged : (line text : List ℕ) (length : Option ℕ) → IsJudged line (Text text)
    → MatchOption length ((n : ℕ) (table : List ℕ) → ¬ (Spells text (Load table n))) (λ n. (table : List ℕ) × Spells text (Load table n))
    → AsksAs line length
asks-judged line text length (readable, heard, same) spells = asks-spelled line length readable (rw same at spells)

-- any other asks for no block
pub unasked-too_long : (line : List ℕ) → IsJudged line TooLong → (n : ℕ) → ¬ (Asks line n)
unasked-too_long line long n asks = let short = asks.0.short in omega arith

pub unasked-not_utf8 : (line : List ℕ) → IsJudged line NotUtf8 → (n : ℕ) → ¬ (Asks line n)
unasked-not_utf8 line (short, bad) n asks = bad asks.0.utf8

pub unasked-silent : (line : List ℕ) → IsJudged line Silent → (n : ℕ) → ¬ (Asks line n)
unasked-silent line (readable, silent) n asks = let heard = asks-heard line n asks in cc

-- ---- blocks

-- a line that asks for no block has the one that is empty
pub has_block-unasked : (limits : Limits) (request : Request) → ((n : ℕ) → ¬ (Asks request.line n)) → HasBlock limits request
has_block-unasked limits request none n asks = absurd (none n asks)

-- a block of the length that the line asks for
pub has_block-asked : (limits : Limits) (request : Request) (n : ℕ) → Asks request.line n → n ≤ limits.block → length request.block ≡ n
    → HasBlock limits request
has_block-asked limits request n asks within size m also = let same : n ≡ m = asks_one request.line n m asks also in (rw (← same) within, size ∙ same)

-- a line that asks for no bytes has the empty block, however it is asked
pub has_block-empty : (limits : Limits) (line : List ℕ) (length : Option ℕ) → AsksAs line length → unwrap_or length 0 ≡ 0
    → HasBlock limits (record { line = line; block = [] })
has_block-empty limits line None none is = has_block-unasked limits (record { line = line; block = [] }) none
has_block-empty limits line (Some n) asks is = has_block-asked limits (record { line = line; block = [] }) n asks (omega arith) (sym is)

pub asks-some : (line : List ℕ) (length : Option ℕ) → AsksAs line length → 0 < unwrap_or length 0 → Asks line (unwrap_or length 0)
asks-some line None none more = absurd (omega arith)
asks-some line (Some n) asks more = asks
