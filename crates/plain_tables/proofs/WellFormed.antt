-- Well-formed: the symbols of a command that can be spelled are, and so no line feed stands in a line that they make.
use Rattle.std.proofs.Common.{◌≢◌, ℕ, List, [], ◌∷◌, ◌++◌, ◌<◌, ◌^◌, IsTrue, refl}
use Rattle.std.specs.List.{AllByRecursion, Contains}
use Rattle.plain_tables.specs.Names.{is_word, IsName}
use Rattle.plain_tables.specs.Spelling.{Symbol, Keyword, Name, Literal, Count, Sign, symbols_of, is_blank, IsSymbol, IsMadeOf, IsSpellableValue, IsSpellable}
use Rattle.plain_tables.specs.declared.value.Value.TheVariants as value
use Rattle.plain_tables.specs.declared.command.Command.{Command}
use Rattle.plain_tables.proofs.Lexemes.{symbol-run}
use Rattle.plain_tables.proofs.EachSymbol.{command-each}
use Rattle.plain_tables.proofs.Separated.{all-append}
use Rattle.plain_tables.proofs.LineFeeds.{HasNoFeed, contains-feed, passing-no_feed, run-no_feed, mark-no_feed, literal-no_feed}

-- ---- symbols that can be spelled

-- A keyword is a word, a name is one, an integer has 64 bits, a text has no line feed, and a count is below 2^63.
abbrev pub IsSpellableSymbol : Symbol → Type 0
IsSpellableSymbol (Keyword word) = IsTrue (is_word word)
IsSpellableSymbol (Name name) = IsName name
IsSpellableSymbol (Literal v) = IsSpellableValue v
IsSpellableSymbol (Count n) = n < 2 ^ 63
IsSpellableSymbol (Sign mark) = Unit {0}

abbrev pub AreSpellableSymbols : List Symbol → Type 0
AreSpellableSymbols symbols = AllByRecursion IsSpellableSymbol symbols

-- Law: the symbols of a command that can be spelled can be.
pub command-spellable : (command : Command) → IsSpellable command → AreSpellableSymbols (symbols_of command)
command-spellable command is =
    command-each IsSpellableSymbol (IsSpellable command) (record { word = λ w is. is; sign = λ mark. tt; name = λ n of. of is; literal = λ v of. of is; count = λ n of. of is }) command (λ all. all)

-- ---- line feeds

pub symbol-no_feed : (characters : List ℕ) (symbol : Symbol) → IsSpellableSymbol symbol → IsSymbol characters symbol → HasNoFeed characters
symbol-no_feed characters (Sign mark) can is = rw is (mark-no_feed mark)
symbol-no_feed characters (Keyword word) can is = run-no_feed characters (symbol-run characters (Keyword word) tt can is)
symbol-no_feed characters (Literal (value.Text text)) can is = rw is (literal-no_feed text can)
symbol-no_feed characters symbol can is = run-no_feed characters (symbol-run characters symbol tt tt is)

made-no_feed : (symbols : List Symbol) → AreSpellableSymbols symbols → (line : List ℕ) → IsMadeOf line symbols → HasNoFeed line
made-no_feed [] can line made = passing-no_feed is_blank refl line made
made-no_feed (symbol ∷ symbols) can line (blanks, characters, rest, are, is, ends, others, e) =
    rw e (all-append (λ c. c ≢ 10) blanks (characters ++ rest) (passing-no_feed is_blank refl blanks are)
    (all-append (λ c. c ≢ 10) characters rest (symbol-no_feed characters symbol can.0 is) (made-no_feed symbols can.1 rest others)))

-- Law: a line that the symbols of a command make that can be spelled has no line feed.
pub made-no_line_feed : (command : Command) (line : List ℕ) → IsSpellable command → IsMadeOf line (symbols_of command) → ¬ (Contains line 10)
made-no_line_feed command line can made =
    contains-feed line (made-no_feed (symbols_of command) (command-spellable command can) line made)
