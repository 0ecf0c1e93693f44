-- Spelled: a line spells a command where its lexemes are the command's symbols.
use Rattle.std.proofs.Common.{◌≡◌, ◌≢◌, ℕ, List, [], ◌∷◌, refl, sym, ◌∙◌, ap, subst}
use Rattle.std.specs.List.{AllByRecursion, Contains}
use Rattle.plain_tables.specs.Spelling.{Symbol, Keyword, symbols_of, IsMadeOf, Spells}
use Rattle.plain_tables.specs.Reading.{lexeme, after_lexeme}
use Rattle.plain_tables.specs.declared.command.Command.{Command}
use Rattle.plain_tables.specs.declared.command.Command.TheVariants.{Table, DropTable, Index, DropIndex, Insert, Update, Delete, Select, Load, Dump, Tables}
use Rattle.plain_tables.proofs.Lexemes.{IsWellFormed, lexeme-of_made, made-from_lexeme, blanks-no_lexeme, no_lexeme-blanks}
use Rattle.plain_tables.proofs.FirstWords.{first_word, behind_word, split-word}
use Rattle.plain_tables.proofs.EachSymbol.{HoldsOfSymbols, command-each}
use Rattle.mm_lang.specs.declared.parser.CommandWord.{CommandWord}
use Rattle.mm_lang.specs.declared.parser.CommandWord.TheVariants as word
use Rattle.mm_lang.specs.Parsing.{IsWhole, Completes}
use Rattle.mm_lang.specs.Words.{letters}

-- ---- symbols whose keywords are words

abbrev pub AreWellFormed : List Symbol → Type 0
AreWellFormed symbols = AllByRecursion IsWellFormed symbols

pub each-well : HoldsOfSymbols IsWellFormed ⊥
each-well = record { word = λ w is. is; sign = λ mark. tt; name = λ n is. tt; literal = λ v is. tt; count = λ n is. tt }

command-well : (command : Command) → AreWellFormed (symbols_of command)
command-well command = command-each IsWellFormed ⊥ each-well command (λ none. absurd none)

-- ---- the line by its lexemes

whole-made : (symbols : List Symbol) → AreWellFormed symbols → (line : List ℕ) → IsWhole line symbols → IsMadeOf line symbols
whole-made [] well line (rest, e, end) = no_lexeme-blanks line (ap lexeme e ∙ end)
whole-made (symbol ∷ symbols) well line (rest, (is, reads), end) =
    made-from_lexeme line symbol symbols well.0 is (whole-made symbols well.1 (after_lexeme line) (rest, reads, end))

made-whole : (symbols : List Symbol) → AreWellFormed symbols → (line : List ℕ) → IsMadeOf line symbols → IsWhole line symbols
made-whole [] well line made = (line, refl, blanks-no_lexeme line made)
made-whole (symbol ∷ symbols) well line made =
    let (is, others) = lexeme-of_made line symbol symbols well.0 made in
    let (rest, reads, end) = made-whole symbols well.1 (after_lexeme line) others in
    (rest, (is, reads), end)

-- ---- the whole line

pub spelled : (line word rest : List ℕ) (command : Command) → ¬ (Contains line 10) → lexeme line ≡ word → rest ≡ after_lexeme line
    → Completes word rest command → Spells line command
spelled line word rest command free e f completes =
    let (end, reads, ends) = completes.made in
    let whole : IsWhole line (Keyword word ∷ completes.symbols) = (end, (e, rw f at reads), ends) in
    (free, completes.some, whole-made (symbols_of command) (command-well command) line (rw completes.first whole))

-- A line that spells a command begins with the command's first word, and what follows it completes the command.
pub spelled-completes : (line : List ℕ) (command : Command) → Spells line command
    → (lexeme line ≡ first_word command) × Completes (first_word command) (after_lexeme line) command
spelled-completes line command spells =
    let split : symbols_of command ≡ Keyword (first_word command) ∷ behind_word command = (split-word command).0 in
    let (rest, (word, reads), end) = rw split at (made-whole (symbols_of command) (command-well command) line spells.2) in
    (word, record { some = spells.1; symbols = behind_word command; first = split; made = (rest, reads, end) })

pub not-spelled : (line word rest : List ℕ) → lexeme line ≡ word → rest ≡ after_lexeme line
    → ((command : Command) → Completes word rest command → ⊥) → (command : Command) → Spells line command → ⊥
not-spelled line word rest e f not command spells =
    let (first, completes) = spelled-completes line command spells in
    not command (subst (λ w. Completes w rest command) (sym first ∙ e) (rw f completes))

-- each command begins with one of the words
pub word-of : (command : Command) → (w : CommandWord) × (first_word command ≡ letters w)
word-of (Table name schema) = (word.Table, refl)
word-of (DropTable t) = (word.Drop, refl)
word-of (Index t c k) = (word.Index, refl)
word-of (DropIndex t c k) = (word.Drop, refl)
word-of (Insert t values) = (word.Insert, refl)
word-of (Update t settings conditions) = (word.Update, refl)
word-of (Delete t conditions) = (word.Delete, refl)
word-of (Select distinct items t joins conditions) = (word.Select, refl)
word-of (Load t bytes) = (word.Load, refl)
word-of (Dump t) = (word.Dump, refl)
word-of Tables = (word.Tables, refl)

pub unknown-word : (line : List ℕ) → ((w : CommandWord) → lexeme line ≢ letters w) → (command : Command) → Spells line command → ⊥
unknown-word line unknown command spells =
    let of = word-of command in
    unknown of.0 ((spelled-completes line command spells).0 ∙ of.1)
