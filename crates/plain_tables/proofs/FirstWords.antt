-- First words: each command has a keyword in front.
use Rattle.std.proofs.Common.{◌≡◌, ◌≢◌, ℕ, List, [], ◌∷◌, ◌++◌, Bool, true, false, refl, append_assoc, subst, IsTrue}
use Rattle.std.specs.List.{flat_map}
use Rattle.std.specs.Str.{bytes_eq}
use Rattle.std.proofs.lemmas.Slice.Eq.{bytes_eq-Decides}
use lib.Chars.{codes}
use Rattle.plain_tables.specs.Names.{is_word}
use Rattle.plain_tables.specs.Spelling.{Symbol, Keyword, Name, symbols_of, items_symbols, distinct_symbols, join_symbols, where_symbols, IsMadeOf, NamesSomething, Spells}
use Rattle.plain_tables.specs.Reading.{lexeme, after_lexeme}
use Rattle.plain_tables.specs.ResolvedLaws.{NamesItems}
use Rattle.plain_tables.specs.declared.condition.Cond.{Cond}
use Rattle.plain_tables.specs.declared.command.Join.{Join}
use Rattle.plain_tables.specs.declared.command.Items.{Items}
use Rattle.plain_tables.specs.declared.command.Items.TheVariants as items
use Rattle.plain_tables.specs.declared.command.Command.{Command}
use Rattle.plain_tables.specs.declared.command.Command.TheVariants.{Select}
use Rattle.plain_tables.proofs.Lexemes.{lexeme-of_made}

-- Words that a comparison tells apart are different.
pub different : (word other : List ℕ) → bytes_eq word other ≡ false → word ≢ other
different word other test e = let same : bytes_eq word other ≡ true = (bytes_eq-Decides word other).1 e in cc

-- the word of the first symbol, and the symbols behind it
abbrev word_in_front : List Symbol → List ℕ
word_in_front (Keyword word ∷ symbols) = word
word_in_front symbols = []

abbrev behind_front : List Symbol → List Symbol
behind_front [] = []
behind_front (symbol ∷ symbols) = symbols

abbrev pub first_word : Command → List ℕ
first_word command = word_in_front (symbols_of command)

-- from NAME {join ..} [where ..]
abbrev pub from_symbols : List ℕ → List Join → List Cond → List Symbol
from_symbols table joins conditions =
    Keyword (codes "from") ∷ Name table ∷ (flat_map join_symbols joins ++ where_symbols conditions)

abbrev pub behind_word : Command → List Symbol
behind_word (Select distinct items table joins conditions) =
    distinct_symbols distinct ++ (items_symbols items ++ from_symbols table joins conditions)
behind_word other = behind_front (symbols_of other)

pub split-word : (command : Command) → (symbols_of command ≡ Keyword (first_word command) ∷ behind_word command) × IsTrue (is_word (first_word command))
split-word (Select distinct items table joins conditions) = (simp append_assoc, refl)
split-word other = (refl, refl)

pub select-items : (distinct : Bool) (i : Items) (table : List ℕ) (joins : List Join) (conditions : List Cond)
    → NamesSomething (Select distinct i table joins conditions) → NamesItems i
select-items distinct items.All table joins conditions some = tt
select-items distinct (items.Named names) table joins conditions some = some

-- A line that spells a command begins with the command's first word, and what follows makes up the rest of it.
pub spells-word : (line : List ℕ) (command : Command) → Spells line command
    → (lexeme line ≡ first_word command) × IsMadeOf (after_lexeme line) (behind_word command)
spells-word line command spells =
    let word : List ℕ = first_word command in
    let split : (symbols_of command ≡ Keyword word ∷ behind_word command) × IsTrue (is_word word) = split-word command in
    let all : IsMadeOf line (Keyword word ∷ behind_word command) = subst (λ ss. IsMadeOf line ss) split.0 spells.2 in
    lexeme-of_made line (Keyword word) (behind_word command) split.1 all
