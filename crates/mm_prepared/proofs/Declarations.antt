-- Declaring: the lines that declare or drop a table begin with one of two words.
use Rattle.std.proofs.Common.{◌≡◌, ℕ, ◌-◌, Bool, true, false, cond, ◌||◌, List, [], ◌∷◌, ◌++◌, length, take, drop, refl, sym, ap, subst, ◌∙◌, append_assoc, append-nil}
use Rattle.std.specs.Prelude.{◌==◌, nat_eq, slice_index}
use Rattle.std.specs.List.{starts_with}
use Rattle.std.proofs.lemmas.Bool.{false≢true}
use Rattle.std.proofs.lemmas.List.{take-append-drop}
use lib.Chars.{codes}
use Rattle.plain_tables.specs.Spelling.{AreBlanks, IsMadeOf, Keyword, Symbol}
use Rattle.plain_tables.specs.declared.command.Command.{Command}
use Rattle.plain_tables.specs.declared.command.Command.TheVariants as command
use Rattle.plain_tables.proofs.FirstWords.{behind_word, first_word, split-word}
use Rattle.plain_streams.specs.Requests.{without_return}
use Rattle.mm_prepared.specs.Declaring.{IsOfTables, behind_blanks, declares}

-- whether a text begins with a word
abbrev pub begins : List ℕ → List ℕ → Bool
begins text word = starts_with nat_eq text word

behind-blanks : (blanks more : List ℕ) → AreBlanks blanks → behind_blanks (blanks ++ more) ≡ behind_blanks more
behind-blanks [] more are = refl
behind-blanks (b ∷ blanks) more are = rw are.0 (behind-blanks blanks more are.1)

return-front : (line : List ℕ) → (tail : List ℕ) × (line ≡ without_return line ++ tail)
return-front line =
    let last : ℕ = length line - 1 in
    elim (slice_index line last == 13) as (λ b. (tail : List ℕ) × (line ≡ cond b (take last line) line ++ tail)) [
      | true ↦ (drop last line, sym (take-append-drop last line))
      | false ↦ ([], sym (append-nil line))
    ]

-- the word stands behind the line's blanks
word-behind : (line word : List ℕ) (symbols : List Symbol) → ((more : List ℕ) → behind_blanks (word ++ more) ≡ word ++ more)
    → IsMadeOf (without_return line) (Keyword word ∷ symbols) → (more : List ℕ) × (behind_blanks line ≡ word ++ more)
word-behind line word symbols plain made =
    let (blanks, characters, rest, are, is, ends, others, whole) = made in
    let (tail, front) = return-front line in
    let text : without_return line ≡ blanks ++ (word ++ rest) = rw is at whole in
    let more : List ℕ = rest ++ tail in
    let all : line ≡ blanks ++ (word ++ more) =
    front ∙ (ap (λ l. l ++ tail) text ∙ (append_assoc blanks (word ++ rest) tail ∙ ap (λ l. blanks ++ l) (append_assoc word rest tail))) in
    (more, ap behind_blanks all ∙ (behind-blanks blanks (word ++ more) are ∙ plain more))

-- whether a text begins with one of the two words
abbrev pub begins_so : List ℕ → Bool
begins_so text = begins text (codes "table") || begins text (codes "drop")

plain-word : (c : Command) (more : List ℕ) → behind_blanks (first_word c ++ more) ≡ first_word c ++ more
plain-word command.Tables more = refl
plain-word other more = refl

word-begins : (c : Command) (more : List ℕ) → declares c ≡ true → begins_so (first_word c ++ more) ≡ true
word-begins (command.Table name schema) more of = refl
word-begins (command.DropTable name) more of = refl
word-begins c more of = absurd (false≢true of)

pub tables-begin : (line : List ℕ) → IsOfTables (without_return line) → begins_so (behind_blanks line) ≡ true
tables-begin line (c, spells, of) =
    let made : IsMadeOf (without_return line) (Keyword (first_word c) ∷ behind_word c) =
    subst (λ ss. IsMadeOf (without_return line) ss) (split-word c).0 spells.2 in
    let (more, is) = word-behind line (first_word c) (behind_word c) (plain-word c) made in
    ap begins_so is ∙ word-begins c more of

pub last-begins : (a d : Bool) → (a || d) ≡ true → a ≡ false → d ≡ true
last-begins true d is none = absurd (false≢true (sym none))
last-begins false d is none = is
