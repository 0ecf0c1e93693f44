-- Reading: where the symbols of a line end, computed from its front. Laws join this to the spelling.
use Rattle.std.specs.Prelude.{ℕ, ◌+◌, List, [], ◌∷◌, Bool, ◌&&◌, ◌||◌, ◌==◌, if◌then◌else◌, take, drop}
use Rattle.std.specs.List.{prefix_len}
use Rattle.plain_tables.specs.Names.{is_word_character}
use Rattle.plain_tables.specs.Spelling.{is_blank}

-- the line without the blanks at its front
abbrev pub behind_blanks : List ℕ → List ℕ
behind_blanks line = drop (prefix_len is_blank line) line

-- Words and numbers begin with a letter, a digit or a minus, and go on with all the letters and digits behind it.
abbrev pub begins_run : ℕ → Bool
begins_run c = is_word_character c || (c == 45)

-- How many characters a text has behind its first quote mark, with the mark that closes it. Two marks in a row stand for one
-- in the text. A text that no mark closes goes on to the end of the line.
abbrev pub text_length : List ℕ → ℕ
text_length [] = 0
text_length (c ∷ []) = 1
text_length (c ∷ d ∷ cs) = if c == 39 then (if d == 39 then 2 + text_length cs else 1) else 1 + text_length (d ∷ cs)

-- whether two characters are one operator: <=, <> or >=
abbrev pub is_operator : ℕ → ℕ → Bool
is_operator c d = (c == 60 && ((d == 61) || (d == 62))) || (c == 62 && (d == 61))

-- how many characters of an operator stand behind its first
abbrev pub operator_length : ℕ → List ℕ → ℕ
operator_length c [] = 0
operator_length c (d ∷ cs) = if is_operator c d then 1 else 0

-- how many characters of the first symbol stand behind its first character
abbrev pub length_behind : ℕ → List ℕ → ℕ
length_behind c cs =
    if begins_run c then prefix_len is_word_character cs
    else (if c == 39 then text_length cs else operator_length c cs)

-- how many characters the first symbol has of a text that begins with no blank
abbrev pub lexeme_length : List ℕ → ℕ
lexeme_length [] = 0
lexeme_length (c ∷ cs) = 1 + length_behind c cs

-- The lexeme of a line is its first symbol's characters. A line of blanks alone has none.
unfoldable pub lexeme : List ℕ → List ℕ
lexeme line = take (lexeme_length (behind_blanks line)) (behind_blanks line)

-- what stands behind the lexeme
unfoldable pub after_lexeme : List ℕ → List ℕ
after_lexeme line = drop (lexeme_length (behind_blanks line)) (behind_blanks line)
