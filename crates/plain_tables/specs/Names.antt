-- Words and names: what a command line may call tables and columns by.
use Rattle.std.specs.Prelude.{ℕ, List, [], ◌∷◌, Bool, false, ◌&&◌, ◌||◌, not, ◌==◌, nat_le, length, IsTrue}
use Rattle.std.specs.List.{list_any, list_all}
use Rattle.std.specs.Str.{bytes_eq}
use Rattle.std.specs.Char.{is_ascii_digit}
use lib.Chars.{codes}

-- a to z, A to Z, and _
abbrev pub is_letter : ℕ → Bool
is_letter c = (nat_le 97 c && nat_le c 122) || ((nat_le 65 c && nat_le c 90) || (c == 95))

-- a letter or a digit
abbrev pub is_word_character : ℕ → Bool
is_word_character c = is_letter c || is_ascii_digit c

-- A word begins with a letter and goes on with letters and digits.
abbrev pub is_word : List ℕ → Bool
is_word [] = false
is_word (c ∷ cs) = is_letter c && list_all is_word_character cs

-- the words that name no table and no column
abbrev pub reserved_words : List (List ℕ)
reserved_words =
    codes "and" ∷ codes "delete" ∷ codes "distinct" ∷ codes "drop" ∷ codes "dump" ∷ codes "from" ∷ codes "hash"
    ∷ codes "index" ∷ codes "insert" ∷ codes "int" ∷ codes "join" ∷ codes "load" ∷ codes "null" ∷ codes "on"
    ∷ codes "ref" ∷ codes "select" ∷ codes "set" ∷ codes "table" ∷ codes "tables" ∷ codes "text" ∷ codes "tree"
    ∷ codes "update" ∷ codes "where" ∷ []

-- whether a word is one of them
abbrev pub is_reserved : List ℕ → Bool
is_reserved word = list_any (bytes_eq word) reserved_words

-- A name is a word of at most 32 bytes that isn't reserved.
abbrev pub is_name : List ℕ → Bool
is_name word = is_word word && (nat_le (length word) 32 && not (is_reserved word))

abbrev pub IsName : List ℕ → Type 0
IsName word = IsTrue (is_name word)
