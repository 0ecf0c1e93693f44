-- Lists: two lists of items at the front of a line are one, and one rest follows them.
use Rattle.std.proofs.Common.{◌≡◌, ℕ, ◌<◌, List, [], ◌∷◌, ◌++◌, length, map, true, false, refl, sym, ◌∙◌, arith, subst}
use Rattle.std.specs.Str.{bytes_eq}
use lib.Chars.{codes}
use Rattle.plain_tables.specs.Names.{is_word, is_name, IsName}
use Rattle.plain_tables.specs.Spelling.{Mark, Dot, mark_text, Symbol, Keyword, Name, Sign, separated_by, IsSymbol, IsMadeOf}
use Rattle.plain_tables.specs.Reading.{lexeme, after_lexeme}
use Rattle.plain_tables.proofs.Lexemes.{IsWellFormed, lexeme-of_made, blanks-no_lexeme}
use Rattle.plain_tables.proofs.Separated.{separated_by-more}
use Rattle.plain_tables.proofs.FirstWords.{different}

-- ---- what never begins what

-- No line is made both of that symbol, whatever follows it, and of the others.
abbrev pub NeverBegins : Symbol → List Symbol → Type 0
NeverBegins symbol others = (line : List ℕ) (more : List Symbol) → IsMadeOf line (symbol ∷ more) → IsMadeOf line others → ⊥

-- the one spelling of a sign or of a word of the grammar
abbrev pub IsFixed : Symbol → List ℕ → Type 0
IsFixed symbol text = IsWellFormed symbol × ((characters : List ℕ) → IsSymbol characters symbol → characters ≡ text)

pub sign-fixed : (mark : Mark) → IsFixed (Sign mark) (mark_text mark)
sign-fixed mark = (tt, λ characters is. is)

pub word-fixed : (word : List ℕ) → is_word word ≡ true → IsFixed (Keyword word) word
word-fixed word is = (is, λ characters same. same)

pub fixed-no_fixed : (symbol other : Symbol) (text text' : List ℕ) → IsFixed symbol text → IsFixed other text'
    → bytes_eq text text' ≡ false → (others : List Symbol) → NeverBegins symbol (other ∷ others)
fixed-no_fixed symbol other text text' fixed fixed' not others line more made made' =
    let first : lexeme line ≡ text = fixed.1 (lexeme line) (lexeme-of_made line symbol more fixed.0 made).0 in
    let second : lexeme line ≡ text' = fixed'.1 (lexeme line) (lexeme-of_made line other others fixed'.0 made').0 in
    different text text' not (sym first ∙ second)

pub fixed-no_end : (symbol : Symbol) (text : List ℕ) → IsFixed symbol text → bytes_eq text [] ≡ false → NeverBegins symbol []
fixed-no_end symbol text fixed not line more made blanks =
    let first : lexeme line ≡ text = fixed.1 (lexeme line) (lexeme-of_made line symbol more fixed.0 made).0 in
    different text [] not (sym first ∙ blanks-no_lexeme line blanks)

-- A fixed symbol that isn't a name begins no name.
pub fixed-no_name : (symbol : Symbol) (text : List ℕ) → IsFixed symbol text → is_name text ≡ false → (name : List ℕ) (more : List Symbol)
    → NeverBegins symbol (Name name ∷ more)
fixed-no_name symbol text fixed not name more line others made made' =
    let first : lexeme line ≡ text = fixed.1 (lexeme line) (lexeme-of_made line symbol others fixed.0 made).0 in
    let is : IsSymbol (lexeme line) (Name name) = (lexeme-of_made line (Name name) more tt made').0 in
    let word : is_name text ≡ true = subst IsName (sym is.0 ∙ first) is.1 in cc

-- ---- items, one after another

-- Both symbols make up a line, and one rest follows them.
abbrev pub HaveOneRest : List Symbol → List Symbol → Type 0
HaveOneRest m n = (rest : List ℕ) × IsMadeOf rest m × IsMadeOf rest n

-- Neither a dot nor a null stands behind an item: the one would go on with a column's name, the other with a reference.
pub record EndsItem (more : List Symbol) : Type 0 where
  pub no_dot : NeverBegins (Sign Dot) more
  pub no_null : NeverBegins (Keyword (codes "null")) more

-- a fixed symbol that is neither
pub fixed-ends_item : (symbol : Symbol) (text : List ℕ) → IsFixed symbol text → bytes_eq (codes ".") text ≡ false
    → bytes_eq (codes "null") text ≡ false → (more : List Symbol) → EndsItem (symbol ∷ more)
fixed-ends_item symbol text fixed no_dot no_null more = record {
  no_dot = fixed-no_fixed (Sign Dot) symbol (codes ".") text (sign-fixed Dot) fixed no_dot more;
  no_null = fixed-no_fixed (Keyword (codes "null")) symbol (codes "null") text (word-fixed (codes "null") refl) fixed no_null more;
}

-- the end of the line
pub nothing-ends_item : EndsItem []
nothing-ends_item = record {
  no_dot = fixed-no_end (Sign Dot) (codes ".") (sign-fixed Dot) refl;
  no_null = fixed-no_end (Keyword (codes "null")) (codes "null") (word-fixed (codes "null") refl) refl;
}

-- Two items at the front of a line that end there are one, and one rest follows them.
abbrev pub IsOneItem : {X : Type 0} → (X → List Symbol) → Type 0
IsOneItem {X} symbols = (line : List ℕ) (x y : X) (m n : List Symbol) → EndsItem m → EndsItem n
    → IsMadeOf line (symbols x ++ m) → IsMadeOf line (symbols y ++ n) → (x ≡ y) × HaveOneRest m n

-- What stands between items is a fixed symbol that ends an item.
pub record IsBetween (between : Symbol) : Type 0 where
  pub well : IsWellFormed between
  pub ends_item : (more : List Symbol) → EndsItem (between ∷ more)

-- What follows a list ends an item, and no further item follows.
pub record Ends (between : Symbol) (more : List Symbol) : Type 0 where
  pub ends_item : EndsItem more
  pub no_more : NeverBegins between more

-- the symbols of a list, and what follows it
abbrev pub list_and : {X : Type 0} → Symbol → (X → List Symbol) → List X → List Symbol → List Symbol
list_and between symbols xs more = separated_by between (map symbols xs) ++ more

pub made-more : {X : Type 0} (between : Symbol) (symbols : X → List Symbol) (line : List ℕ) (x y : X) (xs : List X) (more : List Symbol)
    → IsMadeOf line (list_and between symbols (x ∷ y ∷ xs) more) → IsMadeOf line (symbols x ++ (between ∷ list_and between symbols (y ∷ xs) more))
made-more between symbols line x y xs more made =
    subst (λ ss. IsMadeOf line ss) (separated_by-more between symbols x y xs more) made

-- Law: two lists at the front of a line are one, and one rest follows them.
pub list-one : {X : Type 0} (between : Symbol) (symbols : X → List Symbol) → IsBetween between → IsOneItem symbols
    → (line : List ℕ) (xs ys : List X) (m n : List Symbol) → 0 < length xs → 0 < length ys → Ends between m → Ends between n
    → IsMadeOf line (list_and between symbols xs m) → IsMadeOf line (list_and between symbols ys n) → (xs ≡ ys) × HaveOneRest m n
list-one between symbols is one line [] ys m n some some' ends ends' made made' = absurd (omega arith)
list-one between symbols is one line (x ∷ xs) [] m n some some' ends ends' made made' = absurd (omega arith)
list-one between symbols is one line (x ∷ []) (y ∷ []) m n some some' ends ends' made made' =
    let both = one line x y m n ends.ends_item ends'.ends_item made made' in
    ((λ i. both.0 i ∷ []), both.1)
list-one between symbols is one line (x ∷ []) (y ∷ z ∷ ys) m n some some' ends ends' made made' =
    let more : List Symbol = list_and between symbols (z ∷ ys) n in
    let both = one line x y m (between ∷ more) ends.ends_item (is.ends_item more) made (made-more between symbols line y z ys n made') in
    absurd (ends.no_more both.1.0 more both.1.2 both.1.1)
list-one between symbols is one line (x ∷ z ∷ xs) (y ∷ []) m n some some' ends ends' made made' =
    let more : List Symbol = list_and between symbols (z ∷ xs) m in
    let both = one line x y (between ∷ more) n (is.ends_item more) ends'.ends_item (made-more between symbols line x z xs m made) made' in
    absurd (ends'.no_more both.1.0 more both.1.1 both.1.2)
list-one between symbols is one line (x ∷ z ∷ xs) (y ∷ w ∷ ys) m n some some' ends ends' made made' =
    let more : List Symbol = list_and between symbols (z ∷ xs) m in
    let more' : List Symbol = list_and between symbols (w ∷ ys) n in
    let both = one line x y (between ∷ more) (between ∷ more') (is.ends_item more) (is.ends_item more')
    (made-more between symbols line x z xs m made) (made-more between symbols line y w ys n made') in
    let others = list-one between symbols is one (after_lexeme both.1.0) (z ∷ xs) (w ∷ ys) m n (omega arith) (omega arith) ends ends'
    (lexeme-of_made both.1.0 between more is.well both.1.1).1 (lexeme-of_made both.1.0 between more' is.well both.1.2).1 in
    ((λ i. both.0 i ∷ others.0 i), others.1)
