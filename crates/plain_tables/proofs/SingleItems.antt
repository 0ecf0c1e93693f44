-- Single items: two names, values, columns, settings, conditions, joins or indexes at the front of a line are one.
use Rattle.std.proofs.Common.{◌≡◌, ℕ, List, [], ◌∷◌, ◌++◌, map, Option, Some, None, false, refl, sym, ◌∙◌, ap, append_assoc, append-nil, subst}
use Rattle.std.specs.List.{flat_map}
use Rattle.std.specs.Str.{bytes_eq}
use lib.Chars.{codes}
use Rattle.plain_tables.specs.Spelling.{Dot, Symbol, Keyword, Name, Literal, Count, Sign, Operator, operator_text, separated_by, side_symbols, joined_symbols, join_symbols, kind_symbols, column_symbols, index_word, index_symbols, value_symbols, name_symbols, setting_symbols, condition_symbols, IsSymbol, IsMadeOf}
use Rattle.plain_tables.specs.Reading.{lexeme, after_lexeme}
use Rattle.plain_tables.specs.declared.value.Value.{Value}
use Rattle.plain_tables.specs.declared.schema.ColKind.{ColKind}
use Rattle.plain_tables.specs.declared.schema.ColKind.TheVariants as kind
use Rattle.plain_tables.specs.declared.schema.IndexKind.{IndexKind}
use Rattle.plain_tables.specs.declared.schema.IndexKind.TheVariants as index
use Rattle.plain_tables.specs.declared.condition.Op.{Op}
use Rattle.plain_tables.specs.declared.condition.Op.TheVariants as op
use Rattle.plain_tables.specs.declared.condition.Cond.{Cond}
use Rattle.plain_tables.specs.declared.command.Join.{Join}
use Rattle.plain_tables.specs.declared.command.JoinSide.{JoinSide}
use Rattle.plain_tables.proofs.Lexemes.{IsWellFormed, lexeme-of_made}
use Rattle.plain_tables.proofs.Integers.{Literal-only}
use Rattle.plain_tables.proofs.FirstWords.{different}
use Rattle.plain_tables.proofs.EachSymbol.{index_word-word}
use Rattle.plain_tables.proofs.Lists.{NeverBegins, HaveOneRest, EndsItem, fixed-ends_item, IsOneItem, sign-fixed}

-- ---- operators

pub operator-one : (o p : Op) → operator_text o ≡ operator_text p → o ≡ p
operator-one op.Eq op.Eq e = refl
operator-one op.Ne op.Ne e = refl
operator-one op.Lt op.Lt e = refl
operator-one op.Le op.Le e = refl
operator-one op.Gt op.Gt e = refl
operator-one op.Ge op.Ge e = refl
operator-one o p e = absurd (different (operator_text o) (operator_text p) refl e)

operator-ends_item : (o : Op) (more : List Symbol) → EndsItem (Sign (Operator o) ∷ more)
operator-ends_item o more =
    fixed-ends_item (Sign (Operator o)) (operator_text o) (sign-fixed (Operator o)) (no_dot o) (no_null o) more
  where
    no_dot : (o : Op) → bytes_eq (codes ".") (operator_text o) ≡ false
    no_dot op.Eq = refl
    no_dot other = refl

    no_null : (o : Op) → bytes_eq (codes "null") (operator_text o) ≡ false
    no_null op.Eq = refl
    no_null other = refl

-- ---- one symbol more

-- What both symbols make up a line with is made of the others on both sides.
behind-one : (symbol other : Symbol) → IsWellFormed symbol → IsWellFormed other → (line : List ℕ) (m n : List Symbol)
    → IsMadeOf line (symbol ∷ m) → IsMadeOf line (other ∷ n)
    → IsSymbol (lexeme line) symbol × IsSymbol (lexeme line) other × IsMadeOf (after_lexeme line) m × IsMadeOf (after_lexeme line) n
behind-one symbol other well well' line m n made made' =
    let first : IsSymbol (lexeme line) symbol × IsMadeOf (after_lexeme line) m = lexeme-of_made line symbol m well made in
    let second : IsSymbol (lexeme line) other × IsMadeOf (after_lexeme line) n = lexeme-of_made line other n well' made' in
    (first.0, second.0, first.1, second.1)

-- Two names at the front of a line are one, and one rest follows them; so are two literals, two counts and two operators.
pub name-and : (line name name' : List ℕ) (m n : List Symbol) → IsMadeOf line (Name name ∷ m) → IsMadeOf line (Name name' ∷ n)
    → (name ≡ name') × HaveOneRest m n
name-and line name name' m n made made' =
    let both = behind-one (Name name) (Name name') tt tt line m n made made' in
    (sym both.0.0 ∙ both.1.0, (after_lexeme line, both.2, both.3))

literal-and : (line : List ℕ) (v w : Value) (m n : List Symbol) → IsMadeOf line (Literal v ∷ m) → IsMadeOf line (Literal w ∷ n)
    → (v ≡ w) × HaveOneRest m n
literal-and line v w m n made made' =
    let both = behind-one (Literal v) (Literal w) tt tt line m n made made' in
    (Literal-only (lexeme line) w v both.1 both.0, (after_lexeme line, both.2, both.3))

pub count-and : (line : List ℕ) (k l : ℕ) (m n : List Symbol) → IsMadeOf line (Count k ∷ m) → IsMadeOf line (Count l ∷ n)
    → (k ≡ l) × HaveOneRest m n
count-and line k l m n made made' =
    let both = behind-one (Count k) (Count l) tt tt line m n made made' in
    (both.0.2 ∙ sym both.1.2, (after_lexeme line, both.2, both.3))

operator-and : (line : List ℕ) (o p : Op) (m n : List Symbol) → IsMadeOf line (Sign (Operator o) ∷ m) → IsMadeOf line (Sign (Operator p) ∷ n)
    → (o ≡ p) × HaveOneRest m n
operator-and line o p m n made made' =
    let both = behind-one (Sign (Operator o)) (Sign (Operator p)) tt tt line m n made made' in
    (operator-one o p (sym both.0 ∙ both.1), (after_lexeme line, both.2, both.3))

-- a symbol that both sides have, as a keyword or a sign
pub fixed-and : (symbol : Symbol) → IsWellFormed symbol → (line : List ℕ) (m n : List Symbol) → IsMadeOf line (symbol ∷ m)
    → IsMadeOf line (symbol ∷ n) → HaveOneRest m n
fixed-and symbol well line m n made made' =
    (after_lexeme line, (lexeme-of_made line symbol m well made).1, (lexeme-of_made line symbol n well made').1)

-- ---- items

pub value-one : IsOneItem value_symbols
value-one line v w m n free free' made made' = literal-and line v w m n made made'

-- the first word of a kind
abbrev pub kind_word : ColKind → List ℕ
kind_word kind.Int = codes "int"
kind_word kind.Text = codes "text"
kind_word (kind.Ref table) = codes "ref"
kind_word (kind.RefOrNull table) = codes "ref"

kind-first : (line : List ℕ) (k : ColKind) (m : List Symbol) → IsMadeOf line (kind_symbols k ++ m) → lexeme line ≡ kind_word k
kind-first line kind.Int m made = (lexeme-of_made line (Keyword (codes "int")) m refl made).0
kind-first line kind.Text m made = (lexeme-of_made line (Keyword (codes "text")) m refl made).0
kind-first line (kind.Ref t) m made = (lexeme-of_made line (Keyword (codes "ref")) (Name t ∷ m) refl made).0
kind-first line (kind.RefOrNull t) m made = (lexeme-of_made line (Keyword (codes "ref")) (Name t ∷ Keyword (codes "null") ∷ m) refl made).0

kinds-differ : (line : List ℕ) (j k : ColKind) (m n : List Symbol) → bytes_eq (kind_word j) (kind_word k) ≡ false
    → IsMadeOf line (kind_symbols j ++ m) → IsMadeOf line (kind_symbols k ++ n) → ⊥
kinds-differ line j k m n differ made made' =
    different (kind_word j) (kind_word k) differ (sym (kind-first line j m made) ∙ kind-first line k n made')

-- the tables of two references
reference-and : (line s t : List ℕ) (m n : List Symbol) → IsMadeOf line (Keyword (codes "ref") ∷ Name s ∷ m)
    → IsMadeOf line (Keyword (codes "ref") ∷ Name t ∷ n) → (s ≡ t) × HaveOneRest m n
reference-and line s t m n made made' =
    let behind = fixed-and (Keyword (codes "ref")) refl line (Name s ∷ m) (Name t ∷ n) made made' in
    name-and behind.0 s t m n behind.1 behind.2

kind-one : IsOneItem kind_symbols
kind-one line kind.Int kind.Int m n free free' made made' = (refl, fixed-and (Keyword (codes "int")) refl line m n made made')
kind-one line kind.Text kind.Text m n free free' made made' = (refl, fixed-and (Keyword (codes "text")) refl line m n made made')
kind-one line (kind.Ref s) (kind.Ref t) m n free free' made made' =
    let both = reference-and line s t m n made made' in
    (ap kind.Ref both.0, both.1)
kind-one line (kind.Ref s) (kind.RefOrNull t) m n free free' made made' =
    let both = reference-and line s t m (Keyword (codes "null") ∷ n) made made' in
    absurd (free.no_null both.1.0 n both.1.2 both.1.1)
kind-one line (kind.RefOrNull s) (kind.Ref t) m n free free' made made' =
    let both = reference-and line s t (Keyword (codes "null") ∷ m) n made made' in
    absurd (free'.no_null both.1.0 m both.1.1 both.1.2)
kind-one line (kind.RefOrNull s) (kind.RefOrNull t) m n free free' made made' =
    let null : Symbol = Keyword (codes "null") in
    let both = reference-and line s t (null ∷ m) (null ∷ n) made made' in
    (ap kind.RefOrNull both.0, fixed-and null refl both.1.0 m n both.1.1 both.1.2)
kind-one line j k m n free free' made made' = absurd (kinds-differ line j k m n refl made made')

pub column-one : IsOneItem column_symbols
column-one line c d m n free free' made made' =
    let names = name-and line c.name d.name (kind_symbols c.kind ++ m) (kind_symbols d.kind ++ n) made made' in
    let kinds = kind-one names.1.0 c.kind d.kind m n free free' names.1.1 names.1.2 in
    ((λ i. record { name = names.0 i; kind = kinds.0 i }), kinds.1)

pub setting-one : IsOneItem setting_symbols
setting-one line s t m n free free' made made' =
    let eq : Symbol = Sign (Operator op.Eq) in
    let names = name-and line s.column t.column (eq ∷ Literal s.value ∷ m) (eq ∷ Literal t.value ∷ n) made made' in
    let behind = fixed-and eq tt names.1.0 (Literal s.value ∷ m) (Literal t.value ∷ n) names.1.1 names.1.2 in
    let values = literal-and behind.0 s.value t.value m n behind.1 behind.2 in
    ((λ i. record { column = names.0 i; value = values.0 i }), values.1)

-- the symbols of a column's name, by its parts
abbrev pub whole_name : Option (List ℕ) → List ℕ → List Symbol
whole_name table column = name_symbols (record { table = table; column = column })

-- a bare name, and one behind a table and a dot, aren't one where no dot follows the first
bare-no_whole : (line column table column' : List ℕ) (m n : List Symbol) → NeverBegins (Sign Dot) m → IsMadeOf line (Name column ∷ m)
    → IsMadeOf line (Name table ∷ Sign Dot ∷ Name column' ∷ n) → ⊥
bare-no_whole line column table column' m n free made made' =
    let both = name-and line column table m (Sign Dot ∷ Name column' ∷ n) made made' in
    free both.1.0 (Name column' ∷ n) both.1.2 both.1.1

whole-one : (line : List ℕ) (table table' : Option (List ℕ)) (column column' : List ℕ) (m n : List Symbol)
    → NeverBegins (Sign Dot) m → NeverBegins (Sign Dot) n → IsMadeOf line (whole_name table column ++ m)
    → IsMadeOf line (whole_name table' column' ++ n) → (table ≡ table') × (column ≡ column') × HaveOneRest m n
whole-one line None None c d m n free free' made made' =
    let both = name-and line c d m n made made' in (refl, both.0, both.1)
whole-one line None (Some t) c d m n free free' made made' = absurd (bare-no_whole line c t d m n free made made')
whole-one line (Some t) None c d m n free free' made made' = absurd (bare-no_whole line d t c n m free' made' made)
whole-one line (Some s) (Some t) c d m n free free' made made' =
    let tables = name-and line s t (Sign Dot ∷ Name c ∷ m) (Sign Dot ∷ Name d ∷ n) made made' in
    let behind = fixed-and (Sign Dot) tt tables.1.0 (Name c ∷ m) (Name d ∷ n) tables.1.1 tables.1.2 in
    let columns = name-and behind.0 c d m n behind.1 behind.2 in
    (ap Some tables.0, columns.0, columns.1)

pub name-one : IsOneItem name_symbols
name-one line x y m n free free' made made' =
    let both = whole-one line x.table y.table x.column y.column m n free.no_dot free'.no_dot made made' in
    ((λ i. record { table = both.0 i; column = both.1 i }), both.2)

-- what a condition says of its column
abbrev comparison : Cond → List Symbol → List Symbol
comparison c more = Sign (Operator c.op) ∷ Literal c.value ∷ more

condition-more : (line : List ℕ) (c : Cond) (more : List Symbol) → IsMadeOf line (condition_symbols c ++ more)
    → IsMadeOf line (name_symbols c.column ++ comparison c more)
condition-more line c more made = subst (λ ss. IsMadeOf line ss) (append_assoc (name_symbols c.column) (comparison c []) more) made

pub condition-one : IsOneItem condition_symbols
condition-one line c d m n free free' made made' =
    let names = name-one line c.column d.column (comparison c m) (comparison d n) (operator-ends_item c.op (Literal c.value ∷ m))
    (operator-ends_item d.op (Literal d.value ∷ n)) (condition-more line c m made) (condition-more line d n made') in
    let operators = operator-and names.1.0 c.op d.op (Literal c.value ∷ m) (Literal d.value ∷ n) names.1.1 names.1.2 in
    let values = literal-and operators.1.0 c.value d.value m n operators.1.1 operators.1.2 in
    ((λ i. record { column = names.0 i; op = operators.0 i; value = values.0 i }), values.1)

-- ---- joins

side-one : IsOneItem side_symbols
side-one line s t m n free free' made made' =
    let tables = name-and line s.table t.table (Sign Dot ∷ Name s.column ∷ m) (Sign Dot ∷ Name t.column ∷ n) made made' in
    let behind = fixed-and (Sign Dot) tt tables.1.0 (Name s.column ∷ m) (Name t.column ∷ n) tables.1.1 tables.1.2 in
    let columns = name-and behind.0 s.column t.column m n behind.1 behind.2 in
    ((λ i. record { table = tables.0 i; column = columns.0 i }), columns.1)

-- two sides with = between them
sides-one : (line : List ℕ) (s t s' t' : JoinSide) (m n : List Symbol) → EndsItem m → EndsItem n
    → IsMadeOf line (side_symbols s ++ Sign (Operator op.Eq) ∷ side_symbols t ++ m)
    → IsMadeOf line (side_symbols s' ++ Sign (Operator op.Eq) ∷ side_symbols t' ++ n) → (s ≡ s') × (t ≡ t') × HaveOneRest m n
sides-one line s t s' t' m n free free' made made' =
    let eq : Symbol = Sign (Operator op.Eq) in
    let lefts = side-one line s s' (eq ∷ side_symbols t ++ m) (eq ∷ side_symbols t' ++ n) (operator-ends_item op.Eq _) (operator-ends_item op.Eq _) made made' in
    let behind = fixed-and eq tt lefts.1.0 (side_symbols t ++ m) (side_symbols t' ++ n) lefts.1.1 lefts.1.2 in
    let rights = side-one behind.0 t t' m n free free' behind.1 behind.2 in
    (lefts.0, rights.0, rights.1)

pub joined-one : IsOneItem joined_symbols
joined-one line x y m n free free' made made' =
    let on : Symbol = Keyword (codes "on") in
    let sides : List Symbol = side_symbols x.left ++ Sign (Operator op.Eq) ∷ side_symbols x.right ++ m in
    let sides' : List Symbol = side_symbols y.left ++ Sign (Operator op.Eq) ∷ side_symbols y.right ++ n in
    let tables = name-and line x.table y.table (on ∷ sides) (on ∷ sides') made made' in
    let behind = fixed-and on refl tables.1.0 sides sides' tables.1.1 tables.1.2 in
    let both = sides-one behind.0 x.left x.right y.left y.right m n free free' behind.1 behind.2 in
    ((λ i. record { table = tables.0 i; left = both.0 i; right = both.1 i }), both.2)

-- Joins, one or more, are a list of joined tables with a join before each.
pub joins-listed : (join : Join) (joins : List Join)
    → flat_map join_symbols (join ∷ joins) ≡ Keyword (codes "join") ∷ separated_by (Keyword (codes "join")) (map joined_symbols (join ∷ joins))
joins-listed join [] = append-nil (join_symbols join)
joins-listed join (next ∷ joins) = ap (λ ss. join_symbols join ++ ss) (joins-listed next joins)

-- ---- indexes

index_word-one : (j k : IndexKind) → index_word j ≡ index_word k → j ≡ k
index_word-one index.Tree index.Tree e = refl
index_word-one index.Hash index.Hash e = refl
index_word-one j k e = absurd (different (index_word j) (index_word k) refl e)

pub index-one : (line table table' column column' : List ℕ) (j k : IndexKind) → IsMadeOf line (index_symbols table column j)
    → IsMadeOf line (index_symbols table' column' k) → (table ≡ table') × (column ≡ column') × (j ≡ k)
index-one line table table' column column' j k made made' =
    let first : Symbol = Keyword (index_word j) in
    let second : Symbol = Keyword (index_word k) in
    let tables = name-and line table table' (Name column ∷ first ∷ []) (Name column' ∷ second ∷ []) made made' in
    let columns = name-and tables.1.0 column column' (first ∷ []) (second ∷ []) tables.1.1 tables.1.2 in
    let words = behind-one first second (index_word-word j) (index_word-word k) columns.1.0 [] [] columns.1.1 columns.1.2 in
    (tables.0, columns.0, index_word-one j k (sym words.0 ∙ words.1))
