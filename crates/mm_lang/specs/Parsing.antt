-- Parsing: what stands at the front of a line, and what it leaves.
use Rattle.std.specs.Prelude.{◌≡◌, ◌≢◌, ◌<◌, ℕ, List, [], ◌∷◌, ◌++◌, map, length, Bool}
use Rattle.std.specs.List.{flat_map}
use Rattle.std.specs.Str.{IsUtf8}
use lib.Chars.{codes}
use Rattle.plain_tables.specs.Names.{IsName}
use Rattle.plain_tables.specs.Spelling.{Symbol, Keyword, Name, Sign, Operator, IsSymbol, separated_by, symbols_of, name_symbols, distinct_symbols, items_symbols, join_symbols, NamesSomething}
use Rattle.plain_tables.specs.Reading.{lexeme, after_lexeme}
use Rattle.plain_tables.specs.declared.condition.Op.{Op}
use Rattle.plain_tables.specs.declared.condition.Op.TheVariants as op
use Rattle.plain_tables.specs.declared.condition.ColName.{ColName}
use Rattle.plain_tables.specs.declared.command.Join.{Join}
use Rattle.plain_tables.specs.declared.command.Items.{Items}
use Rattle.plain_tables.specs.declared.command.Items.TheVariants as items
use Rattle.plain_tables.specs.declared.command.Command.{Command}

-- The line begins with these symbols, and the rest stands behind them.
abbrev pub Reads : List ℕ → List Symbol → List ℕ → Type 0
Reads line [] rest = line ≡ rest
Reads line (symbol ∷ symbols) rest = IsSymbol (lexeme line) symbol × Reads (after_lexeme line) symbols rest

-- The line is these symbols, and blanks.
abbrev pub IsWhole : List ℕ → List Symbol → Type 0
IsWhole line symbols = (rest : List ℕ) × Reads line symbols rest × (lexeme rest ≡ [])

-- These characters, behind an item, end it. A dot or a null may not: a column's bare name with a dot behind it may be the
-- name of a table, and a null goes on with a reference.
abbrev pub EndsItem : List ℕ → Type 0
EndsItem characters = (characters ≢ codes ".") × (characters ≢ codes "null")

-- The line begins with the symbols of this item, and each item of its sort that ends and that it begins with leaves the same.
pub record BeginsWith {X : Type 0} (symbols : X → List Symbol) (line : List ℕ) (x : X) (rest : List ℕ) : Type 0 where
  pub found : Reads line (symbols x) rest
  pub only : (y : X) (other : List ℕ) → Reads line (symbols y) other → EndsItem (lexeme other) → other ≡ rest

-- The line is the end of a text.
abbrev pub IsOfText : List ℕ → Type 0
IsOfText line = (front : List ℕ) × IsUtf8 (front ++ line)

-- The line, which is of a text, begins with no item of this sort that ends.
pub record BeginsWithNone {X : Type 0} (symbols : X → List Symbol) (line : List ℕ) : Type 0 where
  pub none : IsOfText line → (y : X) (other : List ℕ) → Reads line (symbols y) other → EndsItem (lexeme other) → ⊥

-- The line begins with these items, one or more, with this word or sign between two of them.
abbrev pub ReadsList : {X : Type 0} → (X → List Symbol) → List ℕ → List ℕ → List X → List ℕ → Type 0
ReadsList symbols between line [] rest = ⊥
ReadsList symbols between line (x ∷ []) rest = Reads line (symbols x) rest
ReadsList symbols between line (x ∷ y ∷ xs) rest =
    (behind : List ℕ) × Reads line (symbols x) behind × (lexeme behind ≡ between)
    × ReadsList symbols between (after_lexeme behind) (y ∷ xs) rest

-- The line begins with this list, and each that it begins with, of which the last item ends with no separator behind it,
-- leaves the same.
pub record BeginsWithList {X : Type 0} (symbols : X → List Symbol) (between line : List ℕ) (xs : List X) (rest : List ℕ) : Type 0 where
  pub found : ReadsList symbols between line xs rest
  pub only : (ys : List X) (other : List ℕ) → ReadsList symbols between line ys other → EndsItem (lexeme other)
      → lexeme other ≢ between → other ≡ rest

-- The line, which is of a text, begins with no list of these items of which the last ends with no separator behind it.
pub record BeginsWithNoList {X : Type 0} (symbols : X → List Symbol) (between line : List ℕ) : Type 0 where
  pub none : IsOfText line → (ys : List X) (other : List ℕ) → ReadsList symbols between line ys other
      → EndsItem (lexeme other) → lexeme other ≢ between → ⊥

-- all columns, or one or more that are named
abbrev pub NameSomething : Items → Type 0
NameSomething items.All = Unit {0}
NameSomething (items.Named names) = 0 < length names

-- The line begins with these items of a select, and, before a `from`, with none that leave something else.
pub record BeginsWithItems (line : List ℕ) (items : Items) (rest : List ℕ) : Type 0 where
  pub some : NameSomething items
  pub found : Reads line (items_symbols items) rest
  pub only : (others : Items) (other : List ℕ) → NameSomething others → Reads line (items_symbols others) other
      → lexeme other ≡ codes "from" → other ≡ rest

-- The line, which is of a text, begins with no items of a select before a `from`.
pub record BeginsWithNoItems (line : List ℕ) : Type 0 where
  pub none : IsOfText line → (others : Items) (other : List ℕ) → NameSomething others → Reads line (items_symbols others) other
      → lexeme other ≡ codes "from" → ⊥

-- The line begins with the word distinct or with nothing, and, where another symbol follows, with nothing that leaves
-- something else.
pub record BeginsWithDistinct (line : List ℕ) (distinct : Bool) (rest : List ℕ) : Type 0 where
  pub found : Reads line (distinct_symbols distinct) rest
  pub only : (d : Bool) (other : List ℕ) → Reads line (distinct_symbols d) other → lexeme other ≢ codes "distinct"
      → other ≡ rest

-- The line begins with these joins, and, where the last ends and no `join` follows, with none that leave something else.
pub record BeginsWithJoins (line : List ℕ) (joins : List Join) (rest : List ℕ) : Type 0 where
  pub found : Reads line (flat_map join_symbols joins) rest
  pub only : (others : List Join) (other : List ℕ) → Reads line (flat_map join_symbols others) other → EndsItem (lexeme other)
      → lexeme other ≢ codes "join" → other ≡ rest

-- The line, which is of a text, begins with no joins of which the last ends with no `join` behind it.
pub record BeginsWithNoJoins (line : List ℕ) : Type 0 where
  pub none : IsOfText line → (others : List Join) (other : List ℕ) → Reads line (flat_map join_symbols others) other
      → EndsItem (lexeme other) → lexeme other ≢ codes "join" → ⊥

-- a column that gets what these symbols spell: NAME = ..
abbrev pub assigned_symbols : {V : Type 0} → (V → List Symbol) → List ℕ × V → List Symbol
assigned_symbols symbols a = Name a.0 ∷ Sign (Operator op.Eq) ∷ symbols a.1

-- a column that is compared with what these symbols spell: [NAME .] NAME OPERATOR ..
abbrev pub compared_symbols : {V : Type 0} → (V → List Symbol) → ColName × Op × V → List Symbol
compared_symbols symbols c = name_symbols c.0 ++ Sign (Operator c.1) ∷ symbols c.2

-- where ITEM {and ITEM}, or nothing
abbrev pub where_of : {X : Type 0} → (X → List Symbol) → List X → List Symbol
where_of symbols [] = []
where_of symbols (x ∷ xs) = Keyword (codes "where") ∷ separated_by (Keyword (codes "and")) (map symbols (x ∷ xs))

-- from NAME {join ..} [where ..]
abbrev pub from_of : {X : Type 0} → (X → List Symbol) → List ℕ → List Join → List X → List Symbol
from_of symbols table joins conditions =
    Keyword (codes "from") ∷ Name table ∷ (flat_map join_symbols joins ++ where_of symbols conditions)

-- The line is a `from` and the name of a table, with these joins and conditions behind it.
abbrev pub IsFrom : {X : Type 0} → (X → List Symbol) → List ℕ → List ℕ → List Join → List X → Type 0
IsFrom symbols line table joins conditions = IsWhole line (from_of symbols table joins conditions)

-- The line is a name and a list of these items in parentheses.
pub record IsNameAndList {X : Type 0} (symbols : X → List Symbol) (line name : List ℕ) (xs : List X) : Type 0 where
  pub is : IsName name
  pub first : lexeme line ≡ name
  pub opens : lexeme (after_lexeme line) ≡ codes "("
  pub rest : List ℕ
  pub listed : ReadsList symbols (codes ",") (after_lexeme (after_lexeme line)) xs rest
  pub closes : lexeme rest ≡ codes ")"
  pub ends : lexeme (after_lexeme rest) ≡ []

-- The line is a `where` and these conditions, or nothing where there are none.
abbrev pub IsWhere : {X : Type 0} → (X → List Symbol) → List ℕ → List X → Type 0
IsWhere symbols line conditions = IsWhole line (where_of symbols conditions)

-- The line is a name, `set`, settings with commas between them, and conditions.
pub record IsUpdate {S C : Type 0} (settings_by : S → List Symbol) (conditions_by : C → List Symbol) (line table : List ℕ)
    (settings : List S) (conditions : List C) : Type 0 where
  pub is : IsName table
  pub first : lexeme line ≡ table
  pub sets : lexeme (after_lexeme line) ≡ codes "set"
  pub rest : List ℕ
  pub listed : ReadsList settings_by (codes ",") (after_lexeme (after_lexeme line)) settings rest
  pub tail : IsWhere conditions_by rest conditions

-- The line is a name, and conditions.
abbrev pub IsDelete : {C : Type 0} → (C → List Symbol) → List ℕ → List ℕ → List C → Type 0
IsDelete symbols line table conditions = IsWhole line (Name table ∷ where_of symbols conditions)

-- The line is the word distinct or nothing, then items, and then what begins with `from`.
pub record IsSelect {C : Type 0} (symbols : C → List Symbol) (line : List ℕ) (distinct : Bool) (items : Items) (table : List ℕ)
    (joins : List Join) (conditions : List C) : Type 0 where
  pub some : NameSomething items
  pub front : List ℕ
  pub begins : Reads line (distinct_symbols distinct) front
  pub behind : List ℕ
  pub found : Reads front (items_symbols items) behind
  pub tail : IsFrom symbols behind table joins conditions

-- The line is what follows this first word in a spelling of the command.
pub record Completes (word line : List ℕ) (command : Command) : Type 0 where
  pub some : NamesSomething command
  pub symbols : List Symbol
  pub first : symbols_of command ≡ Keyword word ∷ symbols
  pub made : IsWhole line symbols
