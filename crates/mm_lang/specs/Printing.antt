-- Printing: the canonical spelling, part by part.
use Rattle.std.specs.Prelude.{◌≡◌, ℕ, List, [], ◌∷◌, ◌++◌, Bool, true, false, IsTrue, Option, Some, None, refl}
use Rattle.std.specs.List.{flat_map}
use Rattle.std.specs.Option.{option_map_or}
use Rattle.plain_tables.specs.Spelling.{Symbol, Keyword, Name, Literal, Sign, Open, Dot, Operator, gap, spaced, kind_symbols, column_symbols, name_symbols, condition_symbols}
use Rattle.plain_tables.specs.declared.value.Value.{Value}
use Rattle.plain_tables.specs.declared.schema.ColKind.{ColKind}
use Rattle.plain_tables.specs.declared.schema.ColKind.TheVariants as kind
use Rattle.plain_tables.specs.declared.schema.Column.{Column}
use Rattle.plain_tables.specs.declared.condition.Op.{Op}
use Rattle.plain_tables.specs.declared.condition.ColName.{ColName}
use Rattle.plain_tables.specs.declared.condition.Cond.{Cond}

-- the spelling of these symbols behind others, with the gap before them
abbrev pub behind : List Symbol → List ℕ
behind [] = []
behind (symbol ∷ symbols) = gap (Keyword []) symbol ++ spaced (symbol ∷ symbols)

-- whether a symbol leaves the gap behind it to the next
abbrev pub leaves_gap : Symbol → Bool
leaves_gap (Sign Open) = false
leaves_gap (Sign Dot) = false
leaves_gap symbol = true

abbrev pub EndsFree : List Symbol → Type 0
EndsFree [] = ⊥
EndsFree (symbol ∷ []) = IsTrue (leaves_gap symbol)
EndsFree (symbol ∷ next ∷ symbols) = EndsFree (next ∷ symbols)

abbrev pub BeginsFree : List Symbol → Type 0
BeginsFree [] = ⊥
BeginsFree (symbol ∷ symbols) = gap (Keyword []) symbol ≡ 32 ∷ []

-- Symbols that a blank parts from those before and behind them, but for signs that want none.
abbrev pub IsFree : List Symbol → Type 0
IsFree symbols = BeginsFree symbols × EndsFree symbols

-- the spellings of these items, with a text between two of them
abbrev pub joined : {X : Type 0} → (X → List Symbol) → List ℕ → List X → List ℕ
joined symbols between [] = []
joined symbols between (x ∷ xs) = spaced (symbols x) ++ flat_map (λ y. between ++ spaced (symbols y)) xs

-- Law: a kind of columns is free, and so is a column.
pub kind_symbols-free : (k : ColKind) → IsFree (kind_symbols k)
kind_symbols-free kind.Int = (refl, refl)
kind_symbols-free kind.Text = (refl, refl)
kind_symbols-free (kind.Ref table) = (refl, refl)
kind_symbols-free (kind.RefOrNull table) = (refl, refl)

columned-free : (name : List ℕ) (k : ColKind) → IsFree (Name name ∷ kind_symbols k)
columned-free name kind.Int = (refl, refl)
columned-free name kind.Text = (refl, refl)
columned-free name (kind.Ref table) = (refl, refl)
columned-free name (kind.RefOrNull table) = (refl, refl)

pub column_symbols-free : (column : Column) → IsFree (column_symbols column)
column_symbols-free column = columned-free column.name column.kind

-- Law: a column's name is free.
named-free : (table : Option (List ℕ)) (column : List ℕ)
    → IsFree (option_map_or (λ t. Name t ∷ Sign Dot ∷ Name column ∷ []) table (Name column ∷ []))
named-free None column = (refl, refl)
named-free (Some t) column = (refl, refl)

pub name_symbols-free : (name : ColName) → IsFree (name_symbols name)
name_symbols-free name = named-free name.table name.column

-- Law: a condition is free.
conditioned-free : (table : Option (List ℕ)) (column : List ℕ) (op : Op) (v : Value)
    → IsFree (option_map_or (λ t. Name t ∷ Sign Dot ∷ Name column ∷ []) table (Name column ∷ []) ++ Sign (Operator op) ∷ Literal v ∷ [])
conditioned-free None column op v = (refl, refl)
conditioned-free (Some t) column op v = (refl, refl)

pub condition_symbols-free : (condition : Cond) → IsFree (condition_symbols condition)
condition_symbols-free condition = conditioned-free condition.column.table condition.column.column condition.op condition.value
