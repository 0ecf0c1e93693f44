-- Statements: the symbols of a statement, by the symbol of each slot, and the line as them. A hole stands in a line as a `?`.
use Rattle.std.specs.Prelude.{◌≡◌, ◌<◌, ℕ, List, [], ◌∷◌, ◌++◌, map, length}
use Rattle.std.specs.List.{range_with_len}
use lib.Chars.{codes}
use Rattle.plain_tables.specs.Spelling.{Symbol, Keyword, Name, Literal, Sign, Open, Close, separated, distinct_symbols, items_symbols}
use Rattle.plain_statements.specs.declared.statement.Slot.{Slot}
use Rattle.plain_statements.specs.declared.statement.Slot.TheVariants.{Given, Hole}
use Rattle.plain_statements.specs.declared.statement.SlotSetting.{SlotSetting}
use Rattle.plain_statements.specs.declared.statement.SlotCond.{SlotCond}
use Rattle.plain_statements.specs.declared.statement.Statement.{Statement}
use Rattle.plain_statements.specs.declared.statement.Statement.TheVariants as statement
use Rattle.plain_statements.specs.StatementSpelling.{holes_of}
use Rattle.mm_lang.specs.Parsing.{IsWhole, NameSomething, assigned_symbols, compared_symbols, where_of, from_of}

-- ---- slots, and what has one

-- VALUE, or ?
abbrev pub slot_symbol : Slot → Symbol
slot_symbol (Given v) = Literal v
slot_symbol (Hole n) = Keyword (codes "?")

-- the one symbol of a slot
abbrev pub slot_by : (Slot → Symbol) → Slot → List Symbol
slot_by f s = f s ∷ []

-- NAME = SLOT
abbrev pub setting_by : (Slot → Symbol) → SlotSetting → List Symbol
setting_by f s = assigned_symbols (slot_by f) (s.column, s.slot)

-- [NAME .] NAME OPERATOR SLOT
abbrev pub condition_by : (Slot → Symbol) → SlotCond → List Symbol
condition_by f c = compared_symbols (slot_by f) (c.column, c.op, c.slot)

-- ---- statements

-- the word that a statement begins with
abbrev pub word_of : Statement → List ℕ
word_of (statement.Insert table slots) = codes "insert"
word_of (statement.Update table settings conditions) = codes "update"
word_of (statement.Delete table conditions) = codes "delete"
word_of (statement.Select distinct items table joins conditions) = codes "select"

-- the symbols behind it, as those of the command, with those of slots for those of values
abbrev pub behind_by : (Slot → Symbol) → Statement → List Symbol
behind_by f (statement.Insert table slots) = Name table ∷ Sign Open ∷ separated (map (slot_by f) slots) ++ Sign Close ∷ []
behind_by f (statement.Update table settings conditions) =
    Name table ∷ Keyword (codes "set") ∷ separated (map (setting_by f) settings) ++ where_of (condition_by f) conditions
behind_by f (statement.Delete table conditions) = Name table ∷ where_of (condition_by f) conditions
behind_by f (statement.Select distinct items table joins conditions) =
    distinct_symbols distinct ++ (items_symbols items ++ from_of (condition_by f) table joins conditions)

-- A statement's list of slots, settings or named items has something in it.
abbrev pub HasSomething : Statement → Type 0
HasSomething (statement.Insert table slots) = 0 < length slots
HasSomething (statement.Update table settings conditions) = 0 < length settings
HasSomething (statement.Delete table conditions) = Unit {0}
HasSomething (statement.Select distinct items table joins conditions) = NameSomething items

-- The line is what follows this first word of the statement, with a `?` for each hole.
pub record IsStatement (word line : List ℕ) (s : Statement) : Type 0 where
  pub first : word_of s ≡ word
  pub some : HasSomething s
  pub made : IsWhole line (behind_by slot_symbol s)

-- These numbers go up from this one.
abbrev pub AreFrom : ℕ → List ℕ → Type 0
AreFrom first numbers = numbers ≡ range_with_len first (length numbers)

-- The line is what follows this first word of the statement, whose holes are numbered as they stand.
abbrev pub CompletesStatement : List ℕ → List ℕ → Statement → Type 0
CompletesStatement word line s = IsStatement word line s × AreFrom 0 (holes_of s)
