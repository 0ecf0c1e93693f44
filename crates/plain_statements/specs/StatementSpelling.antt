-- Which line spells which statement: the one that spells its command, whatever values are written for the question marks.
use Rattle.std.specs.Prelude.{◌≡◌, ℕ, ◌+◌, List, [], ◌∷◌, ◌++◌, map, length, Bool, false, not, ◌&&◌, ◌==◌, if◌then◌else◌, Option, Some, None}
use Rattle.std.specs.List.{AllByRecursion, flat_map, range_with_len}
use Rattle.plain_tables.specs.Spelling.{Literal, symbol_text, IsSpellableValue, Spells}
use lib.Chars.{codes}
use Rattle.plain_tables.specs.declared.value.Value.{Value}
use Rattle.plain_tables.specs.declared.value.Value.TheVariants as value
use Rattle.plain_tables.specs.declared.condition.Cond.{Cond}
use Rattle.plain_tables.specs.declared.command.Setting.{Setting}
use Rattle.plain_tables.specs.declared.command.Command.{Command}
use Rattle.plain_tables.specs.declared.command.Command.TheVariants as command
use Rattle.plain_statements.specs.declared.statement.Slot.{Slot}
use Rattle.plain_statements.specs.declared.statement.Slot.TheVariants.{Given, Hole}
use Rattle.plain_statements.specs.declared.statement.SlotSetting.{SlotSetting}
use Rattle.plain_statements.specs.declared.statement.SlotCond.{SlotCond}
use Rattle.plain_statements.specs.declared.statement.Statement.{Statement}
use Rattle.plain_statements.specs.declared.statement.Statement.TheVariants as statement
use Rattle.plain_statements.specs.Filling.{filled}

-- ---- question marks in a line

-- How many question marks stand in a line outside of its texts. A quote mark begins a text, and the next one ends it; of a
-- doubled one the first ends the text, and the second goes on with it.
abbrev pub marks_within : Bool → List ℕ → ℕ
marks_within quoted [] = 0
marks_within quoted (c ∷ cs) =
    if c == 39 then marks_within (not quoted) cs
    else if (c == 63) && not quoted then 1 + marks_within quoted cs
    else marks_within quoted cs

abbrev pub marks : List ℕ → ℕ
marks line = marks_within false line

-- the literal of a value, with a blank on either side
abbrev pub literal_apart : Value → List ℕ
literal_apart v = 32 ∷ symbol_text (Literal v) ++ 32 ∷ []

-- the line with the literals of these values in the place of its question marks, one after the other
abbrev pub written_within : Bool → List Value → List ℕ → List ℕ
written_within quoted values [] = []
written_within quoted [] (c ∷ cs) = c ∷ cs
written_within quoted (v ∷ values) (c ∷ cs) =
    if c == 39 then c ∷ written_within (not quoted) (v ∷ values) cs
    else if (c == 63) && not quoted then literal_apart v ++ written_within quoted values cs
    else c ∷ written_within quoted (v ∷ values) cs

abbrev pub written : List Value → List ℕ → List ℕ
written values line = written_within false values line

-- ---- holes in a statement

-- the slots of a statement, in the order of its line
abbrev pub slots_of : Statement → List Slot
slots_of (statement.Insert table slots) = slots
slots_of (statement.Update table settings conditions) = map (λ s. s.slot) settings ++ map (λ c. c.slot) conditions
slots_of (statement.Delete table conditions) = map (λ c. c.slot) conditions
slots_of (statement.Select distinct items table joins conditions) = map (λ c. c.slot) conditions

-- the number of a hole, and of a value none
abbrev pub numbers_of : Slot → List ℕ
numbers_of (Given v) = []
numbers_of (Hole n) = n ∷ []

-- the numbers of a statement's holes, in the order of its line
abbrev pub holes_of : Statement → List ℕ
holes_of s = flat_map numbers_of (slots_of s)

-- ---- lines and statements

-- A line spells a statement where the statement's holes are numbered from 0 as they stand, one for each question mark of the
-- line, and the line spells, whatever values that can be spelled are written for these, the command that is filled with them.
abbrev pub SpellsStatement : List ℕ → Statement → Type 0
SpellsStatement line s =
    (holes_of s ≡ range_with_len 0 (marks line))
    × ((values : List Value) → length values ≡ marks line → AllByRecursion IsSpellableValue values
    → Spells (written values line) (filled values s))

-- ---- commands as statements

abbrev pub given_setting : Setting → SlotSetting
given_setting s = record { column = s.column; slot = Given s.value }

abbrev pub given_condition : Cond → SlotCond
given_condition c = record { column = c.column; op = c.op; slot = Given c.value }

-- the statement without holes that a command on rows is
abbrev pub given : Command → Option Statement
given (command.Insert table values) = Some (statement.Insert table (map Given values))
given (command.Update table settings conditions) =
    Some (statement.Update table (map given_setting settings) (map given_condition conditions))
given (command.Delete table conditions) = Some (statement.Delete table (map given_condition conditions))
given (command.Select distinct items table joins conditions) =
    Some (statement.Select distinct items table joins (map given_condition conditions))
given c = None

-- ---- laws

-- no line spells two statements
abbrev pub SpellsAtMostOneStatement : Type 0
SpellsAtMostOneStatement = (line : List ℕ) (s t : Statement) → SpellsStatement line s → SpellsStatement line t → s ≡ t

-- A line without question marks outside of texts that spells a command spells the statement that the command is, which is
-- that command whatever values there are.
abbrev pub CommandsAreStatements : Type 0
CommandsAreStatements =
    (line : List ℕ) (c : Command) (s : Statement) → given c ≡ Some s
    → ((values : List Value) → filled values s ≡ c) × (marks line ≡ 0 → Spells line c → SpellsStatement line s)

-- A line without question marks outside of texts spells of the statements only such as commands are that it spells.
abbrev pub StatementsWithoutMarks : Type 0
StatementsWithoutMarks = (line : List ℕ) (s : Statement) → marks line ≡ 0 → SpellsStatement line s → Spells line (filled [] s)

-- An example: of this line the first question mark is a hole, and the second one stands in a text.
abbrev pub QuestionMarksAreHoles : Type 0
QuestionMarksAreHoles =
    SpellsStatement (codes "insert t (?, 'a?b')") (statement.Insert (codes "t") (Hole 0 ∷ Given (value.Text (codes "a?b")) ∷ []))
