-- Spelling: which line spells which command.
--
-- A command is a list of symbols. A line spells it where the line is those symbols in their order, each as
-- long as it can be, with blanks before, between and after them.
use Rattle.std.specs.Prelude.{◌≡◌, length, ℕ, ℤ, pos, ◌<◌, List, [], ◌∷◌, ◌++◌, map, Bool, false, ◌||◌, ◌==◌, IsTrue, IsFalse, if◌then◌else◌, FitsSigned, neg_ℤ, IfSome, ◌⊎◌, ◌^◌}
use Rattle.std.specs.Int.{w64}
use Rattle.std.specs.List.{AllByRecursion, Contains, flat_map}
use Rattle.std.specs.Option.{option_map_or}
use Rattle.std.specs.Str.Parse.{IsNumeral, digits_value}
use Rattle.std.specs.Fmt.{decimal, signed_decimal}
use lib.Chars.{codes}
use Rattle.plain_tables.specs.Names.{is_word_character, IsName}
use Rattle.plain_tables.specs.declared.value.Value.{Value}
use Rattle.plain_tables.specs.declared.value.Value.TheVariants as value
use Rattle.plain_tables.specs.declared.schema.ColKind.{ColKind}
use Rattle.plain_tables.specs.declared.schema.ColKind.TheVariants as kind
use Rattle.plain_tables.specs.declared.schema.Column.{Column}
use Rattle.plain_tables.specs.declared.schema.IndexKind.{IndexKind}
use Rattle.plain_tables.specs.declared.schema.IndexKind.TheVariants as index
use Rattle.plain_tables.specs.declared.condition.Op.{Op}
use Rattle.plain_tables.specs.declared.condition.Op.TheVariants as op
use Rattle.plain_tables.specs.declared.condition.ColName.{ColName}
use Rattle.plain_tables.specs.declared.condition.Cond.{Cond}
use Rattle.plain_tables.specs.declared.command.Setting.{Setting}
use Rattle.plain_tables.specs.declared.command.Join.{Join}
use Rattle.plain_tables.specs.declared.command.JoinSide.{JoinSide}
use Rattle.plain_tables.specs.declared.command.Items.{Items}
use Rattle.plain_tables.specs.declared.command.Items.TheVariants as items
use Rattle.plain_tables.specs.declared.command.Command.{Command}
use Rattle.plain_tables.specs.declared.command.Command.TheVariants.{Table, DropTable, Index, DropIndex, Insert, Update, Delete, Select, Load, Dump, Tables}

-- ---- the symbols of a command

-- the signs; an operator is one of them
pub data Mark : Type 0 where
  Open : Mark
  Close : Mark
  Comma : Mark
  Dot : Mark
  Star : Mark
  Operator : Op → Mark

-- A symbol is a keyword, a name, a value, a count, or a sign.
pub data Symbol : Type 0 where
  Keyword : List ℕ → Symbol
  Name : List ℕ → Symbol
  Literal : Value → Symbol
  Count : ℕ → Symbol
  Sign : Mark → Symbol

-- lists of symbols, with a symbol between two of them
abbrev pub separated_by : Symbol → List (List Symbol) → List Symbol
separated_by between [] = []
separated_by between (part ∷ []) = part
separated_by between (part ∷ next ∷ parts) = part ++ between ∷ separated_by between (next ∷ parts)

-- lists of symbols, with a comma between two of them
abbrev pub separated : List (List Symbol) → List Symbol
separated parts = separated_by (Sign Comma) parts

-- int, text, ref NAME, or ref NAME null
abbrev pub kind_symbols : ColKind → List Symbol
kind_symbols kind.Int = Keyword (codes "int") ∷ []
kind_symbols kind.Text = Keyword (codes "text") ∷ []
kind_symbols (kind.Ref table) = Keyword (codes "ref") ∷ Name table ∷ []
kind_symbols (kind.RefOrNull table) = Keyword (codes "ref") ∷ Name table ∷ Keyword (codes "null") ∷ []

-- NAME KIND
abbrev pub column_symbols : Column → List Symbol
column_symbols column = Name column.name ∷ kind_symbols column.kind

-- the words for the kinds of an index
abbrev pub index_word : IndexKind → List ℕ
index_word index.Tree = codes "tree"
index_word index.Hash = codes "hash"

-- NAME NAME KIND, a table, a column of it, and a kind of index
abbrev pub index_symbols : List ℕ → List ℕ → IndexKind → List Symbol
index_symbols table column k = Name table ∷ Name column ∷ Keyword (index_word k) ∷ []

-- VALUE
abbrev pub value_symbols : Value → List Symbol
value_symbols v = Literal v ∷ []

-- NAME . NAME, a column behind its table's name, or the column's NAME alone
abbrev pub name_symbols : ColName → List Symbol
name_symbols name = option_map_or (λ table. Name table ∷ Sign Dot ∷ Name name.column ∷ []) name.table (Name name.column ∷ [])

-- NAME = VALUE
abbrev pub setting_symbols : Setting → List Symbol
setting_symbols setting = Name setting.column ∷ Sign (Operator op.Eq) ∷ Literal setting.value ∷ []

-- [NAME .] NAME OPERATOR VALUE
abbrev pub condition_symbols : Cond → List Symbol
condition_symbols condition = name_symbols condition.column ++ Sign (Operator condition.op) ∷ Literal condition.value ∷ []

-- where CONDITION {and CONDITION}, or nothing
abbrev pub where_symbols : List Cond → List Symbol
where_symbols [] = []
where_symbols (condition ∷ conditions) =
    Keyword (codes "where") ∷ separated_by (Keyword (codes "and")) (map condition_symbols (condition ∷ conditions))

-- NAME . NAME
abbrev pub side_symbols : JoinSide → List Symbol
side_symbols side = Name side.table ∷ Sign Dot ∷ Name side.column ∷ []

-- NAME on NAME . NAME = NAME . NAME, a table and the columns by which it is joined
abbrev pub joined_symbols : Join → List Symbol
joined_symbols join =
    Name join.table ∷ Keyword (codes "on") ∷ side_symbols join.left ++ Sign (Operator op.Eq) ∷ side_symbols join.right

-- join NAME on NAME . NAME = NAME . NAME
abbrev pub join_symbols : Join → List Symbol
join_symbols join = Keyword (codes "join") ∷ joined_symbols join

-- the word distinct, or nothing
abbrev pub distinct_symbols : Bool → List Symbol
distinct_symbols distinct = if distinct then Keyword (codes "distinct") ∷ [] else []

-- *, or the columns named with commas between them
abbrev pub items_symbols : Items → List Symbol
items_symbols items.All = Sign Star ∷ []
items_symbols (items.Named names) = separated (map name_symbols names)

-- table NAME ( NAME KIND {, NAME KIND} )
-- drop table NAME
-- index NAME NAME KIND
-- drop index NAME NAME KIND
-- insert NAME ( VALUE {, VALUE} )
-- update NAME set NAME = VALUE {, NAME = VALUE} [where ..]
-- delete NAME [where ..]
-- select [distinct] ITEMS from NAME {join ..} [where ..]
-- load NAME COUNT
-- dump NAME
-- tables
abbrev pub symbols_of : Command → List Symbol
symbols_of (Table name schema) =
    Keyword (codes "table") ∷ Name name ∷ Sign Open ∷ separated (map column_symbols schema.columns) ++ Sign Close ∷ []
symbols_of (DropTable table) = Keyword (codes "drop") ∷ Keyword (codes "table") ∷ Name table ∷ []
symbols_of (Index table column k) = Keyword (codes "index") ∷ index_symbols table column k
symbols_of (DropIndex table column k) = Keyword (codes "drop") ∷ Keyword (codes "index") ∷ index_symbols table column k
symbols_of (Insert table values) =
    Keyword (codes "insert") ∷ Name table ∷ Sign Open ∷ separated (map value_symbols values) ++ Sign Close ∷ []
symbols_of (Update table settings conditions) =
    Keyword (codes "update") ∷ Name table ∷ Keyword (codes "set") ∷ separated (map setting_symbols settings) ++ where_symbols conditions
symbols_of (Delete table conditions) = Keyword (codes "delete") ∷ Name table ∷ where_symbols conditions
symbols_of (Select distinct items table joins conditions) =
    Keyword (codes "select") ∷ distinct_symbols distinct ++ items_symbols items ++ Keyword (codes "from") ∷ Name table
    ∷ flat_map join_symbols joins ++ where_symbols conditions
symbols_of (Load table bytes) = Keyword (codes "load") ∷ Name table ∷ Count bytes ∷ []
symbols_of (Dump table) = Keyword (codes "dump") ∷ Name table ∷ []
symbols_of Tables = Keyword (codes "tables") ∷ []

-- ---- the characters of a symbol

-- An integer is spelled by one or more digits, and with a minus directly before them it is the negative of what they say.
-- It lies in the range of 64 bits. Zeros in front change nothing.
abbrev pub IsInteger : List ℕ → ℤ → Type 0
IsInteger characters z =
    FitsSigned w64 z × ((digits : List ℕ) × IsNumeral 10 digits
    × (((characters ≡ digits) × (z ≡ pos (digits_value 10 digits)))
    ⊎ ((characters ≡ 45 ∷ digits) × (z ≡ neg_ℤ (pos (digits_value 10 digits))))))

-- A count is spelled by one or more digits, and is below 2^63. Zeros in front change nothing.
abbrev pub IsCount : List ℕ → ℕ → Type 0
IsCount characters n = (n < 2 ^ 63) × IsNumeral 10 characters × (n ≡ digits_value 10 characters)

-- A text is spelled between quote marks. A quote mark in it is doubled: another stands before it.
abbrev pub doubled : ℕ → List ℕ
doubled c = if c == 39 then 39 ∷ c ∷ [] else c ∷ []

-- a text between quote marks
abbrev pub text_literal : List ℕ → List ℕ
text_literal text = 39 ∷ (flat_map doubled text ++ 39 ∷ [])

-- the characters of an operator
abbrev pub operator_text : Op → List ℕ
operator_text op.Eq = codes "="
operator_text op.Ne = codes "<>"
operator_text op.Lt = codes "<"
operator_text op.Le = codes "<="
operator_text op.Gt = codes ">"
operator_text op.Ge = codes ">="

-- the characters of a sign
abbrev pub mark_text : Mark → List ℕ
mark_text Open = codes "("
mark_text Close = codes ")"
mark_text Comma = codes ","
mark_text Dot = codes "."
mark_text Star = codes "*"
mark_text (Operator operator) = operator_text operator

-- These characters are this symbol.
abbrev pub IsSymbol : List ℕ → Symbol → Type 0
IsSymbol characters (Keyword word) = characters ≡ word
IsSymbol characters (Name name) = (characters ≡ name) × IsName name
IsSymbol characters (Literal value.Null) = characters ≡ codes "null"
IsSymbol characters (Literal (value.Int z)) = IsInteger characters z
IsSymbol characters (Literal (value.Text text)) = characters ≡ text_literal text
IsSymbol characters (Count n) = IsCount characters n
IsSymbol characters (Sign mark) = characters ≡ mark_text mark

-- Whether a symbol would go on with the character behind it: words and numbers do with a letter or a digit, a text
-- with a quote mark, and < and > with what makes a longer operator of them.
abbrev pub goes_on_with : Symbol → ℕ → Bool
goes_on_with (Keyword word) c = is_word_character c
goes_on_with (Name name) c = is_word_character c
goes_on_with (Literal value.Null) c = is_word_character c
goes_on_with (Literal (value.Int z)) c = is_word_character c
goes_on_with (Literal (value.Text text)) c = c == 39
goes_on_with (Count n) c = is_word_character c
goes_on_with (Sign (Operator op.Lt)) c = (c == 61) || (c == 62)
goes_on_with (Sign (Operator op.Gt)) c = c == 61
goes_on_with (Sign mark) c = false

-- A symbol ends before the rest of the line where it would not go on with it.
abbrev pub EndsBefore : Symbol → List ℕ → Type 0
EndsBefore symbol [] = Unit {0}
EndsBefore symbol (c ∷ rest) = IsFalse (goes_on_with symbol c)

-- ---- a line

-- a blank is a space or a tab
abbrev pub is_blank : ℕ → Bool
is_blank c = (c == 32) || (c == 9)

-- blanks alone, or nothing
abbrev pub AreBlanks : List ℕ → Type 0
AreBlanks characters = AllByRecursion (λ c. IsTrue (is_blank c)) characters

-- The line is these symbols in their order, with blanks or none before, between and after them, and each symbol ends before
-- what follows it.
abbrev pub IsMadeOf : List ℕ → List Symbol → Type 0
IsMadeOf line [] = AreBlanks line
IsMadeOf line (symbol ∷ symbols) =
    (blanks characters rest : List ℕ) × AreBlanks blanks × IsSymbol characters symbol × EndsBefore symbol rest
    × IsMadeOf rest symbols × (line ≡ blanks ++ (characters ++ rest))

-- A command's list of columns, values, settings or named items has something in it. Those of its joins and conditions may
-- be empty.
abbrev pub NamesSomething : Command → Type 0
NamesSomething (Table name schema) = 0 < length schema.columns
NamesSomething (DropTable table) = Unit {0}
NamesSomething (Index table column k) = Unit {0}
NamesSomething (DropIndex table column k) = Unit {0}
NamesSomething (Insert table values) = 0 < length values
NamesSomething (Update table settings conditions) = 0 < length settings
NamesSomething (Delete table conditions) = Unit {0}
NamesSomething (Select distinct items.All table joins conditions) = Unit {0}
NamesSomething (Select distinct (items.Named names) table joins conditions) = 0 < length names
NamesSomething (Load table bytes) = Unit {0}
NamesSomething (Dump table) = Unit {0}
NamesSomething Tables = Unit {0}

-- A line spells a command where it has no line feed in it and is made of the command's symbols, and no list of the command
-- is empty that must not be.
abbrev pub Spells : List ℕ → Command → Type 0
Spells line command = ¬ (Contains line 10) × NamesSomething command × IsMadeOf line (symbols_of command)

-- ---- what can be spelled, and the one canonical spelling

-- integers, texts, or references to a table by a name
abbrev pub IsSpellableKind : ColKind → Type 0
IsSpellableKind kind.Int = Unit {0}
IsSpellableKind kind.Text = Unit {0}
IsSpellableKind (kind.Ref table) = IsName table
IsSpellableKind (kind.RefOrNull table) = IsName table

-- a name, and a kind that can be spelled
abbrev pub IsSpellableColumn : Column → Type 0
IsSpellableColumn column = IsName column.name × IsSpellableKind column.kind

-- null, an integer of 64 bits, or a text with no line feed
abbrev pub IsSpellableValue : Value → Type 0
IsSpellableValue value.Null = Unit {0}
IsSpellableValue (value.Int z) = FitsSigned w64 z
IsSpellableValue (value.Text text) = ¬ (Contains text 10)

-- a column's name, and the table's before it, if one is given, are names
abbrev pub IsSpellableName : ColName → Type 0
IsSpellableName name = IfSome name.table IsName × IsName name.column

-- a column that is a name, and a value that can be spelled
abbrev pub IsSpellableSetting : Setting → Type 0
IsSpellableSetting setting = IsName setting.column × IsSpellableValue setting.value

-- a column and a value that can be spelled
abbrev pub IsSpellableCondition : Cond → Type 0
IsSpellableCondition condition = IsSpellableName condition.column × IsSpellableValue condition.value

-- a join of names
abbrev pub IsSpellableJoin : Join → Type 0
IsSpellableJoin join =
    IsName join.table × IsName join.left.table × IsName join.left.column × IsName join.right.table × IsName join.right.column

-- *, or at least one column, each of which can be spelled
abbrev pub AreSpellableItems : Items → Type 0
AreSpellableItems items.All = Unit {0}
AreSpellableItems (items.Named names) = (0 < length names) × AllByRecursion IsSpellableName names

-- A command can be spelled where its names are names, its lists but those of joins and conditions aren't empty, its integers
-- have 64 bits, its count is below 2^63, and no text of it holds a line feed.
abbrev pub IsSpellable : Command → Type 0
IsSpellable (Table name schema) =
    IsName name × (0 < length schema.columns) × AllByRecursion IsSpellableColumn schema.columns
IsSpellable (DropTable table) = IsName table
IsSpellable (Index table column k) = IsName table × IsName column
IsSpellable (DropIndex table column k) = IsName table × IsName column
IsSpellable (Insert table values) = IsName table × (0 < length values) × AllByRecursion IsSpellableValue values
IsSpellable (Update table settings conditions) =
    IsName table × (0 < length settings) × AllByRecursion IsSpellableSetting settings
    × AllByRecursion IsSpellableCondition conditions
IsSpellable (Delete table conditions) = IsName table × AllByRecursion IsSpellableCondition conditions
IsSpellable (Select distinct items table joins conditions) =
    AreSpellableItems items × IsName table × AllByRecursion IsSpellableJoin joins × AllByRecursion IsSpellableCondition conditions
IsSpellable (Load table bytes) = IsName table × (bytes < 2 ^ 63)
IsSpellable (Dump table) = IsName table
IsSpellable Tables = Unit {0}

-- The characters of a symbol in the canonical spelling. Numbers have no zeros in front, and 0 has no sign.
abbrev pub symbol_text : Symbol → List ℕ
symbol_text (Keyword word) = word
symbol_text (Name name) = name
symbol_text (Literal value.Null) = codes "null"
symbol_text (Literal (value.Int z)) = signed_decimal z
symbol_text (Literal (value.Text text)) = text_literal text
symbol_text (Count n) = decimal n
symbol_text (Sign mark) = mark_text mark

-- What stands between two symbols: no blank behind an opening parenthesis, before a closing one, before a comma, or on
-- either side of a dot; else one blank.
abbrev pub gap : Symbol → Symbol → List ℕ
gap (Sign Open) next = []
gap (Sign Dot) next = []
gap symbol (Sign Close) = []
gap symbol (Sign Comma) = []
gap symbol (Sign Dot) = []
gap symbol next = 32 ∷ []

-- the symbols with the gap between each two of them
abbrev pub spaced : List Symbol → List ℕ
spaced [] = []
spaced (symbol ∷ []) = symbol_text symbol
spaced (symbol ∷ next ∷ symbols) = symbol_text symbol ++ (gap symbol next ++ spaced (next ∷ symbols))

-- the spelling in which a command is printed
abbrev pub canonical_spelling : Command → List ℕ
canonical_spelling command = spaced (symbols_of command)

-- ---- laws

-- no line spells two commands
abbrev pub SpellsAtMostOne : Type 0
SpellsAtMostOne = (line : List ℕ) (c d : Command) → Spells line c → Spells line d → c ≡ d

-- what a line spells can be spelled
abbrev pub SpelledIsSpellable : Type 0
SpelledIsSpellable = (line : List ℕ) (c : Command) → Spells line c → IsSpellable c

-- the canonical spelling of a command that can be spelled spells it
abbrev pub CanonicalSpells : Type 0
CanonicalSpells = (c : Command) → IsSpellable c → Spells (canonical_spelling c) c
