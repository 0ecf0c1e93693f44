-- Spellable: what a line spells can be spelled.
use Rattle.std.proofs.Common.{◌≢◌, ℕ, List, [], ◌∷◌, ◌++◌, map, Option, Some, None, subst}
use Rattle.std.specs.Prelude.{IfSome}
use Rattle.std.specs.List.{AllByRecursion, flat_map}
use lib.Chars.{codes}
use Rattle.plain_tables.specs.Names.{IsName}
use Rattle.plain_tables.specs.Spelling.{Close, Comma, Symbol, Keyword, Sign, Operator, Literal, separated, kind_symbols, column_symbols, value_symbols, name_symbols, setting_symbols, condition_symbols, where_symbols, distinct_symbols, join_symbols, items_symbols, symbols_of, IsSymbol, IsMadeOf, NamesSomething, IsSpellableKind, IsSpellableColumn, IsSpellableValue, IsSpellableName, IsSpellableSetting, IsSpellableCondition, IsSpellableJoin, AreSpellableItems, IsSpellable, SpelledIsSpellable}
use Rattle.plain_tables.specs.ResolvedLaws.{NamesItems}
use Rattle.plain_tables.specs.declared.value.Value.{Value}
use Rattle.plain_tables.specs.declared.value.Value.TheVariants as value
use Rattle.plain_tables.specs.declared.schema.ColKind.{ColKind}
use Rattle.plain_tables.specs.declared.schema.ColKind.TheVariants as kind
use Rattle.plain_tables.specs.declared.schema.Column.{Column}
use Rattle.plain_tables.specs.declared.condition.ColName.{ColName}
use Rattle.plain_tables.specs.declared.condition.Cond.{Cond}
use Rattle.plain_tables.specs.declared.command.Setting.{Setting}
use Rattle.plain_tables.specs.declared.command.Join.{Join}
use Rattle.plain_tables.specs.declared.command.Items.{Items}
use Rattle.plain_tables.specs.declared.command.Items.TheVariants as items
use Rattle.plain_tables.specs.declared.command.Command.{Command}
use Rattle.plain_tables.specs.declared.command.Command.TheVariants.{Table, DropTable, Index, DropIndex, Insert, Update, Delete, Select, Load, Dump, Tables}
use Rattle.plain_tables.proofs.FirstWords.{from_symbols, select-items, split-word}
use Rattle.plain_tables.proofs.Separated.{all-left, all-right, separated-each}
use Rattle.plain_tables.proofs.LineFeeds.{HasNoFeed, contains-no_feed, literal-feed}

-- some characters, with no line feed, are this symbol
abbrev HasCharacters : Symbol → Type 0
HasCharacters symbol = (characters : List ℕ) × IsSymbol characters symbol × HasNoFeed characters

abbrev HaveCharacters : List Symbol → Type 0
HaveCharacters symbols = AllByRecursion HasCharacters symbols

made-each : (symbols : List Symbol) (line : List ℕ) → HasNoFeed line → IsMadeOf line symbols → HaveCharacters symbols
made-each [] line free made = tt
made-each (symbol ∷ symbols) line free (blanks, characters, rest, are, is, ends, others, e) =
    let behind : HasNoFeed (characters ++ rest) = all-right (λ c. c ≢ 10) blanks (characters ++ rest) (rw e at free) in
    ((characters, is, all-left (λ c. c ≢ 10) characters rest behind), made-each symbols rest (all-right (λ c. c ≢ 10) characters rest behind) others)

-- ---- items

kind-each : (k : ColKind) → HaveCharacters (kind_symbols k) → IsSpellableKind k
kind-each kind.Int all = tt
kind-each kind.Text all = tt
kind-each refers all = all.1.0.1.1

column-each : (column : Column) → HaveCharacters (column_symbols column) → IsSpellableColumn column
column-each column all = (all.0.1.1, kind-each column.kind all.1)

literal-each : (v : Value) → HasCharacters (Literal v) → IsSpellableValue v
literal-each value.Null has = tt
literal-each (value.Int z) has = has.1.0
literal-each (value.Text text) has = literal-feed text (subst HasNoFeed has.1 has.2)

value-each : (v : Value) → HaveCharacters (value_symbols v) → IsSpellableValue v
value-each v all = literal-each v all.0

setting-each : (setting : Setting) → HaveCharacters (setting_symbols setting) → IsSpellableSetting setting
setting-each setting all = (all.0.1.1, literal-each setting.value all.1.1.0)

name-at : (table : Option (List ℕ)) (column : List ℕ)
    → HaveCharacters (name_symbols (record { table = table; column = column })) → IfSome table IsName × IsName column
name-at None column all = (tt, all.0.1.1)
name-at (Some t) column all = (all.0.1.1, all.1.1.0.1.1)

name-each : (name : ColName) → HaveCharacters (name_symbols name) → IsSpellableName name
name-each name all = name-at name.table name.column all

condition-each : (condition : Cond) → HaveCharacters (condition_symbols condition) → IsSpellableCondition condition
condition-each condition all = (
  name-each condition.column (all-left HasCharacters (name_symbols condition.column) _ all),
  literal-each condition.value (all-right HasCharacters (name_symbols condition.column) (Sign (Operator condition.op) ∷ Literal condition.value ∷ []) all).1.0,
)

-- ---- lists

where-each : (conditions : List Cond) → HaveCharacters (where_symbols conditions) → AllByRecursion IsSpellableCondition conditions
where-each [] all = tt
where-each (condition ∷ conditions) all =
    separated-each HasCharacters (Keyword (codes "and")) condition_symbols IsSpellableCondition condition-each (condition ∷ conditions) all.1

-- a list with commas, and what stands behind it
listed-each : {X : Type 0} (symbols : X → List Symbol) (P : X → Type 0) → ((x : X) → HaveCharacters (symbols x) → P x)
    → (xs : List X) (more : List Symbol) → HaveCharacters (separated (map symbols xs) ++ more) → AllByRecursion P xs × HaveCharacters more
listed-each symbols P each xs more all = (
  separated-each HasCharacters (Sign Comma) symbols P each xs (all-left HasCharacters (separated (map symbols xs)) more all),
  all-right HasCharacters (separated (map symbols xs)) more all,
)

join-each : (join : Join) → HaveCharacters (join_symbols join) → IsSpellableJoin join
join-each join (word, (table, (on, (left, (dot, (column, (equals, (right, (dot', (column', none)))))))))) =
    (table.1.1, left.1.1, column.1.1, right.1.1, column'.1.1)

joins-each : (joins : List Join) → HaveCharacters (flat_map join_symbols joins) → AllByRecursion IsSpellableJoin joins
joins-each [] all = tt
joins-each (join ∷ joins) all = (
  join-each join (all-left HasCharacters (join_symbols join) (flat_map join_symbols joins) all),
  joins-each joins (all-right HasCharacters (join_symbols join) (flat_map join_symbols joins) all),
)

from-each : (table : List ℕ) (joins : List Join) (conditions : List Cond) → HaveCharacters (from_symbols table joins conditions)
    → IsName table × AllByRecursion IsSpellableJoin joins × AllByRecursion IsSpellableCondition conditions
from-each table joins conditions all = (
  all.1.0.1.1,
  joins-each joins (all-left HasCharacters (flat_map join_symbols joins) (where_symbols conditions) all.1.1),
  where-each conditions (all-right HasCharacters (flat_map join_symbols joins) (where_symbols conditions) all.1.1),
)

items-each : (items : Items) (more : List Symbol) → NamesItems items → HaveCharacters (items_symbols items ++ more)
    → AreSpellableItems items × HaveCharacters more
items-each items.All more some all = (tt, all.1)
items-each (items.Named names) more some all =
    let parts = listed-each name_symbols IsSpellableName name-each names more all in
    ((some, parts.0), parts.1)

-- Law: where the symbols of a command have characters, the command can be spelled.
symbols-spellable : (c : Command) → NamesSomething c → HaveCharacters (symbols_of c) → IsSpellable c
symbols-spellable (Table name schema) some all =
    (all.1.0.1.1, some, (listed-each column_symbols IsSpellableColumn column-each schema.columns (Sign Close ∷ []) all.1.1.1).0)
symbols-spellable (DropTable table) some all = all.1.1.0.1.1
symbols-spellable (Index table column k) some all = (all.1.0.1.1, all.1.1.0.1.1)
symbols-spellable (DropIndex table column k) some all = (all.1.1.0.1.1, all.1.1.1.0.1.1)
symbols-spellable (Insert table values) some all =
    (all.1.0.1.1, some, (listed-each value_symbols IsSpellableValue value-each values (Sign Close ∷ []) all.1.1.1).0)
symbols-spellable (Update table settings conditions) some all =
    let parts = listed-each setting_symbols IsSpellableSetting setting-each settings (where_symbols conditions) all.1.1.1 in
    (all.1.0.1.1, some, parts.0, where-each conditions parts.1)
symbols-spellable (Delete table conditions) some all = (all.1.0.1.1, where-each conditions all.1.1)
symbols-spellable (Select distinct items table joins conditions) some all =
    let from : List Symbol = from_symbols table joins conditions in
    let split : HaveCharacters (Keyword (codes "select") ∷ (distinct_symbols distinct ++ (items_symbols items ++ from))) =
    subst HaveCharacters (split-word (Select distinct items table joins conditions)).0 all in
    let list = items-each items from (select-items distinct items table joins conditions some)
    (all-right HasCharacters (distinct_symbols distinct) (items_symbols items ++ from) split.1) in
    let parts = from-each table joins conditions list.1 in
    (list.0, parts.0, parts.1, parts.2)
symbols-spellable (Load table bytes) some all = (all.1.0.1.1, all.1.1.0.1.0)
symbols-spellable (Dump table) some all = all.1.0.1.1
symbols-spellable Tables some all = tt

-- Law: what a line spells can be spelled.
pub spelled-spellable : SpelledIsSpellable
spelled-spellable line c spells =
    symbols-spellable c spells.1 (made-each (symbols_of c) line (contains-no_feed line spells.0) spells.2)
