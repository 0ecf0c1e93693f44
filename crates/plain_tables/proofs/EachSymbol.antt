-- What holds of each symbol of a command, if it holds of words, marks, names, values and counts.
use Rattle.std.proofs.Common.{ℕ, List, [], ◌∷◌, ◌++◌, ◌<◌, ◌^◌, map, IsTrue, Bool, true, false, refl, sym, subst, Option, Some, None}
use Rattle.std.specs.Prelude.{IfSome}
use Rattle.std.specs.List.{AllByRecursion, flat_map}
use lib.Chars.{codes}
use Rattle.plain_tables.specs.Names.{is_word, IsName}
use Rattle.plain_tables.specs.Spelling.{Mark, Open, Close, Comma, Dot, Star, Operator, Symbol, Keyword, Name, Literal, Count, Sign, separated_by, kind_symbols, column_symbols, index_word, index_symbols, value_symbols, name_symbols, setting_symbols, condition_symbols, where_symbols, distinct_symbols, side_symbols, join_symbols, items_symbols, symbols_of, IsSpellableKind, IsSpellableColumn, IsSpellableValue, IsSpellableName, IsSpellableSetting, IsSpellableCondition, IsSpellableJoin, AreSpellableItems, IsSpellable}
use Rattle.plain_tables.specs.declared.value.Value.{Value}
use Rattle.plain_tables.specs.declared.schema.ColKind.{ColKind}
use Rattle.plain_tables.specs.declared.schema.ColKind.TheVariants as kind
use Rattle.plain_tables.specs.declared.schema.Column.{Column}
use Rattle.plain_tables.specs.declared.schema.IndexKind.{IndexKind}
use Rattle.plain_tables.specs.declared.schema.IndexKind.TheVariants as index
use Rattle.plain_tables.specs.declared.condition.Op.TheVariants.{Eq}
use Rattle.plain_tables.specs.declared.condition.ColName.{ColName}
use Rattle.plain_tables.specs.declared.condition.Cond.{Cond}
use Rattle.plain_tables.specs.declared.command.Setting.{Setting}
use Rattle.plain_tables.specs.declared.command.Join.{Join}
use Rattle.plain_tables.specs.declared.command.Items.{Items}
use Rattle.plain_tables.specs.declared.command.Items.TheVariants as items
use Rattle.plain_tables.specs.declared.command.Command.{Command}
use Rattle.plain_tables.specs.declared.command.Command.TheVariants.{Table, DropTable, Index, DropIndex, Insert, Update, Delete, Select, Load, Dump, Tables}
use Rattle.plain_tables.proofs.FirstWords.{split-word}
use Rattle.plain_tables.proofs.Separated.{all-append, separated-all}

-- It holds of each keyword that is a word, and of each mark. It holds of a name, a value and a count where these can be spelled, which a premise may grant.
pub record HoldsOfSymbols (P : Symbol → Type 0) (G : Type 0) : Type 0 where
  pub word : (w : List ℕ) → IsTrue (is_word w) → P (Keyword w)
  pub sign : (mark : Mark) → P (Sign mark)
  pub name : (n : List ℕ) → (G → IsName n) → P (Name n)
  pub literal : (v : Value) → (G → IsSpellableValue v) → P (Literal v)
  pub count : (n : ℕ) → (G → n < 2 ^ 63) → P (Count n)

pub index_word-word : (k : IndexKind) → IsTrue (is_word (index_word k))
index_word-word index.Tree = refl
index_word-word index.Hash = refl

module _ (P : Symbol → Type 0) (G : Type 0) (holds : HoldsOfSymbols P G) where
  abbrev Each : List Symbol → Type 0
  Each symbols = AllByRecursion P symbols

  kind-each : (k : ColKind) → (G → IsSpellableKind k) → Each (kind_symbols k)
  kind-each kind.Int is = (holds.word (codes "int") refl, tt)
  kind-each kind.Text is = (holds.word (codes "text") refl, tt)
  kind-each (kind.Ref table) is = (holds.word (codes "ref") refl, (holds.name table is, tt))
  kind-each (kind.RefOrNull table) is = (holds.word (codes "ref") refl, (holds.name table is, (holds.word (codes "null") refl, tt)))

  column-each : (column : Column) → (G → IsSpellableColumn column) → Each (column_symbols column)
  column-each column is = (holds.name column.name (λ g. (is g).0), kind-each column.kind (λ g. (is g).1))

  index-each : (table column : List ℕ) (k : IndexKind) → (G → IsName table × IsName column) → Each (index_symbols table column k)
  index-each table column k is = (holds.name table (λ g. (is g).0), (holds.name column (λ g. (is g).1), (holds.word (index_word k) (index_word-word k), tt)))

  value-each : (v : Value) → (G → IsSpellableValue v) → Each (value_symbols v)
  value-each v is = (holds.literal v is, tt)

  name-at : (table : Option (List ℕ)) (column : List ℕ) → (G → IfSome table IsName × IsName column) → Each (name_symbols (record { table = table; column = column }))
  name-at None column is = (holds.name column (λ g. (is g).1), tt)
  name-at (Some t) column is = (holds.name t (λ g. (is g).0), (holds.sign Dot, (holds.name column (λ g. (is g).1), tt)))

  pub name-each : (name : ColName) → (G → IsSpellableName name) → Each (name_symbols name)
  name-each name is = name-at name.table name.column is

  setting-each : (setting : Setting) → (G → IsSpellableSetting setting) → Each (setting_symbols setting)
  setting-each setting is = (holds.name setting.column (λ g. (is g).0), (holds.sign (Operator Eq), (holds.literal setting.value (λ g. (is g).1), tt)))

  condition-each : (condition : Cond) → (G → IsSpellableCondition condition) → Each (condition_symbols condition)
  condition-each condition is =
      all-append P (name_symbols condition.column) _ (name-each condition.column (λ g. (is g).0)) (holds.sign (Operator condition.op), (holds.literal condition.value (λ g. (is g).1), tt))

  where-each : (conditions : List Cond) → (G → AllByRecursion IsSpellableCondition conditions) → Each (where_symbols conditions)
  where-each [] is = tt
  where-each (condition ∷ conditions) is =
      (holds.word (codes "where") refl, separated-all P G (Keyword (codes "and")) (holds.word (codes "and") refl) condition_symbols IsSpellableCondition condition-each (condition ∷ conditions) is)

  -- a list with commas between its items
  listed-each : {X : Type 0} (symbols : X → List Symbol) (Q : X → Type 0) → ((x : X) → (G → Q x) → Each (symbols x))
      → (xs : List X) → (G → AllByRecursion Q xs) → Each (separated_by (Sign Comma) (map symbols xs))
  listed-each symbols Q each xs is = separated-all P G (Sign Comma) (holds.sign Comma) symbols Q each xs is

  -- and in brackets, behind a name
  bracketed-each : {X : Type 0} (symbols : X → List Symbol) (Q : X → Type 0) → ((x : X) → (G → Q x) → Each (symbols x))
      → (name : List ℕ) (xs : List X) → (G → IsName name) → (G → AllByRecursion Q xs) → Each (Name name ∷ Sign Open ∷ separated_by (Sign Comma) (map symbols xs) ++ Sign Close ∷ [])
  bracketed-each symbols Q each name xs is are =
      (holds.name name is, (holds.sign Open, all-append P _ (Sign Close ∷ []) (listed-each symbols Q each xs are) (holds.sign Close, tt)))

  pub items-each : (items : Items) → (G → AreSpellableItems items) → Each (items_symbols items)
  items-each items.All is = (holds.sign Star, tt)
  items-each (items.Named names) is = listed-each name_symbols IsSpellableName name-each names (λ g. (is g).1)

  pub distinct-each : (distinct : Bool) → Each (distinct_symbols distinct)
  distinct-each true = (holds.word (codes "distinct") refl, tt)
  distinct-each false = tt

  join-each : (join : Join) → (G → IsSpellableJoin join) → Each (join_symbols join)
  join-each join is = (
    holds.word (codes "join") refl,
    (
      holds.name join.table (λ g. (is g).0),
      (
        holds.word (codes "on") refl,
        all-append P (side_symbols join.left) (Sign (Operator Eq) ∷ side_symbols join.right) (name-at (Some join.left.table) join.left.column (λ g. ((is g).1, (is g).2)))
            (holds.sign (Operator Eq), name-at (Some join.right.table) join.right.column (λ g. ((is g).3, (is g).4))),
      ),
    ),
  )

  pub joins-each : (joins : List Join) → (G → AllByRecursion IsSpellableJoin joins) → Each (flat_map join_symbols joins)
  joins-each [] is = tt
  joins-each (join ∷ joins) is =
      all-append P (join_symbols join) (flat_map join_symbols joins) (join-each join (λ g. (is g).0)) (joins-each joins (λ g. (is g).1))

  -- Law: it holds of each symbol of a command.
  pub command-each : (command : Command) → (G → IsSpellable command) → Each (symbols_of command)
  command-each (Table name schema) is = (holds.word (codes "table") refl, bracketed-each column_symbols IsSpellableColumn column-each name schema.columns (λ g. (is g).0) (λ g. (is g).2))
  command-each (DropTable table) is = (holds.word (codes "drop") refl, (holds.word (codes "table") refl, (holds.name table is, tt)))
  command-each (Index table column k) is = (holds.word (codes "index") refl, index-each table column k is)
  command-each (DropIndex table column k) is = (holds.word (codes "drop") refl, (holds.word (codes "index") refl, index-each table column k is))
  command-each (Insert table values) is = (holds.word (codes "insert") refl, bracketed-each value_symbols IsSpellableValue value-each table values (λ g. (is g).0) (λ g. (is g).2))
  command-each (Update table settings conditions) is = (
    holds.word (codes "update") refl,
    (
      holds.name table (λ g. (is g).0),
      (
        holds.word (codes "set") refl,
        all-append P _ (where_symbols conditions) (listed-each setting_symbols IsSpellableSetting setting-each settings (λ g. (is g).2)) (where-each conditions (λ g. (is g).3)),
      ),
    ),
  )
  command-each (Delete table conditions) is = (holds.word (codes "delete") refl, (holds.name table (λ g. (is g).0), where-each conditions (λ g. (is g).1)))
  command-each (Select distinct items table joins conditions) is =
      subst Each (sym (split-word (Select distinct items table joins conditions)).0) (
        holds.word (codes "select") refl,
        all-append P (distinct_symbols distinct) _ (distinct-each distinct)
            (all-append P (items_symbols items) _ (items-each items (λ g. (is g).0))
            (holds.word (codes "from") refl, (holds.name table (λ g. (is g).1), all-append P (flat_map join_symbols joins) _ (joins-each joins (λ g. (is g).2)) (where-each conditions (λ g. (is g).3))))),
      )
  command-each (Load table bytes) is = (holds.word (codes "load") refl, (holds.name table (λ g. (is g).0), (holds.count bytes (λ g. (is g).1), tt)))
  command-each (Dump table) is = (holds.word (codes "dump") refl, (holds.name table is, tt))
  command-each Tables is = (holds.word (codes "tables") refl, tt)
