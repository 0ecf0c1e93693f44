-- Uniqueness: no line spells two commands.
use Rattle.std.proofs.Common.{◌≡◌, ℕ, ◌<◌, List, [], ◌∷◌, ◌++◌, length, Option, Some, None, Bool, true, false, refl, sym, ◌∙◌, ap, arith, append-nil, subst}
use Rattle.std.specs.List.{flat_map}
use Rattle.std.specs.Str.{bytes_eq}
use lib.Chars.{codes}
use Rattle.plain_tables.specs.Names.{is_word, is_name}
use Rattle.plain_tables.specs.Spelling.{Close, Comma, Dot, Open, Star, Symbol, Keyword, Name, Count, Sign, column_symbols, index_symbols, value_symbols, name_symbols, setting_symbols, condition_symbols, where_symbols, distinct_symbols, joined_symbols, join_symbols, items_symbols, IsMadeOf, NamesSomething, SpellsAtMostOne}
use Rattle.plain_tables.specs.Reading.{after_lexeme}
use Rattle.plain_tables.specs.ResolvedLaws.{NamesItems}
use Rattle.plain_tables.specs.declared.schema.IndexKind.{IndexKind}
use Rattle.plain_tables.specs.declared.condition.ColName.{ColName}
use Rattle.plain_tables.specs.declared.condition.Cond.{Cond}
use Rattle.plain_tables.specs.declared.command.Setting.{Setting}
use Rattle.plain_tables.specs.declared.command.Join.{Join}
use Rattle.plain_tables.specs.declared.command.Items.{Items}
use Rattle.plain_tables.specs.declared.command.Items.TheVariants as items
use Rattle.plain_tables.specs.declared.command.Command.{Command}
use Rattle.plain_tables.specs.declared.command.Command.TheVariants.{Table, DropTable, Index, DropIndex, Insert, Update, Delete, Select, Load, Dump, Tables}
use Rattle.plain_tables.proofs.Lexemes.{lexeme-of_made}
use Rattle.plain_tables.proofs.FirstWords.{first_word, behind_word, from_symbols, select-items, different, spells-word}
use Rattle.plain_tables.proofs.Lists.{NeverBegins, IsFixed, sign-fixed, word-fixed, fixed-no_fixed, fixed-no_name, fixed-no_end, HaveOneRest, fixed-ends_item, nothing-ends_item, IsOneItem, IsBetween, Ends, list_and, made-more, list-one}
use Rattle.plain_tables.proofs.SingleItems.{whole_name, name-and, count-and, fixed-and, value-one, column-one, setting-one, name-one, condition-one, joined-one, joins-listed, index-one}

-- ---- what ends a list

pub comma-between : IsBetween (Sign Comma)
comma-between = record { well = tt; ends_item = fixed-ends_item (Sign Comma) (codes ",") (sign-fixed Comma) refl refl }

pub and-between : IsBetween (Keyword (codes "and"))
and-between = record {
  well = refl;
  ends_item = fixed-ends_item (Keyword (codes "and")) (codes "and") (word-fixed (codes "and") refl) refl refl;
}

join-fixed : IsFixed (Keyword (codes "join")) (codes "join")
join-fixed = word-fixed (codes "join") refl

pub join-between : IsBetween (Keyword (codes "join"))
join-between = record { well = refl; ends_item = fixed-ends_item (Keyword (codes "join")) (codes "join") join-fixed refl refl }

-- A closing parenthesis, and the words from and where, end a list with commas, and where ends joins.
close-ends : (more : List Symbol) → Ends (Sign Comma) (Sign Close ∷ more)
close-ends more = record {
  ends_item = fixed-ends_item (Sign Close) (codes ")") (sign-fixed Close) refl refl more;
  no_more = fixed-no_fixed (Sign Comma) (Sign Close) _ _ (sign-fixed Comma) (sign-fixed Close) refl more;
}

word-ends : (between : Symbol) (text : List ℕ) → IsFixed between text → (word : List ℕ) → is_word word ≡ true → bytes_eq (codes ".") word ≡ false
    → bytes_eq (codes "null") word ≡ false → bytes_eq text word ≡ false → (more : List Symbol) → Ends between (Keyword word ∷ more)
word-ends between text fixed word is no_dot no_null other more = record {
  ends_item = fixed-ends_item (Keyword word) word (word-fixed word is) no_dot no_null more;
  no_more = fixed-no_fixed between (Keyword word) text word fixed (word-fixed word is) other more;
}

-- the end of the line ends any list
end-ends : (between : Symbol) (text : List ℕ) → IsFixed between text → bytes_eq text [] ≡ false → Ends between []
end-ends between text fixed some = record {
  ends_item = nothing-ends_item;
  no_more = fixed-no_end between text fixed some;
}

where-ends : (between : Symbol) (text : List ℕ) → IsFixed between text → bytes_eq text [] ≡ false → bytes_eq text (codes "where") ≡ false
    → (conditions : List Cond) → Ends between (where_symbols conditions)
where-ends between text fixed some other [] = end-ends between text fixed some
where-ends between text fixed some other (condition ∷ conditions) = word-ends between text fixed (codes "where") refl refl refl other _

comma-ends : (conditions : List Cond) → Ends (Sign Comma) (where_symbols conditions)
comma-ends = where-ends (Sign Comma) (codes ",") (sign-fixed Comma) refl refl

join-ends : (conditions : List Cond) → Ends (Keyword (codes "join")) (where_symbols conditions)
join-ends = where-ends (Keyword (codes "join")) (codes "join") join-fixed refl refl

-- ---- conditions

where-no_end : (line : List ℕ) (more : List Symbol) → IsMadeOf line (Keyword (codes "where") ∷ more) → IsMadeOf line [] → ⊥
where-no_end = fixed-no_end (Keyword (codes "where")) (codes "where") (word-fixed (codes "where") refl) refl

-- the conditions at the end of a line
ended : (line : List ℕ) (symbols : List Symbol) → IsMadeOf line symbols → IsMadeOf line (symbols ++ [])
ended line symbols made = subst (λ ss. IsMadeOf line ss) (sym (append-nil symbols)) made

where-one : (line : List ℕ) (cs ds : List Cond) → IsMadeOf line (where_symbols cs) → IsMadeOf line (where_symbols ds) → cs ≡ ds
where-one line [] [] made made' = refl
where-one line [] (d ∷ ds) made made' = absurd (where-no_end line _ made' made)
where-one line (c ∷ cs) [] made made' = absurd (where-no_end line _ made made')
where-one line (c ∷ cs) (d ∷ ds) made made' =
    let and : Symbol = Keyword (codes "and") in
    let more : List Symbol = list_and and condition_symbols (c ∷ cs) [] in
    let ends : Ends and [] = end-ends and (codes "and") (word-fixed (codes "and") refl) refl in
    let behind : List ℕ = after_lexeme line in
    (list-one and condition_symbols and-between condition-one behind (c ∷ cs) (d ∷ ds) [] [] (omega arith) (omega arith) ends ends
    (ended behind _ (lexeme-of_made line (Keyword (codes "where")) _ refl made).1)
    (ended behind _ (lexeme-of_made line (Keyword (codes "where")) _ refl made').1)).0

-- ---- items of a select

-- a fixed symbol that isn't a name begins no columns, as a star and the word distinct
fixed-no_column : (symbol : Symbol) (text : List ℕ) → IsFixed symbol text → is_name text ≡ false → (table : Option (List ℕ)) (column : List ℕ)
    (more : List Symbol) → NeverBegins symbol (whole_name table column ++ more)
fixed-no_column symbol text fixed not None column more = fixed-no_name symbol text fixed not column more
fixed-no_column symbol text fixed not (Some t) column more = fixed-no_name symbol text fixed not t (Sign Dot ∷ Name column ∷ more)

fixed-no_columns : (symbol : Symbol) (text : List ℕ) → IsFixed symbol text → is_name text ≡ false → (names : List ColName) (more : List Symbol)
    → 0 < length names → NeverBegins symbol (list_and (Sign Comma) name_symbols names more)
fixed-no_columns symbol text fixed not [] more some line others made made' = omega arith
fixed-no_columns symbol text fixed not (x ∷ []) more some line others made made' =
    fixed-no_column symbol text fixed not x.table x.column more line others made made'
fixed-no_columns symbol text fixed not (x ∷ y ∷ xs) more some line others made made' =
    fixed-no_column symbol text fixed not x.table x.column _ line others made (made-more (Sign Comma) name_symbols line x y xs more made')

star-no_names : (names : List ColName) (more : List Symbol) → 0 < length names
    → NeverBegins (Sign Star) (list_and (Sign Comma) name_symbols names more)
star-no_names = fixed-no_columns (Sign Star) (codes "*") (sign-fixed Star) refl

distinct-no_items : (items : Items) (more : List Symbol) → NamesItems items → NeverBegins (Keyword (codes "distinct")) (items_symbols items ++ more)
distinct-no_items items.All more some =
    fixed-no_fixed (Keyword (codes "distinct")) (Sign Star) (codes "distinct") (codes "*") (word-fixed (codes "distinct") refl) (sign-fixed Star) refl more
distinct-no_items (items.Named names) more some =
    fixed-no_columns (Keyword (codes "distinct")) (codes "distinct") (word-fixed (codes "distinct") refl) refl names more some

items-one : (line : List ℕ) (i j : Items) (m n : List Symbol) → NamesItems i → NamesItems j → Ends (Sign Comma) m → Ends (Sign Comma) n
    → IsMadeOf line (items_symbols i ++ m) → IsMadeOf line (items_symbols j ++ n) → (i ≡ j) × HaveOneRest m n
items-one line items.All items.All m n has has' ends ends' made made' = (refl, fixed-and (Sign Star) tt line m n made made')
items-one line items.All (items.Named names) m n has has' ends ends' made made' =
    absurd (star-no_names names n has' line m made made')
items-one line (items.Named names) items.All m n has has' ends ends' made made' =
    absurd (star-no_names names m has line n made' made)
items-one line (items.Named names) (items.Named others) m n has has' ends ends' made made' =
    let both = list-one (Sign Comma) name_symbols comma-between name-one line names others m n has has' ends ends' made made' in
    (ap items.Named both.0, both.1)

-- ---- what stands behind a first word

-- a name and a list in parentheses
in_parentheses-one : {X : Type 0} (symbols : X → List Symbol) → IsOneItem symbols → (line name name' : List ℕ) (xs ys : List X)
    → 0 < length xs → 0 < length ys → IsMadeOf line (Name name ∷ Sign Open ∷ list_and (Sign Comma) symbols xs (Sign Close ∷ []))
    → IsMadeOf line (Name name' ∷ Sign Open ∷ list_and (Sign Comma) symbols ys (Sign Close ∷ [])) → (name ≡ name') × (xs ≡ ys)
in_parentheses-one symbols one line name name' xs ys some some' made made' =
    let list : List Symbol = list_and (Sign Comma) symbols xs (Sign Close ∷ []) in
    let list' : List Symbol = list_and (Sign Comma) symbols ys (Sign Close ∷ []) in
    let names = name-and line name name' (Sign Open ∷ list) (Sign Open ∷ list') made made' in
    let lists = fixed-and (Sign Open) tt names.1.0 list list' names.1.1 names.1.2 in
    let items = list-one (Sign Comma) symbols comma-between one lists.0 xs ys (Sign Close ∷ []) (Sign Close ∷ []) some some'
    (close-ends []) (close-ends []) lists.1 lists.2 in
    (names.0, items.0)

-- a name and conditions
name-where-one : (line name name' : List ℕ) (cs ds : List Cond) → IsMadeOf line (Name name ∷ where_symbols cs)
    → IsMadeOf line (Name name' ∷ where_symbols ds) → (name ≡ name') × (cs ≡ ds)
name-where-one line name name' cs ds made made' =
    let names = name-and line name name' (where_symbols cs) (where_symbols ds) made made' in
    (names.0, where-one names.1.0 cs ds names.1.1 names.1.2)

-- the settings of an update
abbrev set_symbols : List Setting → List Cond → List Symbol
set_symbols settings conditions = Keyword (codes "set") ∷ list_and (Sign Comma) setting_symbols settings (where_symbols conditions)

set-one : (line : List ℕ) (ss ts : List Setting) (cs ds : List Cond) → 0 < length ss → 0 < length ts
    → IsMadeOf line (set_symbols ss cs) → IsMadeOf line (set_symbols ts ds) → (ss ≡ ts) × (cs ≡ ds)
set-one line ss ts cs ds some some' made made' =
    let list : List Symbol = list_and (Sign Comma) setting_symbols ss (where_symbols cs) in
    let list' : List Symbol = list_and (Sign Comma) setting_symbols ts (where_symbols ds) in
    let lists = fixed-and (Keyword (codes "set")) refl line list list' made made' in
    let items = list-one (Sign Comma) setting_symbols comma-between setting-one lists.0 ss ts (where_symbols cs) (where_symbols ds) some some'
    (comma-ends cs) (comma-ends ds) lists.1 lists.2 in
    (items.0, where-one items.1.0 cs ds items.1.1 items.1.2)

update-one : (line name name' : List ℕ) (ss ts : List Setting) (cs ds : List Cond) → 0 < length ss → 0 < length ts
    → IsMadeOf line (Name name ∷ set_symbols ss cs) → IsMadeOf line (Name name' ∷ set_symbols ts ds)
    → (name ≡ name') × (ss ≡ ts) × (cs ≡ ds)
update-one line name name' ss ts cs ds some some' made made' =
    let names = name-and line name name' (set_symbols ss cs) (set_symbols ts ds) made made' in
    let others = set-one names.1.0 ss ts cs ds some some' names.1.1 names.1.2 in
    (names.0, others.0, others.1)

-- the joins of a select
join-no_end : (line : List ℕ) (joins : List Join) (join : Join) (conditions others : List Cond)
    → IsMadeOf line (flat_map join_symbols (join ∷ joins) ++ where_symbols conditions) → IsMadeOf line (where_symbols others) → ⊥
join-no_end line joins join conditions others made =
    (join-ends others).no_more line ((joined_symbols join ++ flat_map join_symbols joins) ++ where_symbols conditions) made

made-listed : (line : List ℕ) (join : Join) (joins : List Join) (more : List Symbol) → IsMadeOf line (flat_map join_symbols (join ∷ joins) ++ more)
    → IsMadeOf line (Keyword (codes "join") ∷ list_and (Keyword (codes "join")) joined_symbols (join ∷ joins) more)
made-listed line join joins more made = subst (λ ss. IsMadeOf line (ss ++ more)) (joins-listed join joins) made

joins-one : (line : List ℕ) (xs ys : List Join) (cs ds : List Cond) → IsMadeOf line (flat_map join_symbols xs ++ where_symbols cs)
    → IsMadeOf line (flat_map join_symbols ys ++ where_symbols ds) → (xs ≡ ys) × (cs ≡ ds)
joins-one line [] [] cs ds made made' = (refl, where-one line cs ds made made')
joins-one line [] (y ∷ ys) cs ds made made' = absurd (join-no_end line ys y ds cs made' made)
joins-one line (x ∷ xs) [] cs ds made made' = absurd (join-no_end line xs x cs ds made made')
joins-one line (x ∷ xs) (y ∷ ys) cs ds made made' =
    let join : Symbol = Keyword (codes "join") in
    let list : List Symbol = list_and join joined_symbols (x ∷ xs) (where_symbols cs) in
    let list' : List Symbol = list_and join joined_symbols (y ∷ ys) (where_symbols ds) in
    let lists = fixed-and join refl line list list' (made-listed line x xs (where_symbols cs) made) (made-listed line y ys (where_symbols ds) made') in
    let items = list-one join joined_symbols join-between joined-one lists.0 (x ∷ xs) (y ∷ ys) (where_symbols cs) (where_symbols ds) (omega arith) (omega arith)
    (join-ends cs) (join-ends ds) lists.1 lists.2 in
    (items.0, where-one items.1.0 cs ds items.1.1 items.1.2)

-- the table of a select, its joins, and its conditions
from-one : (line name name' : List ℕ) (xs ys : List Join) (cs ds : List Cond) → IsMadeOf line (from_symbols name xs cs)
    → IsMadeOf line (from_symbols name' ys ds) → (name ≡ name') × (xs ≡ ys) × (cs ≡ ds)
from-one line name name' xs ys cs ds made made' =
    let tail : List Symbol = flat_map join_symbols xs ++ where_symbols cs in
    let tail' : List Symbol = flat_map join_symbols ys ++ where_symbols ds in
    let named = fixed-and (Keyword (codes "from")) refl line (Name name ∷ tail) (Name name' ∷ tail') made made' in
    let names = name-and named.0 name name' tail tail' named.1 named.2 in
    let others = joins-one names.1.0 xs ys cs ds names.1.1 names.1.2 in
    (names.0, others.0, others.1)

-- Either both begin with the word distinct, or neither does.
distinct-one : (line : List ℕ) (d e : Bool) (i j : Items) (m n : List Symbol) → NamesItems i → NamesItems j
    → IsMadeOf line (distinct_symbols d ++ (items_symbols i ++ m)) → IsMadeOf line (distinct_symbols e ++ (items_symbols j ++ n))
    → (d ≡ e) × HaveOneRest (items_symbols i ++ m) (items_symbols j ++ n)
distinct-one line true true i j m n has has' made made' =
    (refl, fixed-and (Keyword (codes "distinct")) refl line (items_symbols i ++ m) (items_symbols j ++ n) made made')
distinct-one line true false i j m n has has' made made' = absurd (distinct-no_items j n has' line (items_symbols i ++ m) made made')
distinct-one line false true i j m n has has' made made' = absurd (distinct-no_items i m has line (items_symbols j ++ n) made' made)
distinct-one line false false i j m n has has' made made' = (refl, (line, made, made'))

abbrev select_symbols : Bool → Items → List ℕ → List Join → List Cond → List Symbol
select_symbols distinct items table joins conditions =
    distinct_symbols distinct ++ (items_symbols items ++ from_symbols table joins conditions)

select-one : (line : List ℕ) (d e : Bool) (i j : Items) (name name' : List ℕ) (xs ys : List Join) (cs ds : List Cond) → NamesItems i → NamesItems j
    → IsMadeOf line (select_symbols d i name xs cs) → IsMadeOf line (select_symbols e j name' ys ds)
    → (d ≡ e) × (i ≡ j) × (name ≡ name') × (xs ≡ ys) × (cs ≡ ds)
select-one line d e i j name name' xs ys cs ds has has' made made' =
    let from : List Symbol = from_symbols name xs cs in
    let from' : List Symbol = from_symbols name' ys ds in
    let words = distinct-one line d e i j from from' has has' made made' in
    let items = items-one words.1.0 i j from from' has has' (from-ends _) (from-ends _) words.1.1 words.1.2 in
    let others = from-one items.1.0 name name' xs ys cs ds items.1.1 items.1.2 in
    (words.0, items.0, others.0, others.1, others.2)
  where
    from-ends : (more : List Symbol) → Ends (Sign Comma) (Keyword (codes "from") ∷ more)
    from-ends = word-ends (Sign Comma) (codes ",") (sign-fixed Comma) (codes "from") refl refl refl refl

-- what stands behind a drop
drop-table-one : (line table table' : List ℕ) → IsMadeOf line (Keyword (codes "table") ∷ Name table ∷ [])
    → IsMadeOf line (Keyword (codes "table") ∷ Name table' ∷ []) → table ≡ table'
drop-table-one line table table' made made' =
    let names = fixed-and (Keyword (codes "table")) refl line (Name table ∷ []) (Name table' ∷ []) made made' in
    (name-and names.0 table table' [] [] names.1 names.2).0

drop-index-one : (line table table' column column' : List ℕ) (j k : IndexKind) → IsMadeOf line (Keyword (codes "index") ∷ index_symbols table column j)
    → IsMadeOf line (Keyword (codes "index") ∷ index_symbols table' column' k) → (table ≡ table') × (column ≡ column') × (j ≡ k)
drop-index-one line table table' column column' j k made made' =
    let parts = fixed-and (Keyword (codes "index")) refl line (index_symbols table column j) (index_symbols table' column' k) made made' in
    index-one parts.0 table table' column column' j k parts.1 parts.2

-- no line drops a table and an index
table-no_index : (line : List ℕ) (symbols others : List Symbol) → IsMadeOf line (Keyword (codes "table") ∷ symbols)
    → IsMadeOf line (Keyword (codes "index") ∷ others) → ⊥
table-no_index line symbols others =
    fixed-no_fixed (Keyword (codes "table")) (Keyword (codes "index")) (codes "table") (codes "index") (word-fixed (codes "table") refl)
    (word-fixed (codes "index") refl) refl others line symbols

-- what stands behind a load
load-one : (line table table' : List ℕ) (bytes bytes' : ℕ) → IsMadeOf line (Name table ∷ Count bytes ∷ [])
    → IsMadeOf line (Name table' ∷ Count bytes' ∷ []) → (table ≡ table') × (bytes ≡ bytes')
load-one line table table' bytes bytes' made made' =
    let names = name-and line table table' (Count bytes ∷ []) (Count bytes' ∷ []) made made' in
    (names.0, (count-and names.1.0 bytes bytes' [] [] names.1.1 names.1.2).0)

-- ---- commands

-- Behind the same first word, a line is made of the symbols of one command alone.
behind_word-one : (line : List ℕ) (c d : Command) → NamesSomething c → NamesSomething d → first_word c ≡ first_word d
    → IsMadeOf line (behind_word c) → IsMadeOf line (behind_word d) → c ≡ d
behind_word-one line (Table name schema) (Table name' schema') some some' same made made' =
    let both = in_parentheses-one column_symbols column-one line name name' schema.columns schema'.columns some some' made made' in
    λ i. Table (both.0 i) (record { columns = both.1 i })
behind_word-one line (DropTable table) (DropTable table') some some' same made made' =
    ap DropTable (drop-table-one line table table' made made')
behind_word-one line (DropTable table) (DropIndex table' column k) some some' same made made' =
    absurd (table-no_index line (Name table ∷ []) (index_symbols table' column k) made made')
behind_word-one line (DropIndex table column k) (DropTable table') some some' same made made' =
    absurd (table-no_index line (Name table' ∷ []) (index_symbols table column k) made' made)
behind_word-one line (Index table column j) (Index table' column' k) some some' same made made' =
    let all = index-one line table table' column column' j k made made' in
    λ i. Index (all.0 i) (all.1 i) (all.2 i)
behind_word-one line (DropIndex table column j) (DropIndex table' column' k) some some' same made made' =
    let all = drop-index-one line table table' column column' j k made made' in
    λ i. DropIndex (all.0 i) (all.1 i) (all.2 i)
behind_word-one line Tables Tables some some' same made made' = refl
behind_word-one line (Insert table values) (Insert table' values') some some' same made made' =
    let both = in_parentheses-one value_symbols value-one line table table' values values' some some' made made' in
    λ i. Insert (both.0 i) (both.1 i)
behind_word-one line (Update table ss cs) (Update table' ts ds) some some' same made made' =
    let all = update-one line table table' ss ts cs ds some some' made made' in
    λ i. Update (all.0 i) (all.1 i) (all.2 i)
behind_word-one line (Delete table cs) (Delete table' ds) some some' same made made' =
    let both = name-where-one line table table' cs ds made made' in
    λ i. Delete (both.0 i) (both.1 i)
behind_word-one line (Select d i table xs cs) (Select e j table' ys ds) some some' same made made' =
    let all = select-one line d e i j table table' xs ys cs ds (select-items d i table xs cs some) (select-items e j table' ys ds some') made made' in
    λ k. Select (all.0 k) (all.1 k) (all.2 k) (all.3 k) (all.4 k)
behind_word-one line (Load table bytes) (Load table' bytes') some some' same made made' =
    let both = load-one line table table' bytes bytes' made made' in
    λ i. Load (both.0 i) (both.1 i)
behind_word-one line (Dump table) (Dump table') some some' same made made' = ap Dump (name-and line table table' [] [] made made').0
behind_word-one line c d some some' same made made' = absurd (different (first_word c) (first_word d) refl same)

-- Law: no line spells two commands.
pub spells-one : SpellsAtMostOne
spells-one line c d spells spells' =
    let (word, made) = spells-word line c spells in
    let (word', made') = spells-word line d spells' in
    behind_word-one (after_lexeme line) c d spells.1 spells'.1 (sym word ∙ word') made made'
