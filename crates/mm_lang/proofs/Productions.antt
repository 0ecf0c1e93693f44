-- Productions: what a line is behind its first word.
use Rattle.std.proofs.Common.{◌≡◌, ◌≢◌, ℕ, ◌<◌, List, [], ◌∷◌, ◌++◌, length, map, false, ◌⊎◌, inl, inr, refl, sym, ◌∙◌, ap, arith}
use Rattle.std.specs.Str.{bytes_eq}
use lib.Chars.{codes}
use Rattle.plain_tables.specs.Spelling.{Symbol, Keyword, Name, Count, Sign, IsSymbol, Open, Close, Comma, separated, column_symbols, index_symbols, value_symbols, setting_symbols, condition_symbols, where_symbols, NamesSomething}
use Rattle.plain_tables.specs.Reading.{lexeme, after_lexeme}
use Rattle.plain_tables.specs.declared.value.Value.{Value}
use Rattle.plain_tables.specs.declared.schema.Column.{Column}
use Rattle.plain_tables.specs.declared.schema.Schema.{Schema}
use Rattle.plain_tables.specs.declared.schema.IndexKind.{IndexKind}
use Rattle.plain_tables.specs.declared.condition.Cond.{Cond}
use Rattle.plain_tables.specs.declared.command.Setting.{Setting}
use Rattle.plain_tables.specs.declared.command.Command.{Command}
use Rattle.plain_tables.specs.declared.command.Command.TheVariants.{Table, DropTable, Index, DropIndex, Insert, Update, Delete, Load, Dump}
use Rattle.plain_tables.proofs.FirstWords.{different, first_word, behind_word, split-word}
use Rattle.mm_lang.specs.Parsing.{Reads, IsWhole, ReadsList, IsOfText, EndsItem, BeginsWithList, BeginsWithNoList, IsNameAndList, where_of, IsWhere, IsUpdate, IsDelete, Completes}
use Rattle.mm_lang.proofs.Fronts.{reads-append, reads-split, not-word, word-ends_item}
use Rattle.mm_lang.proofs.Lists.{list-some, list-of_text, list-spelled, spelled-list}
use Rattle.mm_lang.proofs.Utf8.{of_text-after}

-- lists with commas between their items
pub comma-spelled : {X : Type 0} (symbols : X → List Symbol) (line : List ℕ) (xs : List X) (rest : List ℕ)
    → ReadsList symbols (codes ",") line xs rest → Reads line (separated (map symbols xs)) rest
comma-spelled symbols line xs rest reads = list-spelled symbols (Sign Comma) (codes ",") (λ characters e. e) line xs rest reads

pub spelled-comma : {X : Type 0} (symbols : X → List Symbol) (line : List ℕ) (xs : List X) (rest : List ℕ) → 0 < length xs
    → Reads line (separated (map symbols xs)) rest → ReadsList symbols (codes ",") line xs rest
spelled-comma symbols line xs rest some reads = spelled-list symbols (Sign Comma) (codes ",") (λ characters e. e) line xs rest some reads

-- ---- conditions, up to the end of the line

pub where_of-conditions : (conditions : List Cond) → where_of condition_symbols conditions ≡ where_symbols conditions
where_of-conditions [] = refl
where_of-conditions (x ∷ xs) = refl

pub where-some : {X : Type 0} (symbols : X → List Symbol) (line front : List ℕ) (conditions : List X) (rest : List ℕ) → lexeme line ≡ codes "where"
    → front ≡ after_lexeme line → ReadsList symbols (codes "and") front conditions rest → lexeme rest ≡ [] → IsWhere symbols line conditions
where-some symbols line front [] rest word f reads end = elim reads [ ]
where-some symbols line front (x ∷ xs) rest word f reads end =
    (rest, (word, list-spelled symbols (Keyword (codes "and")) (codes "and") (λ characters e. e) _ (x ∷ xs) rest (rw f at reads)), end)

where-behind : {X : Type 0} (symbols : X → List Symbol) (line : List ℕ) (conditions : List X) → IsWhere symbols line conditions
    → lexeme line ≡ codes "where" → (rest : List ℕ) × ReadsList symbols (codes "and") (after_lexeme line) conditions rest × (lexeme rest ≡ [])
where-behind symbols line [] (rest, e, end) word = absurd (different (codes "where") [] refl (sym word ∙ (ap lexeme e ∙ end)))
where-behind symbols line (x ∷ xs) (rest, (word', reads), end) word =
    (rest, spelled-list symbols (Keyword (codes "and")) (codes "and") (λ characters e. e) (after_lexeme line) (x ∷ xs) rest (omega arith) reads, end)

pub no-conditions : {X : Type 0} (symbols : X → List Symbol) (line front : List ℕ) → lexeme line ≡ codes "where" → front ≡ after_lexeme line
    → BeginsWithNoList symbols (codes "and") front → IsOfText line → (conditions : List X) → IsWhere symbols line conditions → ⊥
no-conditions symbols line front word f not of conditions is =
    let (rest, listed, end) = where-behind symbols line conditions is word in
    not.none (rw f (of_text-after line of)) conditions rest (rw f listed) (word-ends_item _ [] refl refl end) (not-word _ [] (codes "and") refl end)

pub more-behind_conditions : {X : Type 0} (symbols : X → List Symbol) (line front : List ℕ) (found : List X) (behind : List ℕ)
    → lexeme line ≡ codes "where" → front ≡ after_lexeme line → BeginsWithList symbols (codes "and") front found behind → lexeme behind ≢ []
    → (conditions : List X) → IsWhere symbols line conditions → ⊥
more-behind_conditions symbols line front found behind word f list more conditions is =
    let (rest, listed, end) = where-behind symbols line conditions is word in
    let same : rest ≡ behind = list.only conditions rest (rw f listed) (word-ends_item _ [] refl refl end) (not-word _ [] (codes "and") refl end) in
    more (ap lexeme (sym same) ∙ end)

pub where-begins : {X : Type 0} (symbols : X → List Symbol) (line : List ℕ) (conditions : List X) → IsWhere symbols line conditions
    → (lexeme line ≡ []) ⊎ (lexeme line ≡ codes "where")
where-begins symbols line [] (rest, e, end) = inl (ap lexeme e ∙ end)
where-begins symbols line (x ∷ xs) (rest, (word, reads), end) = inr word

pub either-not : (characters word : List ℕ) → bytes_eq [] word ≡ false → bytes_eq (codes "where") word ≡ false
    → (characters ≡ []) ⊎ (characters ≡ codes "where") → characters ≢ word
either-not characters word test test' (inl e) = not-word characters [] word test e
either-not characters word test test' (inr e) = not-word characters (codes "where") word test' e

pub either-ends_item : (characters : List ℕ) → (characters ≡ []) ⊎ (characters ≡ codes "where") → EndsItem characters
either-ends_item characters (inl e) = word-ends_item characters [] refl refl e
either-ends_item characters (inr e) = word-ends_item characters (codes "where") refl refl e

-- ---- the first word

tails : (word other : List ℕ) (xs ys : List Symbol) → Keyword word ∷ xs ≡ Keyword other ∷ ys → (word ≡ other) × (xs ≡ ys)
tails word other xs ys e = (cc, cc)

pub other-word : (line word : List ℕ) (command : Command) → bytes_eq (first_word command) word ≡ false → Completes word line command → ⊥
other-word line word command test completes =
    different (first_word command) word test (tails _ _ _ _ (sym (split-word command).0 ∙ completes.first)).0

pub behind-first : (line : List ℕ) (command : Command) → Completes (first_word command) line command → IsWhole line (behind_word command)
behind-first line command completes =
    rw (tails _ _ _ _ (sym (split-word command).0 ∙ completes.first)).1 completes.made

pub completed : (line : List ℕ) (command : Command) → NamesSomething command → IsWhole line (behind_word command)
    → Completes (first_word command) line command
completed line command some made = record { some = some; symbols = behind_word command; first = (split-word command).0; made = made }

-- ---- one symbol, and those behind it

pub behind-symbol : (line rest : List ℕ) (x : Symbol) (symbols : List Symbol) → IsSymbol (lexeme line) x → rest ≡ after_lexeme line
    → IsWhole rest symbols → IsWhole line (x ∷ symbols)
behind-symbol line rest x symbols is f (end, reads, ends) = (end, (is, rw f at reads), ends)

pub symbols-behind : (line rest : List ℕ) (x : Symbol) (symbols : List Symbol) → rest ≡ after_lexeme line → IsWhole line (x ∷ symbols)
    → IsWhole rest symbols
symbols-behind line rest x symbols f (end, (is, reads), ends) = (end, rw f reads, ends)

-- ---- a name and a list in parentheses

pub named-list : {X : Type 0} (symbols : X → List Symbol) (line name : List ℕ) (xs : List X) → IsNameAndList symbols line name xs
    → IsWhole line (Name name ∷ Sign Open ∷ separated (map symbols xs) ++ Sign Close ∷ [])
named-list symbols line name xs is =
    let list = reads-append _ _ (Sign Close ∷ []) is.rest (after_lexeme is.rest) (comma-spelled symbols _ xs is.rest is.listed) (is.closes, refl) in
    (after_lexeme is.rest, ((is.first, is.is), (is.opens, list)), is.ends)

pub list-named : {X : Type 0} (symbols : X → List Symbol) (line name : List ℕ) (xs : List X) → 0 < length xs
    → IsWhole line (Name name ∷ Sign Open ∷ separated (map symbols xs) ++ Sign Close ∷ []) → IsNameAndList symbols line name xs
list-named symbols line name xs some (end, (first, (opens, reads)), ends) =
    let (rest, listed, (closes, behind)) = reads-split _ (separated (map symbols xs)) (Sign Close ∷ []) end reads in
    record {
      is = first.1;
      first = first.0;
      opens = opens;
      rest = rest;
      listed = spelled-comma symbols _ xs rest some listed;
      closes = closes;
      ends = ap lexeme behind ∙ ends;
    }

pub no-list : {X : Type 0} (symbols : X → List Symbol) (line front : List ℕ) → front ≡ after_lexeme (after_lexeme line)
    → BeginsWithNoList symbols (codes ",") front → IsOfText line → (name : List ℕ) (xs : List X) → IsNameAndList symbols line name xs → ⊥
no-list symbols line front f not of name xs is =
    not.none (rw f (of_text-after _ (of_text-after line of))) xs is.rest (rw f is.listed) (word-ends_item _ (codes ")") refl refl is.closes)
    (not-word _ (codes ")") (codes ",") refl is.closes)

-- ---- table and insert

pub table-completed : (line name : List ℕ) (schema : Schema) → IsNameAndList column_symbols line name schema.columns
    → Completes (codes "table") line (Table name schema)
table-completed line name schema is =
    completed line (Table name schema) (list-some column_symbols (codes ",") _ schema.columns is.rest is.listed)
    (named-list column_symbols line name schema.columns is)

pub table-only : (line : List ℕ) → ((name : List ℕ) (columns : List Column) → IsNameAndList column_symbols line name columns → ⊥)
    → (command : Command) → Completes (codes "table") line command → ⊥
table-only line not (Table name schema) completes =
    not name schema.columns (list-named column_symbols line name schema.columns completes.some (behind-first line (Table name schema) completes))
table-only line not command completes = other-word line (codes "table") command refl completes

pub insert-completed : (line table : List ℕ) (values : List Value) → IsNameAndList value_symbols line table values
    → Completes (codes "insert") line (Insert table values)
insert-completed line table values is =
    completed line (Insert table values) (list-some value_symbols (codes ",") _ values is.rest is.listed) (named-list value_symbols line table values is)

pub insert-only : (line : List ℕ) → ((table : List ℕ) (values : List Value) → IsNameAndList value_symbols line table values → ⊥)
    → (command : Command) → Completes (codes "insert") line command → ⊥
insert-only line not (Insert table values) completes =
    not table values (list-named value_symbols line table values completes.some (behind-first line (Insert table values) completes))
insert-only line not command completes = other-word line (codes "insert") command refl completes

-- ---- index, drop, load and dump

pub index-only : (line : List ℕ) → ((table column : List ℕ) (k : IndexKind) → IsWhole line (index_symbols table column k) → ⊥)
    → (command : Command) → Completes (codes "index") line command → ⊥
index-only line not (Index table column k) completes = not table column k (behind-first line (Index table column k) completes)
index-only line not command completes = other-word line (codes "index") command refl completes

pub drop-only : (line : List ℕ) → ((table : List ℕ) → IsWhole line (Keyword (codes "table") ∷ Name table ∷ []) → ⊥)
    → ((table column : List ℕ) (k : IndexKind) → IsWhole line (Keyword (codes "index") ∷ index_symbols table column k) → ⊥)
    → (command : Command) → Completes (codes "drop") line command → ⊥
drop-only line no_table no_index (DropTable table) completes = no_table table (behind-first line (DropTable table) completes)
drop-only line no_table no_index (DropIndex table column k) completes =
    no_index table column k (behind-first line (DropIndex table column k) completes)
drop-only line no_table no_index command completes = other-word line (codes "drop") command refl completes

pub load-only : (line : List ℕ) → ((table : List ℕ) (bytes : ℕ) → IsWhole line (Name table ∷ Count bytes ∷ []) → ⊥)
    → (command : Command) → Completes (codes "load") line command → ⊥
load-only line not (Load table bytes) completes = not table bytes (behind-first line (Load table bytes) completes)
load-only line not command completes = other-word line (codes "load") command refl completes

pub dump-only : (line : List ℕ) → ((table : List ℕ) → IsWhole line (Name table ∷ []) → ⊥)
    → (command : Command) → Completes (codes "dump") line command → ⊥
dump-only line not (Dump table) completes = not table (behind-first line (Dump table) completes)
dump-only line not command completes = other-word line (codes "dump") command refl completes

-- ---- update

-- the line as it is read, and as it is spelled
pub update-whole : {S C : Type 0} (settings_by : S → List Symbol) (conditions_by : C → List Symbol) (line table : List ℕ) (settings : List S)
    (conditions : List C) → IsUpdate settings_by conditions_by line table settings conditions
    → IsWhole line (Name table ∷ Keyword (codes "set") ∷ separated (map settings_by settings) ++ where_of conditions_by conditions)
update-whole settings_by conditions_by line table settings conditions is =
    let reads = reads-append _ _ (where_of conditions_by conditions) is.rest is.tail.0 (comma-spelled settings_by _ settings is.rest is.listed) is.tail.1 in
    (is.tail.0, ((is.first, is.is), (is.sets, reads)), is.tail.2)

pub whole-update : {S C : Type 0} (settings_by : S → List Symbol) (conditions_by : C → List Symbol) (line table : List ℕ) (settings : List S)
    (conditions : List C) → 0 < length settings
    → IsWhole line (Name table ∷ Keyword (codes "set") ∷ separated (map settings_by settings) ++ where_of conditions_by conditions)
    → IsUpdate settings_by conditions_by line table settings conditions
whole-update settings_by conditions_by line table settings conditions some (end, (first, (sets, reads)), ends) =
    let (rest, listed, tail) = reads-split _ (separated (map settings_by settings)) (where_of conditions_by conditions) end reads in
    record {
      is = first.1;
      first = first.0;
      sets = sets;
      rest = rest;
      listed = spelled-comma settings_by _ settings rest some listed;
      tail = (end, tail, ends);
    }

pub update-some : {S C : Type 0} (settings_by : S → List Symbol) (conditions_by : C → List Symbol) (line table : List ℕ) (settings : List S)
    (conditions : List C) → IsUpdate settings_by conditions_by line table settings conditions → 0 < length settings
update-some settings_by conditions_by line table settings conditions is =
    list-some settings_by (codes ",") (after_lexeme (after_lexeme line)) settings is.rest is.listed

pub update-completed : (line table : List ℕ) (settings : List Setting) (conditions : List Cond)
    → IsUpdate setting_symbols condition_symbols line table settings conditions → Completes (codes "update") line (Update table settings conditions)
update-completed line table settings conditions is =
    completed line (Update table settings conditions) (update-some setting_symbols condition_symbols line table settings conditions is)
    (rw (where_of-conditions conditions) at (update-whole setting_symbols condition_symbols line table settings conditions is))

pub update-only : (line : List ℕ)
    → ((table : List ℕ) (settings : List Setting) (conditions : List Cond)
    → IsUpdate setting_symbols condition_symbols line table settings conditions → ⊥)
    → (command : Command) → Completes (codes "update") line command → ⊥
update-only line not (Update table settings conditions) completes =
    not table settings conditions
    (whole-update setting_symbols condition_symbols line table settings conditions completes.some
    (rw (where_of-conditions conditions) (behind-first line (Update table settings conditions) completes)))
update-only line not command completes = other-word line (codes "update") command refl completes

pub no-settings : {S C : Type 0} (settings_by : S → List Symbol) (conditions_by : C → List Symbol) (line front : List ℕ)
    → front ≡ after_lexeme (after_lexeme line) → BeginsWithNoList settings_by (codes ",") front → IsOfText line
    → (table : List ℕ) (settings : List S) (conditions : List C) → IsUpdate settings_by conditions_by line table settings conditions → ⊥
no-settings settings_by conditions_by line front f not of table settings conditions is =
    let begins = where-begins conditions_by is.rest conditions is.tail in
    not.none (rw f (of_text-after _ (of_text-after line of))) settings is.rest (rw f is.listed) (either-ends_item _ begins)
    (either-not _ (codes ",") refl refl begins)

pub no-tail_of_update : {S C : Type 0} (settings_by : S → List Symbol) (conditions_by : C → List Symbol) (line front : List ℕ) (found : List S)
    (behind : List ℕ) → front ≡ after_lexeme (after_lexeme line) → BeginsWithList settings_by (codes ",") front found behind → IsOfText line
    → (IsOfText behind → (conditions : List C) → IsWhere conditions_by behind conditions → ⊥)
    → (table : List ℕ) (settings : List S) (conditions : List C) → IsUpdate settings_by conditions_by line table settings conditions → ⊥
no-tail_of_update settings_by conditions_by line front found behind f list of not table settings conditions is =
    let begins = where-begins conditions_by is.rest conditions is.tail in
    let same : is.rest ≡ behind = list.only settings is.rest (rw f is.listed) (either-ends_item _ begins) (either-not _ (codes ",") refl refl begins) in
    let text : IsOfText front = rw f (of_text-after _ (of_text-after line of)) in
    not (list-of_text settings_by (codes ",") front found behind text list.found) conditions (rw same at is.tail)

-- ---- delete

pub no-tail_of_delete : {C : Type 0} (symbols : C → List Symbol) (line rest : List ℕ) → rest ≡ after_lexeme line → IsOfText line
    → (IsOfText rest → (conditions : List C) → IsWhere symbols rest conditions → ⊥)
    → (table : List ℕ) (conditions : List C) → IsDelete symbols line table conditions → ⊥
no-tail_of_delete symbols line rest f of not table conditions made =
    not (rw f (of_text-after line of)) conditions (symbols-behind line rest (Name table) (where_of symbols conditions) f made)

pub delete-completed : (line table : List ℕ) (conditions : List Cond) → IsDelete condition_symbols line table conditions
    → Completes (codes "delete") line (Delete table conditions)
delete-completed line table conditions is = completed line (Delete table conditions) tt (rw (where_of-conditions conditions) at is)

pub delete-only : (line : List ℕ) → ((table : List ℕ) (conditions : List Cond) → IsDelete condition_symbols line table conditions → ⊥)
    → (command : Command) → Completes (codes "delete") line command → ⊥
delete-only line not (Delete table conditions) completes =
    not table conditions (rw (where_of-conditions conditions) (behind-first line (Delete table conditions) completes))
delete-only line not command completes = other-word line (codes "delete") command refl completes
