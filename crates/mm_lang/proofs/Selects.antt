-- Selects: the items of a select, and what stands before and behind them.
use Rattle.std.proofs.Common.{◌≡◌, ◌≢◌, ℕ, List, ◌∷◌, ◌++◌, Bool, true, false, refl, sym, ◌∙◌, subst}
use Rattle.std.specs.List.{flat_map}
use lib.Chars.{codes}
use Rattle.plain_tables.specs.Names.{IsName, is_name}
use Rattle.plain_tables.specs.Spelling.{Symbol, Name, name_symbols, condition_symbols, distinct_symbols, items_symbols, join_symbols, NamesSomething}
use Rattle.plain_tables.specs.Reading.{lexeme, after_lexeme}
use Rattle.plain_tables.specs.declared.condition.ColName.{ColName}
use Rattle.plain_tables.specs.declared.condition.Cond.{Cond}
use Rattle.plain_tables.specs.declared.command.Join.{Join}
use Rattle.plain_tables.specs.declared.command.Items.{Items}
use Rattle.plain_tables.specs.declared.command.Items.TheVariants as items
use Rattle.plain_tables.specs.declared.command.Command.{Command}
use Rattle.plain_tables.specs.declared.command.Command.TheVariants.{Select}
use Rattle.plain_tables.proofs.FirstWords.{select-items}
use Rattle.mm_lang.specs.Parsing.{Reads, IsWhole, IsOfText, BeginsWithList, BeginsWithNoList, NameSomething, BeginsWithItems, BeginsWithNoItems, BeginsWithDistinct, BeginsWithJoins, BeginsWithNoJoins, where_of, from_of, IsFrom, IsWhere, IsSelect, Completes}
use Rattle.mm_lang.proofs.Fronts.{reads-append, reads-split, reads-of_text, not-word, word-ends_item, no-first}
use Rattle.mm_lang.proofs.Lists.{list-some, list-first}
use Rattle.mm_lang.proofs.Utf8.{of_text-after}
use Rattle.mm_lang.proofs.Productions.{comma-spelled, spelled-comma, where_of-conditions, where-begins, either-not, either-ends_item, other-word, behind-first, completed}

word-no_name : (line word : List ℕ) → is_name word ≡ false → lexeme line ≡ word → IsName (lexeme line) → ⊥
word-no_name line word not e is = let name : is_name word ≡ true = subst IsName e is in cc

-- ---- the items of a select

pub all-items : (line rest : List ℕ) → lexeme line ≡ codes "*" → rest ≡ after_lexeme line → BeginsWithItems line items.All rest
all-items line rest star f = record { some = tt; found = (star, sym f); only = only }
  where
    only : (others : Items) (other : List ℕ) → NameSomething others → Reads line (items_symbols others) other → lexeme other ≡ codes "from" → other ≡ rest
    only items.All other some reads begins = sym reads.1 ∙ sym f
    only (items.Named names) other some reads begins =
        let (x, behind, first) = list-first name_symbols (codes ",") line names other (spelled-comma name_symbols line names other some reads) in
        absurd (no-first line (word-no_name line (codes "*") refl star) x.table x.column behind first)

pub named-items : (line : List ℕ) (names found : List ColName) (rest : List ℕ) → lexeme line ≢ codes "*" → found ≡ names
    → BeginsWithList name_symbols (codes ",") line names rest → BeginsWithItems line (items.Named found) rest
named-items line names found rest star same list = rw same (record {
  some = list-some name_symbols (codes ",") line names rest list.found;
  found = comma-spelled name_symbols line names rest list.found;
  only = only;
})
  where
    only : (others : Items) (other : List ℕ) → NameSomething others → Reads line (items_symbols others) other → lexeme other ≡ codes "from" → other ≡ rest
    only items.All other some reads begins = absurd (star reads.0)
    only (items.Named ys) other some reads begins =
        list.only ys other (spelled-comma name_symbols line ys other some reads) (word-ends_item _ (codes "from") refl refl begins)
        (not-word _ (codes "from") (codes ",") refl begins)

pub neither-items : (line : List ℕ) → lexeme line ≢ codes "*" → BeginsWithNoList name_symbols (codes ",") line → BeginsWithNoItems line
neither-items line star not = record { none = none-of }
  where
    none-of : IsOfText line → (others : Items) (other : List ℕ) → NameSomething others → Reads line (items_symbols others) other
        → lexeme other ≡ codes "from" → ⊥
    none-of of items.All other some reads begins = star reads.0
    none-of of (items.Named names) other some reads begins =
        not.none of names other (spelled-comma name_symbols line names other some reads) (word-ends_item _ (codes "from") refl refl begins)
        (not-word _ (codes "from") (codes ",") refl begins)

-- ---- a table, joins, and conditions

pub from-whole : {C : Type 0} (symbols : C → List Symbol) (line front table behind rest : List ℕ) (joins : List Join) (conditions : List C) → lexeme line ≡ codes "from"
    → front ≡ after_lexeme line → IsName (lexeme front) → table ≡ lexeme front → behind ≡ after_lexeme front
    → BeginsWithJoins behind joins rest → IsWhere symbols rest conditions → IsFrom symbols line table joins conditions
from-whole symbols line front table behind rest joins conditions word f is e g begins tail =
    let reads = reads-append _ _ (where_of symbols conditions) rest tail.0 (rw g at begins.found) tail.1 in
    let named : Reads front (Name table ∷ (flat_map join_symbols joins ++ where_of symbols conditions)) tail.0 = ((sym e, rw e is), reads) in
    (tail.0, (word, rw f at named), tail.2)

-- the joins, and the conditions behind them
from-parts : {C : Type 0} (symbols : C → List Symbol) (line table : List ℕ) (joins : List Join) (conditions : List C)
    → IsFrom symbols line table joins conditions
    → (rest : List ℕ) × Reads (after_lexeme (after_lexeme line)) (flat_map join_symbols joins) rest × IsWhere symbols rest conditions
from-parts symbols line table joins conditions (end, (word, (name, reads)), ends) =
    let (mid, joined, tail) = reads-split _ (flat_map join_symbols joins) (where_of symbols conditions) end reads in
    (mid, joined, (end, tail, ends))

pub no-joins_behind : {C : Type 0} (symbols : C → List Symbol) (line behind : List ℕ) → behind ≡ after_lexeme (after_lexeme line) → BeginsWithNoJoins behind → IsOfText line
    → (table : List ℕ) (joins : List Join) (conditions : List C) → IsFrom symbols line table joins conditions → ⊥
no-joins_behind symbols line behind f not of table joins conditions is =
    let (rest, reads, tail) = from-parts symbols line table joins conditions is in
    let begins = where-begins symbols rest conditions tail in
    not.none (rw f (of_text-after _ (of_text-after line of))) joins rest (rw f reads) (either-ends_item _ begins) (either-not _ (codes "join") refl refl begins)

pub no-conditions_behind : {C : Type 0} (symbols : C → List Symbol) (line behind : List ℕ) (found : List Join) (rest : List ℕ) → behind ≡ after_lexeme (after_lexeme line)
    → BeginsWithJoins behind found rest → IsOfText line → (IsOfText rest → (conditions : List C) → IsWhere symbols rest conditions → ⊥)
    → (table : List ℕ) (joins : List Join) (conditions : List C) → IsFrom symbols line table joins conditions → ⊥
no-conditions_behind symbols line behind found rest f begins of not table joins conditions is =
    let (mid, reads, tail) = from-parts symbols line table joins conditions is in
    let first = where-begins symbols mid conditions tail in
    let same : mid ≡ rest = begins.only joins mid (rw f reads) (either-ends_item _ first) (either-not _ (codes "join") refl refl first) in
    let text : IsOfText behind = rw f (of_text-after _ (of_text-after line of)) in
    not (reads-of_text behind (flat_map join_symbols found) rest text begins.found) conditions (rw same at tail)

-- ---- select

-- the line as it is read, and as it is spelled
pub select-whole : {C : Type 0} (symbols : C → List Symbol) (line : List ℕ) (distinct : Bool) (items : Items) (table : List ℕ) (joins : List Join)
    (conditions : List C) → IsSelect symbols line distinct items table joins conditions
    → IsWhole line (distinct_symbols distinct ++ (items_symbols items ++ from_of symbols table joins conditions))
select-whole symbols line distinct items table joins conditions is =
    let reads = reads-append _ _ (from_of symbols table joins conditions) is.behind is.tail.0 is.found is.tail.1 in
    (is.tail.0, reads-append line (distinct_symbols distinct) _ is.front is.tail.0 is.begins reads, is.tail.2)

pub whole-select : {C : Type 0} (symbols : C → List Symbol) (line : List ℕ) (distinct : Bool) (items : Items) (table : List ℕ) (joins : List Join)
    (conditions : List C) → NameSomething items
    → IsWhole line (distinct_symbols distinct ++ (items_symbols items ++ from_of symbols table joins conditions))
    → IsSelect symbols line distinct items table joins conditions
whole-select symbols line distinct items table joins conditions some (end, reads, ends) =
    let (front, begins, others) = reads-split line (distinct_symbols distinct) _ end reads in
    let (behind, found, tail) = reads-split front (items_symbols items) (from_of symbols table joins conditions) end others in
    record { some = some; front = front; begins = begins; behind = behind; found = found; tail = (end, tail, ends) }

names-something : (distinct : Bool) (items : Items) (table : List ℕ) (joins : List Join) (conditions : List Cond) → NameSomething items
    → NamesSomething (Select distinct items table joins conditions)
names-something distinct items.All table joins conditions some = tt
names-something distinct (items.Named names) table joins conditions some = some

pub select-completed : (line : List ℕ) (distinct : Bool) (items : Items) (table : List ℕ) (joins : List Join) (conditions : List Cond)
    → IsSelect condition_symbols line distinct items table joins conditions
    → Completes (codes "select") line (Select distinct items table joins conditions)
select-completed line distinct items table joins conditions is =
    completed line (Select distinct items table joins conditions) (names-something distinct items table joins conditions is.some)
    (rw (where_of-conditions conditions) at (select-whole condition_symbols line distinct items table joins conditions is))

pub select-only : (line : List ℕ)
    → ((distinct : Bool) (items : Items) (table : List ℕ) (joins : List Join) (conditions : List Cond)
    → IsSelect condition_symbols line distinct items table joins conditions → ⊥)
    → (command : Command) → Completes (codes "select") line command → ⊥
select-only line not (Select distinct items table joins conditions) completes =
    not distinct items table joins conditions
    (whole-select condition_symbols line distinct items table joins conditions (select-items distinct items table joins conditions completes.some)
    (rw (where_of-conditions conditions) (behind-first line (Select distinct items table joins conditions) completes)))
select-only line not command completes = other-word line (codes "select") command refl completes

no-distinct : (line : List ℕ) (items : Items) (rest : List ℕ) → NameSomething items → Reads line (items_symbols items) rest
    → lexeme line ≢ codes "distinct"
no-distinct line items.All rest some reads word = not-word (lexeme line) (codes "*") (codes "distinct") refl reads.0 word
no-distinct line (items.Named names) rest some reads word =
    let (x, behind, first) = list-first name_symbols (codes ",") line names rest (spelled-comma name_symbols line names rest some reads) in
    no-first line (word-no_name line (codes "distinct") refl word) x.table x.column behind first

-- The items of the select stand behind the distinct that is found.
behind-distinct : {C : Type 0} (symbols : C → List Symbol) (line : List ℕ) (found : Bool) (front : List ℕ) → BeginsWithDistinct line found front
    → (distinct : Bool) (items : Items) (table : List ℕ) (joins : List Join) (conditions : List C)
    → (is : IsSelect symbols line distinct items table joins conditions) → Reads front (items_symbols items) is.behind
behind-distinct symbols line found front begins distinct items table joins conditions is =
    rw (begins.only distinct is.front is.begins (no-distinct is.front items is.behind is.some is.found)) at is.found

pub no-items : {C : Type 0} (symbols : C → List Symbol) (line : List ℕ) (found : Bool) (front : List ℕ) → BeginsWithDistinct line found front
    → BeginsWithNoItems front → IsOfText line → (distinct : Bool) (items : Items) (table : List ℕ) (joins : List Join) (conditions : List C)
    → IsSelect symbols line distinct items table joins conditions → ⊥
no-items symbols line found front begins not of distinct items table joins conditions is =
    not.none (reads-of_text line (distinct_symbols found) front of begins.found) items is.behind is.some
    (behind-distinct symbols line found front begins distinct items table joins conditions is) is.tail.1.0

pub no-from : {C : Type 0} (symbols : C → List Symbol) (line : List ℕ) (found : Bool) (front : List ℕ) (some : Items) (rest : List ℕ)
    → BeginsWithDistinct line found front → BeginsWithItems front some rest → IsOfText line
    → (IsOfText rest → (table : List ℕ) (joins : List Join) (conditions : List C) → IsFrom symbols rest table joins conditions → ⊥)
    → (distinct : Bool) (items : Items) (table : List ℕ) (joins : List Join) (conditions : List C)
    → IsSelect symbols line distinct items table joins conditions → ⊥
no-from symbols line found front some rest begins first of not distinct items table joins conditions is =
    let same : is.behind ≡ rest =
    first.only items is.behind is.some (behind-distinct symbols line found front begins distinct items table joins conditions is) is.tail.1.0 in
    let text : IsOfText front = reads-of_text line (distinct_symbols found) front of begins.found in
    not (reads-of_text front (items_symbols some) rest text first.found) table joins conditions (rw same at is.tail)
