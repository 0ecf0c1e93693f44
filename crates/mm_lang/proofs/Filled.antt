-- Filled: the symbols of the command that a statement is with values in its holes.
use Rattle.std.proofs.Common.{◌≡◌, List, [], ◌∷◌, map, refl, ap, ◌∙◌, arith}
use Rattle.std.proofs.lemmas.List.{length-map}
use Rattle.std.proofs.lemmas.Simd.{map-map}
use lib.Chars.{codes}
use Rattle.plain_tables.specs.Spelling.{Symbol, Keyword, Literal, separated_by, symbols_of, value_symbols, setting_symbols, condition_symbols, where_symbols, NamesSomething}
use Rattle.plain_tables.specs.declared.value.Value.{Value}
use Rattle.plain_tables.specs.declared.command.Items.TheVariants as items
use Rattle.plain_tables.proofs.FirstWords.{first_word, behind_word, split-word}
use Rattle.plain_statements.specs.declared.statement.Slot.{Slot}
use Rattle.plain_statements.specs.declared.statement.SlotCond.{SlotCond}
use Rattle.plain_statements.specs.declared.statement.Statement.{Statement}
use Rattle.plain_statements.specs.declared.statement.Statement.TheVariants as statement
use Rattle.plain_statements.specs.Filling.{slot_value, filled_setting, filled_condition, filled}
use Rattle.mm_lang.specs.Parsing.{where_of}
use Rattle.mm_lang.specs.Statements.{condition_by, word_of, behind_by, HasSomething}

-- the literal of a slot's value
abbrev pub literal : List Value → Slot → Symbol
literal values s = Literal (slot_value values s)

where-filled : (values : List Value) (conditions : List SlotCond)
    → where_symbols (map (filled_condition values) conditions) ≡ where_of (condition_by (literal values)) conditions
where-filled values [] = refl
where-filled values (x ∷ xs) =
    ap (λ l. Keyword (codes "where") ∷ separated_by (Keyword (codes "and")) l) (map-map condition_symbols (filled_condition values) (x ∷ xs))

behind-filled : (values : List Value) (s : Statement) → behind_word (filled values s) ≡ behind_by (literal values) s
behind-filled values (statement.Insert table slots) = rw (map-map value_symbols (slot_value values) slots) refl
behind-filled values (statement.Update table settings conditions) =
    rw (map-map setting_symbols (filled_setting values) settings, where-filled values conditions) refl
behind-filled values (statement.Delete table conditions) = rw (where-filled values conditions) refl
behind-filled values (statement.Select distinct items table joins conditions) = rw (where-filled values conditions) refl

pub word-filled : (values : List Value) (s : Statement) → first_word (filled values s) ≡ word_of s
word-filled values (statement.Insert table slots) = refl
word-filled values other = refl

-- Law: they are the statement's, with the literals of the values for the slots.
pub symbols-filled : (values : List Value) (s : Statement) → symbols_of (filled values s) ≡ Keyword (word_of s) ∷ behind_by (literal values) s
symbols-filled values s =
    (split-word (filled values s)).0
    ∙ (ap (λ w. Keyword w ∷ behind_word (filled values s)) (word-filled values s) ∙ ap (λ l. Keyword (word_of s) ∷ l) (behind-filled values s))

-- Law: it names something where the statement has something, and there alone.
pub something-filled : (values : List Value) (s : Statement)
    → (HasSomething s → NamesSomething (filled values s)) × (NamesSomething (filled values s) → HasSomething s)
something-filled values (statement.Insert table slots) =
    let long = length-map slots (slot_value values) in
    (λ some. omega (arith, long), λ some. omega (arith, long))
something-filled values (statement.Update table settings conditions) =
    let long = length-map settings (filled_setting values) in
    (λ some. omega (arith, long), λ some. omega (arith, long))
something-filled values (statement.Select distinct (items.Named names) table joins conditions) = (λ some. some, λ some. some)
something-filled values other = (λ some. tt, λ some. tt)
