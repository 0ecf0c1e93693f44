-- Parts: the symbols of a statement are some that are there in any case, and slots among them.
use Rattle.std.proofs.Common.{◌≡◌, List, [], ◌∷◌, ◌++◌, map, refl, sym, ap, ◌∙◌, subst, append-nil}
use Rattle.std.specs.List.{AllByRecursion, flat_map}
use Rattle.std.proofs.lemmas.List.{map-append, map-id}
use Rattle.std.proofs.lemmas.Simd.{map-map}
use Rattle.std.proofs.lemmas.List.Concat.{flat_map-append}
use lib.Chars.{codes}
use Rattle.plain_tables.specs.Spelling.{Symbol, Keyword, Name, Sign, Open, Close, Comma, Operator, separated_by, name_symbols, distinct_symbols, items_symbols, join_symbols}
use Rattle.plain_tables.specs.declared.condition.Op.TheVariants as op
use Rattle.plain_tables.proofs.Lexemes.{IsWellFormed}
use Rattle.plain_tables.proofs.EachSymbol.{name-each, items-each, distinct-each, joins-each}
use Rattle.plain_tables.proofs.Separated.{all-append}
use Rattle.plain_statements.specs.declared.statement.Slot.{Slot}
use Rattle.plain_statements.specs.declared.statement.SlotSetting.{SlotSetting}
use Rattle.plain_statements.specs.declared.statement.SlotCond.{SlotCond}
use Rattle.plain_statements.specs.declared.statement.Statement.{Statement}
use Rattle.plain_statements.specs.declared.statement.Statement.TheVariants as statement
use Rattle.plain_statements.specs.StatementSpelling.{slots_of}
use Rattle.mm_lang.specs.Parsing.{where_of}
use Rattle.mm_lang.specs.Statements.{slot_by, setting_by, condition_by, word_of, behind_by}
use Rattle.mm_lang.proofs.Spelled.{AreWellFormed, each-well}

-- a symbol, or a slot
pub data Part : Type 0 where
  Plain : Symbol → Part
  At : Slot → Part

-- the symbol of a part, by that of its slot
abbrev pub symbol_by : (Slot → Symbol) → Part → Symbol
symbol_by f (Plain x) = x
symbol_by f (At s) = f s

-- the slots among parts
abbrev slots_at : Part → List Slot
slots_at (Plain x) = []
slots_at (At s) = s ∷ []

abbrev pub slots_in : List Part → List Slot
slots_in parts = flat_map slots_at parts

abbrev pub IsWell : Part → Type 0
IsWell (Plain x) = IsWellFormed x
IsWell (At s) = Unit {0}

-- These symbols, by the symbol of each slot, are parts, with these slots among them.
pub record HasParts (by : (Slot → Symbol) → List Symbol) (slots : List Slot) : Type 0 where
  pub parts : List Part
  pub made : (f : Slot → Symbol) → by f ≡ map (symbol_by f) parts
  pub has : slots_in parts ≡ slots
  pub well : AllByRecursion IsWell parts

plain-slots : (symbols : List Symbol) → slots_in (map Plain symbols) ≡ []
plain-slots [] = refl
plain-slots (x ∷ symbols) = plain-slots symbols

plain-well : (symbols : List Symbol) → AreWellFormed symbols → AllByRecursion IsWell (map Plain symbols)
plain-well [] well = tt
plain-well (x ∷ symbols) well = (well.0, plain-well symbols well.1)

plain-parts : (symbols : List Symbol) → AreWellFormed symbols → HasParts (λ f. symbols) []
plain-parts symbols well = record {
  parts = map Plain symbols;
  made = λ f. sym (map-map (symbol_by f) Plain symbols ∙ map-id symbols);
  has = plain-slots symbols;
  well = plain-well symbols well;
}

word-parts : (x : Symbol) → IsWellFormed x → (by : (Slot → Symbol) → List Symbol) (slots : List Slot) → HasParts by slots
    → HasParts (λ f. x ∷ by f) slots
word-parts x well by slots p = record {
  parts = Plain x ∷ p.parts;
  made = λ f. ap (λ l. x ∷ l) (p.made f);
  has = p.has;
  well = (well, p.well);
}

slot-parts : (s : Slot) → HasParts (λ f. f s ∷ []) (s ∷ [])
slot-parts s = record { parts = At s ∷ []; made = λ f. refl; has = refl; well = (tt, tt) }

append-parts : (a b : (Slot → Symbol) → List Symbol) (xs ys : List Slot) → HasParts a xs → HasParts b ys → HasParts (λ f. a f ++ b f) (xs ++ ys)
append-parts a b xs ys p q = record {
  parts = p.parts ++ q.parts;
  made = λ f. rw (p.made f, q.made f) (sym (map-append (symbol_by f) p.parts q.parts));
  has = rw (flat_map-append, p.has, q.has) refl;
  well = all-append IsWell p.parts q.parts p.well q.well;
}

separated-parts : {X : Type 0} (symbols : (Slot → Symbol) → X → List Symbol) (slot : X → Slot) (between : Symbol) → IsWellFormed between
    → ((x : X) → HasParts (λ f. symbols f x) (slot x ∷ [])) → (xs : List X) → HasParts (λ f. separated_by between (map (symbols f) xs)) (map slot xs)
separated-parts symbols slot between well each [] = plain-parts [] tt
separated-parts symbols slot between well each (x ∷ []) = each x
separated-parts symbols slot between well each (x ∷ y ∷ xs) =
    append-parts (λ f. symbols f x) _ (slot x ∷ []) (map slot (y ∷ xs)) (each x)
    (word-parts between well _ _ (separated-parts symbols slot between well each (y ∷ xs)))

setting-parts : (s : SlotSetting) → HasParts (λ f. setting_by f s) (s.slot ∷ [])
setting-parts s = word-parts (Name s.column) tt _ _ (word-parts (Sign (Operator op.Eq)) tt _ _ (slot-parts s.slot))

condition-parts : (c : SlotCond) → HasParts (λ f. condition_by f c) (c.slot ∷ [])
condition-parts c =
    append-parts (λ f. name_symbols c.column) _ [] _ (plain-parts (name_symbols c.column) (name-each IsWellFormed ⊥ each-well c.column (λ none. absurd none)))
    (word-parts (Sign (Operator c.op)) tt _ _ (slot-parts c.slot))

where-parts : (conditions : List SlotCond) → HasParts (λ f. where_of (condition_by f) conditions) (map (λ c. c.slot) conditions)
where-parts [] = plain-parts [] tt
where-parts (x ∷ xs) =
    word-parts (Keyword (codes "where")) refl _ _ (separated-parts condition_by (λ c. c.slot) (Keyword (codes "and")) refl condition-parts (x ∷ xs))

behind-parts : (s : Statement) → HasParts (λ f. behind_by f s) (slots_of s)
behind-parts (statement.Insert table slots) =
    subst (HasParts (λ f. behind_by f (statement.Insert table slots))) (append-nil (map (λ s. s) slots) ∙ map-id slots)
    (word-parts (Name table) tt _ _ (word-parts (Sign Open) tt _ _
    (append-parts (λ f. separated_by (Sign Comma) (map (slot_by f) slots)) (λ f. Sign Close ∷ []) (map (λ s. s) slots) []
    (separated-parts slot_by (λ s. s) (Sign Comma) tt slot-parts slots) (plain-parts (Sign Close ∷ []) (tt, tt)))))
behind-parts (statement.Update table settings conditions) =
    word-parts (Name table) tt _ _ (word-parts (Keyword (codes "set")) refl _ _
    (append-parts (λ f. separated_by (Sign Comma) (map (setting_by f) settings)) (λ f. where_of (condition_by f) conditions)
    (map (λ s. s.slot) settings) (map (λ c. c.slot) conditions)
    (separated-parts setting_by (λ s. s.slot) (Sign Comma) tt setting-parts settings) (where-parts conditions)))
behind-parts (statement.Delete table conditions) =
    word-parts (Name table) tt _ _ (where-parts conditions)
behind-parts (statement.Select distinct items table joins conditions) =
    let slots : List Slot = map (λ c. c.slot) conditions in
    append-parts (λ f. distinct_symbols distinct) _ [] slots (plain-parts (distinct_symbols distinct) (distinct-each IsWellFormed ⊥ each-well distinct))
    (append-parts (λ f. items_symbols items) _ [] slots (plain-parts (items_symbols items) (items-each IsWellFormed ⊥ each-well items (λ none. absurd none)))
    (word-parts (Keyword (codes "from")) refl _ slots (word-parts (Name table) tt _ slots
    (append-parts (λ f. flat_map join_symbols joins) (λ f. where_of (condition_by f) conditions) [] slots
    (plain-parts (flat_map join_symbols joins) (joins-each IsWellFormed ⊥ each-well joins (λ none. absurd none))) (where-parts conditions)))))

word-well : (s : Statement) → IsWellFormed (Keyword (word_of s))
word-well (statement.Insert table slots) = refl
word-well other = refl

-- Law: the symbols of a statement are parts, with its slots among them.
pub statement-parts : (s : Statement) → HasParts (λ f. Keyword (word_of s) ∷ behind_by f s) (slots_of s)
statement-parts s = word-parts (Keyword (word_of s)) (word-well s) _ _ (behind-parts s)
