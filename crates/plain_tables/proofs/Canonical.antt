-- Canonical: the canonical spelling of a command spells it.
use Rattle.std.proofs.Common.{◌≡◌, ℕ, suc, ◌<◌, ◌^◌, List, [], ◌∷◌, ◌++◌, inl, inr, refl, sym, ap, arith, append-nil, subst}
use Rattle.std.specs.Prelude.{ℤ, pos, negsuc, neg_ℤ, FitsSigned}
use Rattle.std.specs.Int.{w64}
use Rattle.std.specs.List.{AllByRecursion}
use Rattle.std.specs.Fmt.{decimal, signed_decimal}
use Rattle.std.specs.Str.Parse.{IsNumeral, digits_value}
use Rattle.std.proofs.lemmas.Fmt.{decimal_is_IsNumeral}
use Rattle.plain_tables.specs.Spelling.{Open, Close, Comma, Dot, Star, Operator, Symbol, Name, Literal, Count, Sign, symbols_of, AreBlanks, IsInteger, IsCount, IsSymbol, EndsBefore, IsMadeOf, NamesSomething, IsSpellable, symbol_text, gap, spaced, canonical_spelling, CanonicalSpells}
use Rattle.plain_tables.specs.declared.value.Value.TheVariants as value
use Rattle.plain_tables.specs.declared.condition.Op.TheVariants as op
use Rattle.plain_tables.specs.declared.command.Items.TheVariants as items
use Rattle.plain_tables.specs.declared.command.Command.{Command}
use Rattle.plain_tables.specs.declared.command.Command.TheVariants.{Table, Insert, Update, Select}
use Rattle.plain_tables.proofs.Lexemes.{ends-never}
use Rattle.plain_tables.proofs.Separated.{all-each}
use Rattle.plain_tables.proofs.WellFormed.{IsSpellableSymbol, command-spellable, made-no_line_feed}

-- ---- the text of a symbol is its characters

abbrev pub HasText : Symbol → Type 0
HasText symbol = IsSymbol (symbol_text symbol) symbol

pub integer-text : (z : ℤ) → FitsSigned w64 z → IsInteger (signed_decimal z) z
integer-text (pos n) fits =
    let digits : IsNumeral 10 (decimal n) × (digits_value 10 (decimal n) ≡ n) = decimal_is_IsNumeral n (omega (arith, fits)) in
    (fits, (decimal n, digits.0, inl (refl, ap pos (sym digits.1))))
integer-text (negsuc n) fits =
    let digits : IsNumeral 10 (decimal (suc n)) × (digits_value 10 (decimal (suc n)) ≡ suc n) = decimal_is_IsNumeral (suc n) (omega (arith, fits)) in
    (fits, (decimal (suc n), digits.0, inr (refl, ap (λ m. neg_ℤ (pos m)) (sym digits.1))))

count-text : (n : ℕ) → n < 2 ^ 63 → IsCount (decimal n) n
count-text n fits =
    let digits : IsNumeral 10 (decimal n) × (digits_value 10 (decimal n) ≡ n) = decimal_is_IsNumeral n (omega (arith, fits)) in
    (fits, digits.0, sym digits.1)

pub symbol-text : (symbol : Symbol) → IsSpellableSymbol symbol → HasText symbol
symbol-text (Name name) can = (refl, can)
symbol-text (Literal (value.Int z)) can = integer-text z can
symbol-text (Count n) can = count-text n can
symbol-text other can = refl

-- ---- the gaps

gap-blank : (symbol next : Symbol) → AreBlanks (gap symbol next)
gap-blank (Sign Open) next = tt
gap-blank (Sign Dot) next = tt
gap-blank symbol (Sign Close) = tt
gap-blank symbol (Sign Comma) = tt
gap-blank symbol (Sign Dot) = tt
gap-blank symbol next = (refl, tt)

-- what the spelling of symbols goes on with behind the first
tail_of : List Symbol → List ℕ
tail_of [] = []
tail_of (symbol ∷ []) = []
tail_of (symbol ∷ next ∷ symbols) = gap symbol next ++ spaced (next ∷ symbols)

spaced-first : (symbol : Symbol) (symbols : List Symbol) → spaced (symbol ∷ symbols) ≡ symbol_text symbol ++ tail_of (symbol ∷ symbols)
unfolding tail_of
spaced-first symbol [] = sym (append-nil (symbol_text symbol))
spaced-first symbol (next ∷ symbols) = refl

-- No symbol goes on with a blank.
pub blank-ends : (symbol : Symbol) (rest : List ℕ) → EndsBefore symbol (32 ∷ rest)
blank-ends (Literal (value.Text text)) rest = refl
blank-ends (Sign (Operator op.Lt)) rest = refl
blank-ends symbol rest = refl

-- A symbol ends before the gap that follows it, and before a sign.
gap-ends : (symbol next : Symbol) (rest : List ℕ) → EndsBefore symbol (gap symbol next ++ (symbol_text next ++ rest))
gap-ends (Sign Open) next rest = ends-never (Sign Open) _ (λ c. refl)
gap-ends (Sign Close) next rest = ends-never (Sign Close) _ (λ c. refl)
gap-ends (Sign Comma) next rest = ends-never (Sign Comma) _ (λ c. refl)
gap-ends (Sign Dot) next rest = ends-never (Sign Dot) _ (λ c. refl)
gap-ends (Sign Star) next rest = ends-never (Sign Star) _ (λ c. refl)
gap-ends (Sign (Operator op.Eq)) next rest = ends-never (Sign (Operator op.Eq)) _ (λ c. refl)
gap-ends (Sign (Operator op.Ne)) next rest = ends-never (Sign (Operator op.Ne)) _ (λ c. refl)
gap-ends (Sign (Operator op.Le)) next rest = ends-never (Sign (Operator op.Le)) _ (λ c. refl)
gap-ends (Sign (Operator op.Ge)) next rest = ends-never (Sign (Operator op.Ge)) _ (λ c. refl)
gap-ends (Literal value.Null) (Sign Close) rest = refl
gap-ends symbol (Sign Comma) rest = refl
gap-ends symbol (Sign Dot) rest = refl
gap-ends symbol next rest = refl

-- ---- the whole line

spaced-made : (blanks : List ℕ) (symbols : List Symbol) → AreBlanks blanks → AllByRecursion HasText symbols
    → IsMadeOf (blanks ++ spaced symbols) symbols
spaced-made blanks [] are all = rw append-nil are
spaced-made blanks (symbol ∷ []) are all =
    (blanks, symbol_text symbol, [], are, all.0, tt, tt, ap (λ t. blanks ++ t) (sym (append-nil (symbol_text symbol))))
spaced-made blanks (symbol ∷ next ∷ symbols) are all =
    let ends : EndsBefore symbol (gap symbol next ++ spaced (next ∷ symbols)) =
    subst (λ t. EndsBefore symbol (gap symbol next ++ t)) (sym (spaced-first next symbols)) (gap-ends symbol next (tail_of (next ∷ symbols))) in (
      blanks,
      symbol_text symbol,
      gap symbol next ++ spaced (next ∷ symbols),
      are,
      all.0,
      ends,
      spaced-made (gap symbol next) (next ∷ symbols) (gap-blank symbol next) all.1,
      refl,
    )

names-something : (command : Command) → IsSpellable command → NamesSomething command
names-something (Table name schema) can = can.1
names-something (Insert table values) can = can.1
names-something (Update table settings conditions) can = can.1
names-something (Select distinct (items.Named names) table joins conditions) can = can.0.0
names-something other can = tt

-- Law: the canonical spelling of a command that can be spelled spells it.
pub canonical-spells : CanonicalSpells
canonical-spells command can =
    let all = all-each IsSpellableSymbol HasText symbol-text (symbols_of command) (command-spellable command can) in
    let made : IsMadeOf (canonical_spelling command) (symbols_of command) = spaced-made [] (symbols_of command) tt all in
    (made-no_line_feed command (canonical_spelling command) can made, names-something command can, made)
